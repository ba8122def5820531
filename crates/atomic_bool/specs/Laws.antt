-- What every contract of this crate says, for any access: the identity is compared first, and the permission keeps it.
use Rattle.std.specs.Prelude.{Bool, ◌≡◌}
use Rattle.atomic.specs.Access.{Access}
use Rattle.atomic.specs.declared.CellId.{CellId}
use Rattle.atomic.specs.declared.Refusal.TheVariants.{Foreign}
use Rattle.atomic_access.specs.declared.Perm.{Perm}
use Rattle.atomic_access.specs.declared.Answer.TheVariants.{Refused}
use Rattle.atomic_bool.specs.Bool.{answer, on_bool}

abbrev pub Compares : Type 0
Compares =
    (c : CellId) (p : Perm Bool) (access : Bool → Access Bool)
    → (c.0 ≡ p.id.0 → ((on_bool c p access).perm.value ≡ (access p.value).leaves) × ((on_bool c p access).answer ≡ answer (access p.value).answers) × ((on_bool c p access).perm.id ≡ p.id))
    × ((c.0 ≡ p.id.0 → ⊥) → on_bool c p access ≡ record { perm = p; answer = Refused Foreign })
