-- What every contract of this crate says, for any access: the identity is compared first, and the permission keeps it.
use Rattle.std.specs.Prelude.{◌≡◌, ℕ, ◌≢◌}
use Rattle.atomic.specs.Access.{Access}
use Rattle.atomic.specs.declared.CellId.{CellId}
use Rattle.atomic.specs.declared.Refusal.TheVariants.{Foreign}
use Rattle.atomic.specs.declared.Count.{Count}
use Rattle.atomic_access.specs.declared.Perm.{Perm}
use Rattle.atomic_access.specs.declared.Answer.TheVariants.{Refused}
use Rattle.atomic_u64.specs.U64.{answer, on_u64}

abbrev pub Compares : Type 0
Compares =
    (c : CellId) (p : Perm Count) (access : ℕ → Access ℕ)
    → (c.0 ≡ p.id.0 → ((on_u64 c p access).perm.value.0 ≡ (access p.value.0).leaves) × ((on_u64 c p access).answer ≡ answer (access p.value.0).answers) × ((on_u64 c p access).perm.id ≡ p.id))
    × ((c.0 ≢ p.id.0) → on_u64 c p access ≡ record { perm = p; answer = Refused Foreign })
