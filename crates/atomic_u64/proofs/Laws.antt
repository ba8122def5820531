-- The law of every access, from the one for all widths. Assumes nothing.
use Rattle.std.proofs.Common.{ℕ, ap}
use Rattle.atomic.specs.Access.{Reply, refused}
use Rattle.atomic.specs.Permission.{Done}
use Rattle.atomic.specs.declared.Refusal.TheVariants.{Foreign}
use Rattle.atomic.proofs.Permission as permission
use Rattle.atomic_u64.specs.U64.{held, did, answer}
use Rattle.atomic_u64.specs.Laws.{Compares}

pub compares : Compares
compares c p access =
    let it = permission.compares ℕ (Reply ℕ) (refused Foreign) c (held p) access in
    (λ e. (ap (λ (d : Done ℕ (Reply ℕ)). d.perm.value) (it.0 e), ap (λ (d : Done ℕ (Reply ℕ)). answer d.answer) (it.0 e), ap (λ (d : Done ℕ (Reply ℕ)). d.perm.id) (it.0 e)), λ ne. ap did (it.1 ne))
