-- The law of every access, from the one for all widths. Assumes nothing.
use mathlib.Core.Bool.{Bool}
use mathlib.Core.Path.{ap}
use Rattle.atomic.specs.Access.{Reply, refused}
use Rattle.atomic.specs.Permission.{Done}
use Rattle.atomic.specs.declared.Refusal.TheVariants.{Foreign}
use Rattle.atomic.proofs.Permission as permission
use Rattle.atomic_bool.specs.Bool.{held, did, answer}
use Rattle.atomic_bool.specs.Laws.{Compares}

pub compares : Compares
compares c p access =
    let it = permission.compares Bool (Reply Bool) (refused Foreign) c (held p) access in
    (λ e. (ap (λ (d : Done Bool (Reply Bool)). d.perm.value) (it.0 e), ap (λ (d : Done Bool (Reply Bool)). answer d.answer) (it.0 e), ap (λ (d : Done Bool (Reply Bool)). d.perm.id) (it.0 e)), λ ne. ap did (it.1 ne))
