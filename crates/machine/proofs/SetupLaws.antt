-- The state after setup, field by field.
use Prim.Native.Nat.{ℕ}
use mathlib.Core.Path.{refl}
use lib.ListN.{length-replicate, get_or-replicate}
use Rattle.cell.specs.declared.pred.Pred.{Pred}
use Rattle.machine.specs.Words.{unbegun, unused}
use Rattle.machine.specs.SetupLaws.{Unused, Fresh, SetupState}

is_unused : (q : Pred) (m v : ℕ) → Unused q m v (unused q m v)
is_unused q m v =
    record { exc = refl; rc = refl; cell = refl; pred = refl; top = refl; reads = refl; writes = refl; mover = refl; finished = refl }

is_fresh : Fresh unbegun
is_fresh = record { at = refl; place = refl; seen = refl; taken = refl }

pub setup_state : SetupState
setup_state = (is_unused, λ n. length-replicate n unbegun, λ n i none h. rw (get_or-replicate n i unbegun none h) is_fresh)
