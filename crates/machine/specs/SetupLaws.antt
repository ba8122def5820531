-- The state after setup, field by field: the lock, and every record.
use Rattle.std.specs.Prelude.{ℕ, ◌<◌, ◌≡◌, false, length, get_or}
use Rattle.cell.specs.declared.pred.Pred.{Pred}
use Rattle.std.specs.Prelude.{None, Some}
use Rattle.machine.specs.Words.{unused}
use Rattle.machine.specs.Setup.{fresh}
use Rattle.machine.specs.declared.Lock.{Lock}
use Rattle.machine.specs.declared.Rec.{Rec}
use Rattle.machine.specs.declared.Place.TheVariants.{Idle}

-- a lock that nobody has used, with the predicate q, the top m and the first value v
pub record Unused (q : Pred) (m v : ℕ) (L : Lock) : Type 0 where
  pub exc : L.exc ≡ false
  pub rc : L.rc.0 ≡ 0
  pub cell : L.cell ≡ Some v
  pub pred : L.pred ≡ q
  pub top : L.top.0 ≡ m
  pub reads : L.reads.0 ≡ 0
  pub writes : L.writes.0 ≡ 0
  pub mover : L.mover ≡ None
  pub finished : L.finished ≡ false

-- a record that has done nothing
pub record Fresh (r : Rec) : Type 0 where
  pub at : r.at ≡ 0
  pub place : r.place ≡ Idle
  pub seen : r.seen.0 ≡ 0
  pub taken : r.taken ≡ 0

abbrev pub SetupState : Type 0
SetupState =
    ((q : Pred) (m v : ℕ) → Unused q m v (unused q m v))
    × ((n : ℕ) → length (fresh n) ≡ n)
    × ((n i : ℕ) (none : Rec) → i < n → Fresh (get_or (fresh n) i none))
