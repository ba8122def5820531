-- With the records taken out of a list of any length, and its length as the count, the functions of `lock` answer as machine's do, and
-- what they leave, put back, is what machine's leave. A list longer than 16 is refused: 6 where 6 applies, else 10.
use Rattle.std.specs.Prelude.{ℕ, ◌≡◌, List, length}
use Rattle.cell.specs.declared.pred.Pred.{Pred}
use Rattle.machine.specs.Lists.{Lent}
use Rattle.machine.specs.Setup.{setup_recs}
use Rattle.machine.specs.Run.{run_lent}
use Rattle.machine.specs.Drain.{drain_lent}
use Rattle.machine.specs.declared.Lock.{Lock}
use Rattle.machine.specs.declared.Rec.{Rec}
use Rattle.lock.specs.ByValue.{put_back, setup_of, run_of, drain_of}
use Rattle.lock_lent.specs.Run.{ran_of}
use Rattle.lock_lent.specs.Drain.{drained_of}
use Rattle.lock_lent.specs.Taken.{taken, back}

abbrev pub SetupAnyLength : Type 0
SetupAnyLength = (q : Pred) (m v : ℕ) (s : Lent) (l : List Rec) → back l (setup_of q m v s (length l) (taken l)) ≡ setup_recs q m v s l

abbrev pub RunAnyLength : Type 0
RunAnyLength =
    (s : Lent) (L : Lock) (l : List Rec) (schedule : List ℕ) (budget : ℕ) (trace : List ℕ)
    → let left = run_of s (length l) L (taken l) schedule budget trace in
    let made = run_lent s L l schedule budget trace in
    (ran_of left ≡ ran_of made) × (back l (put_back (length l) (taken l) left.recs) ≡ made.recs) × (left.trace ≡ made.trace)

abbrev pub DrainAnyLength : Type 0
DrainAnyLength =
    (s : Lent) (L : Lock) (l : List Rec)
    → let left = drain_of s (length l) L (taken l) in
    let made = drain_lent s L l in
    (drained_of left ≡ drained_of made) × (back l (put_back (length l) (taken l) left.recs) ≡ made.recs)
