-- What the lent functions reach is reached as `lock_promises` has it.
use Prim.Native.Nat.{ℕ, ◌*◌, ◌<◌, ◌≤◌}
use mathlib.Core.Path.{◌≡◌, refl, sym, ◌∙◌}
use mathlib.Core.List.{List, [], ◌∷◌}
use native.Mathlib.Omega.{arith}
use lib.ListN.{length, drop, drop_of_length-le}
use Rattle.cell.specs.declared.pred.Pred.{Pred}
use Rattle.machine.specs.Names.{row_words}
use Rattle.machine.specs.Lists.{Lent}
use Rattle.machine.specs.Run.{run_refusal, run_lent}
use Rattle.machine.specs.Drain.{drain_lent}
use Rattle.machine.specs.declared.Lock.{Lock}
use Rattle.machine.specs.declared.Rec.{Rec}
use Rattle.machine.specs.declared.Row.{Row}
use Rattle.machine.proofs.RunRule.{run_rule}
use Rattle.lock_lent.specs.Run.{rest_lent, step_lent}
use Rattle.lock_promises.specs.Reached.{Reached}
use Rattle.lock_promises.proofs.Rows.{later_rows}
use Rattle.lock_promises.proofs.Refusing.{none_number}
use Rattle.lock_promises.proofs.Reached.{runs_on, comes}
use Rattle.lock_lent_promises.specs.Reached.{ReachedLent}
use Rattle.lock_lent_promises.specs.Promises.{LentIsReached}

-- a later piece past the end of the trace list runs no entry
pub none_past : (s : Lent) (L : Lock) (l : List Rec) (schedule : List ℕ) (budget used : ℕ) (trace : List ℕ) → run_refusal s L l ≡ 0
    → length trace < row_words * used → (rest_lent s L l schedule budget used trace).n ≡ 0
none_past s L l schedule budget used trace none past =
    let over : length trace ≤ row_words * used = omega (arith, past) in
    rw ((run_rule s L l schedule budget (drop (row_words * used) trace) none).3, drop_of_length-le trace over) (omega arith)

reach : {s : Lent} {q : Pred} {m v : ℕ} {L : Lock} {l : List Rec} {rows : List Row} → ReachedLent s q m v L l rows → Reached s q m v L l rows
reach (ReachedLent.begun l start l' L (is, list) made) = rw list (Reached.begun l L (sym is ∙ made))
reach {s} (ReachedLent.ran {L} {l} before schedule budget trace r l' trace' given) =
    let (is, list, trace_is) = given in
    rw (is, list, trace_is) (Reached.ran (reach before) schedule budget trace (run_lent s L l schedule budget trace) refl)
reach {s} {q} {m} {v} (ReachedLent.ran_on {L} {l} before schedule budget used trace r l' trace' given) =
    let (is, list, trace_is) = given in
    let left = rest_lent s L l schedule budget used trace in
    let none = none_past s L l schedule budget used trace (runs_on s q m v (comes (reach before))) in
    rw (is, list, trace_is, later_rows left.n (row_words * used) trace left.trace none)
    (Reached.ran (reach before) schedule budget (drop (row_words * used) trace) left refl)
reach {s} (ReachedLent.stepped {L} {l} before i trace r l' trace' given) =
    let (is, list, trace_is) = given in
    rw (is, list, trace_is) (Reached.ran (reach before) (i ∷ []) 1 trace (step_lent s L l i trace) refl)
reach {s} (ReachedLent.drained {L} {l} before d l' es (is, list) none order) =
    rw (is, list) (Reached.drained (reach before) (drain_lent s L l) es refl (none_number _ (rw is at none)) (rw (is, list) at order))

pub lent_is_reached : LentIsReached
lent_is_reached s q m v L l rows reached = reach reached
