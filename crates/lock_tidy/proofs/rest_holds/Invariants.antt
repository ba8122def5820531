-- `rest_holds` meets its contract. The loop's invariant: the test from here on, with what is held here, is the whole test. Assumes nothing.
use Prim.Native.Nat.{◌≤◌, ◌-◌}
use mathlib.Core.Path.{◌≡◌}
use Rattle.machine.specs.Tidy.{tidy_rest}
use Rattle.lock_tidy.specs.Rests.{mode, words_at}
use Rattle.lock_tidy.proofs.rest_holds.Given as goal

abbrev pub invariant-loop-at : goal.invariant-loop-at
invariant-loop-at l =
    (l.at ≤ l.len)
    × (tidy_rest l.pred (words_at l.ops l.op0) (words_at l.vals l.val0) (mode l.held) l.at (l.len - l.at) ≡ tidy_rest l.pred (words_at l.ops l.op0) (words_at l.vals l.val0) (mode l.initial.held) l.from (l.len - l.from))
