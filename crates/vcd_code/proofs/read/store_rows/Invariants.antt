-- `store_rows` meets its contract. The loop's invariant: storing here what is ahead is storing all at the start. Assumes nothing.
use Rattle.std.proofs.Common.{length}
use Rattle.vcd_code.proofs.Passes.{Storing}
use Rattle.vcd_code.proofs.read.store_rows.Given as goal

abbrev pub invariant-loop-left : goal.invariant-loop-left
invariant-loop-left l = Storing l.initial.s l.initial.left l.initial.out l.out l.p l.t l.s l.left

abbrev pub decreases-loop-left : goal.decreases-loop-left
decreases-loop-left l = length l.left
