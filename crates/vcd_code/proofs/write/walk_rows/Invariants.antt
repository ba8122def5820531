-- `walk_rows` meets its contract. The loop's invariant: passing here the text of the rows that are left is passing all of it at the start. Assumes nothing.
use Rattle.vcd_code.proofs.WalkRows.{RowsGoing}
use Rattle.vcd_code.proofs.write.walk_rows.Given as goal

abbrev pub invariant-loop-k : goal.invariant-loop-k
invariant-loop-k l = RowsGoing l.trace l.n l.initial.out l.from l.storing l.initial.p l.out l.p l.at l.k
