-- `write_rows` meets its contract. The loop's invariant: storing here what the rows that are left change is storing all of it at the start. Assumes nothing.
use Rattle.vcd_rows.proofs.PutRows.{Going}
use Rattle.vcd_rows.proofs.write_rows.Given as goal

abbrev pub invariant-loop-k : goal.invariant-loop-k
invariant-loop-k l = Going l.rows l.n l.initial.w l.initial.out l.at l.out l.w l.p l.k
