-- `write_rows` meets its contract. The loop's invariant: storing here the rows that are left is storing all of them at the start. Assumes nothing.
use Rattle.scenario_prints.proofs.PutRows.{Going}
use Rattle.scenario_prints.proofs.write_rows.Given as goal

abbrev pub invariant-loop-k : goal.invariant-loop-k
invariant-loop-k l = Going l.trace l.n l.first l.initial.out l.at l.out l.row l.p l.k
