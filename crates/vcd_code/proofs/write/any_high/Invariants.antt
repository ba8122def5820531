-- `any_high` meets its contract. The loop's invariant: the rows have a flag above 1 exactly where those that are left have one. Assumes nothing.
use Rattle.std.proofs.Common.{◌≡◌}
use Rattle.vcd.specs.Trace.{signals_in}
use Rattle.vcd.specs.Write.{any_high}
use Rattle.vcd_code.proofs.TraceRows.{rows_left}
use Rattle.vcd_code.proofs.write.any_high.Given as goal

abbrev pub invariant-loop-k : goal.invariant-loop-k
invariant-loop-k l = any_high (signals_in l.trace) ≡ any_high (rows_left l.trace l.n l.k)
