-- `digits_ahead` meets its contract. The loop's invariant: the definition of the whole is that of the rest, from here on. Assumes nothing.
use Rattle.std.proofs.Common.{◌≡◌, drop}
use Rattle.vcd.specs.Read.{digits_ahead}
use Rattle.vcd_code.proofs.ahead.digits_ahead.Given as goal

abbrev pub invariant-loop-b : goal.invariant-loop-b
invariant-loop-b l = digits_ahead 0 l.s ≡ digits_ahead l.v (drop l.b-index l.s)
