-- `bits_ahead` meets its contract. The loop's invariant: the definition of the whole is that of the rest, from here on. Assumes nothing.
use Rattle.std.proofs.Common.{◌≡◌, drop}
use Rattle.vcd.specs.Read.{bits_ahead}
use Rattle.vcd_code.proofs.ahead.bits_ahead.Given as goal

abbrev pub invariant-loop-b : goal.invariant-loop-b
invariant-loop-b l = bits_ahead 0 l.s ≡ bits_ahead l.v (drop l.b-index l.s)
