-- `number_at` meets its contract. The loop's invariant: the bytes so far are digits, and the value is what they say.
use Rattle.std.proofs.Common.{◌<◌}
use Rattle.scenario_read.proofs.Digits.{Counted}
use Rattle.scenario_read.proofs.peek.number_at.Given as goal

abbrev pub invariant-loop-at : goal.invariant-loop-at
invariant-loop-at l = (l.value < 65540) × Counted l.s l.from l.at l.value
