-- `scan_digits` meets its contract. The loop's invariant: the definition of the whole is that of the rest, from here on. Assumes nothing.
use mathlib.Core.Path.{◌≡◌}
use lib.ListN.{drop}
use Rattle.scenario_lines.specs.Number.{scan}
use Rattle.scenario_lines.proofs.number.scan_digits.Given as goal

abbrev pub invariant-loop-b : goal.invariant-loop-b
invariant-loop-b l = scan 0 l.s ≡ scan l.v (drop l.b-index l.s)
