-- `digits_of` meets its contract. The loop's invariant: the digits counted and those of what is left are the digits of v, and one more. The
-- measure is what is left. Assumes nothing.
use Prim.Native.Nat.{◌+◌, ◌^◌, ◌<◌}
use mathlib.Core.Path.{◌≡◌}
use lib.ListN.{length}
use Rattle.scenario_text.specs.Number.{text}
use Rattle.scenario_text.proofs.digits_of.Given as goal

abbrev pub invariant-loop-w : goal.invariant-loop-w
invariant-loop-w l = (l.w < 2 ^ 64) × (l.n + length (text l.w) ≡ length (text l.v) + 1)

abbrev pub decreases-loop-w : goal.decreases-loop-w
decreases-loop-w l = l.w
