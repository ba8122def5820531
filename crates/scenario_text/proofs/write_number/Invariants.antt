-- `write_number` meets its contract. The loop's invariant: storing the digits of w here is storing those of v at the start, and p is the place
-- after them. The measure is w. Assumes nothing.
use Prim.Native.Nat.{◌+◌, ◌^◌, ◌<◌}
use mathlib.Core.Path.{◌≡◌}
use lib.ListN.{length}
use lib.Seq.{sets}
use Rattle.scenario_text.specs.Number.{text}
use Rattle.scenario_text.proofs.write_number.Given as goal

abbrev pub invariant-loop-w : goal.invariant-loop-w
invariant-loop-w l =
    (l.w < 2 ^ 64) × (l.p ≡ l.at + length (text l.w)) × (length l.out ≡ length l.initial.out) × (sets l.initial.out l.at (text l.v) ≡ sets l.out l.at (text l.w))

abbrev pub decreases-loop-w : goal.decreases-loop-w
decreases-loop-w l = l.w
