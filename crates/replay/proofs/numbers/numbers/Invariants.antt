-- `numbers` meets its contract. The loop's invariant: what the fields fill from the start they fill from here on. The measure is what is left
-- of the text. Assumes nothing.
use Prim.Native.Nat.{◌≤◌, ◌-◌}
use Rattle.scenario_lines.specs.Judge.{fields}
use Rattle.replay.specs.Numbers.{fill}
use lib.ListN.{length, drop}
use mathlib.Core.Path.{◌≡◌}
use Rattle.replay.proofs.numbers.numbers.Given as goal

abbrev pub invariant-loop-n : goal.invariant-loop-n
invariant-loop-n l =
    (l.at ≤ length l.text) × (l.n ≤ l.at) × (length l.words ≡ length l.initial.words) × (fill (fields l.text) l.initial.words 0 ≡ fill (fields (drop l.at l.text)) l.words l.n)

abbrev pub decreases-loop-n : goal.decreases-loop-n
decreases-loop-n l = length l.text - l.at
