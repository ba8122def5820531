-- `take_line` meets its contract. The loop's invariant: what is taken from the start is taken from here on. Assumes nothing.
use Prim.Native.Nat.{◌≤◌}
use mathlib.Core.Bool.{false}
use mathlib.Core.Path.{◌≡◌}
use lib.ListN.{length, drop}
use Rattle.std.specs.Prelude.{max}
use Rattle.scenario_lines.specs.Held.{took, taken_from}
use Rattle.scenario_lines.proofs.Takes.{Takes}
use Rattle.scenario_lines.proofs.bytes.take_line.Given as goal

abbrev pub invariant-loop-i : goal.invariant-loop-i
invariant-loop-i l =
    let w = took (drop l.from l.chunk) l.initial.line l.initial.g in
    (l.g.done ≡ false) × (l.i ≤ max l.from (length l.chunk)) × Takes (taken_from l.from w) w.line l.i (took (drop l.i l.chunk) l.line l.g)
