-- `take_some` meets its contract. The loop's invariant: what is taken from the start is taken from here on. Assumes nothing.
use Prim.Native.Nat.{◌≤◌, max}
use Rattle.replay.proofs.Takes.{Takes}
use Rattle.replay.specs.Reading.{took, taken_from}
use lib.ListN.{length, drop}
use mathlib.Core.Path.{◌≡◌}
use Rattle.replay.proofs.reading.take_some.Given as goal

abbrev pub invariant-loop-i : goal.invariant-loop-i
invariant-loop-i l =
    let w = took (drop l.from l.chunk) l.initial.line l.held in
    (length l.line ≡ length l.initial.line) × (l.i ≤ max (length l.chunk) l.from) × Takes (taken_from l.from w) w.line l.i (took (drop l.i l.chunk) l.line l.n)
