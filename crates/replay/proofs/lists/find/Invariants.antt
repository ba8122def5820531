-- `find` meets its contract. The loop's invariant: the place from the start is the place from here on. Assumes nothing.
use Prim.Native.Nat.{◌+◌, ◌≤◌, max}
use Rattle.replay.specs.Lists.{place_of, place_from}
use lib.ListN.{length, drop}
use mathlib.Core.Path.{◌≡◌}
use Rattle.replay.proofs.lists.find.Given as goal

abbrev pub invariant-loop-i : goal.invariant-loop-i
invariant-loop-i l = (l.i ≤ max (length l.list) l.from) × place_from l.b l.from l.list ≡ l.i + place_of l.b (drop l.i l.list)
