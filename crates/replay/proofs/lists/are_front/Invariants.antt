-- `are_front` meets its contract. The loop's invariant: the definition of the whole is that of the rest, from here on. Assumes
-- nothing.
use Prim.Native.Nat.{◌≤◌}
use Rattle.replay.specs.Lists.{front_then}
use lib.ListN.{length, drop}
use mathlib.Core.Path.{◌≡◌}
use Rattle.replay.proofs.lists.are_front.Given as goal

abbrev pub invariant-loop-i : goal.invariant-loop-i
invariant-loop-i l = (l.i ≤ length l.list) × (length l.front ≤ length l.list) × (front_then l.other l.list l.front ≡ front_then l.other (drop l.i l.list) (drop l.i l.front))
