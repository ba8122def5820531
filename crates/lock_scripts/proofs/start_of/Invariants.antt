-- `start_of` meets its contract. The loop's invariant: the sum is the start of the thread that it has come to, and not above `most`. Assumes
-- nothing.
use Prim.Native.Nat.{◌≤◌}
use mathlib.Core.Path.{◌≡◌}
use Rattle.machine.specs.Lists.{start}
use Rattle.lock_scripts.proofs.start_of.Given as goal

abbrev pub invariant-loop-n : goal.invariant-loop-n
invariant-loop-n l = (l.sum ≡ start l.lens l.n-index) × (l.sum ≤ l.most)
