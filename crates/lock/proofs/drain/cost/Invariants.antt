-- `cost` meets its contract. The loop's invariant: what is summed up, and the cost from here on, are the whole cost. Assumes nothing.
use Prim.Native.Nat.{◌+◌, ◌≤◌}
use mathlib.Core.Path.{◌≡◌}
use Rattle.machine.specs.Tidy.{cost}
use Rattle.lock_tidy.specs.Rests.{words_at}
use Rattle.lock.proofs.drain.cost.Given as goal

abbrev pub invariant-loop-k : goal.invariant-loop-k
invariant-loop-k l = (l.sum + cost (words_at l.ops l.start) l.len l.k ≡ cost (words_at l.ops l.start) l.len l.at) × (l.len ≤ 64)
