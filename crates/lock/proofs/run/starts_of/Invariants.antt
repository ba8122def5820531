-- `starts_of` meets its contract. The loop's invariant: the sum is the start of thread t, cut, and the starts before it are written.
use Prim.Native.Nat.{ℕ, ◌<◌, min}
use mathlib.Core.Path.{◌≡◌}
use lib.ListN.{length, get_or}
use Rattle.machine.specs.Lists.{start}
use Rattle.lock.proofs.run.starts_of.Given as goal

abbrev pub invariant-loop-t : goal.invariant-loop-t
invariant-loop-t l =
    (length l.starts ≡ 16) × (l.sum ≡ min (start l.lens l.t) l.most) × ((i : ℕ) → i < l.t → get_or l.starts i 0 ≡ min (start l.lens i) l.most)
