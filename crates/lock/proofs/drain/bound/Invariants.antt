-- `bound` meets its contract. The loop's invariant: what is summed up, and the sum over the records that are left, are the whole sum.
-- Assumes nothing.
use Prim.Native.Nat.{ℕ, ◌+◌, ◌*◌, ◌≤◌}
use mathlib.Core.Path.{◌≡◌}
use mathlib.Core.List.{List}
use lib.ListN.{length, take, get_or}
use Rattle.machine.specs.Lists.{start}
use Rattle.machine.specs.Tidy.{cost}
use Rattle.machine.specs.declared.Rec.{Rec}
use Rattle.lock_tidy.specs.Rests.{words_at}
use Rattle.lock_words.proofs.Loops.{Gathered}
use Rattle.lock.proofs.drain.bound.Given as goal

-- what thread j adds
abbrev adds : List ℕ → List ℕ → ℕ → Rec → ℕ
adds lens ops j r = cost (words_at ops (start lens j)) (get_or lens j 0) r.at + 3

abbrev pub invariant-loop-k : goal.invariant-loop-k
invariant-loop-k l =
    (l.k ≤ length l.lists.lens.now) × (length l.lists.lens.now ≤ 16) × (length (take (length l.lists.lens.now) l.recs) ≡ length l.lists.lens.now) × (l.sum ≤ 195 * l.k) × Gathered (adds l.lists.lens.now l.lists.ops.now) (length l.lists.lens.now) l.recs l.k l.sum
