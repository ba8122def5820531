-- `sweep` meets its contract. The loop's invariant: what is under way stays ready, and with the turns that are left it comes to what the
-- whole part comes to. Assumes nothing.
use Prim.Native.Nat.{ℕ, ◌+◌, ◌-◌, ◌*◌, ◌≤◌}
use mathlib.Core.Path.{◌≡◌}
use lib.ListN.{length, take}
use Rattle.machine.specs.Lists.{Lent, lent, scripts_of}
use Rattle.machine.specs.Drain.{sweep}
use Rattle.lock.specs.Drain.{stop_of, UnderWay, going_of}
use Rattle.lock.specs.declared.drain.Going.{Going}
use Rattle.lock.specs.declared.drain.Stop.{Stop}
use Rattle.lock.proofs.drain.sweep.Given as goal

-- the turns from thread k on, so many
abbrev Whole : Lent → Stop → ℕ → Going → ℕ → ℕ → Going
Whole s stop fuel g k left = going_of s g (sweep (stop_of stop (scripts_of s)) (scripts_of s) fuel k left g.lock (take (length s.lens) g.recs))

abbrev pub invariant-loop-k : goal.invariant-loop-k
invariant-loop-k l =
    let s = lent l.lists in
    let n = length s.lens in
    UnderWay s l.g × (Whole s l.stop l.fuel l.g l.k (n - l.k) ≡ Whole s l.stop l.fuel l.initial.g 0 (n - 0)) × (l.g.used ≤ l.initial.g.used + 4096 * l.k)
