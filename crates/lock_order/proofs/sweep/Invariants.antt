-- `sweep` meets its contract. The loop's invariant: a run from there is not refused, and with the turns that are left state and list come
-- to what the whole part makes of them. Assumes nothing.
use Prim.Native.Nat.{ℕ, ◌-◌}
use mathlib.Core.Path.{◌≡◌}
use lib.ListN.{length, take}
use lib.Seq.{sets}
use Rattle.machine.specs.Lists.{Lent, lent, scripts_of}
use Rattle.machine.specs.Drain.{Went, until, sweep}
use Rattle.lock.specs.Drain.{stop_of}
use Rattle.lock_order.specs.Write.{Able, went_of}
use Rattle.lock_order.specs.declared.Going.{Going}
use Rattle.lock.specs.declared.drain.Stop.{Stop}
use Rattle.lock_order.proofs.sweep.Given as goal

-- the turns from thread k on, so many
abbrev Part : Lent → ℕ → Stop → ℕ → Going → ℕ → ℕ → Went
Part s count stop fuel g k left = sweep (stop_of stop (scripts_of s)) (scripts_of s) fuel k left g.lock (take count g.recs)

-- thread k's turn
abbrev Turn : Lent → ℕ → Stop → ℕ → Going → ℕ → Went
Turn s count stop fuel g k = until (stop_of stop (scripts_of s)) (scripts_of s) k fuel g.lock (take count g.recs)

abbrev pub invariant-loop-k : goal.invariant-loop-k
invariant-loop-k l =
    let s = lent l.lists in
    Able s l.count l.g
    × (went_of l.count l.g (Part s l.count l.stop l.fuel l.g l.k (l.count - l.k)) ≡ went_of l.count l.initial.g (Part s l.count l.stop l.fuel l.initial.g 0 l.count))
    × (sets l.out l.g.used (Part s l.count l.stop l.fuel l.g l.k (l.count - l.k)).made ≡ sets l.initial.out l.initial.g.used (Part s l.count l.stop l.fuel l.initial.g 0 l.count).made)
    × (length l.out ≡ length l.initial.out)
