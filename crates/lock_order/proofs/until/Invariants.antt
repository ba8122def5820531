-- `until` meets its contract. The loop's invariant: a run from there is not refused, and with the entries that are left state and list come
-- to what the whole turn makes of them. Assumes nothing.
use Prim.Native.Nat.{ℕ, ◌-◌}
use mathlib.Core.Path.{◌≡◌}
use lib.ListN.{length, take}
use lib.Seq.{sets}
use Rattle.machine.specs.Lists.{Lent, lent, scripts_of}
use Rattle.machine.specs.Drain.{Went, until}
use Rattle.lock.specs.Drain.{stop_of}
use Rattle.lock_order.specs.Write.{Able, went_of}
use Rattle.lock_order.specs.declared.Going.{Going}
use Rattle.lock.specs.declared.drain.Stop.{Stop}
use Rattle.lock_order.proofs.until.Given as goal

-- so many entries are left to make
abbrev Turn : Lent → ℕ → Stop → ℕ → Going → ℕ → Went
Turn s count stop i g left = until (stop_of stop (scripts_of s)) (scripts_of s) i left g.lock (take count g.recs)

abbrev pub invariant-loop : goal.invariant-loop
invariant-loop l =
    let s = lent l.lists in
    Able s l.count l.g
    × (went_of l.count l.g (Turn s l.count l.stop l.i l.g (l.fuel - l.counter)) ≡ went_of l.count l.initial.g (Turn s l.count l.stop l.i l.initial.g l.fuel))
    × (sets l.out l.g.used (Turn s l.count l.stop l.i l.g (l.fuel - l.counter)).made ≡ sets l.initial.out l.initial.g.used (Turn s l.count l.stop l.i l.initial.g l.fuel).made)
    × (length l.out ≡ length l.initial.out)
