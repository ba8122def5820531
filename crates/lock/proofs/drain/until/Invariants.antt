-- `until` meets its contract. The loop's invariant: what is under way stays ready, and with the entries that are left it comes to what
-- the whole comes to. Assumes nothing.
use Prim.Native.Nat.{ℕ, ◌+◌, ◌-◌}
use mathlib.Core.Path.{◌≡◌}
use lib.ListN.{length, take}
use Rattle.machine.specs.Lists.{Lent, lent, scripts_of}
use Rattle.machine.specs.Drain.{until}
use Rattle.lock.specs.Drain.{stop_of, UnderWay, going_of}
use Rattle.lock.specs.declared.drain.Going.{Going}
use Rattle.lock.specs.declared.drain.Stop.{Stop}
use Rattle.lock.proofs.drain.until.Given as goal

-- so many entries are left to make
abbrev Whole : Lent → Stop → ℕ → Going → ℕ → Going
Whole s stop i g left = going_of s g (until (stop_of stop (scripts_of s)) (scripts_of s) i left g.lock (take (length s.lens) g.recs))

abbrev pub invariant-loop : goal.invariant-loop
invariant-loop l =
    let s = lent l.lists in
    UnderWay s l.g × (Whole s l.stop l.i l.g (l.fuel - l.counter) ≡ Whole s l.stop l.i l.initial.g l.fuel) × (l.g.used ≡ l.initial.g.used + l.counter)
