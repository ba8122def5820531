-- `until` meets its contract. The loop's invariant: a run from there is not refused, and with the entries that are left state and list come
-- to what the whole turn makes of them. Assumes nothing.
use Prim.Native.Nat.{ℕ, ◌+◌, ◌-◌, ◌<◌}
use mathlib.Core.Path.{◌≡◌, ap, sym, subst, ◌∙◌}
use native.Mathlib.Omega.{arith}
use lib.ListN.{take, set, length-set}
use lib.Seq.{sets}
use Rattle.machine.specs.Lists.{Lent, lent, scripts_of}
use Rattle.machine.specs.Drain.{Went, until}
use Rattle.lock.specs.Drain.{stop_of}
use Rattle.lock_order.specs.Write.{Able, went_of}
use Rattle.lock_order.specs.declared.Going.{Going}
use Rattle.lock.specs.declared.drain.Stop.{Stop}
use Rattle.lock_order.proofs.Writing.{as_many, few, next_able, on_more, stopped, spent, over}
use Rattle.lock_order.proofs.until.Goals as goal

-- so many entries are left to make
abbrev Turn : Lent → ℕ → Stop → ℕ → Going → ℕ → Went
Turn s count stop i g left = until (stop_of stop (scripts_of s)) (scripts_of s) i left g.lock (take count g.recs)

pub offset_bounds-g-i : goal.offset_bounds-g-i
offset_bounds-g-i c =
    let able = c.loop.invariant.0 in
    let s = lent c.args.lists in
    omega (arith, c.requires.i_in_bounds, as_many s c.args.count c.loop.g able, few s c.args.count c.loop.g able)

pub bounds-g-i : goal.bounds-g-i
bounds-g-i c =
    let able = c.loop.invariant.0 in
    let s = lent c.args.lists in
    omega (arith, c.requires.i_in_bounds, as_many s c.args.count c.loop.g able, few s c.args.count c.loop.g able, able.1)

pub bounds-out-g : goal.bounds-out-g
bounds-out-g c =
    let a = c.args in
    let l = c.loop in
    let s = lent a.lists in
    let there : a.i < a.count = omega (arith, c.requires.i_in_bounds, as_many s a.count l.g l.invariant.0) in
    let some : 0 < a.fuel - l.counter = omega (arith, c.loop-test.true) in
    let more = on_more s a.count l.g l.invariant.0 a.i there (stop_of a.stop (scripts_of s)) _ l.out some (sym c.stops.ensures ∙ c.if-stops.false) in
    omega (arith, more.2, ap (λ (x : Going). x.used) l.invariant.1, c.requires.recs_in_bounds, l.invariant.3)

pub loop-preserved : goal.loop-preserved
loop-preserved c =
    let a = c.args in
    let s = lent a.lists in
    let l = c.loop in
    let there : a.i < a.count = omega (arith, c.requires.i_in_bounds, as_many s a.count l.g l.invariant.0) in
    let left = a.fuel - l.counter in
    let some : 0 < left = omega (arith, c.loop-test.true) in
    let less : a.fuel - (l.counter + 1) ≡ left - 1 = omega arith in
    let more = on_more s a.count l.g l.invariant.0 a.i there (stop_of a.stop (scripts_of s)) left l.out some (sym c.stops.ensures ∙ c.if-stops.false) in
    let now-is = sym c.stepped-g.ensures in
    rw less (
      subst (λ (x : Going). Able s a.count x) now-is (next_able s a.count l.g l.invariant.0 a.i),
      subst (λ (x : Going). went_of a.count x (Turn s a.count a.stop a.i x (left - 1)) ≡ went_of a.count l.g (Turn s a.count a.stop a.i l.g left)) now-is more.0
          ∙ l.invariant.1,
      subst
          (λ (x : Going). sets (set l.out l.g.used a.i) x.used (Turn s a.count a.stop a.i x (left - 1)).made ≡ sets l.out l.g.used (Turn s a.count a.stop a.i l.g left).made)
          now-is more.1
          ∙ l.invariant.2,
      length-set l.out l.g.used a.i ∙ l.invariant.3,
    )

pub returns-then-stops : goal.returns-then-stops
returns-then-stops c =
    let a = c.args in
    let s = lent a.lists in
    let l = c.loop in
    let there : a.i < a.count = omega (arith, c.requires.i_in_bounds, as_many s a.count l.g l.invariant.0) in
    let some : 0 < a.fuel - l.counter = omega (arith, c.loop-test.true) in
    let stay = stopped s a.count l.g l.invariant.0 a.i there (stop_of a.stop (scripts_of s)) _ some (sym c.stops.ensures ∙ c.if-stops.true) in
    let done = over a.count l.g (Turn s a.count a.stop a.i l.g (a.fuel - l.counter)) l.out stay in
    record { able_2 = l.invariant.0; result_value = done.0 ∙ l.invariant.1; out_after = done.1 ∙ l.invariant.2 }

pub returns : goal.returns
returns c =
    let a = c.args in
    let s = lent a.lists in
    let l = c.loop in
    let there : a.i < a.count = omega (arith, c.requires.i_in_bounds, as_many s a.count l.g l.invariant.0) in
    let stay = spent s a.count l.g l.invariant.0 a.i there (stop_of a.stop (scripts_of s)) _ (omega (arith, c.loop-test.false)) in
    let done = over a.count l.g (Turn s a.count a.stop a.i l.g (a.fuel - l.counter)) l.out stay in
    record { able_2 = l.invariant.0; result_value = done.0 ∙ l.invariant.1; out_after = done.1 ∙ l.invariant.2 }
