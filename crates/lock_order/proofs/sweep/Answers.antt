-- `sweep` meets its contract. The loop's invariant: a run from there is not refused, and with the turns that are left state and list come
-- to what the whole part makes of them. Assumes nothing.
use Prim.Native.Nat.{ℕ, ◌+◌, ◌-◌}
use mathlib.Core.Path.{◌≡◌, refl, ap, sym, subst, ◌∙◌}
use native.Mathlib.Omega.{arith}
use lib.ListN.{take}
use lib.Seq.{sets, length-sets}
use Rattle.machine.specs.Lists.{Lent, lent, scripts_of}
use Rattle.machine.specs.Drain.{Went, until, sweep}
use Rattle.lock.specs.Drain.{stop_of}
use Rattle.lock_order.specs.Write.{went_of}
use Rattle.lock_order.specs.declared.Going.{Going}
use Rattle.lock.specs.declared.drain.Stop.{Stop}
use Rattle.lock_order.proofs.Writing.{as_many, turned, all_turned, over}
use Rattle.lock_order.proofs.sweep.Goals as goal

-- the turns from thread k on, so many
abbrev Part : Lent → ℕ → Stop → ℕ → Going → ℕ → ℕ → Went
Part s count stop fuel g k left = sweep (stop_of stop (scripts_of s)) (scripts_of s) fuel k left g.lock (take count g.recs)

-- thread k's turn
abbrev Turn : Lent → ℕ → Stop → ℕ → Going → ℕ → Went
Turn s count stop fuel g k = until (stop_of stop (scripts_of s)) (scripts_of s) k fuel g.lock (take count g.recs)

pub loop-k-init : goal.loop-k-init
loop-k-init c =
    let a = c.args in
    let all : a.count - 0 ≡ a.count = omega arith in
    (c.requires.able, rw all refl, rw all refl, refl)

pub loop-k-preserved : goal.loop-k-preserved
loop-k-preserved c =
    let a = c.args in
    let s = lent a.lists in
    let l = c.loop-k in
    let many = as_many s a.count l.g l.invariant.0 in
    let stop = stop_of a.stop (scripts_of s) in
    let on = turned s a.count l.g l.invariant.0 stop a.fuel l.k l.out (omega (arith, many, c.loop-k-test.true)) in (
      c.until-g.ensures.able_2,
      subst (λ (x : Going). went_of a.count x (Part s a.count a.stop a.fuel x (l.k + 1) (a.count - (l.k + 1))) ≡ went_of a.count l.g (Part s a.count a.stop a.fuel l.g l.k (a.count - l.k))) (sym c.until-g.ensures.result_value) on.0
          ∙ l.invariant.1,
      rw c.until-g.ensures.out_after
          (subst
          (λ (x : Going). sets (sets l.out l.g.used (Turn s a.count a.stop a.fuel l.g l.k).made) x.used (Part s a.count a.stop a.fuel x (l.k + 1) (a.count - (l.k + 1))).made
          ≡ sets l.out l.g.used (Part s a.count a.stop a.fuel l.g l.k (a.count - l.k)).made)
          (sym c.until-g.ensures.result_value) on.1
          ∙ l.invariant.2),
      rw c.until-g.ensures.out_after (length-sets l.out l.g.used (Turn s a.count a.stop a.fuel l.g l.k).made ∙ l.invariant.3),
    )

pub until-g-requires : goal.until-g-requires
until-g-requires c =
    let a = c.args in
    let s = lent a.lists in
    let l = c.loop-k in
    let many = as_many s a.count l.g l.invariant.0 in
    let on = turned s a.count l.g l.invariant.0 (stop_of a.stop (scripts_of s)) a.fuel l.k l.out (omega (arith, many, c.loop-k-test.true)) in
    record {
      able = l.invariant.0;
      i_in_bounds = c.loop-k-test.true;
      recs_in_bounds = omega (arith, on.2, ap (λ (x : Going). x.used) l.invariant.1, c.requires.recs_in_bounds, l.invariant.3);
    }

pub returns : goal.returns
returns c =
    let a = c.args in
    let s = lent a.lists in
    let l = c.loop-k in
    let many = as_many s a.count l.g l.invariant.0 in
    let rest = Part s a.count a.stop a.fuel l.g l.k (a.count - l.k) in
    let done = over a.count l.g rest l.out (all_turned s a.count l.g l.invariant.0 (stop_of a.stop (scripts_of s)) a.fuel l.k l.out (omega (arith, many, c.loop-k-test.false))) in
    record { able_2 = l.invariant.0; result_value = done.0 ∙ l.invariant.1; out_after = done.1 ∙ l.invariant.2 }
