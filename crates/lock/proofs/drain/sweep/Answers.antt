-- `sweep` meets its contract. The loop's invariant: what is under way stays ready, and with the turns that are left it comes to what the
-- whole part comes to. Assumes nothing.
use Prim.Native.Nat.{ℕ, ◌+◌, ◌-◌}
use mathlib.Core.Path.{◌≡◌, ap, sym, subst, ◌∙◌}
use native.Mathlib.Omega.{arith}
use lib.ListN.{length, take}
use Rattle.machine.specs.Lists.{Lent, lent, scripts_of}
use Rattle.machine.specs.Drain.{sweep}
use Rattle.lock.specs.Drain.{stop_of, going_of}
use Rattle.lock.specs.declared.drain.Going.{Going}
use Rattle.lock.specs.declared.drain.Stop.{Stop}
use Rattle.lock.proofs.Sweeps.{turned, all_turned}
use Rattle.lock.proofs.drain.sweep.Goals as goal

-- the turns from thread k on, so many
abbrev Whole : Lent → Stop → ℕ → Going → ℕ → ℕ → Going
Whole s stop fuel g k left = going_of s g (sweep (stop_of stop (scripts_of s)) (scripts_of s) fuel k left g.lock (take (length s.lens) g.recs))

pub returns-clause-result_value : goal.returns-clause-result_value
returns-clause-result_value c =
    let a = c.args in
    let s = lent a.lists in
    let l = c.loop-k in
    let end = all_turned s l.g l.invariant.0 (stop_of a.stop (scripts_of s)) a.fuel l.k c.loop-k-test.false in
    let all : length a.lists.lens.now - 0 ≡ length a.lists.lens.now = omega arith in
    sym end ∙ l.invariant.1 ∙ ap (λ (m : ℕ). Whole s a.stop a.fuel a.from 0 m) all

pub loop-k-preserved : goal.loop-k-preserved
loop-k-preserved c =
    let a = c.args in
    let s = lent a.lists in
    let n = length a.lists.lens.now in
    let l = c.loop-k in
    let on = turned s l.g l.invariant.0 (stop_of a.stop (scripts_of s)) a.fuel l.k c.loop-k-test.true in (
      c.until-g.ensures.under_way_2,
      subst (λ (x : Going). Whole s a.stop a.fuel x (l.k + 1) (n - (l.k + 1)) ≡ Whole s a.stop a.fuel l.g l.k (n - l.k)) (sym c.until-g.ensures.result_value) on ∙ l.invariant.1,
      omega (arith, c.until-g.ensures.used_bound, l.invariant.2, c.requires.fuel_bound),
    )
