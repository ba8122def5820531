-- `until` meets its contract. The loop's invariant: what is under way stays ready, and with the entries that are left it comes to what
-- the whole comes to. Assumes nothing.
use Prim.Native.Nat.{ℕ, ◌+◌, ◌-◌, ◌<◌}
use mathlib.Core.Path.{◌≡◌, sym, subst, ◌∙◌}
use native.Mathlib.Omega.{arith}
use lib.ListN.{length, take}
use Rattle.machine.specs.Lists.{Lent, lent, scripts_of}
use Rattle.machine.specs.Drain.{until}
use Rattle.lock.specs.Drain.{stop_of, UnderWay, going_of}
use Rattle.lock.specs.declared.drain.Going.{Going}
use Rattle.lock.specs.declared.drain.Stop.{Stop}
use Rattle.lock.proofs.Refusing.{inside}
use Rattle.lock.proofs.Sweeps.{busy_most, own_busy, has_room, read_is, next_is, further, stopped, spent}
use Rattle.lock.proofs.drain.until.Goals as goal

-- so many entries are left to make
abbrev Whole : Lent → Stop → ℕ → Going → ℕ → Going
Whole s stop i g left = going_of s g (until (stop_of stop (scripts_of s)) (scripts_of s) i left g.lock (take (length s.lens) g.recs))

pub enter_at-e-requires : goal.enter_at-e-requires
enter_at-e-requires c =
    let s = lent c.args.lists in
    let g = c.loop.g in
    let ready = c.loop.invariant.0 in
    let there = c.requires.i_in_bounds in
    record {
      i_in_bounds = there;
      room = has_room s g ready c.args.i there;
      rec_bound = own_busy s g ready c.args.i there;
      busy_bound = busy_most s g ready;
      len_in_bounds = inside s g.lock g.recs c.args.i _ ready.state there c.start_of-start.ensures;
      vals_len = ready.state.values;
    }

pub loop-preserved : goal.loop-preserved
loop-preserved c =
    let a = c.args in
    let s = lent a.lists in
    let l = c.loop in
    let ready = l.invariant.0 in
    let there = c.requires.i_in_bounds in
    let left = a.fuel - l.counter in
    let some : 0 < left = omega (arith, c.loop-test.true) in
    let less : a.fuel - (l.counter + 1) ≡ left - 1 = omega arith in
    let is = c.enter_at-e.ensures ∙ read_is s l.g ready a.i there _ c.start_of-start.ensures in
    let now-is = next_is s l.g ready a.i there c.enter_at-e.result is in
    let more = further s l.g ready a.i there (stop_of a.stop (scripts_of s)) left some (sym c.stops.ensures ∙ c.if-stops.false) in (
      subst (λ (x : Going). UnderWay s x) (sym now-is) more.0,
      rw less (subst (λ (x : Going). Whole s a.stop a.i x (left - 1) ≡ Whole s a.stop a.i l.g left) (sym now-is) more.1 ∙ l.invariant.1),
      omega (arith, l.invariant.2),
    )

pub returns-then-stops-clause-result_value : goal.returns-then-stops-clause-result_value
returns-then-stops-clause-result_value c =
    let a = c.args in
    let s = lent a.lists in
    let l = c.loop in
    let some : 0 < a.fuel - l.counter = omega (arith, c.loop-test.true) in
    sym (stopped s l.g l.invariant.0 a.i c.requires.i_in_bounds (stop_of a.stop (scripts_of s)) _ some (sym c.stops.ensures ∙ c.if-stops.true)) ∙ l.invariant.1

pub returns-clause-result_value : goal.returns-clause-result_value
returns-clause-result_value c =
    let a = c.args in
    let s = lent a.lists in
    let l = c.loop in
    sym (spent s l.g l.invariant.0 a.i c.requires.i_in_bounds (stop_of a.stop (scripts_of s)) _ (omega (arith, c.loop-test.false))) ∙ l.invariant.1
