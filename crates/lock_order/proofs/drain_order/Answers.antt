-- `drain_order` meets its contract: drain's refusal, else 41 where its entries have no room, else the entries with their bound. Assumes nothing.
use mathlib.Core.Path.{◌≡◌, ap, ◌∙◌}
use native.Mathlib.Omega.{arith}
use lib.ListN.{length, take}
use Rattle.machine.specs.Lists.{lent}
use Rattle.lock.specs.declared.drain.DrainReturn.{DrainReturn}
use Rattle.lock.proofs.Draining.{none_of_run}
use Rattle.lock_order.proofs.Ordering.{within_is, none_is, n_is, left_alone, too_small, written}
use Rattle.lock_order.proofs.drain_order.Goals as goal

pub returns-in-Some : goal.returns-in-Some
returns-in-Some c =
    let a = c.args in
    let is = ap (λ (x : DrainReturn). x.drained) c.drain.ensures in
    let (answer, list) = left_alone (lent a.lists) a.count a.lock a.recs a.out.now c.drain.result.drained is _ c.in-Some.is in
    record { value = c.refused.ensures ∙ answer; out_after = list }

pub returns-then-out-end : goal.returns-then-out-end
returns-then-out-end c =
    let a = c.args in
    let is = ap (λ (x : DrainReturn). x.drained) c.drain.ensures in
    let (answer, list) = too_small (lent a.lists) a.count a.lock a.recs a.out.now c.drain.result.drained is c.in_default.is c.if-out-end.true in
    record { value = c.refused-then-out-end.ensures ∙ answer; out_after = list }

pub write-requires : goal.write-requires
write-requires c =
    let a = c.args in
    let s = lent a.lists in
    let d = c.drain.result.drained in
    let is = ap (λ (x : DrainReturn). x.drained) c.drain.ensures in
    let wide : length a.recs ≡ 16 = omega (arith, c.well_formed) in
    let none = none_is s a.count a.lock a.recs a.out.now d is c.in_default.is in
    let n = n_is s a.count a.lock a.recs a.out.now d is c.in_default.is in
    record {
      recs_value = none_of_run s a.count a.lock (take a.count a.recs) none;
      recs_in_bounds = rw (within_is s a.count a.lock a.recs wide none d.n n) (omega (arith, n, c.if-out-end.false));
    }

pub returns : goal.returns
returns c =
    let a = c.args in
    let is = ap (λ (x : DrainReturn). x.drained) c.drain.ensures in
    let wide : length a.recs ≡ 16 = omega (arith, c.well_formed) in
    let (answer, list) =
    written (lent a.lists) a.count a.lock a.recs a.out.now c.drain.result.drained is wide c.in_default.is c.if-out-end.false _ c.write.ensures c.bound_of.result c.bound_of.ensures
    in
    record { value = answer; out_after = list }
