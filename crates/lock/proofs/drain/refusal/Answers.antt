-- `refusal` meets its contract: run's refusal comes first, then the test of tidiness. Assumes nothing.
use mathlib.Core.Path.{sym, ◌∙◌}
use native.Mathlib.Omega.{arith}
use lib.ListN.{take}
use lib.Seq.{length-take-le}
use Rattle.std.proofs.lemmas.Result.{err_from_is_err_and}
use Rattle.machine.specs.Lists.{lent}
use Rattle.lock.proofs.Draining.{run_refuses, few_records, none_refuse, untidy_refused}
use Rattle.lock.proofs.drain.refusal.Goals as goal

pub returns-in_err-refused : goal.returns-in_err-refused
returns-in_err-refused c =
    let a = c.args in
    let p = err_from_is_err_and c.from_residual.result c.from_residual.ensures.1 in
    rw (p.1, p.2) (run_refuses (lent a.lists) a.count a.lock (take a.count a.recs) _ c.in_err-refused.ensures)

pub returns-then-is_tidy : goal.returns-then-is_tidy
returns-then-is_tidy c =
    let a = c.args in
    none_refuse (lent a.lists) a.count a.lock (take a.count a.recs) c.in_ok-refused.ensures (sym c.is_tidy.ensures ∙ c.if-is_tidy.true)

pub returns-else-is_tidy : goal.returns-else-is_tidy
returns-else-is_tidy c =
    let a = c.args in
    rw c.from.ensures (untidy_refused (lent a.lists) a.count a.lock (take a.count a.recs) c.in_ok-refused.ensures (sym c.is_tidy.ensures ∙ c.if-is_tidy.false))

pub slice_bounds-recs-end : goal.slice_bounds-recs-end
slice_bounds-recs-end c =
    let a = c.args in
    let few = few_records (lent a.lists) a.count a.lock a.recs c.in_ok-refused.ensures in
    omega (arith, few, c.well_formed)

pub slice_bounds-is_tidy-end : goal.slice_bounds-is_tidy-end
slice_bounds-is_tidy-end c =
    let a = c.args in
    let few = few_records (lent a.lists) a.count a.lock a.recs c.in_ok-refused.ensures in
    sym (length-take-le a.count a.recs (omega (arith, few, c.well_formed)))
