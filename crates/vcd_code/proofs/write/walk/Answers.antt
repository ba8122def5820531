-- `walk` meets its contract. Assumes nothing.
use Rattle.std.proofs.lemmas.Result.{err_from_is_err_and}
use Rattle.vcd_code.proofs.Walk.{still, ends}
use Rattle.vcd_code.proofs.WalkRows.{front_more, front_none}
use Rattle.vcd_code.proofs.write.walk.Goals as goal

pub walk_rows-requires : goal.walk_rows-requires
walk_rows-requires c =
    let start = c in
    let a = start.args in
    let pass = c.in_ok-at.ensures in
    let on = front_more a.trace.now a.out.now a.s a.storing _ pass.out_after _ pass.value in
    still on start.requires

pub returns-in_err-at-clause-value : goal.returns-in_err-at-clause-value
returns-in_err-at-clause-value c =
    let start = c in
    let a = start.args in
    let pass = c.in_err-at.ensures in
    let from = err_from_is_err_and c.from_residual.result c.from_residual.ensures.1 in
    rw (from.1, from.2) (front_none a.trace.now a.out.now a.s a.storing _ pass.out_after _ start.requires pass.value).0

pub returns-in_err-at-clause-out_after : goal.returns-in_err-at-clause-out_after
returns-in_err-at-clause-out_after c =
    let start = c in
    let a = start.args in
    let pass = c.in_err-at.ensures in
    (front_none a.trace.now a.out.now a.s a.storing _ pass.out_after _ start.requires pass.value).1

pub returns-clause-value : goal.returns-clause-value
returns-clause-value c =
    let a = c.args in
    let pass = c.in_ok-at.ensures in
    let on = front_more a.trace.now a.out.now a.s a.storing _ pass.out_after _ pass.value in
    let rows = c.walk_rows in
    (ends _ _ on rows.ensures.value rows.ensures.out_after).0

pub returns-clause-out_after : goal.returns-clause-out_after
returns-clause-out_after c =
    let a = c.args in
    let pass = c.in_ok-at.ensures in
    let on = front_more a.trace.now a.out.now a.s a.storing _ pass.out_after _ pass.value in
    let rows = c.walk_rows in
    (ends _ _ on rows.ensures.value rows.ensures.out_after).1
