-- `take_more` meets its contract: rows end within the list. Assumes nothing.
use Rattle.program_intake.proofs.Turns.{turn_leaves}
use Rattle.program_intake.proofs.take_more.Goals as goal

pub returns-clause-at_in_bounds : goal.returns-clause-at_in_bounds
returns-clause-at_in_bounds c =
    let a = c.args in
    let fed = c.feed-fed in
    let e = fed.ensures in
    let turned = turn_leaves a.intake a.input a.line.now a.lens.now a.ops.now a.vals.now a.schedule.now a.chunk.now a.rows.now _ c.front.ensures fed.result _ _ _ _ _ _
    (e.result_value, (e.line_after, (e.lens_after, (e.ops_after, (e.vals_after, (e.schedule_after, e.rows_after)))))) c.hand_on.result c.hand_on.ensures in
    turned.1.1.1.1.1.1.1
