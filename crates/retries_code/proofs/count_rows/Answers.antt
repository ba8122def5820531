-- `count_rows` meets its contract, row by row. Assumes nothing.
use Rattle.std.proofs.Common.{◌∙◌}
use Rattle.retries.specs.Retries.{lost, changes}
use Rattle.retries_code.proofs.Counted.{row_more, row_last}
use Rattle.retries_code.proofs.count_rows.Goals as goal

pub loop-row-preserved : goal.loop-row-preserved
loop-row-preserved c =
    let l = c.loop-row in
    let rows = c.as_chunks.result.0.now in
    let lt = c.loop-row-test.true in
    record {
      lost_so = l.invariant.lost_so ∙ rw c.count_row.ensures.failed_after (row_more lost rows l.row-index l.failed lt);
      changed_so = l.invariant.changed_so ∙ rw c.count_row.ensures.changed_after (row_more changes rows l.row-index l.changed lt);
    }

pub returns-clause-failed_after : goal.returns-clause-failed_after
returns-clause-failed_after c =
    let l = c.loop-row in
    row_last lost _ l.row-index l.failed c.args.trace.now _ c.as_chunks.ensures.front l.invariant.lost_so c.loop-row-test.false

pub returns-clause-changed_after : goal.returns-clause-changed_after
returns-clause-changed_after c =
    let l = c.loop-row in
    row_last changes _ l.row-index l.changed c.args.trace.now _ c.as_chunks.ensures.front l.invariant.changed_so c.loop-row-test.false
