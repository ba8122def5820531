-- The loop's invariant: what is counted so far, with the rows that are left, comes to what all rows come to.
use Rattle.std.proofs.Common.{◌≡◌, map, drop}
use Rattle.retries.specs.Rows.{row_in}
use Rattle.retries.specs.Retries.{lost, changes}
use Rattle.retries.specs.Counts.{with_rows}
use Rattle.retries_code.proofs.count_rows.Given as goal

abbrev pub invariant-loop-row : goal.invariant-loop-row
invariant-loop-row l =
    record {
      lost_so : with_rows lost 0 l.initial.failed (map row_in l.rows) ≡ with_rows lost 0 l.failed (map row_in (drop l.row-index l.rows));
      changed_so : with_rows changes 0 l.initial.changed (map row_in l.rows) ≡ with_rows changes 0 l.changed (map row_in (drop l.row-index l.rows));
    }
