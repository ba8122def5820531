-- `run_ready` meets its contract. The loop's invariant: lock, records, counts and trace list are those after the first k entries.
use native.Mathlib.Omega.{arith}
use lib.ListN.{length, get_or}
use Rattle.machine.specs.Lists.{lent, scripts_of}
use Rattle.lock.proofs.Refusing.{inside}
use Rattle.lock.proofs.Running.{Stepped, begins, one_more, may_enter, enters, enters_not, all_done}
use Rattle.lock.proofs.run.run_ready.Goals as goal
use Rattle.lock.proofs.run.run_ready.Goals.{then-t-count, else-t-count}

pub loop-k-init : goal.loop-k-init
loop-k-init c =
    let a = c.args in
    begins (lent a.lists) a.lock a.recs a.schedule.now a.n a.trace.now _ (omega arith) c.busy_among-busy.ensures

pub enter_at-e-requires : goal.enter_at-e-requires
enter_at-e-requires c =
    let a = c.args in
    let g = c.loop-k in
    let s = lent a.lists in
    let there = c.if-t-count.true in
    let (room, own, all) =
    may_enter s a.lock a.recs a.schedule.now a.n a.trace.now g.l g.rs g.busy g.done g.k g.trace g.invariant c.requires.ready _
    there (omega (arith, c.well_formed.1.1.1.0))
    in
    record {
      i_in_bounds = there;
      room = room;
      rec_bound = own;
      busy_bound = all;
      len_in_bounds = inside s a.lock a.recs _ _ c.requires.ready there (c.starts_of-starts.ensures _ there);
      vals_len = c.requires.ready.values;
    }

pub returns-clause-value : goal.returns-clause-value
returns-clause-value c =
    let a = c.args in
    let g = c.loop-k in
    (all_done (lent a.lists) a.lock a.recs a.schedule.now a.n a.trace.now g.l g.rs g.busy g.done g.k g.trace g.invariant c.loop-k-test.false).0

pub loop-k-preserved : goal.loop-k-preserved
loop-k-preserved c =
    let a = c.args in
    let g = c.loop-k in
    let starts = c.starts_of-starts in
    let j = c.if-t-count in
    let s = lent a.lists in
    let t = get_or a.schedule.now g.k 0 in
    let e : Stepped (scripts_of s) (length a.lists.lens.now) g.l g.rs t j.l j.rs j.busy j.row =
    elim j.branch [
      | then-t-count w ↦ rw (w.l-is, w.rs-is, w.busy-is, w.row-is)
          (enters s a.lock a.recs a.schedule.now a.n a.trace.now g.l g.rs g.busy g.done g.k g.trace g.invariant c.requires.ready _ t _
          w.if-t-count.true (starts.ensures t w.if-t-count.true) w.enter_at-e.ensures)
      | else-t-count w ↦ rw (w.l-is, w.rs-is, w.busy-is, w.row-is)
          (enters_not s a.lock a.recs a.schedule.now a.n a.trace.now g.l g.rs g.busy g.done g.k g.trace g.invariant c.requires.ready t _
          w.if-t-count.false (rw c.from.ensures at c.row_of-row.ensures))
    ]
    in
    rw (c.from-done.ensures, c.put_row.ensures)
    (one_more s a.lock a.recs a.schedule.now a.n a.trace.now g.l g.rs g.busy g.done g.k g.trace g.invariant j.l j.rs j.busy
    j.row c.loop-k-test.true c.requires.n_in_bounds c.requires.n_in_bounds_2 e)
