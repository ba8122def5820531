-- `feed` meets its contract. The loop's invariant: the moves that are left lead from here to where all of them lead from the start. The measure is
-- how many turns are left. Assumes nothing.
use Rattle.std.proofs.Common.{sym, refl, ◌∙◌}
use Rattle.scenario_read.specs.Code.{world_of}
use Rattle.scenario_read.proofs.Turns.{turned_out, turn_rests, turn_moves, lock_moves, other_moves}
use Rattle.scenario_read.proofs.Worlds.{in_parts}
use Rattle.scenario_read.proofs.feed.Goals as goal

pub loop-turns-preserved-then-of_lock : goal.loop-turns-preserved-then-of_lock
loop-turns-preserved-then-of_lock c =
    let a = c.args in
    let l = c.loop-turns in
    let m = c.what-m in
    let q = c.runs_first-ran.ensures in
    let ahead = sym (q.same a.last l.p l.lens l.ops l.vals l.rows refl) ∙ l.invariant.5 in (
      l.invariant.0,
      l.invariant.1,
      l.invariant.2,
      c.schedule-1.given ∙ l.invariant.3,
      c.rows-1.given ∙ l.invariant.4,
      turn_moves a.chunk.now a.last c.runs_first-ran.result.turns _ ahead (q.some c.loop-turns-test.true) m.ensures c.rests.ensures c.if-rests.false
          (lock_moves a.chunk.now _ l.p _ l.lens l.ops l.vals _ _ l.rows l.k m.result c.of_lock.ensures c.if-of_lock.true (c.lock_move-r.ensures.result_value, c.lock_move-r.ensures.rows_after)),
    )

pub loop-turns-preserved : goal.loop-turns-preserved
loop-turns-preserved c =
    let a = c.args in
    let l = c.loop-turns in
    let m = c.what-m in
    let q = c.runs_first-ran.ensures in
    let ahead = sym (q.same a.last l.p l.lens l.ops l.vals l.rows refl) ∙ l.invariant.5 in (
      c.lens-1.given ∙ l.invariant.0,
      c.ops-1.given ∙ l.invariant.1,
      c.vals-1.given ∙ l.invariant.2,
      c.schedule-in-loop-turns-1.given ∙ (c.schedule-1.given ∙ l.invariant.3),
      l.invariant.4,
      turn_moves a.chunk.now a.last c.runs_first-ran.result.turns _ ahead (q.some c.loop-turns-test.true) m.ensures c.rests.ensures c.if-rests.false
          (other_moves a.chunk.now _ l.p _ l.lens l.ops l.vals _ _ l.rows l.k m.result c.of_lock.ensures c.if-of_lock.false c.other_move-r.ensures),
    )

pub returns-then-rests : goal.returns-then-rests
returns-then-rests c =
    let a = c.args in
    let l = c.loop-turns in
    let q = c.runs_first-ran.ensures in
    let ahead = sym (q.same a.last l.p l.lens l.ops l.vals l.rows refl) ∙ l.invariant.5 in
    let p = in_parts _ _ _ _ _ _ _ (turn_rests a.chunk.now a.last c.runs_first-ran.result.turns _ ahead (q.some c.loop-turns-test.true) c.what-m.ensures c.rests.ensures c.if-rests.true) in
    record {
      result_value = c.after.ensures ∙ p.0;
      line_after = p.1.0;
      lens_after = p.1.1.0;
      ops_after = p.1.1.1.0;
      vals_after = p.1.1.1.1.0;
      schedule_after = p.1.1.1.1.1.0;
      rows_after = p.1.1.1.1.1.1;
    }

pub returns : goal.returns
returns c =
    let a = c.args in
    let l = c.loop-turns in
    let here = world_of l.s l.p l.line l.lens l.ops l.vals l.schedule l.i l.rows l.k in
    let p = in_parts _ _ _ _ _ _ _ (sym (turned_out a.chunk.now a.last l.turns here c.loop-turns-test.false) ∙ l.invariant.5) in
    record {
      result_value = c.after-2.ensures ∙ p.0;
      line_after = p.1.0;
      lens_after = p.1.1.0;
      ops_after = p.1.1.1.0;
      vals_after = p.1.1.1.1.0;
      schedule_after = p.1.1.1.1.1.0;
      rows_after = p.1.1.1.1.1.1;
    }
