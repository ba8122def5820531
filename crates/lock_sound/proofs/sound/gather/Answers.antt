-- `gather` meets its contract. The loop's invariant: what is gathered, and the sums over the records that are left, are the sums over all.
-- Assumes nothing.
use Rattle.machine.specs.Step.{here}
use Rattle.lock_sound.proofs.Gather.{sums_on, sums_over, one_more}
use Rattle.lock_sound.proofs.sound.gather.Goals as goal

pub loop-t-preserved : goal.loop-t-preserved
loop-t-preserved c =
    let a = c.args in
    let l = c.loop-t in
    let next = sums_on a.lists.lens.now a.lists.ops.now a.recs.now l.t l.all l.invariant.0 c.loop-t-test.true in
    (rw (c.weigh-all.ensures, c.word_of-o.ensures) next, rw c.weigh-all.ensures (one_more l.t l.all (here a.recs.now l.t) c.word_of-o.result l.invariant.1))

pub returns-clause-result_value : goal.returns-clause-result_value
returns-clause-result_value c =
    let a = c.args in
    let l = c.loop-t in
    sums_over a.lists.lens.now a.lists.ops.now a.recs.now l.t l.all l.invariant.0 c.loop-t-test.false
