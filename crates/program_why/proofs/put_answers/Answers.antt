-- `put_answers` meets its contract: no answer is lost where there is room. Assumes nothing.
use Rattle.program_why.proofs.Stored.{stored_so}
use Rattle.program_why.proofs.put_answers.Goals as goal

pub returns-clause-value : goal.returns-clause-value
returns-clause-value c =
    let a = c.args in
    (stored_so a.came a.lens.now a.ops.now a.vals.now a.out.now _ _ _ _ c.standing_of-standing.ensures c.upto.ensures c.upto-2.ensures c.upto-3.ensures c.requires
    (c.put_end.ensures.value, c.put_end.ensures.out_after)).0

pub returns-clause-out_after : goal.returns-clause-out_after
returns-clause-out_after c =
    let a = c.args in
    (stored_so a.came a.lens.now a.ops.now a.vals.now a.out.now _ _ _ _ c.standing_of-standing.ensures c.upto.ensures c.upto-2.ensures c.upto-3.ensures c.requires
    (c.put_end.ensures.value, c.put_end.ensures.out_after)).1
