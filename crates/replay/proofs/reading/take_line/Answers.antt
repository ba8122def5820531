-- `take_line` meets its contract. Assumes nothing.
use Rattle.replay.proofs.Takes.{taken_by}
use Rattle.replay.proofs.reading.take_line.Goals as goal

pub returns-clause-value : goal.returns-clause-value
returns-clause-value c =
    let a = c.args in
    (taken_by a.chunk.now a.line.now a.r c.front-bytes.ensures c.«open».ensures (c.take_some-taken.ensures.value, c.take_some-taken.ensures.line_after)).0

pub returns-clause-line_after : goal.returns-clause-line_after
returns-clause-line_after c =
    let a = c.args in
    (taken_by a.chunk.now a.line.now a.r c.front-bytes.ensures c.«open».ensures (c.take_some-taken.ensures.value, c.take_some-taken.ensures.line_after)).1
