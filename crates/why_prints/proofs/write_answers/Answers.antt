-- `write_answers` meets its contract: two stores, one behind the other. Assumes nothing.
use native.Mathlib.Omega.{arith}
use Rattle.machine.specs.Lists.{lent}
use Rattle.why_prints.specs.Prints.{why_header}
use Rattle.why_prints.proofs.Texts.{header_put, answers_put}
use Rattle.why_prints.proofs.write_answers.Goals as goal

pub write_lines-requires : goal.write_lines-requires
unfolding why_header
write_lines-requires c =
    let room = c.requires in
    let a = c.args in
    let header = header_put a.out.now _ a.at _ room (c.put_bytes-n.ensures.value, c.put_bytes-n.ensures.out_after) in
    omega (arith, room, header.room, header.size)

pub returns : goal.returns
unfolding why_header
returns c =
    let start = c in
    let a = start.args in
    answers_put (lent a.lists) a.standing start.requires (c.put_bytes-n.ensures.value, c.put_bytes-n.ensures.out_after)
    c.write_lines.ensures
