-- `write_line` meets its contract: the line is stored, since there is room. Assumes nothing.
use Rattle.why_prints.proofs.Texts.{line_put}
use Rattle.why_prints.proofs.write_line.Goals as goal

pub returns : goal.returns
returns c =
    let n = c.numbers_of-n in
    let a = c.args in
    line_put a.thread a.told n.result n.ensures c.requires (c.put_four.ensures.value, c.put_four.ensures.out_after)
