-- `bits_of` meets its contract. Assumes nothing.
use Rattle.std.proofs.Common.{sym, arith}
use Rattle.vcd_text.proofs.Loops.{length_one, length_at}
use Rattle.vcd_text.proofs.bits_of.Goals as goal

pub returns-then-v-eq0 : goal.returns-then-v-eq0
returns-then-v-eq0 c = sym (length_one c.args.v (omega arith))

pub returns : goal.returns
returns c =
    let top = c.ilog2 in
    sym (length_at top.result c.args.v top.ensures.power_le top.ensures.next_power_gt c.ranges.v.fits)
