-- `bytes_in` ends: the bytes that are left become fewer. Assumes nothing.
use Rattle.std.proofs.Common.{length}
use Rattle.vcd_list.proofs.bytes_in.Given as goal

abbrev pub decreases-loop-left : goal.decreases-loop-left
decreases-loop-left l = length l.left
