-- `answer_of` meets its contract. The loop's invariant: the answer for the whole is the answer from here on, `rows` rows being read. Assumes nothing.
use Rattle.std.proofs.Common.{◌≡◌, length}
use Rattle.vcd.specs.Read.{read_as}
use Rattle.vcd_code.proofs.BlocksOn.{rows_on, read_from}
use Rattle.vcd_code.proofs.Passes.{all_of}
use Rattle.vcd_code.proofs.read.answer_of.Given as goal

abbrev pub invariant-loop-left : goal.invariant-loop-left
invariant-loop-left l = read_as (all_of l.initial.s l.initial.left) l.room ≡ read_from l.rows (rows_on l.rows l.s l.left) l.room

abbrev pub decreases-loop-left : goal.decreases-loop-left
decreases-loop-left l = length l.left
