-- `write_line` meets its contract. The loop's invariant: the bytes so far are stored. Assumes nothing.
use Rattle.std.proofs.Common.{◌*◌, ◌≤◌, length, take}
use Rattle.program_told.specs.Told.{listed}
use Rattle.scenario_text.specs.Put.{Put}
use Rattle.program_told.proofs.write_line.Given as goal

abbrev pub invariant-loop-b : goal.invariant-loop-b
invariant-loop-b l = (l.b-index ≤ length l.line) × Put l.initial.out l.at (listed (take l.b-index l.line)) (21 * l.b-index) l.p l.out
