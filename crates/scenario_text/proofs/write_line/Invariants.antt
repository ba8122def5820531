-- `write_line` meets its contract. The loop's invariant: the numbers so far are stored. Assumes nothing.
use Prim.Native.Nat.{◌*◌}
use lib.ListN.{take}
use Rattle.scenario_text.specs.Lines.{fields}
use Rattle.scenario_text.specs.Put.{Put}
use Rattle.scenario_text.proofs.write_line.Given as goal

abbrev pub invariant-loop-v : goal.invariant-loop-v
invariant-loop-v l = Put l.initial.out l.at (fields (take l.v-index l.front)) (21 * l.v-index) l.n l.out
