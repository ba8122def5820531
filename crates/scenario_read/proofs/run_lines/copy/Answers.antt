-- `copy` meets its contract. Assumes nothing.
use Rattle.std.proofs.Common.{◌-◌, List, ℕ, ◌++◌, drop, ap, ◌∙◌}
use Rattle.scenario_read.proofs.Places.{copies_by}
use Rattle.scenario_read.proofs.run_lines.copy.Goals as goal

pub returns : goal.returns
returns c =
    let a = c.args in
    ap (λ (l : List ℕ). l ++ drop (a.to - a.from) a.line.now) c.copy_from_slice.ensures.after
    ∙ copies_by a.line.now a.chunk.now a.from a.to c.requires.0 c.requires.1 c.requires.2
