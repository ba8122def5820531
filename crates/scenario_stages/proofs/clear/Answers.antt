-- `clear` meets its contract. Assumes nothing.
use Rattle.std.proofs.Common.{ℕ, List, ◌++◌, drop, replicate, ap, ◌∙◌, length-take-le, arith}
use Rattle.scenario_stages.proofs.Clears.{clears_by}
use Rattle.scenario_stages.proofs.clear.Goals as goal

pub returns : goal.returns
returns c =
    let a = c.args in
    let k = c.min-end.result in
    let zeros = c.fill.ensures.after (λ y e. e) ∙ ap (λ (n : ℕ). replicate n 0) (length-take-le k a.list.now (omega arith)) in
    ap (λ (l : List ℕ). l ++ drop k a.list.now) zeros ∙ clears_by k a.n a.list.now (omega arith)
