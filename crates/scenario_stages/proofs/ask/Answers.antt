-- `ask` meets its contract: the number of what setup answers. Assumes nothing.
use Rattle.std.proofs.Common.{[], take, sym, ap, ◌∙◌, length-take-le}
use Rattle.machine.specs.Lists.{lists}
use Rattle.lock.specs.declared.setup.Begun.{Begun}
use Rattle.scenario_stages.proofs.Asks.{start_no, answered}
use Rattle.scenario_stages.proofs.ask.Goals as goal

pub returns-in-Ok : goal.returns-in-Ok
returns-in-Ok c =
    let a = c.args in
    ap start_no (sym c.in-Ok.is) ∙ ap (λ (b : Begun). start_no b.start) c.setup-begun.ensures
    ∙ answered a.pred a.top a.first (lists (take a.threads a.none.now) [] []) a.threads

pub returns-in-Err : goal.returns-in-Err
returns-in-Err c =
    let a = c.args in
    ap start_no (sym c.in-Err.is) ∙ ap (λ (b : Begun). start_no b.start) c.setup-begun.ensures
    ∙ answered a.pred a.top a.first (lists (take a.threads a.none.now) [] []) a.threads
