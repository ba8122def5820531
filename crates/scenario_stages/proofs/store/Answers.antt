-- `store` meets its contract: a place that is not there takes nothing. Assumes nothing.
use Rattle.std.proofs.Common.{sym}
use lib.Seq.{set_out}
use Rattle.scenario_stages.proofs.store.Goals as goal

pub returns-else-at-list : goal.returns-else-at-list
returns-else-at-list c =
    let a = c.args in
    sym (set_out a.list.now a.at a.v c.if-at-list.false)
