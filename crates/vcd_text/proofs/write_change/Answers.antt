-- `write_change` meets its contract: two stores, one behind the other. Assumes nothing.
use Rattle.scenario_text.proofs.Stores.{both}
use Rattle.vcd_text.proofs.write_change.Goals as goal

pub returns : goal.returns
returns c = both c.write_time-n.ensures c.write_changed.ensures
