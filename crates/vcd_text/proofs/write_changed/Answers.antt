-- `write_changed` meets its contract: two stores, one behind the other. Assumes nothing.
use Rattle.scenario_text.proofs.Stores.{both}
use Rattle.vcd.specs.Blocks.{changed}
use Rattle.vcd_text.proofs.write_changed.Goals as goal

pub returns : goal.returns
unfolding changed
returns c = both c.write_exc_of-n.ensures c.write_rc_of.ensures
