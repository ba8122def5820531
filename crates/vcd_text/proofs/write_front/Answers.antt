-- `write_front` meets its contract: two stores, one behind the other. Assumes nothing.
use Rattle.scenario_text.proofs.Stores.{both}
use Rattle.vcd.specs.Blocks.{front}
use Rattle.vcd_text.proofs.write_front.Goals as goal

pub returns : goal.returns
unfolding front
returns c = both c.write_opening-n.ensures c.write_dump.ensures
