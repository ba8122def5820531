-- `write_dump` meets its contract: two stores, one behind the other. Assumes nothing.
use Rattle.scenario_text.proofs.Stores.{both}
use Rattle.vcd.specs.Blocks.{dump}
use Rattle.vcd_text.proofs.write_dump.Goals as goal

pub returns : goal.returns
unfolding dump
returns c = both c.write_bytes-n.ensures c.write_both.ensures
