-- `write_time` meets its contract: three stores, one behind the other. Assumes nothing.
use Rattle.scenario_text.proofs.Stores.{both}
use Rattle.vcd.specs.Blocks.{time_line}
use Rattle.vcd_text.proofs.write_time.Goals as goal

pub returns : goal.returns
unfolding time_line
returns c =
    both c.write_bytes-n.ensures
    (both c.write_number-m.ensures c.write_bytes.ensures)
