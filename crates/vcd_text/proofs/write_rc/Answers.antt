-- `write_rc` meets its contract: three stores, one behind the other. Assumes nothing.
use Rattle.scenario_text.proofs.Stores.{both}
use Rattle.vcd.specs.Blocks.{rc_line}
use Rattle.vcd_text.proofs.write_rc.Goals as goal

pub returns : goal.returns
unfolding rc_line
returns c =
    both c.write_bytes-n.ensures
    (both c.write_binary-m.ensures c.write_bytes.ensures)
