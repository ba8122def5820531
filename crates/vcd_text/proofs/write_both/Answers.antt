-- `write_both` meets its contract: three stores, one behind the other. Assumes nothing.
use Rattle.scenario_text.proofs.Stores.{both}
use Rattle.vcd_text.proofs.write_both.Goals as goal

pub returns : goal.returns
returns c =
    both c.write_exc-n.ensures
    (both c.write_rc-m.ensures c.write_bytes.ensures)
