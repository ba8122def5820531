-- `next_row` meets its contract. Assumes nothing.
use mathlib.Core.Path.{◌∙◌}
use Rattle.vcd.proofs.Laws.{counted_is_next}
use Rattle.vcd_code.proofs.write.next_row.Goals as goal

pub returns : goal.returns
returns c = c.counted.ensures ∙ (counted_is_next _ _ c.requires).0
