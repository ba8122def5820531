-- `write_field` meets its contract: a number and one byte more. Assumes nothing.
use Rattle.scenario_lines.specs.Judge.{comma}
use Rattle.scenario_text.proofs.Stores.{one_more}
use Rattle.scenario_text.proofs.Texts.{one_field}
use Rattle.scenario_text.proofs.write_field.Goals as goal

pub returns : goal.returns
returns c = rw (one_field c.args.v) (one_more comma c.write_number-n.ensures)
