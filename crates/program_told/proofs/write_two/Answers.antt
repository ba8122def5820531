-- `write_two` meets its contract: two stores, one behind the other. Assumes nothing.
use Rattle.std.proofs.Common.{[], ◌∷◌}
use Rattle.scenario_text.proofs.Stores.{both}
use Rattle.program_told.proofs.Listed.{listed_append}
use Rattle.program_told.proofs.write_two.Goals as goal

pub returns : goal.returns
returns c = rw (listed_append (c.args.a ∷ []) (c.args.b ∷ [])) (both c.write_one-n.ensures c.write_one.ensures)
