-- `write_four` meets its contract: two stores, one behind the other. Assumes nothing.
use Rattle.std.proofs.Common.{[], ◌∷◌}
use Rattle.scenario_text.proofs.Stores.{both}
use Rattle.program_told.proofs.Listed.{listed_append}
use Rattle.program_told.proofs.write_four.Goals as goal

pub returns : goal.returns
returns c = rw (listed_append (c.args.a ∷ c.args.b ∷ []) (c.args.c ∷ c.args.d ∷ [])) (both c.write_two-n.ensures c.write_two.ensures)
