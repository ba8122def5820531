-- `write_numbers` meets its contract: two stores, one behind the other. Assumes nothing.
use Rattle.std.proofs.Common.{[], ◌∷◌}
use Rattle.scenario_text.proofs.Stores.{both}
use Rattle.program_told.proofs.Listed.{listed_append}
use Rattle.program_told.proofs.write_numbers.Goals as goal

pub returns : goal.returns
returns c =
    let a = c.args in
    let r = a.read in
    rw (← c.stage_no-no.ensures, listed_append (c.stage_no-no.result ∷ r.top ∷ r.first ∷ r.threads ∷ []) (r.thread ∷ a.len ∷ []))
    (both c.write_four-n.ensures c.write_two.ensures)
