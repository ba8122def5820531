-- `blocker_of` meets its contract: the place that is found is the definition's. Assumes nothing.
use Rattle.std.proofs.Common.{rules, ◌≡◌, sym, ◌∙◌}
use Rattle.std.specs.List.{position}
use Rattle.std.proofs.lemmas.Iterator.{YieldsList-from_slice}
use Rattle.std.proofs.lemmas.Iterator.Search.{position_from_yields_List}
use Rattle.why_code.proofs.First.{blocker_is}
use Rattle.why_code.proofs.blocker_of.Goals as goal

pub returns : goal.returns
returns g c p k =
    let place : c.position.result ≡ position p c.args.recs.now =
    position_from_yields_List p _ _ c.position.result c.position.ensures.ran (YieldsList-from_slice c.args.recs.now c.iter.ensures.rest)
    (λ x b q e. (search rules, k x.now b (search rules))) in
    let same : c.map.result ≡ c.position.result = search rules in
    same ∙ place ∙ sym (blocker_is p c.args.recs.now)
