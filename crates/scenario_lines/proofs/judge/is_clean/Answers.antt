-- `is_clean` meets its contract. Assumes nothing.
use mathlib.Core.Bool.{not}
use mathlib.Core.Path.{◌∙◌}
use Rattle.std.proofs.Common.{rules}
use Rattle.std.proofs.lemmas.Iterator.{YieldsList-from_slice}
use Rattle.std.proofs.lemmas.Iterator.Search.{all_from_yields_List}
use Rattle.scenario_lines.specs.Judge.{foul}
use Rattle.scenario_lines.proofs.Scans.{clean_all}
use Rattle.scenario_lines.proofs.judge.is_clean.Goals as goal

pub returns : goal.returns
returns c =
    all_from_yields_List (λ b. not (foul b)) _ _ c.all.result c.all.ensures.ran (YieldsList-from_slice c.args.s.now c.iter.ensures.rest) (λ x b q k. search rules)
    ∙ clean_all c.args.s.now
