-- A world in parts: it is returned and left exactly where its parts are. Assumes nothing.
use Rattle.std.proofs.Common.{◌≡◌, ℕ, List, ap}
use Rattle.scenario_read.specs.declared.Fed.{Fed}
use Rattle.scenario_read.specs.Feed.{World}
use Rattle.scenario_read.specs.Code.{world_of, fed_of, Parts}

module _ (r : Fed) (line lens ops vals schedule rows : List ℕ) {w : World} where
  pub in_parts : world_of r.state r.standing line lens ops vals schedule r.from rows r.at ≡ w → Parts r line lens ops vals schedule rows w
  in_parts e =
      (ap fed_of e, (ap (λ (v : World). v.line) e, (ap (λ (v : World). v.lens) e, (ap (λ (v : World). v.ops) e, (ap (λ (v : World). v.vals) e, (ap (λ (v : World). v.schedule) e, ap (λ (v : World). v.out) e))))))

  pub as_one : Parts r line lens ops vals schedule rows w → world_of r.state r.standing line lens ops vals schedule r.from rows r.at ≡ w
  as_one (is, (a, (b, (c, (d, (e, f)))))) = λ i. world_of (is i).state (is i).standing (a i) (b i) (c i) (d i) (e i) (is i).from (f i) (is i).at
