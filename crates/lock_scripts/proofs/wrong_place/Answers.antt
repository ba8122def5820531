-- `wrong_place` meets its contract: what `find` gives is the first number of which the test holds. Assumes nothing.
use mathlib.Core.Path.{◌≡◌}
use Rattle.std.proofs.Common.{rules, tests}
use mathlib.Core.Bool.{true, false}
use Prim.Native.Nat.{ℕ, ◌+◌}
use lib.ListN.{get_or}
use Rattle.std.proofs.lemmas.Iterator.{first_from_Range}
use Rattle.machine.specs.Lists.{wrong}
use Rattle.lock_scripts.proofs.Finds.{found_in}
use Rattle.lock_scripts.proofs.wrong_place.Goals as goal

pub returns : goal.returns
returns c =
    let ops = c.args.ops.now in
    let vals = c.args.vals.now in
    let from = c.args.from in
    let test = λ (k : ℕ). wrong (get_or ops (from + k) 0) (get_or vals (from + k) 0) in
    found_in test c.args.len c.find.result
    (first_from_Range _ _ _ _ (λ k. test k ≡ true) (λ k. test k ≡ false) c.find.ensures.ran (λ x q k. search (rules, tests)) (λ x q k. search (rules, tests)))
