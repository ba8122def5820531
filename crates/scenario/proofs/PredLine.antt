-- Which of setup's numbers a pred line is given. Assumes nothing.
use Prim.Native.Nat.{ℕ, zero, suc}
use mathlib.Core.Bool.{Bool, true, false, not, cond}
use mathlib.Core.Path.{◌≡◌, refl, sym, ap, ◌∙◌}
use mathlib.Core.List.{List, [], ◌∷◌}
use native.Mathlib.Omega.{arith}
use borrow.Author.Tests.{lt-ltb, le-ltb, ltb-true, ltb-false, eq-eqb}
use lib.Dec.{ltb}
use lib.ListN.{length, get_or, replicate, length-replicate}
use Rattle.cell.specs.Pred.{permits, good, of_kind}
use Rattle.cell.specs.declared.pred.Pred.TheVariants.{Parity}
use Rattle.cell.proofs.PredLaws.{any_good, either_good, parity_good, kinds}
use Rattle.machine.specs.Names.{thread_count, top_is_zero, bad_predicate, first_value, longest_script}
use Rattle.machine.specs.Refusals.{Check, gives, lowest}
use Rattle.machine.specs.Lists.{Lent, lists, total, scripts_of, wrong_place, list_checks}
use Rattle.machine.specs.Setup.{setup_refusal}
use Rattle.machine.proofs.Refusals.{not_so}
use Rattle.scenario.specs.Scenario.{pred_of, taken}
use Rattle.scenario.specs.PredLine.{first_of, OfPred, names_none, OfLine}
use Rattle.scenario.proofs.Adds.{total_none, none_there}
use Rattle.scenario.proofs.OpAdded.{finds_none}

-- no script has an operation
abbrev empty : ℕ → Lent
empty n = lists (replicate n 0) [] []

empty_passes : (n : ℕ) → lowest (list_checks (empty n) n) ≡ 0
unfolding lowest
empty_passes n =
    let short = finds_none (λ i. ltb longest_script (get_or (empty n).lens i 0)) (length (empty n).lens) (λ i h. rw (none_there n i)) in
    let sums = eq-eqb (length (empty n).ops) (total (empty n).lens) (sym (total_none n)) in
    let records = eq-eqb n (length (empty n).lens) (sym (length-replicate n 0)) in
    let right =
    finds_none (λ i. ltb (wrong_place (scripts_of (empty n)) i) ((scripts_of (empty n)).len i)) (length (empty n).lens)
    (λ i h. le-ltb (wrong_place (scripts_of (empty n)) i) ((scripts_of (empty n)).len i) (omega (arith, none_there n i))) in
    rw (short, sums, records, right)

-- the four checks in order, where the others pass
in_order : (a b fine permitted : Bool) (more : List Check) → lowest more ≡ 0
    → lowest (gives thread_count a ∷ gives top_is_zero b ∷ gives bad_predicate (not fine) ∷ gives first_value (not permitted) ∷ more)
    ≡ cond a thread_count (cond b top_is_zero (cond fine (cond permitted 0 first_value) bad_predicate))
unfolding lowest
in_order true b fine permitted more e = refl
in_order false true fine permitted more e = refl
in_order false false false permitted more e = refl
in_order false false true false more e = refl
in_order false false true true more e = e

pub of_pred : OfPred
unfolding setup_refusal
of_pred s q =
    in_order _ _ (good q) (permits q s.first) (list_checks (empty s.threads) s.threads) (empty_passes s.threads)
    ∙ rw (length-replicate {A = ℕ} s.threads 0)

-- ---- the kinds
parity_fine : (a : ℕ) (t : Bool) → ltb 1 a ≡ t → good (Parity a) ≡ not t
parity_fine a true e = not_so (good (Parity a)) (λ f. omega (arith, (parity_good a).0 f, ltb-true 1 a e))
parity_fine a false e = (parity_good a).1 (ltb-false 1 a e)

kind_fine : (kind a b : ℕ) → good (pred_of (of_kind kind a b)) ≡ not (names_none kind a)
kind_fine zero a b = rw (kinds a b).0 any_good
kind_fine (suc zero) a b = rw (kinds a b).1 (either_good a b)
kind_fine (suc (suc zero)) a b = rw (kinds a b).2 (parity_fine a (ltb 1 a) refl)
kind_fine (suc (suc (suc kind))) a b =
    rw ((kinds a b).3 (suc (suc (suc kind))) (omega arith), lt-ltb 2 (suc (suc (suc kind))) (omega arith)) (parity_fine 2 true refl)

pub of_line : OfLine
unfolding taken
of_line s kind a b =
    let q = pred_of (of_kind kind a b) in
    of_pred s q ∙ ap (λ (fine : Bool). first_of s fine (permits q s.first)) (kind_fine kind a b)
