-- What setup accepts has 1 to 16 threads, and 1024 operations at most. Assumes nothing.
use Rattle.std.proofs.Common.{◌≡◌, ℕ, suc, ◌*◌, ◌<◌, ◌≤◌, Bool, true, false, ◌||◌, eqb, ltb, List, [], ◌∷◌, length, get_or, sym, refl, arith, ltb-false}
use mathlib.Core.Bool.{false≢true}
use borrow.Author.Tests.{eqb-false}
use Rattle.machine.specs.Names.{most_threads, longest_script}
use Rattle.machine.specs.Lists.{total}
use Rattle.machine.specs.Setup.{setup_checks, setup_refusal}
use Rattle.machine.proofs.Refusals.{passed}
use Rattle.scenario.specs.Scenario.{Scenario}
use Rattle.scenario.specs.Refused.{asked}
use Rattle.scenario.proofs.OpAdded.{fine}
use Rattle.scenario_stages.specs.Means.{most_ops}

total_most : (lens : List ℕ) → ((i : ℕ) → i < length lens → get_or lens i 0 ≤ longest_script) → total lens ≤ longest_script * length lens
unfolding total
total_most [] h = omega arith
total_most (n ∷ lens) h = let ih = total_most lens (λ i g. h (suc i) (omega arith)) in omega (arith, h 0 (omega arith))

neither : (a b : Bool) → (a || b) ≡ false → (a ≡ false) × (b ≡ false)
neither false false e = (refl, refl)
neither false true e = absurd (false≢true (sym e))
neither true b e = absurd (false≢true (sym e))

pub few : (s : Scenario) → asked s ≡ 0 → (0 < s.threads) × (s.threads ≤ most_threads) × (length s.lent.ops ≤ most_ops)
unfolding setup_refusal
few s none =
    let l = s.lent in
    let f = fine s.pred s.top s.first l s.threads none in
    let p = passed 0 (setup_checks s.pred s.top s.first l s.threads) (omega arith) none in
    let n = neither (eqb (length l.lens) 0) (ltb most_threads (length l.lens)) p.0 in
    let some = eqb-false (length l.lens) 0 n.0 in
    let most = ltb-false most_threads (length l.lens) n.1 in
    let sum = total_most l.lens f.short in
    (omega (arith, f.counted, some), omega (arith, f.counted), omega (arith, f.ops))
