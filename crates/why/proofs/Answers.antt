-- What is answered is exact: a run's refusal, then the next step's, then the reason.
use Prim.Native.Nat.{ℕ, ◌<◌, ◌≤◌}
use mathlib.Core.Path.{◌≡◌, refl, sym, ap, subst, ◌∙◌}
use mathlib.Core.Logic.{◌≢◌, ◌↔◌}
use mathlib.Core.Bool.{Bool, true, false, cond, true≢false, false≢true}
use mathlib.Core.List.{List}
use native.Mathlib.Omega.{arith}
use lib.Dec.{eqb}
use package.borrow.Author.Tests.{eqb-true, eqb-false, eq-eqb}
use Rattle.machine.specs.Names.{no_thread}
use Rattle.machine.specs.Refusals.{Lowest, Nothing, Exact}
use Rattle.machine.specs.Lists.{Lent, scripts_of, beside}
use Rattle.machine.specs.Step.{Scripts, entry_refusal, step}
use Rattle.machine.specs.Sound.{Sound}
use Rattle.machine.specs.When.{OfLists, for_too_long, operations, values, records, no_code, unknown_code, stray_value, AtEntry, for_no_thread, for_script_finished, lock_finished, moved_by_another, for_does_not_fit, for_others_busy, for_not_permitted}
use Rattle.machine.specs.declared.Lock.{Lock}
use Rattle.machine.specs.declared.Rec.{Rec}
use Rattle.machine.specs.declared.Refusal.{Refusal}
use Rattle.machine.proofs.ExactEntry.{entry_exact}
use Rattle.machine.proofs.ExactLists.{beside_others}
use Rattle.machine.proofs.RunLaws.{row_says}
use Rattle.why.specs.Why.{why}
use Rattle.why.specs.Told.{told_by}
use Rattle.why.specs.Reasons.{Failed, Because, AtWhy, as_run, next_step, number_of, Answers}
use Rattle.why.specs.declared.Reason.{Reason}
use Rattle.why.specs.declared.Reason.TheVariants.{NotWaiting}
use Rattle.std.specs.Prelude.{Err, Ok, Result}
use Rattle.why.proofs.Reasons.{why_exact, waits_exactly}

-- ---- a run's numbers are below an entry's
pub lists_below : (s : Lent) (n k : ℕ) → OfLists s n k → k < no_thread
lists_below s n k (for_too_long t a b) = omega arith
lists_below s n k (operations a) = omega arith
lists_below s n k (values a) = omega arith
lists_below s n k (records a) = omega arith
lists_below s n k (no_code t j a b c) = omega arith
lists_below s n k (unknown_code t j a b c) = omega arith
lists_below s n k (stray_value t j a b c d) = omega arith

pub entry_above : (S : Scripts) (L : Lock) (l : List Rec) (i k : ℕ) → AtEntry S L l i k → no_thread ≤ k
entry_above S L l i k (for_no_thread h) = omega arith
entry_above S L l i k (for_script_finished h) = omega arith
entry_above S L l i k (lock_finished h) = omega arith
entry_above S L l i k (moved_by_another t h ne) = omega arith
entry_above S L l i k (for_does_not_fit h) = omega arith
entry_above S L l i k (for_others_busy o m j ne lt h) = omega arith
entry_above S L l i k (for_not_permitted p o h) = omega arith

-- ---- one refusal after another: a of the run, b of the next step, c of both
module _ (Run Step : ℕ → Type 0) (a b c : ℕ) (low : (k : ℕ) → Run k → k < no_thread) (high : (k : ℕ) → Step k → no_thread ≤ k)
    (run_is : Exact Run a) (step_is : Exact Step b) (first : a ≢ 0 → c ≡ a) (then : a ≡ 0 → c ≡ b) where
  abbrev When : ℕ → Type 0
  When = AtWhy Run Step

  -- a refusal of the run
  module _ (some : a ≢ 0) where
    holds : Run a
    holds = ((run_is.0 a some).0 refl).0

    run_lowest : (k : ℕ) → Lowest Run k → Lowest When k
    run_lowest k w = (as_run w.0, no_lower)
      where
        no_lower : (j : ℕ) → j < k → When j → ⊥
        no_lower j lt (as_run v) = w.1 j lt v
        no_lower j lt (next_step v) = omega (arith, high j v, low k w.0)

    lowest_run : (k : ℕ) → k ≢ 0 → Lowest When k → a ≡ k
    lowest_run k nz w = go w.0
      where
        go : When k → a ≡ k
        go (as_run v) = (run_is.0 k nz).1 (v, λ j lt u. w.1 j lt (as_run u))
        go (next_step v) = absurd (w.1 a (omega (arith, high k v, low a holds)) (as_run holds))

    exact_run : Exact When a
    exact_run = (λ k nz. (λ e. run_lowest k ((run_is.0 k nz).0 e), lowest_run k nz), (λ z. absurd (some z), λ none. absurd (none a (as_run holds))))

  -- a refusal of the next step, or none
  module _ (none : a ≡ 0) where
    of_step : {k : ℕ} → When k → Step k
    of_step (as_run v) = absurd (run_is.1.0 none _ v)
    of_step (next_step v) = v

    exact_step : Exact When b
    exact_step = (
      λ k nz. (
        λ e. let w = (step_is.0 k nz).0 e in (next_step w.0, λ j lt v. w.1 j lt (of_step v)),
        λ w. (step_is.0 k nz).1 (of_step w.0, λ j lt v. w.1 j lt (next_step v)),
      ),
      (λ z k v. step_is.1.0 z k (of_step v), λ n. step_is.1.1 (λ k v. n k (next_step v))),
    )

  exact_both : Exact When c
  exact_both = go (eqb a 0) refl
    where
      go : (t : Bool) → eqb a 0 ≡ t → Exact When c
      go true e = let none = eqb-true a 0 e in rw (then none) (exact_step none)
      go false e = let some = eqb-false a 0 e in rw (first some) (exact_run some)

  none_of_run : c ≡ 0 → a ≡ 0
  none_of_run z = go (eqb a 0) refl
    where
      go : (t : Bool) → eqb a 0 ≡ t → a ≡ 0
      go true e = eqb-true a 0 e
      go false e = absurd (eqb-false a 0 e (sym (first (eqb-false a 0 e)) ∙ z))

-- ---- the answer, taken apart
abbrev is_given : Result Reason Refusal → Bool
is_given (Err x) = false
is_given (Ok y) = true

abbrev refusal_in : Refusal → Result Reason Refusal → Refusal
refusal_in d (Err x) = x
refusal_in d (Ok y) = d

abbrev reason_in : Reason → Result Reason Refusal → Reason
reason_in d (Err x) = d
reason_in d (Ok y) = y

module _ (s : Lent) (k : ℕ) (y : Reason) where
  number_so : (t : Bool) → eqb k 0 ≡ t → number_of (cond t (Ok y) (Err (beside s k))) ≡ k
  number_so true e = sym (eqb-true k 0 e)
  number_so false e = (beside_others s k).0

  refusal_so : (t : Bool) (x : Refusal) → cond t (Ok y) (Err (beside s k)) ≡ Err x → x ≡ beside s x.number
  refusal_so true x e = absurd (true≢false (ap is_given e))
  refusal_so false x e =
      let same : beside s k ≡ x = ap (refusal_in x) e in
      sym same ∙ ap (beside s) (sym (beside_others s k).0 ∙ ap (λ (x : Refusal). x.number) same)

  reason_so : (t : Bool) → eqb k 0 ≡ t → (z : Reason) → cond t (Ok y) (Err (beside s k)) ≡ Ok z → (k ≡ 0) × (y ≡ z)
  reason_so true q z e = (eqb-true k 0 q, ap (reason_in z) e)
  reason_so false q z e = absurd (false≢true (ap is_given e))

-- ---- what is answered by such a refusal, with records l of which a run that is not refused has sound ones
module _ (s : Lent) (L : Lock) (l : List Rec) (i : ℕ) (Run : ℕ → Type 0) (a c : ℕ) (low : (k : ℕ) → Run k → k < no_thread) (run_is : Exact Run a)
    (first : a ≢ 0 → c ≡ a) (then : a ≡ 0 → c ≡ entry_refusal (scripts_of s) L l i) (ready : a ≡ 0 → Sound (scripts_of s) L l) where
  abbrev S : Scripts
  S = scripts_of s

  abbrev Step : ℕ → Type 0
  Step = AtEntry S L l i

  abbrev b : ℕ
  b = entry_refusal S L l i

  pub answers_so : Answers s Run L l i (told_by s c (why S L l i))
  unfolding told_by
  answers_so =
      record {
        exact =
            subst (Exact (AtWhy Run Step)) (sym (number_so s c (why S L l i) (eqb c 0) refl))
            exact_c;
        next_to = refusal_so s c (why S L l i) (eqb c 0);
        sound = λ y e. is_sound (reason_so s c (why S L l i) (eqb c 0) refl y e).0;
        given = λ y. (given_holds y, holds_given y);
        told = λ none. (why S L l i, given_of (no_refusal none));
      }
    where
      exact_c : Exact (AtWhy Run Step) c
      exact_c = exact_both Run Step a b c low (entry_above S L l i) run_is (entry_exact S L l i) first then

      is_sound : c ≡ 0 → Sound S L l
      is_sound z = ready (none_of_run Run Step a b c low (entry_above S L l i) run_is (entry_exact S L l i) first then z)

      no_refusal : Nothing (AtWhy Run Step) → c ≡ 0
      no_refusal = exact_c.1.1

      given_of : c ≡ 0 → cond (eqb c 0) (Ok (why S L l i)) (Err (beside s c)) ≡ Ok (why S L l i)
      given_of z = rw (eq-eqb c 0 z) refl

      given_holds : (y : Reason) → cond (eqb c 0) (Ok (why S L l i)) (Err (beside s c)) ≡ Ok y → Nothing (AtWhy Run Step) × Because S L l i y
      given_holds y e =
          let (z, same) = reason_so s c (why S L l i) (eqb c 0) refl y e in
          (exact_c.1.0 z, (why_exact S L l i (is_sound z) y).0 same)

      holds_given : (y : Reason) → Nothing (AtWhy Run Step) × Because S L l i y → cond (eqb c 0) (Ok (why S L l i)) (Err (beside s c)) ≡ Ok y
      holds_given y (none, true_so) =
          let z = no_refusal none in
          given_of z ∙ ap Ok ((why_exact S L l i (is_sound z) y).1 true_so)

-- ---- what the next row shows, where c is the next step's refusal
module _ (s : Lent) (L : Lock) (l : List Rec) (i c : ℕ) (is : c ≡ entry_refusal (scripts_of s) L l i) where
  abbrev y₀ : Reason
  y₀ = why (scripts_of s) L l i

  pub number_told : number_of (told_by s c y₀) ≡ c
  unfolding told_by
  number_told = number_so s c y₀ (eqb c 0) refl

  pub answer_shown : (step (scripts_of s) L l i).row.answer ≡ number_of (told_by s c y₀)
  answer_shown = (row_says (scripts_of s) L l i).0 ∙ sym is ∙ sym number_told

  pub failure_shown : (y : Reason) → told_by s c y₀ ≡ Ok y → (y ≢ NotWaiting) ↔ Failed L.top.0 (step (scripts_of s) L l i).row
  unfolding told_by
  failure_shown y e =
      let (none, same) = reason_so s c y₀ (eqb c 0) refl y e in
      let (to, from) = waits_exactly (scripts_of s) L l i in
      (λ n. (to (λ z. n (sym same ∙ z))).1, λ f z. from ((row_says (scripts_of s) L l i).0 ∙ sym is ∙ none, f) (same ∙ z))
