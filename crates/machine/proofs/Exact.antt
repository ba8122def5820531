-- The answers of setup, run and drain are exact: each number is given in the cases that the table of refusals names, lowest first,
-- and in no other.
use Prim.Native.Nat.{ℕ}
use mathlib.Core.Path.{◌≡◌, refl, sym, ◌∙◌}
use mathlib.Core.Logic.{◌↔◌, inl, inr}
use mathlib.Core.Bool.{Bool, true, false, ◌||◌, not, true≢false, or-true}
use mathlib.Core.List.{List, [], ◌∷◌}
use native.Mathlib.Omega.{arith}
use lib.Dec.{eqb, ltb}
use lib.ListN.{length}
use package.borrow.Author.Tests.{ltb-true, lt-ltb, eqb-true, eq-eqb, not-true}
use Rattle.cell.specs.declared.pred.Pred.{Pred}
use Rattle.machine.specs.Names.{unsound, untidy, most_threads}
use Rattle.machine.specs.Refusals.{Check, gives}
use Rattle.machine.specs.Lists.{Lent, scripts_of, list_checks}
use Rattle.machine.specs.Setup.{setup_checks, setup_refusal}
use Rattle.machine.specs.Sound.{Sound, sound}
use Rattle.machine.specs.Run.{run_checks, run_refusal}
use Rattle.machine.specs.Tidy.{Tidy, tidy}
use Rattle.machine.specs.Drain.{drain_checks, drain_refusal}
use Rattle.machine.specs.When.{OfLists, AtSetup, AtRun, AtDrain, SetupExact, RunExact, DrainExact}
use Rattle.machine.specs.declared.Lock.{Lock}
use Rattle.machine.specs.declared.Rec.{Rec}
use Rattle.machine.proofs.Refusals.{Applies, Means, ◌and◌, either, not_so, applies_left, means_append, means_map, exact}
use Rattle.machine.proofs.SoundTest.{sound_tested}
use Rattle.machine.proofs.TidyTest.{tidy_tested}
use Rattle.machine.proofs.ExactLists.{lists_mean, lists_find}

-- ---- setup
module _ (q : Pred) (m v : ℕ) (s : Lent) (n : ℕ) where
  setup_means : Means (AtSetup q m v s n) (setup_checks q m v s n)
  setup_means =
      either _ _ (λ e. AtSetup.no_threads (eqb-true _ _ e)) (λ e. AtSetup.many_threads (ltb-true _ _ e))
      and (λ t. AtSetup.for_top_is_zero (eqb-true _ _ t))
      and (λ t. AtSetup.for_bad_predicate (not-true _ t))
      and (λ t. AtSetup.for_first_value (not-true _ t))
      and means_map (OfLists s n) (AtSetup q m v s n) (λ k w. AtSetup.lists w) (list_checks s n) (lists_mean s n)

  setup_finds : (k : ℕ) → AtSetup q m v s n k → Applies (setup_checks q m v s n) k
  setup_finds k (AtSetup.no_threads e) = inl (refl, rw (eq-eqb _ _ e))
  setup_finds k (AtSetup.many_threads h) = inl (refl, rw (lt-ltb _ _ h, or-true))
  setup_finds k (AtSetup.for_top_is_zero e) = inr (inl (refl, eq-eqb _ _ e))
  setup_finds k (AtSetup.for_bad_predicate e) = inr (inr (inl (refl, rw e)))
  setup_finds k (AtSetup.for_first_value e) = inr (inr (inr (inl (refl, rw e))))
  setup_finds k (AtSetup.lists w) = inr (inr (inr (inr (lists_find s n k w))))

pub setup_exact : SetupExact
unfolding setup_refusal
setup_exact q m v s n = exact (AtSetup q m v s n) (setup_checks q m v s n) (omega arith) (setup_means q m v s n) (setup_finds q m v s n)

-- ---- a test that says what a fact says
test_fails : {A : Type 0} (b : Bool) → (b ≡ true) ↔ A → not b ≡ true → A → ⊥
test_fails b says t a = true≢false (sym (says.1 a) ∙ not-true b t)

-- a fact that does not fail holds
by_test : {A : Type 0} (b : Bool) → (b ≡ true) ↔ A → ((A → ⊥) → ⊥) → A
by_test true says h = says.0 refl
by_test false says h = absurd (h (λ a. true≢false (sym (says.1 a))))

fact_fails : {A : Type 0} (b : Bool) → (b ≡ true) ↔ A → (A → ⊥) → b ≡ false
fact_fails b says n = not_so b (λ e. n (says.0 e))

-- ---- run
module _ (s : Lent) (L : Lock) (l : List Rec) where
  -- the check that run makes after those of the lists
  abbrev not_sound : Check
  not_sound = gives unsound (eqb (length s.lens) 0 || (ltb most_threads (length s.lens) || not (sound (scripts_of s) L l)))

  unsound_means : not_sound.applies ≡ true → AtRun s L l unsound
  unsound_means =
      either _ _ (λ e. AtRun.no_threads (eqb-true _ _ e))
      (either _ _ (λ e. AtRun.many_threads (ltb-true _ _ e)) (λ e. AtRun.for_not_sound (test_fails _ (sound_tested (scripts_of s) L l) e)))

  run_means : Means (AtRun s L l) (run_checks s L l)
  run_means =
      means_append (AtRun s L l) (list_checks s (length l)) (not_sound ∷ [])
      (means_map (OfLists s (length l)) (AtRun s L l) (λ k w. AtRun.lists w) (list_checks s (length l)) (lists_mean s (length l)))
      (unsound_means and tt)

  run_finds : (k : ℕ) → AtRun s L l k → Applies (run_checks s L l) k
  run_finds k (AtRun.lists w) = applies_left (list_checks s (length l)) (not_sound ∷ []) k (lists_find s (length l) k w)
  run_finds k (AtRun.no_threads e) = inr (inr (inr (inl (refl, rw (eq-eqb _ _ e)))))
  run_finds k (AtRun.many_threads h) = inr (inr (inr (inl (refl, rw (lt-ltb _ _ h, or-true)))))
  run_finds k (AtRun.for_not_sound n) = inr (inr (inr (inl (refl, simp (fact_fails _ (sound_tested (scripts_of s) L l) n, or-true)))))

pub run_exact : RunExact
unfolding run_refusal
run_exact s L l = exact (AtRun s L l) (run_checks s L l) (omega arith) (run_means s L l) (run_finds s L l)

-- ---- drain
module _ (s : Lent) (L : Lock) (l : List Rec) where
  -- the check that drain makes after those of run
  abbrev not_tidy : Check
  not_tidy = gives untidy (not (tidy (scripts_of s) L l))

  drain_means : Means (AtDrain s L l) (drain_checks s L l)
  drain_means =
      means_append (AtDrain s L l) (run_checks s L l) (not_tidy ∷ [])
      (means_map (AtRun s L l) (AtDrain s L l) (λ k w. AtDrain.as_run w) (run_checks s L l) (run_means s L l))
      ((λ t. AtDrain.for_not_tidy (test_fails _ (tidy_tested (scripts_of s) L l) t)) and tt)

  drain_finds : (k : ℕ) → AtDrain s L l k → Applies (drain_checks s L l) k
  drain_finds k (AtDrain.as_run w) = applies_left (run_checks s L l) (not_tidy ∷ []) k (run_finds s L l k w)
  drain_finds k (AtDrain.for_not_tidy n) = inr (inr (inr (inr (inl (refl, rw (fact_fails _ (tidy_tested (scripts_of s) L l) n))))))

pub drain_exact : DrainExact
unfolding drain_refusal
drain_exact s L l = exact (AtDrain s L l) (drain_checks s L l) (omega arith) (drain_means s L l) (drain_finds s L l)

-- ---- what is not refused
-- a state that drain takes is sound and tidy
pub drain_admits : (s : Lent) (L : Lock) (l : List Rec) → drain_refusal s L l ≡ 0 → Sound (scripts_of s) L l × Tidy (scripts_of s) L l
drain_admits s L l none =
    let no = (drain_exact s L l).1.0 none in (
      by_test _ (sound_tested (scripts_of s) L l) (λ n. no unsound (AtDrain.as_run (AtRun.for_not_sound n))),
      by_test _ (tidy_tested (scripts_of s) L l) (λ n. no untidy (AtDrain.for_not_tidy n)),
    )
