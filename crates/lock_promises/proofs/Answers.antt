-- The answers of setup, run and drain are exact, of what the functions return; and the state after a setup that makes a lock.
use Rattle.lock_promises.specs.Given.{refusal_in}
use Prim.Native.Nat.{ℕ, ◌*◌, ◌≤◌, ◌<◌}
use mathlib.Core.Path.{◌≡◌, refl, sym, ap, ◌∙◌}
use mathlib.Core.Logic.{inl, inr}
use mathlib.Core.Bool.{Bool, true, false, not, cond, true≢false, or-true}
use mathlib.Core.List.{List, [], ◌∷◌, ◌++◌}
use native.Mathlib.Omega.{arith}
use lib.Dec.{eqb}
use lib.ListN.{length, get_or, take, drop, length-replicate, get_or-append}
use lib.Seq.{drop_at}
use package.borrow.Author.Tests.{ltb-true, lt-ltb, eqb-true, eq-eqb, not-true}
use Rattle.cell.specs.declared.pred.Pred.{Pred}
use Rattle.machine.specs.Names.{unsound, untidy, row_words}
use Rattle.machine.specs.Words.{unbegun, unused}
use Rattle.machine.specs.Refusals.{Check, gives, Exact}
use Rattle.machine.specs.Lists.{Lent, scripts_of, list_checks, beside}
use Rattle.machine.specs.Sound.{Sound, sound}
use Rattle.machine.specs.Tidy.{tidy}
use Rattle.machine.specs.Setup.{fresh, setup, setup_refusal}
use Rattle.machine.specs.SetupLaws.{Fresh}
use Rattle.machine.specs.Run.{run_refusal}
use Rattle.machine.specs.Drain.{drain_refusal}
use Rattle.machine.specs.When.{OfLists, AtRun, AtDrain}
use Rattle.machine.specs.declared.Lock.{Lock}
use Rattle.machine.specs.declared.Rec.{Rec}
use Rattle.machine.specs.declared.Refusal.{Refusal}
use Rattle.std.specs.Prelude.{Err, Ok, Result}
use Rattle.machine.proofs.Refusals.{Applies, Means, ◌and◌, either, not_so, applies_left, means_append, means_map, exact}
use Rattle.machine.proofs.Exact.{setup_exact, run_exact, drain_exact}
use Rattle.machine.proofs.ExactLists.{lists_mean, lists_find}
use Rattle.machine.proofs.Setup.{setup_is_sound}
use Rattle.machine.proofs.SetupLaws.{setup_state}
use Rattle.machine.proofs.SoundTest.{sound_tested}
use Rattle.machine.proofs.TidyTest.{tidy_tested}
use Rattle.lock.specs.ByValue.{put_back, setup_of, run_checks_of, run_refusal_of, drain_checks_of, drain_refusal_of}
use Rattle.lock.proofs.Refusing.{number_beside, bad, bad_state}
use Rattle.lock.proofs.Begins.{count_most}
use Rattle.lock_promises.specs.Answers.{ExactRefusal, number_of, SetupSays, SetupAnswer, SetupAnswerByValue, SetupState, SetupStateByValue, RunAnswer, AtRunOf, RunAnswerByValue, RestAnswerByValue, DrainAnswer, AtDrainOf, DrainAnswerByValue}
use Rattle.lock_promises.proofs.Refusing.{run_told, drain_told, run_told_by_value, drain_told_by_value, in_some}
use Rattle.lock_promises.proofs.Reached.{made_none}
use Rattle.lock_promises.proofs.ByValue.{put_back_length}

-- ---- a refusal that is what belongs beside an exact number
own_number : (s : Lent) (k : ℕ) (why : Refusal) → why ≡ beside s k → why ≡ beside s why.number
unfolding beside
own_number s k why is = rw is refl

exact_beside : (When : ℕ → Type 0) (s : Lent) (k : ℕ) (why : Refusal) → why ≡ beside s k → Exact When k → ExactRefusal When s why
exact_beside When s k why is e =
    let number : why.number ≡ k = ap (λ (x : Refusal). x.number) is ∙ number_beside s k in
    (rw number e, own_number s k why is)

-- ---- setup
module _ (q : Pred) (m v : ℕ) (s : Lent) (records : ℕ) where
  abbrev k : ℕ
  k = setup_refusal q m v s records

  -- what setup answers, by its refusal
  abbrev answer : Bool → Result Lock Refusal
  answer b = cond b (Ok (unused q m v)) (Err (beside s k))

  number_is : (b : Bool) → eqb k 0 ≡ b → number_of (answer b) ≡ k
  number_is true e = sym (eqb-true k 0 e)
  number_is false e = number_beside s k

  next_to : (b : Bool) (why : Refusal) → answer b ≡ Err why → why ≡ beside s why.number
  next_to true why e = let clash : ◌≡◌ {A = ℕ} 0 1 = cc in absurd (omega arith)
  next_to false why e = let same : why ≡ beside s k = cc in own_number s k why same

  setup_says : SetupSays q m v s records (setup q m v s records)
  unfolding setup
  setup_says =
      record {
        exact = rw (number_is (eqb k 0) refl) (setup_exact q m v s records);
        next_to = next_to (eqb k 0);
        made = λ none. rw ((setup_exact q m v s records).1.1 none) refl;
      }

pub setup_answer : SetupAnswer
setup_answer s q m v l start is = rw is (setup_says q m v s (length l))

pub setup_answer_by_value : SetupAnswerByValue
setup_answer_by_value s q m v count recs b is = rw is (setup_says q m v s count)

-- the records that setup makes
fresh_first : (n : ℕ) (others : List Rec) (i : ℕ) (none : Rec) → i < n → Fresh (get_or (fresh n ++ others) i none)
fresh_first n others i none h =
    rw (get_or-append (fresh n) others none i (rw (length-replicate n unbegun) h)) (setup_state.2 n i none h)

pub setup_made : SetupState
setup_made s q m v l start l' L is list e =
    let (none, same) = made_none s q m v (length l) L (sym is ∙ e) in
    let records : l' ≡ fresh (length l) = list ∙ (setup_is_sound q m v s l none).1 in
    rw (← same, records) (setup_state.0 q m v, setup_state.1 (length l), setup_state.2 (length l))

pub setup_made_by_value : SetupStateByValue
unfolding setup_of
setup_made_by_value s q m v count recs b L wide is e =
    let (none, same) = made_none s q m v count L (rw is at e) in
    let enough : count ≤ length recs = omega (arith, count_most q m v s count none) in
    let records : b.recs ≡ put_back count recs (fresh count) = rw (is, none) refl in
    let size = setup_state.1 count in
    rw (← same, records) (
      setup_state.0 q m v,
      put_back_length count recs (fresh count) enough size ∙ wide,
      fresh_first count (drop count recs),
      drop_at (fresh count) (drop count recs) count size,
    )

-- ---- run
pub run_answer : RunAnswer
run_answer s L l schedule budget trace left is =
    exact_beside (AtRun s L l) s (run_refusal s L l) left.refusal (run_told s L l schedule budget trace left is) (run_exact s L l)

module _ (s : Lent) (count : ℕ) (L : Lock) (l : List Rec) where
  -- the check that run makes after those of the lists
  abbrev not_sound : Check
  not_sound = gives unsound (bad s L l)

  sound_holds : Sound (scripts_of s) L l → sound (scripts_of s) L l ≡ true
  sound_holds = (sound_tested (scripts_of s) L l).1

  unsound_means : bad s L l ≡ true → AtRunOf s count L l unsound
  unsound_means =
      either _ _ (λ e. AtRunOf.no_threads (eqb-true _ _ e))
      (either _ _ (λ e. AtRunOf.many_threads (ltb-true _ _ e)) (λ e. AtRunOf.for_not_sound (λ h. true≢false (sym (sound_holds h) ∙ not-true _ e))))

  run_means : Means (AtRunOf s count L l) (run_checks_of s count L l)
  run_means =
      means_append (AtRunOf s count L l) (list_checks s count) (not_sound ∷ [])
      (means_map (OfLists s count) (AtRunOf s count L l) (λ k w. AtRunOf.lists w) (list_checks s count) (lists_mean s count))
      (unsound_means and tt)

  bad_applies : bad s L l ≡ true → Applies (run_checks_of s count L l) unsound
  bad_applies e = inr (inr (inr (inl (refl, e))))

  run_finds : (k : ℕ) → AtRunOf s count L l k → Applies (run_checks_of s count L l) k
  run_finds k (AtRunOf.lists w) = applies_left (list_checks s count) (not_sound ∷ []) k (lists_find s count k w)
  run_finds k (AtRunOf.no_threads e) = bad_applies (rw (eq-eqb _ _ e))
  run_finds k (AtRunOf.many_threads h) = bad_applies (rw (lt-ltb _ _ h, or-true))
  run_finds k (AtRunOf.for_not_sound n) = bad_applies (bad_state s L l (not_so _ (λ e. n ((sound_tested (scripts_of s) L l).0 e))))

  run_exact_of : Exact (AtRunOf s count L l) (run_refusal_of s count L l)
  unfolding run_refusal_of
  run_exact_of = exact (AtRunOf s count L l) (run_checks_of s count L l) (omega arith) run_means run_finds

  -- ---- drain: the check that it makes after those of run
  abbrev not_tidy : Check
  not_tidy = gives untidy (not (tidy (scripts_of s) L l))

  untidy_means : not (tidy (scripts_of s) L l) ≡ true → AtDrainOf s count L l untidy
  untidy_means t = AtDrainOf.for_not_tidy (λ h. true≢false (sym ((tidy_tested (scripts_of s) L l).1 h) ∙ not-true _ t))

  drain_means : Means (AtDrainOf s count L l) (drain_checks_of s count L l)
  drain_means =
      means_append (AtDrainOf s count L l) (run_checks_of s count L l) (not_tidy ∷ [])
      (means_map (AtRunOf s count L l) (AtDrainOf s count L l) (λ k w. AtDrainOf.as_run w) (run_checks_of s count L l) run_means)
      (untidy_means and tt)

  drain_finds : (k : ℕ) → AtDrainOf s count L l k → Applies (drain_checks_of s count L l) k
  drain_finds k (AtDrainOf.as_run w) = applies_left (run_checks_of s count L l) (not_tidy ∷ []) k (run_finds k w)
  drain_finds k (AtDrainOf.for_not_tidy n) = inr (inr (inr (inr (inl (refl, rw (not_so _ (λ e. n ((tidy_tested (scripts_of s) L l).0 e))))))))

  drain_exact_of : Exact (AtDrainOf s count L l) (drain_refusal_of s count L l)
  unfolding drain_refusal_of
  drain_exact_of = exact (AtDrainOf s count L l) (drain_checks_of s count L l) (omega arith) drain_means drain_finds

pub run_answer_by_value : RunAnswerByValue
run_answer_by_value s count L recs schedule budget trace r is =
    let l = take count recs in
    exact_beside (AtRunOf s count L l) s (run_refusal_of s count L l) (refusal_in r.ran.refusal)
    (ap refusal_in (run_told_by_value s count L recs schedule budget trace r is) ∙ in_some s (run_refusal_of s count L l))
    (run_exact_of s count L l)

pub rest_answer_by_value : RestAnswerByValue
rest_answer_by_value s count L recs schedule budget used trace = run_answer_by_value s count L recs schedule budget (drop (row_words * used) trace)

pub drain_answer : DrainAnswer
drain_answer s L l left is = exact_beside (AtDrain s L l) s (drain_refusal s L l) left.refusal (drain_told s L l left is) (drain_exact s L l)

pub drain_answer_by_value : DrainAnswerByValue
drain_answer_by_value s count L recs d is =
    let l = take count recs in
    exact_beside (AtDrainOf s count L l) s (drain_refusal_of s count L l) (refusal_in d.drained.refusal)
    (ap refusal_in (drain_told_by_value s count L recs d is) ∙ in_some s (drain_refusal_of s count L l)) (drain_exact_of s count L l)
