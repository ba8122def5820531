-- What is lent is refused exactly: 5, 6 and 7 are given in the cases that the table of refusals names; and what stands beside 5
-- and 7 is the first thread, and in it the first script place.
use Prim.Native.Nat.{ℕ, ◌<◌, ◌≤◌}
use mathlib.Core.Path.{◌≡◌, refl}
use mathlib.Core.Logic.{inl, inr}
use mathlib.Core.Bool.{true, false, ◌&&◌, not, and-eq-true_iff, or-true, and-false}
use native.Mathlib.Omega.{arith}
use lib.Dec.{eqb}
use lib.ListN.{length}
use package.borrow.Author.Tests.{ltb-true, lt-ltb, eqb-true, eqb-false, ne_eqb, not-true}
use Rattle.machine.specs.Names.{release_write, script_too_long, wrong_lengths, wrong_code, longest_script}
use Rattle.machine.specs.Lists.{Lent, total, scripts_of, long_thread, wrong_place, wrong_thread, list_checks, beside}
use Rattle.machine.specs.When.{OfLists, for_too_long, operations, values, records, no_code, unknown_code, stray_value, FirstLong, WrongAt, FirstWrong, BesideOthers}
use Rattle.machine.proofs.Refusals.{Applies, Means, ◌and◌, either, either_fails}
use Rattle.machine.proofs.Find.{found, first}

-- ---- 5: the first thread with a long script
module _ (s : Lent) where
  long_found : long_thread s.lens < length s.lens → longest_script < (scripts_of s).len (long_thread s.lens)
  long_found h = ltb-true _ _ (found _ _ h)

  long_first : (t : ℕ) → t < length s.lens → longest_script < (scripts_of s).len t → long_thread s.lens ≤ t
  long_first t h long = first _ _ t h (lt-ltb _ _ long)

pub first_long : FirstLong
unfolding beside
first_long s t h long =
    let low : long_thread s.lens ≤ t = long_first s t h long in
    let below : long_thread s.lens < length s.lens = omega arith in
    (low, below, long_found s below)

-- ---- 7: the first thread with a wrong code or value, and in it the first place
module _ (s : Lent) where
  abbrev thread : ℕ
  thread = wrong_thread (scripts_of s) (length s.lens)

  abbrev place : ℕ → ℕ
  place t = wrong_place (scripts_of s) t

  place_found : (t : ℕ) → t < length s.lens → place t < (scripts_of s).len t → WrongAt s t (place t)
  place_found t h below = (h, below, found _ _ below)

  place_first : (t k : ℕ) → WrongAt s t k → place t ≤ k
  place_first t k w = first _ _ k w.1 w.2

  thread_found : thread < length s.lens → WrongAt s thread (place thread)
  thread_found h = place_found thread h (ltb-true _ _ (found _ _ h))

  thread_first : (t k : ℕ) → WrongAt s t k → thread ≤ t
  thread_first t k w = first _ _ t w.0 (lt-ltb (place t) ((scripts_of s).len t) (omega (arith, place_first t k w)))

pub first_wrong : FirstWrong
unfolding beside
first_wrong s t k w =
    let low : thread s ≤ t = thread_first s t k w in
    (thread_found s (omega arith), low, place_first s (thread s))

pub beside_others : BesideOthers
unfolding beside
beside_others s k = (refl, λ long wrong. rw (ne_eqb k script_too_long long, ne_eqb k wrong_code wrong), λ wrong. rw (ne_eqb k wrong_code wrong))

-- ---- each check has its condition, and each condition its check
module _ (s : Lent) (n : ℕ) where
  stray : (t k : ℕ) → t < length s.lens → k < (scripts_of s).len t
      → (not (eqb ((scripts_of s).op t k) release_write) && not (eqb ((scripts_of s).val t k) 0)) ≡ true → OfLists s n wrong_code
  stray t k h b e =
      let (o, v) = (and-eq-true_iff _ _).0 e in
      stray_value t k h b (eqb-false _ _ (not-true _ o)) (eqb-false _ _ (not-true _ v))

  code_means : (t k : ℕ) → WrongAt s t k → OfLists s n wrong_code
  code_means t k (h, b, w) =
      either _ _ (λ e. no_code t k h b (eqb-true _ _ e))
      (either _ _ (λ e. unknown_code t k h b (ltb-true _ _ e)) (stray t k h b)) w

  lengths_mean : (eqb (length s.ops) (total s.lens) && (eqb (length s.vals) (total s.lens) && eqb n (length s.lens))) ≡ false
      → OfLists s n wrong_lengths
  lengths_mean =
      either_fails _ _ (λ e. operations (eqb-false _ _ e))
      (either_fails _ _ (λ e. values (eqb-false _ _ e)) (λ e. records (eqb-false _ _ e)))

  pub lists_mean : Means (OfLists s n) (list_checks s n)
  lists_mean =
      (λ t. for_too_long (long_thread s.lens) (ltb-true _ _ t) (long_found s (ltb-true _ _ t)))
      and (λ t. lengths_mean (not-true _ t))
      and (λ t. code_means (thread s) (place s (thread s)) (thread_found s (ltb-true _ _ t)))
      and tt

  code_found : (t k : ℕ) → WrongAt s t k → Applies (list_checks s n) wrong_code
  code_found t k w = inr (inr (inl (refl, lt-ltb (thread s) (length s.lens) (omega (arith, thread_first s t k w)))))

  pub lists_find : (k : ℕ) → OfLists s n k → Applies (list_checks s n) k
  lists_find k (for_too_long t h long) = inl (refl, lt-ltb (long_thread s.lens) (length s.lens) (omega (arith, long_first s t h long)))
  lists_find k (operations ne) = inr (inl (refl, rw (ne_eqb _ _ ne)))
  lists_find k (values ne) = inr (inl (refl, rw (ne_eqb _ _ ne, and-false)))
  lists_find k (records ne) = inr (inl (refl, simp (ne_eqb _ _ ne, and-false)))
  lists_find k (no_code t j h b e) = code_found t j (h, b, rw e)
  lists_find k (unknown_code t j h b e) = code_found t j (h, b, rw (lt-ltb _ _ e, or-true))
  lists_find k (stray_value t j h b o v) = code_found t j (h, b, simp (ne_eqb _ _ o, ne_eqb _ _ v, or-true))
