-- Digits and single bytes of a chunk, a byte at a time, make a number and a run line. Assumes nothing.
use Rattle.std.proofs.Common.{◌≡◌, ℕ, suc, ◌+◌, ◌-◌, ◌*◌, ◌^◌, ◌<◌, ◌≤◌, Bool, true, false, ◌&&◌, List, [], ◌∷◌, ◌++◌, length, get_or, take, drop, sym, refl, ap, ◌∙◌, add-one, arith, take-append-drop, length-take-le, take-suc, lt-ltb, ne_eqb, le-leb}
use mathlib.Core.Bool.{false≢true}
use lib.Seq.{slice, slice-cons, slice_empty, drop-append-le}
use Rattle.std.specs.Prelude.{Some}
use Rattle.scenario_lines.specs.Number.{digit, digits, number, plainly, decimal}
use Rattle.scenario_read.specs.RunAt.{NumberAt}

-- ---- parts of a list
module _ (s : List ℕ) where
  pub drop_slice : (f t : ℕ) → f ≤ t → t ≤ length s → drop f s ≡ slice f t s ++ drop t s
  drop_slice f t h k =
      ap (drop f) (sym (take-append-drop t s))
      ∙ drop-append-le f (take t s) (drop t s) (rw (length-take-le t s k) h)

  pub slice_more : (f t : ℕ) → f ≤ t → t < length s → slice f (t + 1) s ≡ slice f t s ++ (get_or s t 0 ∷ [])
  slice_more f t h k =
      ap (λ (n : ℕ). slice f n s) (add-one t)
      ∙ ap (drop f) (take-suc s t 0 k)
      ∙ drop-append-le f (take t s) (get_or s t 0 ∷ []) (rw (length-take-le t s (omega arith)) h)

-- ---- a digit more
pub is_digit : (b : ℕ) → 48 ≤ b → b ≤ 57 → digit b ≡ true
is_digit b low high = rw (le-leb 48 b low, le-leb b 57 high) refl

digits_more : (l : List ℕ) (b : ℕ) → digits l ≡ true → digit b ≡ true → digits (l ++ (b ∷ [])) ≡ true
unfolding digits
digits_more [] b e f = rw f refl
digits_more (x ∷ l) b e f = go (digit x) l b e f (digits_more l b)
  where
    go : (t : Bool) (l : List ℕ) (b : ℕ) → (t && digits l) ≡ true → digit b ≡ true → (digits l ≡ true → digit b ≡ true → digits (l ++ (b ∷ [])) ≡ true) → (t && digits (l ++ (b ∷ []))) ≡ true
    go true l b e f ih = ih e f
    go false l b e f ih = absurd (false≢true e)

decimal_more : (l : List ℕ) (v b : ℕ) → decimal v (l ++ (b ∷ [])) ≡ decimal v l * 10 + (b - 48)
unfolding decimal
decimal_more [] v b = refl
decimal_more (x ∷ l) v b = decimal_more l (v * 10 + (x - 48)) b

-- the bytes from a place up to another are digits, and have this value
abbrev pub Counted : List ℕ → ℕ → ℕ → ℕ → Type 0
Counted s from i v = (digits (slice from i s) ≡ true) × (decimal 0 (slice from i s) ≡ v)

module _ (s : List ℕ) (from : ℕ) where
  pub count_more : (i v : ℕ) → from ≤ i → i < length s → Counted s from i v → (48 ≤ get_or s i 0) × (get_or s i 0 ≤ 57)
      → Counted s from (i + 1) (v * 10 + (get_or s i 0 - 48))
  count_more i v h k (plain, worth) (low, high) =
      rw (slice_more s from i h k, decimal_more (slice from i s) 0 (get_or s i 0), worth)
      (digits_more (slice from i s) (get_or s i 0) plain (is_digit (get_or s i 0) low high), refl)

  pub count_first : from < length s → (48 ≤ get_or s from 0) × (get_or s from 0 ≤ 57) → Counted s from (from + 1) (get_or s from 0 - 48)
  unfolding digits decimal
  count_first k (low, high) =
      let (plain, worth) = count_more from 0 (omega arith) k (rw (slice_empty from s) (refl, refl)) (low, high) in
      (plain, worth ∙ omega arith)

  says_number : (b : ℕ) (l : List ℕ) (v : ℕ) → (b ≡ 48 → ⊥) → digits (b ∷ l) ≡ true → decimal 0 (b ∷ l) ≡ v → v < 65536 → number (b ∷ l) ≡ Some v
  unfolding number plainly digits
  says_number b [] v apart plain worth few = rw (first_so (digit b) plain, worth, lt-ltb v (2 ^ 64) (omega arith)) refl
    where
      first_so : (t : Bool) → (t && true) ≡ true → t ≡ true
      first_so true e = refl
      first_so false e = e
  says_number b (x ∷ l) v apart plain worth few = rw (ne_eqb b 48 apart, plain, worth, lt-ltb v (2 ^ 64) (omega arith)) refl

  pub number_stands : (i v : ℕ) → from < i → i ≤ length s → Counted s from i v → (get_or s from 0 ≡ 48 → ⊥) → v < 65536 → NumberAt s from i v
  number_stands i v h k (plain, worth) apart few =
      let e = slice-cons from i s 0 h k in
      record {
        onward = h;
        inside = k;
        plain = plain;
        says = rw e (says_number (get_or s from 0) (slice (suc from) i s) v apart (rw e at plain) (rw e at worth) few);
      }

  pub zero_stands : from < length s → get_or s from 0 ≡ 48 → NumberAt s from (from + 1) 0
  unfolding number plainly digits decimal
  zero_stands h e =
      let f : slice from (from + 1) s ≡ 48 ∷ [] = slice_more s from from (omega arith) h ∙ rw (slice_empty from s, e) refl in
      record { onward = omega arith; inside = omega arith; plain = rw f refl; says = rw f refl }
