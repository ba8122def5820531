-- One turn of the loop over the rest of a script is one unfolding of `tidy_rest`; and where a script starts may be cut at a list's end.
use Prim.Native.Nat.{ℕ, suc, ◌+◌, ◌-◌, ◌<◌, ◌≤◌, min}
use mathlib.Core.Path.{◌≡◌, refl, sym}
use mathlib.Core.Logic.{⊎_elim}
use mathlib.Core.Bool.{Bool, true, false, ◌||◌, true≢false, and_assoc}
use mathlib.Core.List.{List}
use native.Mathlib.Omega.{arith}
use lib.Dec.{eqb}
use lib.ListN.{length}
use Rattle.cell.specs.Pred.{permits}
use Rattle.cell.specs.declared.pred.Pred.{Pred}
use Rattle.machine.specs.Names.{acquire_read, borrows, release_read, acquire_write, release_write}
use Rattle.machine.specs.Tidy.{Mode, Free, InRead, InWrite, tidy_rest}
use Rattle.machine.proofs.Every.{says_eqb, says_so, and_both, or_either}
use Rattle.lock_scripts.proofs.Starts.{capped}
use Rattle.lock_tidy.specs.Rests.{mode, goes_on, held_after, is_free, words_at}

-- where not even one of two holds, neither does
neither : (b c : Bool) → (b || c) ≡ false → (b ≡ false) × (c ≡ false)
neither true c e = absurd (true≢false e)
neither false c e = (refl, e)

module _ (q : Pred) (ops vals : ℕ → ℕ) where
  -- an operation that may stand there leads on to the rest behind it, and any other ends the test
  on : (m : Mode) (at left : ℕ) → goes_on q m (ops at) (vals at) ≡ true → tidy_rest q ops vals m at (suc left) ≡ tidy_rest q ops vals (mode (held_after (ops at))) (at + 1) left
  unfolding tidy_rest
  on Free at left e = ⊎_elim (λ o. rw o) (λ o. rw o) ((or_either (says_eqb (ops at) acquire_read) (says_eqb (ops at) acquire_write)).0 e)
  on InRead at left e = ⊎_elim (λ o. rw o) (λ o. rw o) ((or_either (says_eqb (ops at) borrows) (says_eqb (ops at) release_read)).0 e)
  on InWrite at left e = let w = (and_both (says_eqb (ops at) release_write) (says_so (permits q (vals at)))).0 e in rw (w.0, w.1)

  off : (m : Mode) (at left : ℕ) → goes_on q m (ops at) (vals at) ≡ false → tidy_rest q ops vals m at (suc left) ≡ false
  unfolding tidy_rest
  off Free at left e = let w = neither (eqb (ops at) acquire_read) (eqb (ops at) acquire_write) e in rw (w.0, w.1)
  off InRead at left e = let w = neither (eqb (ops at) borrows) (eqb (ops at) release_read) e in rw (w.0, w.1)
  off InWrite at left e = rw (← and_assoc (eqb (ops at) release_write) (permits q (vals at)) (tidy_rest q ops vals Free (at + 1) left), e)

  over : (m : Mode) (at : ℕ) → tidy_rest q ops vals m at 0 ≡ is_free m
  unfolding tidy_rest
  over Free at = refl
  over InRead at = refl
  over InWrite at = refl

  -- the same with what is left as the difference to the script's length
  module _ (m : Mode) (at n : ℕ) where
    pub rest_on : at < n → goes_on q m (ops at) (vals at) ≡ true → tidy_rest q ops vals (mode (held_after (ops at))) (at + 1) (n - (at + 1)) ≡ tidy_rest q ops vals m at (n - at)
    rest_on h e = let s : n - at ≡ suc (n - (at + 1)) = omega arith in rw s (sym (on m at (n - (at + 1)) e))

    pub rest_off : at < n → goes_on q m (ops at) (vals at) ≡ false → false ≡ tidy_rest q ops vals m at (n - at)
    rest_off h e = let s : n - at ≡ suc (n - (at + 1)) = omega arith in rw s (sym (off m at (n - (at + 1)) e))

    pub rest_over : n ≤ at → is_free m ≡ tidy_rest q ops vals m at (n - at)
    rest_over h = let s : n - at ≡ 0 = omega arith in rw s (sym (over m at))

-- a start that is cut at a list's end reads the same words
same_words : (words : List ℕ) (s : ℕ) → words_at words (min s (length words)) ≡ words_at words s
same_words words s = λ i k. capped words s k i

pub rest_cut : (q : Pred) (ops vals : List ℕ) (s t : ℕ) (m : Mode) (at left : ℕ)
    → tidy_rest q (words_at ops (min s (length ops))) (words_at vals (min t (length vals))) m at left ≡ tidy_rest q (words_at ops s) (words_at vals t) m at left
rest_cut q ops vals s t m at left = λ i. tidy_rest q (same_words ops s i) (same_words vals t i) m at left
