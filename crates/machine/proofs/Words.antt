-- How rows lie in a trace list: six words a row, one row after the other; and what is counted in the rows is counted in their words.
use Prim.Native.Nat.{ℕ, zero, suc, ◌+◌, ◌-◌, ◌*◌, ◌<◌, ◌≤◌}
use mathlib.Core.Path.{◌≡◌, refl, ap, sym, ◌∙◌}
use mathlib.Core.List.{List, [], ◌∷◌, ◌++◌}
use native.Mathlib.Nat.{add-zero, not-suc-le-zero, le_of_suc-le-suc}
use native.Mathlib.Omega.{arith}
use lib.Dec.{eqb}
use lib.ListN.{length, get_or, drop}
use lib.Seq.{length-take-le, length_front, drop-drop, get_or-drop, get_or-append-add}
use Rattle.machine.specs.Names.{row_words}
use Rattle.machine.specs.Words.{bit}
use Rattle.machine.specs.Run.{accepted, words_of}
use Rattle.machine.specs.RunLaws.{zero_answers}
use Rattle.machine.specs.declared.Row.{Row}

six_each : (rows : List Row) → length (words_of rows) ≡ row_words * length rows
unfolding words_of
six_each [] = refl
six_each (r ∷ rows) = omega (arith, six_each rows)

pub words_length : (rows : List Row) (n : ℕ) → length rows ≡ n → length (words_of rows) ≡ row_words * n
words_length rows n many = rw many at (six_each rows)

pub words_append : (rows more : List Row) → words_of (rows ++ more) ≡ words_of rows ++ words_of more
unfolding words_of
words_append [] more = refl
words_append (r ∷ rows) more = rw (words_append rows more)

pub accepted_append : (rows more : List Row) → accepted (rows ++ more) ≡ accepted rows + accepted more
unfolding accepted
accepted_append [] more = omega arith
accepted_append (r ∷ rows) more = omega (arith, accepted_append rows more)

-- the third word is the answer
pub zeros_accepted : (rows : List Row) (rest : List ℕ) → zero_answers (length rows) (words_of rows ++ rest) ≡ accepted rows
unfolding words_of accepted zero_answers
zeros_accepted [] rest = refl
zeros_accepted (r ∷ rows) rest = ap (λ (n : ℕ). bit (eqb r.answer 0) + n) (zeros_accepted rows rest)

-- row k's words, and all that comes after them
from_row : (rows : List Row) (rest : List ℕ) (k : ℕ) (d : Row) → k < length rows
    → drop (row_words * k) (words_of rows ++ rest) ≡ words_of (get_or rows k d ∷ drop (suc k) rows) ++ rest
unfolding words_of
from_row [] rest k d h = absurd (not-suc-le-zero h)
from_row (r ∷ rows) rest zero d h = refl
from_row (r ∷ rows) rest (suc k) d h =
    let whole = words_of (r ∷ rows) ++ rest in
    let shift : row_words * suc k ≡ row_words + row_words * k = omega arith in
    ap (λ (n : ℕ). drop n whole) shift ∙ sym (drop-drop (row_words * k) row_words whole) ∙ from_row rows rest k d (le_of_suc-le-suc h)

-- word j from row k on
word_at : (rows : List Row) (rest : List ℕ) (k j : ℕ) (d : Row) → k < length rows
    → get_or (words_of rows ++ rest) (row_words * k + j) 0 ≡ get_or (words_of (get_or rows k d ∷ drop (suc k) rows) ++ rest) j 0
word_at rows rest k j d h = sym (get_or-drop (row_words * k) (words_of rows ++ rest) j 0) ∙ ap (λ (l : List ℕ). get_or l j 0) (from_row rows rest k d h)

-- the six words of row k
pub row_at : (rows : List Row) (rest : List ℕ) (k : ℕ) (d : Row) → k < length rows
    → let words = words_of rows ++ rest in
    (get_or words (row_words * k) 0 ≡ (get_or rows k d).thread)
    × (get_or words (row_words * k + 1) 0 ≡ (get_or rows k d).access)
    × (get_or words (row_words * k + 2) 0 ≡ (get_or rows k d).answer)
    × (get_or words (row_words * k + 3) 0 ≡ (get_or rows k d).got)
    × (get_or words (row_words * k + 4) 0 ≡ (get_or rows k d).exc)
    × (get_or words (row_words * k + 5) 0 ≡ (get_or rows k d).rc)
unfolding words_of
row_at rows rest k d h = (
  rw add-zero at (word_at rows rest k 0 d h),
  word_at rows rest k 1 d h,
  word_at rows rest k 2 d h,
  word_at rows rest k 3 d h,
  word_at rows rest k 4 d h,
  word_at rows rest k 5 d h,
)

-- the words of n rows, written over the first words of a list
module _ (rows : List Row) (n : ℕ) (many : length rows ≡ n) (trace : List ℕ) where
  -- the other words stay
  pub rest_stays : (j : ℕ) → row_words * n ≤ j → get_or (words_of rows ++ drop (row_words * n) trace) j 0 ≡ get_or trace j 0
  rest_stays j past =
      let seam = length (words_of rows) in
      let long : seam ≡ row_words * n = words_length rows n many in
      let on : j ≡ seam + (j - seam) = omega arith in
      rw (← long, on) (get_or-append-add (words_of rows) (drop seam trace) (j - seam) 0 ∙ get_or-drop seam trace (j - seam) 0)

  pub length_stays : row_words * n ≤ length trace → length (words_of rows ++ drop (row_words * n) trace) ≡ length trace
  length_stays fits = length_front trace (words_of rows) (row_words * n) (words_length rows n many ∙ sym (length-take-le (row_words * n) trace fits))
