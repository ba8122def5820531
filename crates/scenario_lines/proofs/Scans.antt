-- One turn of each search of a line is one unfolding of its definition.
-- Assumes nothing.
use Prim.Native.Nat.{ℕ, suc, ◌+◌, ◌-◌, ◌*◌, ◌≤◌, ◌<◌}
use mathlib.Core.Bool.{Bool, true, false, not, cond, ◌&&◌}
use mathlib.Core.Path.{◌≡◌, refl, sym, ap, ◌∙◌}
use mathlib.Core.List.{List, [], ◌∷◌}
use native.Mathlib.Numerals.{add-one}
use native.Mathlib.Omega.{arith}
use borrow.Author.Tests.{lt-ltb, le-ltb, eq-eqb, ne_eqb, ltb-true, ltb-false}
use lib.ListN.{length, get_or, drop, take, drop_of_length-le, length-drop}
use lib.Seq.{drop-cons, take_all}
use lib.Dec.{ltb, eqb, eqb-suc-suc}
use Rattle.std.specs.Cmp.Lexicographic.{pointwise}
use Rattle.std.specs.List.{list_all}
use Rattle.std.specs.Prelude.{Option, Some, None}
use Rattle.scenario_lines.specs.Lines.{glue}
use Rattle.scenario_lines.specs.Number.{number, plainly, digits, digit, decimal, fits, more, scan, onward}
use Rattle.scenario_lines.specs.Judge.{equal, clean, foul, fields, comma_at}

module _ (s : List ℕ) (i : ℕ) where
  pub scan_no : (v : ℕ) → i < length s → more v (get_or s i 0) ≡ None → scan v (drop i s) ≡ None
  unfolding scan
  scan_no v h e = rw (drop-cons s i 0, e)

  pub scan_is : (v x : ℕ) → i < length s → more v (get_or s i 0) ≡ Some x → scan v (drop i s) ≡ scan x (drop (i + 1) s)
  unfolding scan
  scan_is v x h e = rw (add-one, drop-cons s i 0, e)

  pub scan_over : (v : ℕ) → length s ≤ i → scan v (drop i s) ≡ Some v
  unfolding scan
  scan_over v h = rw (drop_of_length-le s h)

pub clean_all : (l : List ℕ) → list_all (λ b. not (foul b)) l ≡ clean l
unfolding clean
clean_all [] = refl
clean_all (b ∷ l) = rw (clean_all l)

-- two texts are the same, byte by byte
pub equal_pointwise : (s t : List ℕ) → pointwise eqb s t ≡ equal s t
unfolding equal
equal_pointwise [] [] = refl
equal_pointwise [] (y ∷ t) = refl
equal_pointwise (x ∷ s) [] = refl
equal_pointwise (x ∷ s) (y ∷ t) = rw (equal_pointwise s t)

-- the bytes of t stand in s from a place on
abbrev reads : List ℕ → ℕ → List ℕ → Bool
reads s i [] = true
reads s i (y ∷ t) = eqb (get_or s i 0) y && reads s (suc i) t

reads_behind : (x : ℕ) (s : List ℕ) (i : ℕ) (t : List ℕ) → reads (x ∷ s) (suc i) t ≡ reads s i t
reads_behind x s i [] = refl
reads_behind x s i (y ∷ t) = ap (λ (b : Bool). eqb (get_or s i 0) y && b) (reads_behind x s (suc i) t)

turned : (a b c : Bool) → (a && (b && c)) ≡ (b && (a && c))
turned true b c = refl
turned false true c = refl
turned false false c = refl

pub equal_reads : (s t : List ℕ) → equal s t ≡ (eqb (length s) (length t) && reads s 0 t)
unfolding equal
equal_reads [] [] = refl
equal_reads [] (y ∷ t) = rw (ne_eqb 0 (suc (length t)) (λ e. omega arith))
equal_reads (x ∷ s) [] = rw (ne_eqb (suc (length s)) 0 (λ e. omega arith))
equal_reads (x ∷ s) (y ∷ t) = rw (equal_reads s t, reads_behind x s 0 t, eqb-suc-suc (length s) (length t)) (turned (eqb x y) (eqb (length s) (length t)) (reads s 0 t))

pub equal_unlike : (s t : List ℕ) → (length s ≡ length t → ⊥) → equal s t ≡ false
unfolding equal
equal_unlike [] [] h = absurd (h refl)
equal_unlike [] (y ∷ t) h = refl
equal_unlike (x ∷ s) [] h = refl
equal_unlike (x ∷ s) (y ∷ t) h = rest (eqb x y) x y s t (equal_unlike s t (λ e. h (ap suc e)))
  where
    rest : (b : Bool) (x y : ℕ) (s t : List ℕ) → equal s t ≡ false → (b && equal s t) ≡ false
    rest true x y s t e = e
    rest false x y s t e = refl

module _ (s t : List ℕ) (i : ℕ) where
  pub equal_hit : i < length s → i < length t → (get_or s i 0 ≡ get_or t i 0 → ⊥) → equal (drop i s) (drop i t) ≡ false
  unfolding equal
  equal_hit h k e = rw (drop-cons s i 0, drop-cons t i 0, ne_eqb (get_or s i 0) (get_or t i 0) e)

  pub equal_miss : i < length s → i < length t → get_or s i 0 ≡ get_or t i 0 → equal (drop i s) (drop i t) ≡ equal (drop (i + 1) s) (drop (i + 1) t)
  unfolding equal
  equal_miss h k e = rw (add-one, drop-cons s i 0, drop-cons t i 0, eq-eqb (get_or s i 0) (get_or t i 0) e)

  pub equal_over : length s ≤ i → length t ≤ i → equal (drop i s) (drop i t) ≡ true
  unfolding equal
  equal_over h k = rw (drop_of_length-le s h, drop_of_length-le t k)

-- the fields of a line with a comma, and of one without
split_here : (t : Bool) (b : ℕ) (l : List ℕ) → cond t 0 (suc (comma_at l)) < suc (length l)
    → (comma_at l < length l → fields l ≡ take (comma_at l) l ∷ fields (drop (suc (comma_at l)) l))
    → cond t ([] ∷ fields l) (glue b (fields l)) ≡ take (cond t 0 (suc (comma_at l))) (b ∷ l) ∷ fields (drop (suc (cond t 0 (suc (comma_at l)))) (b ∷ l))
split_here true b l h ih = refl
split_here false b l h ih = rw (ih (omega arith))

pub fields_hit : (l : List ℕ) → comma_at l < length l → fields l ≡ take (comma_at l) l ∷ fields (drop (suc (comma_at l)) l)
unfolding comma_at fields
fields_hit [] h = absurd (omega arith)
fields_hit (b ∷ l) h = split_here (eqb b 44) b l h (fields_hit l)

whole_here : (t : Bool) (b : ℕ) (l : List ℕ) → suc (length l) ≤ cond t 0 (suc (comma_at l)) → (length l ≤ comma_at l → fields l ≡ l ∷ [])
    → cond t ([] ∷ fields l) (glue b (fields l)) ≡ (b ∷ l) ∷ []
whole_here true b l h ih = absurd (omega arith)
whole_here false b l h ih = rw (ih (omega arith))

pub fields_miss : (l : List ℕ) → length l ≤ comma_at l → fields l ≡ l ∷ []
unfolding comma_at fields
fields_miss [] h = refl
fields_miss (b ∷ l) h = whole_here (eqb b 44) b l h (fields_miss l)

-- a digit at a time is the number
grows : (l : List ℕ) (v : ℕ) → v ≤ decimal v l
unfolding decimal
grows [] v = omega arith
grows (b ∷ l) v =
    let h = grows l (v * 10 + (b - 48)) in
    omega arith

no_either : (t : Bool) (p : Option ℕ) → p ≡ None → None ≡ cond t p None
no_either true p e = sym e
no_either false p e = refl

a_digit : (t u : Bool) (w : ℕ) (l : List ℕ) → ltb w 18446744073709551616 ≡ u
    → ((v : ℕ) → v < 18446744073709551616 → scan v l ≡ cond (digits l) (fits (decimal v l)) None)
    → onward (cond t (cond u (Some w) None) None) (λ x. scan x l) ≡ cond (t && digits l) (fits (decimal w l)) None
a_digit false u w l e ih = refl
a_digit true true w l e ih = ih w (ltb-true w _ e)
a_digit true false w l e ih =
    let h : 18446744073709551616 ≤ w = ltb-false w _ e in
    let g = grows l w in
    no_either (digits l) (fits (decimal w l)) (rw (le-ltb (decimal w l) 18446744073709551616 (omega arith)))

pub scan_number : (l : List ℕ) (v : ℕ) → v < 18446744073709551616 → scan v l ≡ cond (digits l) (fits (decimal v l)) None
unfolding scan digits decimal more
scan_number [] v h = rw (lt-ltb v 18446744073709551616 h)
scan_number (b ∷ l) v h = a_digit (digit b) (ltb (v * 10 + (b - 48)) 18446744073709551616) (v * 10 + (b - 48)) l refl (scan_number l)

pub number_none : (l : List ℕ) → length l ≡ 0 → number l ≡ None
unfolding number plainly
number_none [] h = refl
number_none (b ∷ l) h = absurd (omega arith)

pub number_zero : (l : List ℕ) → length l ≡ 1 → get_or l 0 0 ≡ 48 → number l ≡ Some 0
unfolding number plainly decimal
number_zero [] h e = absurd (omega arith)
number_zero (b ∷ []) h e = rw e
number_zero (b ∷ c ∷ l) h e = absurd (omega arith)

pub number_needless : (l : List ℕ) → (length l ≡ 0 → ⊥) → (length l ≡ 1 → ⊥) → get_or l 0 0 ≡ 48 → number l ≡ None
unfolding number plainly decimal
number_needless [] h g e = absurd (h refl)
number_needless (b ∷ []) h g e = absurd (g refl)
number_needless (b ∷ c ∷ l) h g e = rw e

one_digit : (t : Bool) → t ≡ (t && true)
one_digit true = refl
one_digit false = refl

pub number_scan : (l : List ℕ) → (length l ≡ 0 → ⊥) → (get_or l 0 0 ≡ 48 → ⊥) → number l ≡ scan 0 l
unfolding number plainly digits
number_scan [] h e = absurd (h refl)
number_scan (b ∷ []) h e = ap (λ (t : Bool). cond t (fits (decimal 0 (b ∷ []))) None) (one_digit (digit b)) ∙ sym (scan_number (b ∷ []) 0 (omega arith))
number_scan (b ∷ c ∷ l) h e = rw (ne_eqb b 48 e) (sym (scan_number (b ∷ c ∷ l) 0 (omega arith)))

pub part_whole : (xs : List ℕ) (p : ℕ) → take (length xs - p) (drop p xs) ≡ drop p xs
part_whole xs p = take_all (length xs - p) (drop p xs) (omega (arith, length-drop p xs))

pub fields_cut : (l : List ℕ) (n : ℕ) → n ≡ comma_at l → n < length l → fields l ≡ take n l ∷ fields (drop (n + 1) l)
fields_cut l n e h = rw (add-one, e) (fields_hit l (rw e at h))

pub fields_one : (l : List ℕ) (n : ℕ) → n ≡ comma_at l → length l ≤ n → fields l ≡ l ∷ []
fields_one l n e h = fields_miss l (rw e at h)
