-- One turn of each search of a list is one unfolding of its definition. Assumes nothing.
use Prim.Native.Nat.{ℕ, zero, suc, ◌+◌, ◌-◌, ◌<◌, ◌≤◌}
use mathlib.Core.Bool.{Bool, true, false, ◌&&◌}
use mathlib.Core.Path.{◌≡◌, refl, ap, ◌∙◌}
use mathlib.Core.List.{List, [], ◌∷◌}
use native.Mathlib.Numerals.{add-one}
use native.Mathlib.Omega.{arith}
use borrow.Author.Tests.{eq-eqb, ne_eqb, le-leb, lt-leb}
use lib.Dec.{eqb}
use lib.ListN.{length, get_or, take, drop, drop_of_length-le}
use lib.Seq.{drop-cons, drop-nil}
use lib.Pointwise.{pointwise}
use Rattle.std.proofs.Common.{nat_eq}
use Rattle.scenario_lines.specs.Judge.{equal}
use Rattle.replay.specs.Lists.{part_of, place_of, front_then}

module _ {A : Type 0} (s : List A) (from to : ℕ) where
  pub part_in : to ≤ length s → part_of from to s ≡ take (to - from) (drop from s)
  unfolding part_of
  part_in h = rw (le-leb to (length s) h)

  pub part_past : length s < to → part_of from to s ≡ []
  unfolding part_of
  part_past h = rw (lt-leb to (length s) h)

  pub part_turned : to ≤ length s → to < from → part_of from to s ≡ []
  part_turned h g =
      let none : to - from ≡ 0 = omega arith in
      part_in h ∙ rw none

module _ (b : ℕ) (s : List ℕ) (i : ℕ) where
  pub place_hit : i < length s → get_or s i 0 ≡ b → place_of b (drop i s) ≡ 0
  unfolding place_of
  place_hit h e = rw (drop-cons s i 0, eq-eqb (get_or s i 0) b e)

  pub place_miss : i < length s → (get_or s i 0 ≡ b → ⊥) → place_of b (drop i s) ≡ suc (place_of b (drop (i + 1) s))
  unfolding place_of
  place_miss h e = rw (add-one, drop-cons s i 0, ne_eqb (get_or s i 0) b e)

  pub place_over : length s ≤ i → place_of b (drop i s) ≡ 0
  unfolding place_of
  place_over h = rw (drop_of_length-le s h)

-- ---- a front and an unchanged rest
pub front_long : (x : ℕ) (s t : List ℕ) → length s < length t → front_then x s t ≡ false
unfolding front_then
front_long x s [] h = absurd (omega arith)
front_long x [] (b ∷ t) h = refl
front_long x (a ∷ s) (b ∷ t) h = either (eqb a b) (front_long x s t (omega arith))
  where
    either : (y : Bool) {z : Bool} → z ≡ false → (y && z) ≡ false
    either true e = e
    either false e = refl

front_turn : (x : ℕ) (s t : List ℕ) (i : ℕ) → i < length s
    → front_then x (drop i s) (drop i t) ≡ (eqb (get_or s i 0) (get_or t i x) && front_then x (drop (suc i) s) (drop (suc i) t))
unfolding front_then
front_turn x [] t i h = absurd (omega arith)
front_turn x (a ∷ s) [] zero h = rw (drop-nil {A = ℕ} 1)
front_turn x (a ∷ s) (b ∷ t) zero h = refl
front_turn x (a ∷ s) [] (suc i) h = rw (drop-nil {A = ℕ} i) at (front_turn x s [] i (omega arith))
front_turn x (a ∷ s) (b ∷ t) (suc i) h = front_turn x s t i (omega arith)

module _ (x : ℕ) (s t : List ℕ) (i : ℕ) where
  pub front_hit : i < length s → (get_or s i 0 ≡ get_or t i x → ⊥) → front_then x (drop i s) (drop i t) ≡ false
  front_hit h e = front_turn x s t i h ∙ rw (ne_eqb (get_or s i 0) (get_or t i x) e)

  pub front_miss : i < length s → get_or s i 0 ≡ get_or t i x → front_then x (drop i s) (drop i t) ≡ front_then x (drop (i + 1) s) (drop (i + 1) t)
  front_miss h e = front_turn x s t i h ∙ rw (eq-eqb (get_or s i 0) (get_or t i x) e, add-one)

  pub front_over : length s ≤ i → length t ≤ i → front_then x (drop i s) (drop i t) ≡ true
  unfolding front_then
  front_over h k = rw (drop_of_length-le s h, drop_of_length-le t k)

-- ---- two lists compared
pub same_so : (s t : List ℕ) → pointwise nat_eq s t ≡ equal s t
unfolding equal
same_so [] [] = refl
same_so [] (y ∷ t) = refl
same_so (x ∷ s) [] = refl
same_so (x ∷ s) (y ∷ t) = ap (λ (e : Bool). eqb x y && e) (same_so s t)

-- what stands in a list is there whatever is said of what lies past it
pub get_d_other : (l : List ℕ) (i x : ℕ) → i < length l → get_or l i 0 ≡ get_or l i x
get_d_other [] i x h = absurd (omega arith)
get_d_other (a ∷ l) zero x h = refl
get_d_other (a ∷ l) (suc i) x h = get_d_other l i x (omega arith)
