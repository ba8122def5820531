-- The tail of a list from k on: what a part `&mut xs[k..]` is, and what the slice is once the part is back. And a place past the end of a
-- list, cut at its end, parts the list as the place itself does.
use Prim.Native.Nat.{ℕ, ◌-◌, ◌<◌, ◌≤◌, min}
use mathlib.Core.Path.{◌≡◌, refl, sym, ap, ◌∙◌, subst}
use mathlib.Core.Bool.{Bool, true, false}
use mathlib.Core.List.{List, [], ◌++◌, append-nil}
use native.Mathlib.Nat.{le_refl, min-eq_left}
use native.Mathlib.Omega.{arith}
use lib.Dec.{leb}
use lib.ListN.{length, take, drop, length-drop, drop_of_length-le, take-append-drop}
use lib.Seq.{take_all, take-length, drop-length}
use package.borrow.Author.Tests.{leb-true, leb-false}
use package.borrow.Rule.Slice.PartMut.{mid_of, put_mid}

rest_none : {X : Type 0} (k : ℕ) (xs : List X) → drop (length xs - k) (drop k xs) ≡ []
rest_none k xs = drop_of_length-le (drop k xs) (subst (λ (m : ℕ). m ≤ length xs - k) (sym (length-drop k xs)) (le_refl (length xs - k)))

-- the part that is lent
pub tail_is : {X : Type 0} (k : ℕ) (xs : List X) → mid_of k (length xs - k) xs ≡ drop k xs
tail_is {X} k xs =
    sym (append-nil (mid_of k (length xs - k) xs))
    ∙ ap (λ (l : List X). mid_of k (length xs - k) xs ++ l) (sym (rest_none k xs))
    ∙ take-append-drop (length xs - k) (drop k xs)

-- the slice that comes back, with ys in the part's place
pub tail_put : {X : Type 0} (k : ℕ) (xs ys : List X) → put_mid k (length xs - k) xs ys ≡ take k xs ++ ys
tail_put {X} k xs ys = ap (λ (l : List X). take k xs ++ l) (ap (λ (l : List X). ys ++ l) (rest_none k xs) ∙ append-nil ys)

-- ---- cut at the end
module _ {X : Type 0} (k : ℕ) (xs : List X) where
  by_end : (P : ℕ → Type 0) → (k ≤ length xs → P k) → (length xs < k → P (length xs)) → P (min k (length xs))
  by_end P within past = go (leb k (length xs)) refl
    where
      go : (b : Bool) → leb k (length xs) ≡ b → P (min k (length xs))
      go true e = let h = leb-true _ _ e in subst P (sym (min-eq_left h)) (within h)
      go false e = let h : length xs < k = leb-false _ _ e in let m : min k (length xs) ≡ length xs = omega arith in subst P (sym m) (past h)

  pub drop_cut : drop (min k (length xs)) xs ≡ drop k xs
  drop_cut = by_end (λ (n : ℕ). drop n xs ≡ drop k xs) (λ h. refl) (λ h. drop-length xs ∙ sym (drop_of_length-le xs {i = k} (omega arith)))

  pub take_cut : take (min k (length xs)) xs ≡ take k xs
  take_cut = by_end (λ (n : ℕ). take n xs ≡ take k xs) (λ h. refl) (λ h. take-length xs ∙ sym (take_all k xs (omega arith)))

  -- the part from a place that is cut, and the slice with ys in that part's place
  module _ (n : ℕ) (cut : n ≡ min k (length xs)) where
    pub part_is : mid_of n (length xs - n) xs ≡ drop k xs
    part_is = tail_is n xs ∙ ap (λ (m : ℕ). drop m xs) cut ∙ drop_cut

    pub part_put : (ys : List X) → put_mid n (length xs - n) xs ys ≡ take k xs ++ ys
    part_put ys = tail_put n xs ys ∙ ap (λ (l : List X). l ++ ys) (ap (λ (m : ℕ). take m xs) cut ∙ take_cut)
