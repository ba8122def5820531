-- Bytes stored one after the other, in either order, are stored together. Assumes nothing.
use Prim.Native.Nat.{ℕ, suc, ◌+◌, ◌-◌, ◌/◌, ◌%◌, ◌^◌, ◌<◌, ◌≤◌}
use mathlib.Core.Bool.{Bool, true, false}
use borrow.Author.Tests.{le-leb, lt-leb, leb-true, leb-false}
use mathlib.Core.Path.{◌≡◌, refl, sym, ap, ◌∙◌}
use mathlib.Core.List.{List, [], ◌∷◌, ◌++◌}
use native.Mathlib.Omega.{arith}
use lib.Dec.{leb}
use lib.ListN.{length, set, length-append}
use lib.Seq.{set_comm, sets, length-sets}
use Rattle.scenario_text.specs.Number.{text}
use Rattle.scenario_text.specs.Put.{Put, stored, place_after}
use Rattle.scenario_text.proofs.Digits.{text_one, text_more}

pub sets_append : (a b l : List ℕ) (i : ℕ) → sets l i (a ++ b) ≡ sets (sets l i a) (i + length a) b
sets_append [] b l i = let e : i + 0 ≡ i = omega arith in rw e
sets_append (x ∷ a) b l i =
    let e : i + suc (length a) ≡ suc i + length a = omega arith in
    rw e (sets_append a b (set l i x) (suc i))

-- a byte behind the others, stored before them
before : (a l : List ℕ) (i j x : ℕ) → i + length a ≤ j → set (sets l i a) j x ≡ sets (set l j x) i a
before [] l i j x h = refl
before (y ∷ a) l i j x h =
    before a (set l i y) (suc i) j x (omega arith) ∙ ap (λ (m : List ℕ). sets m (suc i) a) (set_comm l i j y x (λ e. omega arith))

sets_last : (a l : List ℕ) (i j x : ℕ) → j ≡ i + length a → sets l i (a ++ (x ∷ [])) ≡ sets (set l j x) i a
sets_last a l i j x e = sets_append a (x ∷ []) l i ∙ rw (← e) (before a l i j x (omega arith))

-- the last digit of a number, stored before the others
pub last_stored : {s : List ℕ} (a l : List ℕ) (at p x d : ℕ) → s ≡ a ++ (x ∷ []) → p ≡ at + length a → d ≡ x → sets l at s ≡ sets (set l p d) at a
last_stored a l at p x d g e f = rw (g, f) (sets_last a l at p x e)

-- ---- the loop over digits: a digit, and the digits before it
pub digit_stored : (l : List ℕ) (at p w d : ℕ) → 10 ≤ w → w < 2 ^ 64 → p ≡ at + length (text (w / 10)) → d ≡ 48 + w % 10
    → sets l at (text w) ≡ sets (set l p d) at (text (w / 10))
digit_stored l at p w d h g e f = last_stored (text (w / 10)) l at p (48 + w % 10) d (text_more w h g) e f

pub first_stored : (l : List ℕ) (at w d : ℕ) → w < 10 → d ≡ 48 + w → sets l at (text w) ≡ set l at d
first_stored l at w d h f = rw (text_one w h, f)

-- ---- what was stored
pub puts : (o p s : List ℕ) (at r most : ℕ) → r ≡ at + length s → p ≡ sets o at s → length s ≤ most → Put o at s most r p
puts o p s at r most e f h = record { next = e; left = f; room = omega arith; size = ap length f ∙ length-sets o at s }

-- two stores, one behind the other
pub both : {o p q s t : List ℕ} {at n r j k : ℕ} → Put o at s j n p → Put p n t k r q → Put o at (s ++ t) (j + k) r q
both {o} {p} {q} {s} {t} {at} {n} {r} {j} {k} a b = record {
  next = omega (arith, a.next, b.next, length-append s t);
  left = b.left ∙ rw (a.left, a.next) (sym (sets_append s t o at));
  room = omega (arith, a.room, b.room);
  size = b.size ∙ a.size;
}

pub one_more : {o p s : List ℕ} {at n k : ℕ} (b : ℕ) → Put o at s k n p → Put o at (s ++ (b ∷ [])) (k + 1) (n + 1) (set p n b)
one_more {o} {p} {s} {at} {n} {k} b a =
    both a (puts p (set p n b) (b ∷ []) n (n + 1) 1 (omega arith) refl (omega arith))

-- ---- what the public functions say of it
module _ {o p s : List ℕ} {at r most : ℕ} where
  pub told : leb (at + most) (length o) ≡ true → Put o at s most r p → (r ≡ place_after most o at s) × (p ≡ stored most o at s)
  told e a = rw e (a.next, a.left)

pub untold : (o s : List ℕ) (at most : ℕ) → leb (at + most) (length o) ≡ false → (at ≡ place_after most o at s) × (o ≡ stored most o at s)
untold o s at most e = rw e (refl, refl)

-- and where there is room, what they say is that the text was stored
pub put_so : (o p s : List ℕ) (at r most : ℕ) → at + most ≤ length o → length s ≤ most → (r ≡ place_after most o at s) × (p ≡ stored most o at s)
    → Put o at s most r p
put_so o p s at r most room short (place, left) =
    let fits = le-leb (at + most) (length o) room in
    puts o p s at r most (rw fits at place) (rw fits at left) short

room_by : (t : Bool) (len at most : ℕ) → most ≤ len → leb at (len - most) ≡ t → t ≡ leb (at + most) len
room_by true len at most h e = sym (le-leb (at + most) len (omega (arith, leb-true at (len - most) e)))
room_by false len at most h e = sym (lt-leb (at + most) len (omega (arith, leb-false at (len - most) e)))

pub room_left : (len at most : ℕ) → most ≤ len → leb at (len - most) ≡ leb (at + most) len
room_left len at most h = room_by (leb at (len - most)) len at most h refl

-- ---- tests
-- two tests that hold together
pub tests_alike : (a b c d : ℕ) → (a ≤ b → c ≤ d) → (c ≤ d → a ≤ b) → leb a b ≡ leb c d
tests_alike a b c d to from = go (leb a b) refl (leb c d) refl
  where
    go : (s : Bool) → leb a b ≡ s → (t : Bool) → leb c d ≡ t → s ≡ t
    go true e true f = refl
    go false e false f = refl
    go true e false f = absurd (omega (arith, leb-false c d f, to (leb-true a b e)))
    go false e true f = absurd (omega (arith, leb-false a b e, from (leb-true c d f)))
