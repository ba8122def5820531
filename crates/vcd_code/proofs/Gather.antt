-- One turn of each search of the bytes ahead is one unfolding of its definition. Assumes nothing.
use Prim.Native.Nat.{ℕ, ◌+◌, ◌-◌, ◌*◌, ◌^◌, ◌≤◌, ◌<◌}
use mathlib.Core.Bool.{Bool, true, false, ◌||◌, cond, false≢true}
use mathlib.Core.Path.{◌≡◌, refl, sym, ◌∙◌}
use mathlib.Core.List.{List, [], ◌∷◌}
use native.Mathlib.Numerals.{add-one}
use native.Mathlib.Omega.{arith}
use borrow.Author.Tests.{lt-ltb, le-ltb, eq-eqb, ne_eqb, eqb-true, eqb-false}
use lib.Dec.{eqb}
use lib.ListN.{length, get_or, take, drop, drop_of_length-le}
use lib.Seq.{drop-cons}
use Rattle.std.specs.Prelude.{Option, Some, None, MatchOption}
use Rattle.std.proofs.Common.{Bor}
use Rattle.std.specs.Cmp.Lexicographic.{pointwise}
use Rattle.scenario_lines.specs.Number.{more}
use Rattle.vcd.specs.Binary.{is_bit}
use Rattle.vcd.specs.Read.{digits_ahead, bits_ahead, rc_ahead, signals_ahead, starts}
use Rattle.vcd.specs.declared.Signals.{Signals}

-- ---- a binary digit
pub bit_there : (t : Bool) (x d : ℕ) → Some d ≡ cond t (Some x) None → (t ≡ true) × (d ≡ x)
bit_there true x d e = (refl, cc)
bit_there false x d e = cc

pub no_bit : (t : Bool) (x : ℕ) → None ≡ cond t (Some x) None → t ≡ false
no_bit true x e = cc
no_bit false x e = refl

-- ---- the digits from place i on
module _ (s : List ℕ) (i v : ℕ) where
  pub digits_no : i < length s → more v (get_or s i 0) ≡ None → digits_ahead v (drop i s) ≡ v
  unfolding digits_ahead
  digits_no h e = rw (drop-cons s i 0, e)

  pub digits_is : (x : ℕ) → i < length s → more v (get_or s i 0) ≡ Some x → digits_ahead v (drop i s) ≡ digits_ahead x (drop (i + 1) s)
  unfolding digits_ahead
  digits_is x h e = rw (add-one, drop-cons s i 0, e)

  pub digits_over : length s ≤ i → digits_ahead v (drop i s) ≡ v
  unfolding digits_ahead
  digits_over h = rw (drop_of_length-le s h)

  pub bits_other : i < length s → is_bit (get_or s i 0) ≡ false → bits_ahead v (drop i s) ≡ v
  unfolding bits_ahead
  bits_other h e = rw (drop-cons s i 0, e)

  pub bits_full : i < length s → is_bit (get_or s i 0) ≡ true → 2 ^ 63 ≤ v → bits_ahead v (drop i s) ≡ v
  unfolding bits_ahead
  bits_full h e full = rw (drop-cons s i 0, e, le-ltb v (2 ^ 63) full)

  pub bits_more : (d : ℕ) → i < length s → is_bit (get_or s i 0) ≡ true → d ≡ get_or s i 0 - 48 → v < 2 ^ 63
      → bits_ahead v (drop i s) ≡ bits_ahead (v * 2 + d) (drop (i + 1) s)
  unfolding bits_ahead
  bits_more d h e f less = rw (add-one, drop-cons s i 0, e, f, lt-ltb v (2 ^ 63) less)

  pub bits_over : length s ≤ i → bits_ahead v (drop i s) ≡ v
  unfolding bits_ahead
  bits_over h = rw (drop_of_length-le s h)

-- ---- a byte that is a bit
bit_by : (t u : Bool) (b : ℕ) → eqb b 48 ≡ t → eqb b 49 ≡ u → (t || u) ≡ true → (48 ≤ b) × (b ≤ 49)
bit_by true u b e f h = let g = eqb-true b 48 e in (omega arith, omega arith)
bit_by false true b e f h = let g = eqb-true b 49 f in (omega arith, omega arith)
bit_by false false b e f h = absurd (false≢true h)

pub bit_is : (b : ℕ) → is_bit b ≡ true → (48 ≤ b) × (b ≤ 49)
bit_is b h = bit_by (eqb b 48) (eqb b 49) b refl refl h

-- ---- the lines of signals
module _ (s : Signals) (l : List ℕ) where
  pub signals_with : (b exc rc : ℕ) → b ≡ get_or l 0 0 → Some exc ≡ cond (is_bit b) (Some (b - 48)) None → rc ≡ rc_ahead s.rc (drop 3 l)
      → record { exc = exc; rc = rc } ≡ signals_ahead s l
  unfolding signals_ahead
  signals_with b exc rc e is g =
      let (there, f) = bit_there (is_bit b) (b - 48) exc is in
      rw (f, g, ← e, there)

  pub signals_without : (b rc : ℕ) → b ≡ get_or l 0 0 → None ≡ cond (is_bit b) (Some (b - 48)) None → rc ≡ rc_ahead s.rc l
      → record { exc = s.exc; rc = rc } ≡ signals_ahead s l
  unfolding signals_ahead
  signals_without b rc e is g =
      let other = no_bit (is_bit b) (b - 48) is in
      let here : is_bit (get_or l 0 0) ≡ false = rw e at other in
      rw (g, here)

-- ---- whether a list begins with a text, as `starts_with` and `strip_prefix` say it
pub starts_as : (s l : List ℕ) → pointwise eqb s (take (length s) l) ≡ starts s l
unfolding starts
starts_as [] l = refl
starts_as (a ∷ s) [] = refl
starts_as (a ∷ s) (b ∷ l) = rw (starts_as s l)

turned_by : (t : Bool) (a b : ℕ) → eqb a b ≡ t → eqb b a ≡ t
turned_by true a b e = eq-eqb b a (sym (eqb-true a b e))
turned_by false a b e = ne_eqb b a (λ h. eqb-false a b e (sym h))

pub strips_as : (s l : List ℕ) → pointwise eqb (take (length s) l) s ≡ starts s l
unfolding starts
strips_as [] l = refl
strips_as (a ∷ s) [] = refl
strips_as (a ∷ s) (b ∷ l) = rw (strips_as s l, turned_by (eqb a b) a b refl)

pub stripped : (s l : List ℕ) (r : Option (Bor (List ℕ)))
    → MatchOption r (pointwise eqb (take (length s) l) s ≡ false)
    (λ x. (pointwise eqb (take (length s) l) s ≡ true) × (x.now ≡ drop (length s) l) × (length x.now + length s ≡ length l))
    → MatchOption r (starts s l ≡ false) (λ x. (starts s l ≡ true) × (x.now ≡ drop (length s) l))
stripped s l None h = sym (strips_as s l) ∙ h
stripped s l (Some x) h = (sym (strips_as s l) ∙ h.0, h.1)
