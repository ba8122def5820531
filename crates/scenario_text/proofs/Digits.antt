-- Digits in any base: one, or those of the number divided by the base and one more; a text, of 1 to 20 bytes. Assumes nothing.
use Prim.Native.Nat.{ℕ, zero, suc, ◌+◌, ◌*◌, ◌/◌, ◌%◌, ◌^◌, ◌<◌, ◌≤◌}
use mathlib.Core.Bool.{Bool, true, false, cond}
use mathlib.Core.Path.{◌≡◌, refl, sym, ap, ◌∙◌}
use mathlib.Core.List.{List, [], ◌∷◌, ◌++◌}
use native.Mathlib.Omega.{arith}
use native.Mathlib.Nat.{div-lt_iff_lt-mul, pow-zero, pow-suc}
use borrow.Author.Tests.{lt-ltb, le-ltb, ltb-true, ltb-false}
use lib.Dec.{ltb}
use lib.ListN.{length, length-append}
use Rattle.scenario_text.specs.Number.{digits_to, text}

-- ---- any base
by_test : (P : List ℕ → Type 0) (t : Bool) (x y : List ℕ) → (t ≡ true → P x) → (t ≡ false → P y) → P (cond t x y)
by_test P true x y one more = one refl
by_test P false x y one more = more refl

-- what holds of one digit, and of others and one more, holds of all digits
pub by_digits : (P : List ℕ → Type 0) (b k v : ℕ) → (v < b → P ((48 + v) ∷ [])) → (b ≤ v → P (digits_to b k (v / b) ++ ((48 + v % b) ∷ [])))
    → P (digits_to b (suc k) v)
unfolding digits_to
by_digits P b k v one more = by_test P (ltb v b) _ _ (λ e. one (ltb-true v b e)) (λ e. more (ltb-false v b e))

pub one_digit : (b k v : ℕ) → v < b → digits_to b (suc k) v ≡ (48 + v) ∷ []
unfolding digits_to
one_digit b k v h = rw (lt-ltb v b h)

next_digit : (b k v : ℕ) → b ≤ v → digits_to b (suc k) v ≡ digits_to b k (v / b) ++ ((48 + v % b) ∷ [])
unfolding digits_to
next_digit b k v h = rw (le-ltb v b h)

pub short : (b k v : ℕ) → length (digits_to b k v) ≤ k
unfolding digits_to
short b zero v = omega arith
short b (suc k) v =
    by_digits (λ (s : List ℕ). length s ≤ suc k) b k v (λ e. omega arith) (λ e. simp length-append (omega (arith, short b k (v / b))))

pub some : (b k v : ℕ) → 1 ≤ length (digits_to b (suc k) v)
some b k v = by_digits (λ (s : List ℕ). 1 ≤ length s) b k v (λ e. omega arith) (λ e. simp length-append (omega arith))

module _ (b : ℕ) (pos : 0 < b) where
  -- divided by the base, a number has a digit less
  fewer : (k v : ℕ) → v < b ^ suc k → v / b < b ^ k
  fewer k v h =
      let g : v < b ^ k * b = rw pow-suc at h in
      (div-lt_iff_lt-mul {k = b} {x = v} {y = b ^ k} pos).1 g

  below_one : (v : ℕ) → v < b ^ 1 → v < b
  below_one v h =
      let g : v < b ^ 0 * b = rw pow-suc at h in
      let f : v < 1 * b = rw (pow-zero b) at g in
      omega arith

  -- what holds of one digit, and with some digits of one more, holds of a number for which so many digits are enough
  pub all_digits : (P : ℕ → ℕ → List ℕ → Type 0) → ((k v : ℕ) → v < b → P k v ((48 + v) ∷ []))
      → ((k v : ℕ) (s : List ℕ) → b ≤ v → P k (v / b) s → P (suc k) v (s ++ ((48 + v % b) ∷ [])))
      → (k v : ℕ) → v < b ^ suc k → P k v (digits_to b (suc k) v)
  all_digits P one more zero v h = by_digits (P 0 v) b 0 v (one 0 v) (λ e. absurd (omega (arith, below_one v h)))
  all_digits P one more (suc k) v h =
      by_digits (P (suc k) v) b (suc k) v (one (suc k) v) (λ e. more k v _ e (all_digits P one more k (v / b) (fewer (suc k) v h)))

  -- where so many digits are enough, one more is not asked for
  enough : (k v : ℕ) → v < b ^ suc k → digits_to b (suc (suc k)) v ≡ digits_to b (suc k) v
  enough = all_digits (λ (k v : ℕ) (s : List ℕ). digits_to b (suc (suc k)) v ≡ s) (λ k v h. one_digit b (suc k) v h)
      (λ k v s h e. next_digit b (suc (suc k)) v h ∙ ap (λ (l : List ℕ). l ++ ((48 + v % b) ∷ [])) e)

  pub more_digits : (k v : ℕ) → b ≤ v → v < b ^ suc (suc k) → digits_to b (suc (suc k)) v ≡ digits_to b (suc (suc k)) (v / b) ++ ((48 + v % b) ∷ [])
  more_digits k v h g =
      next_digit b (suc k) v h ∙ ap (λ (l : List ℕ). l ++ ((48 + v % b) ∷ [])) (sym (enough k (v / b) (fewer (suc k) v g)))

pub length_last : {s : List ℕ} (a : List ℕ) (d : ℕ) → s ≡ a ++ (d ∷ []) → length s ≡ length a + 1
length_last a d e = ap length e ∙ simp length-append (omega arith)

-- ---- decimal
pub text_one : (v : ℕ) → v < 10 → text v ≡ (48 + v) ∷ []
unfolding text
text_one v h = one_digit 10 19 v h

pub text_more : (v : ℕ) → 10 ≤ v → v < 2 ^ 64 → text v ≡ text (v / 10) ++ ((48 + v % 10) ∷ [])
unfolding text
text_more v h g = more_digits 10 (omega arith) 18 v h (omega arith)

pub text_short : (v : ℕ) → length (text v) ≤ 20
unfolding text
text_short v = short 10 20 v

pub text_some : (v : ℕ) → 1 ≤ length (text v)
unfolding text
text_some v = some 10 19 v

-- a turn of the loops
pub length_more : (v : ℕ) → 10 ≤ v → v < 2 ^ 64 → length (text v) ≡ length (text (v / 10)) + 1
length_more v h g = length_last (text (v / 10)) (48 + v % 10) (text_more v h g)

pub length_one : (v : ℕ) → v < 10 → length (text v) ≡ 1
length_one v h = ap length (text_one v h)
