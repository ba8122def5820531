-- A number of w bits is the number that its bits make, and what the machine's bit operations do to each bit. Once, over the width.
-- Assumes nothing.
use Prim.Native.Nat.{ℕ, zero, suc, ◌+◌, ◌-◌, ◌*◌, ◌/◌, ◌%◌, ◌^◌, ◌<◌, min, max}
use mathlib.Core.Bool.{Bool, true, false, not, beq, cond}
use mathlib.Core.Path.{◌≡◌, refl, sym, ◌∙◌, ap, subst}
use native.Mathlib.Nat.{mul_assoc, add_comm, add-mul-div_right, add-mul-mod_self_right, mod-eq_of_lt, pow-suc, mod-lt}
use native.Mathlib.Numerals.{one-add}
use native.Mathlib.Omega.{arith}
use lib.Dec.{eqb, ltb}
use borrow.Author.Tests.{ltb-true, ltb-false}
use lib.Arith.{digits_mod, digits_div}
use lib.Pow.{pow-add, mod-pow-add, pow_pos}
use lib.Bits.{bit_and, bit_or, bit_xor, and_step, or_step, xor_step, and_shr, or_shr, xor_shr, and_lt, or_lt, xor_lt}
use lib.Bits as lib-bits
use Rattle.atomic.specs.Operators.{AndIs, OrIs, XorIs, NandIs}
use Rattle.atomic.specs.Bits.{bit, word, bitwise, both, either, differ}

-- a bit as a number
abbrev digit : Bool → ℕ
digit b = cond b 1 0

digit_of : (d : ℕ) → d < 2 → digit (eqb d 1) ≡ d
digit_of zero h = refl
digit_of (suc zero) h = refl
digit_of (suc (suc d)) h = omega arith

-- a fact of two digits, from its four cases
digits_are : (P : ℕ → ℕ → Type 0) → P 0 0 → P 0 1 → P 1 0 → P 1 1 → (x y : ℕ) → x < 2 → y < 2 → P x y
digits_are P oo oi io ii zero zero h k = oo
digits_are P oo oi io ii zero (suc zero) h k = oi
digits_are P oo oi io ii zero (suc (suc y)) h k = absurd (omega arith)
digits_are P oo oi io ii (suc zero) zero h k = io
digits_are P oo oi io ii (suc zero) (suc zero) h k = ii
digits_are P oo oi io ii (suc zero) (suc (suc y)) h k = absurd (omega arith)
digits_are P oo oi io ii (suc (suc x)) y h k = absurd (omega arith)

one_more_bit : (k x : ℕ) → x % 2 ^ k + x / 2 ^ k % 2 * 2 ^ k ≡ x % 2 ^ suc k
one_more_bit k x = rw (← one-add k) (omega (arith, mod-pow-add x 1 k))

-- the bits of x make x, as far as they go
bits_make : (w x : ℕ) → word w (λ k. bit k x) ≡ x % 2 ^ w
unfolding word
bits_make zero x = omega arith
bits_make (suc k) x =
    rw (bits_make k x, digit_of (x / 2 ^ k % 2) (mod-lt (x / 2 ^ k) (omega arith))) (one_more_bit k x)

word_same : (w : ℕ) (f g : ℕ → Bool) → ((k : ℕ) → k < w → f k ≡ g k) → word w f ≡ word w g
unfolding word
word_same zero f g e = refl
word_same (suc k) f g e = rw (word_same k f g (λ j h. e j (omega arith)), e k (omega arith))

-- the bits of a number of w bits make it
all_bits : (w x : ℕ) → x < 2 ^ w → x ≡ word w (λ k. bit k x)
all_bits w x h = sym (bits_make w x ∙ mod-eq_of_lt h)

pub same_bits : (w x y : ℕ) → x < 2 ^ w → y < 2 ^ w → ((k : ℕ) → k < w → bit k x ≡ bit k y) → x ≡ y
same_bits w x y hx hy e = all_bits w x hx ∙ word_same w _ _ e ∙ sym (all_bits w y hy)

-- A machine operation on numbers, which works digit by digit: each bit of its result is f of the two bits.
module _ (op d : ℕ → ℕ → ℕ) (f : Bool → Bool → Bool) (step : (a b : ℕ) → op a b ≡ op (a / 2) (b / 2) * 2 + d (a % 2) (b % 2)) (shift : (a b k : ℕ) → op a b / 2 ^ k ≡ op (a / 2 ^ k) (b / 2 ^ k)) (is : (x y : ℕ) → x < 2 → y < 2 → (d x y < 2) × (eqb (d x y) 1 ≡ f (eqb x 1) (eqb y 1))) where
  low : (a b : ℕ) → eqb (op a b % 2) 1 ≡ f (eqb (a % 2) 1) (eqb (b % 2) 1)
  low a b =
      let t = is (a % 2) (b % 2) (mod-lt a (omega arith)) (mod-lt b (omega arith)) in
      ap (λ (n : ℕ). eqb (n % 2) 1) (step a b) ∙ ap (λ (n : ℕ). eqb n 1) (digits_mod (op (a / 2) (b / 2)) t.0) ∙ t.1

  each : (k a b : ℕ) → bit k (op a b) ≡ f (bit k a) (bit k b)
  each k a b = ap (λ (n : ℕ). eqb (n % 2) 1) (shift a b k) ∙ low (a / 2 ^ k) (b / 2 ^ k)

  by_bits : (w a b : ℕ) → op a b < 2 ^ w → op a b ≡ bitwise w f a b
  by_bits w a b h = all_bits w (op a b) h ∙ word_same w _ _ (λ k l. each k a b)

pub and_is : AndIs
and_is w a b ha hb =
    by_bits bit_and min both and_step and_shr (digits_are _ (omega arith, refl) (omega arith, refl) (omega arith, refl) (omega arith, refl)) w a b (and_lt w a b ha hb)

pub or_is : OrIs
or_is w a b ha hb =
    by_bits bit_or max either or_step or_shr (digits_are _ (omega arith, refl) (omega arith, refl) (omega arith, refl) (omega arith, refl)) w a b (or_lt w a b ha hb)

pub xor_is : XorIs
xor_is w a b ha hb =
    by_bits bit_xor lib-bits.differ differ xor_step xor_shr (digits_are _ (omega arith, refl) (omega arith, refl) (omega arith, refl) (omega arith, refl)) w a b (xor_lt w a b ha hb)

one_of_two : (b : Bool) (n : ℕ) → digit b * n + digit (not b) * n ≡ n
one_of_two true n = omega arith
one_of_two false n = omega arith

-- a number and the number of the other bits make all ones
others : (w : ℕ) (f : ℕ → Bool) → word w f + word w (λ k. not (f k)) + 1 ≡ 2 ^ w
unfolding word
others zero f = refl
others (suc k) f = omega (arith, others k f, pow-suc 2 k, one_of_two (f k) (2 ^ k))

pub nand_is : NandIs
nand_is w a b ha hb = omega (arith, others w (λ k. both (bit k a) (bit k b)), and_is w a b ha hb)

pub word_below : (w : ℕ) (f : ℕ → Bool) → word w f < 2 ^ w
word_below w f = omega (arith, others w f)

digit_is : (b : Bool) → eqb (digit b % 2) 1 ≡ b
digit_is true = refl
digit_is false = refl

-- a power of two above bit k moves no bit below it
above : (k j a d : ℕ) → (a + d * 2 ^ (suc j + k)) / 2 ^ k % 2 ≡ a / 2 ^ k % 2
above k j a d =
    let e : d * 2 ^ (suc j + k) ≡ d * 2 ^ j * 2 * 2 ^ k = simp (pow-add, pow-suc, mul_assoc) in
    rw (e, add-mul-div_right a (d * 2 ^ j * 2) (pow_pos k)) (add-mul-mod_self_right (a / 2 ^ k) (d * 2 ^ j) 2)

top : (k : ℕ) (f : ℕ → Bool) → (word k f + digit (f k) * 2 ^ k) / 2 ^ k ≡ digit (f k)
top k f = rw (add_comm (word k f) (digit (f k) * 2 ^ k)) (digits_div (digit (f k)) (word_below k f))

-- bit k of the number that f makes is f k
pub bit_of_word : (w : ℕ) (f : ℕ → Bool) (k : ℕ) → k < w → bit k (word w f) ≡ f k
unfolding word
bit_of_word zero f k h = absurd (omega arith)
bit_of_word (suc m) f k h = in_or_at (ltb k m) refl (bit_of_word m f k)
  where
    in_or_at : (t : Bool) → ltb k m ≡ t → (k < m → bit k (word m f) ≡ f k) → bit k (word m f + digit (f m) * 2 ^ m) ≡ f k
    in_or_at true e below =
        let l = ltb-true k m e in
        let s : m ≡ suc (m - suc k) + k = omega arith in
        let up : (word m f + digit (f m) * 2 ^ m) / 2 ^ k % 2 ≡ word m f / 2 ^ k % 2 = subst (λ (n : ℕ). (word m f + digit (f m) * 2 ^ n) / 2 ^ k % 2 ≡ word m f / 2 ^ k % 2) (sym s) (above k (m - suc k) (word m f) (digit (f m))) in
        ap (λ (n : ℕ). eqb n 1) up ∙ below l
    in_or_at false e below =
        let s : m ≡ k = omega (arith, ltb-false k m e) in
        subst (λ (n : ℕ). bit n (word m f + digit (f m) * 2 ^ m) ≡ f n) s (ap (λ (n : ℕ). eqb (n % 2) 1) (top m f) ∙ digit_is (f m))

-- the code's xor of two bools
pub differ_is : (a b : Bool) → not (beq a b) ≡ differ a b
differ_is true true = refl
differ_is true false = refl
differ_is false true = refl
differ_is false false = refl
