-- A number's text is its decimal, and reads back as the number. Assumes nothing.
use Prim.Native.Nat.{ℕ, zero, suc, ◌+◌, ◌*◌, ◌-◌, ◌^◌, ◌<◌}
use mathlib.Core.Bool.{Bool, true, false, ◌&&◌}
use mathlib.Core.Path.{◌≡◌, refl, ◌∙◌}
use mathlib.Core.List.{List, [], ◌∷◌}
use native.Mathlib.Omega.{arith}
use borrow.Author.Tests.{lt-ltb, le-leb, ne_eqb}
use lib.ListN.{get_or}
use Rattle.scenario_lines.specs.Number.{digit, digits, plainly, decimal, number}
use Rattle.scenario_text.specs.Number.{digits_to, text}
use Rattle.scenario_text.specs.ReadBack.{IsDecimal, IsPlain, ReadAs, ReadsBack, TextEdges}
use Rattle.scenario_text.proofs.Values.{value, all_passed, leads}

-- ---- the value
decimal_step : (a d : ℕ) (l : List ℕ) → decimal a ((48 + d) ∷ l) ≡ decimal (a * 10 + d) l
unfolding decimal
decimal_step a d l = let e : 48 + d - 48 ≡ d = omega arith in rw e

pub is_decimal : IsDecimal
unfolding text decimal
is_decimal v h = value 10 (omega arith) (suc v) decimal (λ a d l small g. decimal_step a d l) 19 v h (omega arith)

-- ---- the digits
digits_step : (d : ℕ) (l : List ℕ) → d < 10 → digits ((48 + d) ∷ l) ≡ digits l
unfolding digits
digits_step d l h = rw (le-leb 48 (48 + d) (omega arith), le-leb (48 + d) 57 (omega arith))

pub of_digits : (v : ℕ) → digits (text v) ≡ true
unfolding text digits
of_digits v = all_passed 10 (omega arith) digits digits_step 20 v

-- only 0 begins with 0
no_zero : (v : ℕ) → v < 10 ^ 20 → 0 < v → 48 < get_or (text v) 0 0
unfolding text
no_zero v h g = leads 10 (omega arith) (λ (c : ℕ). 48 < c) (λ d some e. omega arith) 19 v h g

alone : (t : Bool) → (t && true) ≡ true → t ≡ true
alone true e = refl
alone false e = e

plainly_of : (s : List ℕ) → 48 < get_or s 0 0 → digits s ≡ true → plainly s ≡ true
unfolding plainly digits
plainly_of [] h e = absurd (omega arith)
plainly_of (x ∷ []) h e = alone (digit x) e
plainly_of (x ∷ y ∷ a) h e = rw (ne_eqb x 48 (λ z. omega arith)) e

pub is_plain : IsPlain
unfolding text digits_to plainly
is_plain zero h = refl
is_plain (suc v) h = plainly_of (text (suc v)) (no_zero (suc v) h (omega arith)) (of_digits (suc v))

-- ---- read
pub read_as : ReadAs
unfolding number
read_as v h = rw (is_plain v h, is_decimal v h)

pub reads_back : ReadsBack
reads_back v h = read_as v (omega arith) ∙ rw (lt-ltb v (2 ^ 64) h)

pub text_edges : TextEdges
unfolding text digits_to
text_edges = (refl, refl, refl, refl)
