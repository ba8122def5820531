-- A refusal's number as it is kept: nothing is kept exactly of 0. Assumes nothing.
use Rattle.std.proofs.Common.{◌≡◌, ◌≢◌, ℕ, zero, suc, Bool, true, false, cond, eqb, arith, ne_eqb, List, [], refl, Option, Some, None, unwrap_or}
use mathlib.Core.Bool.{false≢true}
use Rattle.std.specs.Option.{is_none}
use Rattle.scenario_text.specs.Lines.{refusal}
use Rattle.scenario_stages.specs.Means.{noted}

pub none_is : (o : Option ℕ) → is_none o ≡ true → o ≡ None
none_is None e = refl
none_is (Some k) e = absurd (false≢true e)

pub some_is : (o : Option ℕ) → is_none o ≡ false → o ≢ None
some_is o e n = absurd (cc)

more : (k : ℕ) → eqb (suc k) 0 ≡ false
more k = ne_eqb (suc k) 0 (λ e. omega (arith, e))

pub none_noted : (k : ℕ) → is_none (noted k) ≡ eqb k 0
none_noted zero = refl
none_noted (suc k) = rw (more k) refl

pub number_noted : (k : ℕ) → unwrap_or (noted k) 0 ≡ k
number_noted zero = refl
number_noted (suc k) = refl

pub noted_some : (k : ℕ) → eqb k 0 ≡ false → Some k ≡ noted k
noted_some zero e = absurd (cc)
noted_some (suc k) e = refl

-- what is printed of it
pub told : (k line : ℕ) → cond (eqb k 0) [] (refusal k line) ≡ cond (is_none (noted k)) [] (refusal (unwrap_or (noted k) 0) line)
told zero line = refl
told (suc k) line = rw (more k) refl
