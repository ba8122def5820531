-- Lists whose first places are set to 0: all places, and what the first are then. Assumes nothing.
use Rattle.std.proofs.Common.{◌≡◌, ℕ, zero, suc, ◌≤◌, min, List, [], ◌∷◌, ◌++◌, length, take, drop, replicate, refl, ap, arith}
use Rattle.scenario_stages.specs.Kept.{cleared}

-- as far as there are places, and the others stay
pub clears_by : (k n : ℕ) (l : List ℕ) → k ≡ min n (length l) → replicate k 0 ++ drop k l ≡ cleared n l
unfolding cleared
clears_by zero zero l e = refl
clears_by zero (suc n) [] e = refl
clears_by zero (suc n) (x ∷ l) e = absurd (omega arith)
clears_by (suc k) zero l e = absurd (omega arith)
clears_by (suc k) (suc n) [] e = absurd (omega arith)
clears_by (suc k) (suc n) (x ∷ l) e = ap (λ (m : List ℕ). 0 ∷ m) (clears_by k n l (omega arith))

pub clears_length : (n : ℕ) (l : List ℕ) → length (cleared n l) ≡ length l
unfolding cleared
clears_length zero l = refl
clears_length (suc n) [] = refl
clears_length (suc n) (x ∷ l) = ap suc (clears_length n l)

pub clears_first : (n : ℕ) (l : List ℕ) → n ≤ length l → take n (cleared n l) ≡ replicate n 0
unfolding cleared
clears_first zero l h = refl
clears_first (suc n) [] h = absurd (omega arith)
clears_first (suc n) (x ∷ l) h = ap (λ (m : List ℕ). 0 ∷ m) (clears_first n l (omega arith))
