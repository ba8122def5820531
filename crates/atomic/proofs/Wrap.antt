-- Sums and differences that wrap, over the number m of values that the width has. Assumes nothing.
use Prim.Native.Nat.{ℕ, ◌+◌, ◌-◌, ◌%◌, ◌<◌, ◌≤◌}
use mathlib.Core.Path.{◌≡◌, sym, ◌∙◌, ap}
use native.Mathlib.Nat.{mod-eq_of_lt, add-mod_right, mod-add-mod}
use native.Mathlib.Omega.{arith}

-- the number that n added to wraps back to a is the difference modulo m
pub sub_wraps : (m r a n : ℕ) → r < m → n < m → (r + n) % m ≡ a → r ≡ (a + (m - n)) % m
sub_wraps m r a n hr hn e =
    let back : r + n + (m - n) ≡ r + m = omega arith in
    sym (ap (λ (x : ℕ). (x + (m - n)) % m) (sym e) ∙ mod-add-mod (r + n) m (m - n) ∙ ap (λ (x : ℕ). x % m) back ∙ add-mod_right r m ∙ mod-eq_of_lt hr)

-- a number that is past m once
pub once_past : (m x : ℕ) → m ≤ x → x < m + m → x % m ≡ x - m
once_past m x l h =
    let back : x ≡ x - m + m = omega arith in
    ap (λ (y : ℕ). y % m) back ∙ add-mod_right (x - m) m ∙ mod-eq_of_lt (omega arith)
