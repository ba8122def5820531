-- The laws of `find`: what it finds passes the test, and nothing before that does.
use Prim.Native.Nat.{ℕ, zero, suc, ◌+◌, ◌<◌, ◌≤◌}
use mathlib.Core.Path.{◌≡◌, refl, sym, ◌∙◌, ap}
use mathlib.Core.Logic.{◌≢◌}
use mathlib.Core.Bool.{Bool, true, false, cond, false≢true}
use native.Mathlib.Omega.{arith}
use Rattle.machine.specs.Lists.{find}

-- below the end, the test holds of it
found_from : (test : ℕ → Bool) (at left : ℕ) → find test at left < at + left → test (find test at left) ≡ true
unfolding find
found_from test at zero h = absurd (omega arith)
found_from test at (suc left) h = go (test at) refl h (λ more. found_from test (at + 1) left more)
  where
    go : (b : Bool) → test at ≡ b → cond b at (find test (at + 1) left) < at + suc left
        → (find test (at + 1) left < at + 1 + left → test (find test (at + 1) left) ≡ true) → test (cond b at (find test (at + 1) left)) ≡ true
    go true e h more = e
    go false e h more = more (omega arith)

-- it is not past any number of which the test holds
first_from : (test : ℕ → Bool) (at left k : ℕ) → at ≤ k → k < at + left → test k ≡ true → find test at left ≤ k
unfolding find
first_from test at zero k low high e = omega arith
first_from test at (suc left) k low high e = go (test at) refl (λ past. first_from test (at + 1) left k past (omega arith) e)
  where
    go : (b : Bool) → test at ≡ b → (at + 1 ≤ k → find test (at + 1) left ≤ k) → cond b at (find test (at + 1) left) ≤ k
    go true t more = low
    go false t more = let elsewhere : at ≢ k = λ q. false≢true (sym t ∙ ap test q ∙ e) in more (omega arith)

-- ---- the same from 0 on, as it is called
pub found : (test : ℕ → Bool) (n : ℕ) → find test 0 n < n → test (find test 0 n) ≡ true
found test n h = found_from test 0 n (omega arith)

pub first : (test : ℕ → Bool) (n k : ℕ) → k < n → test k ≡ true → find test 0 n ≤ k
first test n k h e = first_from test 0 n k (omega arith) (omega arith) e
