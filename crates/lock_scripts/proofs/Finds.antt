-- A search that goes on one number at a time: how it begins, how it goes on past a number that fails the test, and what it finds.
use Prim.Native.Nat.{ℕ, zero, suc, ◌+◌, ◌-◌, ◌<◌, ◌≤◌}
use mathlib.Core.Path.{◌≡◌, refl, ◌∙◌}
use mathlib.Core.Bool.{Bool, true, false, cond}
use native.Mathlib.Nat.{sub-zero}
use native.Mathlib.Numerals.{add-one}
use native.Mathlib.Omega.{arith}
use lib.Dec.{ltb}
use package.borrow.Author.Tests.{lt-ltb, le-ltb, ltb-true, ltb-false}
use Rattle.std.specs.Prelude.{Option, None, Some, MatchOption}
use Rattle.machine.specs.Lists.{find}
use Rattle.lock_scripts.specs.Checks.{below}

module _ (test : ℕ → Bool) (n : ℕ) where
  -- a search among n numbers has come to k: what it finds is found from there
  abbrev pub Come : ℕ → Type 0
  Come k = (k ≤ n) × (find test 0 n ≡ find test k (n - k))

  pub begun : Come 0
  begun = (omega arith, rw sub-zero)

  module _ (k : ℕ) (come : Come k) where
    pub passed : k < n → test k ≡ false → Come (k + 1)
    unfolding find
    passed h e = let more : n - k ≡ suc (n - (k + 1)) = omega arith in (omega arith, come.1 ∙ rw (more, e))

    pub found : k < n → test k ≡ true → find test 0 n ≡ k
    unfolding find
    found h e = let more : n - k ≡ suc (n - (k + 1)) = omega arith in come.1 ∙ rw (more, e)

    pub over : n ≤ k → find test 0 n ≡ k
    unfolding find
    over h = let none : n - k ≡ 0 = omega arith in come.1 ∙ rw none

  -- a search comes to any number before which none passes
  come_to : (k : ℕ) → k ≤ n → ((j : ℕ) → j < k → test j ≡ false) → Come k
  come_to zero h none = begun
  come_to (suc k) h none =
      let on : Come (k + 1) = passed k (come_to k (omega arith) (λ j l. none j (omega arith))) (omega arith) (none k (omega arith)) in
      rw (← add-one k) on

  -- what is found is the first that passes
  pub found_in : (r : Option ℕ)
      → MatchOption r ((j : ℕ) → 0 ≤ j → j < n → test j ≡ false) (λ k. (0 ≤ k) × (k < n) × (test k ≡ true) × ((j : ℕ) → 0 ≤ j → j < k → test j ≡ false))
      → r ≡ below n (find test 0 n)
  found_in None none =
      let e : find test 0 n ≡ n = over n (come_to n (omega arith) (λ j l. none j (omega arith) l)) (omega arith) in
      rw (e, le-ltb n n (omega arith))
  found_in (Some k) there =
      let e : find test 0 n ≡ k = found k (come_to k (omega arith) (λ j l. there.3 j (omega arith) l)) there.1 there.2 in
      rw (e, lt-ltb k n there.1)

-- ---- what a search has come to, and what it says
pub below_some : (n k j : ℕ) → below n k ≡ Some j → (k < n) × (k ≡ j)
below_some n k j e = go (ltb k n) refl e
  where
    go : (b : Bool) → ltb k n ≡ b → cond b (Some k) None ≡ Some j → (k < n) × (k ≡ j)
    go true t e = (ltb-true k n t, cc e)
    go false t e = absurd (cc e)

pub below_none : (n k : ℕ) → below n k ≡ None → n ≤ k
below_none n k e = go (ltb k n) refl e
  where
    go : (b : Bool) → ltb k n ≡ b → ◌≡◌ {A = Option ℕ} (cond b (Some k) None) None → n ≤ k
    go true t e = absurd (cc e)
    go false t e = ltb-false k n t
