-- Whether a sum stays within w bits, as code can ask it without making the sum. Once, over the width. Assumes nothing.
use Prim.Native.Nat.{ℕ, ◌+◌, ◌-◌, ◌^◌, ◌<◌, ◌≤◌}
use mathlib.Core.Bool.{true, false}
use mathlib.Core.Path.{◌≡◌}
use native.Mathlib.Omega.{arith}
use lib.Dec.{ltb}
use borrow.Author.Tests.{lt-ltb, le-ltb}

module _ (w n was : ℕ) (fits : was < 2 ^ w) where
  pub sum_fits : n ≤ (2 ^ w - 1) - was → ltb (was + n) (2 ^ w) ≡ true
  sum_fits h = lt-ltb (was + n) (2 ^ w) (omega arith)

  pub sum_leaves : (2 ^ w - 1) - was < n → ltb (was + n) (2 ^ w) ≡ false
  sum_leaves h = le-ltb (was + n) (2 ^ w) (omega arith)
