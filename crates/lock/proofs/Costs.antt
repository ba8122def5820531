-- The plain cost: what it is at most, past the script's end, and with a start that is cut at the list's end.
use Prim.Native.Nat.{ℕ, zero, suc, ◌+◌, ◌-◌, ◌*◌, ◌≤◌, min}
use mathlib.Core.Path.{◌≡◌, refl, ap}
use mathlib.Core.Bool.{Bool, true, false, ◌||◌, cond}
use mathlib.Core.List.{List}
use native.Mathlib.Omega.{arith}
use lib.Dec.{eqb}
use lib.ListN.{length}
use Rattle.machine.specs.Names.{acquire_read, acquire_write, release_write}
use Rattle.machine.specs.Tidy.{price, cost_from, cost}
use Rattle.lock_scripts.proofs.Starts.{capped}
use Rattle.lock_tidy.specs.Rests.{words_at}

pub price_most : (o : ℕ) → price o ≤ 3
price_most o = go (eqb o acquire_read || eqb o acquire_write) (eqb o release_write)
  where
    go : (a b : Bool) → cond a 3 (cond b 2 1) ≤ 3
    go true b = omega arith
    go false true = omega arith
    go false false = omega arith

most_from : (ops : ℕ → ℕ) (at left : ℕ) → cost_from ops at left ≤ 3 * left
unfolding cost_from
most_from ops at zero = omega arith
most_from ops at (suc left) = omega (arith, price_most (ops at), most_from ops (at + 1) left)

pub cost_most : (ops : ℕ → ℕ) (n at : ℕ) → cost ops n at ≤ 3 * n
unfolding cost
cost_most ops n at = omega (arith, most_from ops at (n - at))

pub cost_over : (ops : ℕ → ℕ) (n at : ℕ) → n ≤ at → cost ops n at ≡ 0
unfolding cost cost_from
cost_over ops n at h = let none : n - at ≡ 0 = omega arith in rw none refl

-- a start that is cut at the list's end reads the same words
pub cost_cut : (ops : List ℕ) (s n at : ℕ) → cost (words_at ops (min s (length ops))) n at ≡ cost (words_at ops s) n at
cost_cut ops s n at = ap (λ (f : ℕ → ℕ). cost f n at) (λ i k. capped ops s k i)
