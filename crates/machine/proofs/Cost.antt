-- The plain cost, and the bound; and that neither is above what scripts of 64 operations and sixteen threads can cost.
use Prim.Native.Nat.{ℕ, zero, suc, ◌+◌, ◌-◌, ◌*◌, ◌<◌, ◌≤◌}
use mathlib.Core.Path.{◌≡◌, refl, ◌∙◌}
use mathlib.Core.Bool.{Bool, true, false, ◌||◌, cond}
use mathlib.Core.List.{List}
use native.Mathlib.Omega.{arith}
use lib.Dec.{eqb, ltb}
use lib.ListN.{length, get_or-eq_default}
use package.borrow.Author.Tests.{ltb-true, ltb-false}
use Rattle.machine.specs.Names.{acquire_read, acquire_write, release_write, longest_script, most_threads}
use Rattle.machine.specs.Lists.{Lent, scripts_of}
use Rattle.machine.specs.Step.{Scripts, sum}
use Rattle.machine.specs.Tidy.{price, cost_from, cost, bound}
use Rattle.machine.specs.Tested.{PlainCost}
use Rattle.machine.specs.declared.Rec.{Rec}
use Rattle.machine.proofs.Sums.{sum_add, sum_const, sum_le}
use Rattle.machine.proofs.Falls.{cost_next}

no_cost : (ops : ℕ → ℕ) (n : ℕ) → cost ops n n ≡ 0
unfolding cost cost_from
no_cost ops n = let none : n - n ≡ 0 = omega arith in rw none refl

bound_is : (S : Scripts) (l : List Rec) → bound S l ≡ sum (λ k r. cost (S.op k) (S.len k) r.at) 0 l + 3 * length l
bound_is S l = sum_add (λ k r. cost (S.op k) (S.len k) r.at) (λ k r. 3) 0 l ∙ omega (arith, sum_const 3 0 l)

pub plain_cost : PlainCost
plain_cost = (refl, refl, refl, refl, refl, cost_next, no_cost, bound_is)

-- ---- the largest bound
most_of : (a b : Bool) → cond a 3 (cond b 2 1) ≤ 3
most_of true b = omega arith
most_of false true = omega arith
most_of false false = omega arith

price_most : (o : ℕ) → price o ≤ 3
price_most o = most_of (eqb o acquire_read || eqb o acquire_write) (eqb o release_write)

cost_from_most : (ops : ℕ → ℕ) (at left : ℕ) → cost_from ops at left ≤ 3 * left
unfolding cost_from
cost_from_most ops at zero = omega arith
cost_from_most ops at (suc left) = omega (arith, price_most (ops at), cost_from_most ops (at + 1) left)

cost_most : (ops : ℕ → ℕ) (n at : ℕ) → n ≤ longest_script → cost ops n at + 3 ≤ 195
unfolding cost
cost_most ops n at h = omega (arith, cost_from_most ops at (n - at))

-- no script is longer, a thread's that there is not neither
no_longer : (s : Lent) → ((t : ℕ) → t < length s.lens → (scripts_of s).len t ≤ longest_script) → (t : ℕ) → (scripts_of s).len t ≤ longest_script
no_longer s h t = go (ltb t (length s.lens)) refl
  where
    go : (b : Bool) → ltb t (length s.lens) ≡ b → (scripts_of s).len t ≤ longest_script
    go true e = h t (ltb-true _ _ e)
    go false e = rw (get_or-eq_default s.lens 0 (ltb-false _ _ e)) (omega arith)

pub bound_most : (s : Lent) (l : List Rec) → ((t : ℕ) → t < length s.lens → (scripts_of s).len t ≤ longest_script) → length l ≤ most_threads → bound (scripts_of s) l ≤ 3120
bound_most s l h few =
    let S = scripts_of s in
    omega (arith, sum_le (λ k r. cost (S.op k) (S.len k) r.at + 3) (λ k r. 195) (λ k r. cost_most (S.op k) (S.len k) r.at (no_longer s h k)) 0 l, sum_const 195 0 l)
