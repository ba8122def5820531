-- Rows counted thread by thread: all rows of which a test holds, where all these are of threads that the list of records has.
use Prim.Native.Nat.{ℕ, suc, ◌+◌, ◌*◌, ◌<◌, ◌≤◌}
use mathlib.Core.Path.{◌≡◌, refl}
use mathlib.Core.Bool.{Bool, true, false, ◌&&◌, not}
use mathlib.Core.List.{List, [], ◌∷◌}
use native.Mathlib.Omega.{arith}
use lib.Dec.{eqb}
use lib.ListN.{length, get_or}
use package.borrow.Author.Tests.{eqb-true, eqb-false, ne_eqb}
use Rattle.machine.specs.Words.{bit, unbegun}
use Rattle.machine.specs.Step.{sum}
use Rattle.retries.specs.Rows.{counted}
use Rattle.machine.specs.declared.Rec.{Rec}
use Rattle.machine.specs.declared.Row.{Row}
use Rattle.machine.proofs.Sums.{sum_add, sum_const}
use Rattle.retries.specs.Retries.{by}

-- ---- sums over records
-- record by record, over two lists that are as long
pub sums_le : (f g : ℕ → Rec → ℕ) (k : ℕ) (l m : List Rec) → length l ≡ length m
    → ((j : ℕ) → f (k + j) (get_or l j unbegun) ≤ g (k + j) (get_or m j unbegun)) → sum f k l ≤ sum g k m
unfolding sum
sums_le f g k [] [] e h = omega arith
sums_le f g k [] (s ∷ m) e h = absurd (omega (arith, e))
sums_le f g k (r ∷ l) [] e h = absurd (omega (arith, e))
sums_le f g k (r ∷ l) (s ∷ m) e h =
    let here : k + 0 ≡ k = omega arith in
    let first : f k r ≤ g k s = rw here at (h 0) in
    omega (arith, first, sums_le f g (suc k) l m (omega (arith, e)) (λ j. later j))
  where
    later : (j : ℕ) → f (suc k + j) (get_or l j unbegun) ≤ g (suc k + j) (get_or m j unbegun)
    later j = let on : k + suc j ≡ suc k + j = omega arith in rw on at (h (suc j))

-- thread i is one of those from k on, or it is not
module _ (i : ℕ) where
  one_past : (k : ℕ) (l : List Rec) → i < k → sum (λ j r. bit (eqb i j)) k l ≡ 0
  unfolding sum
  one_past k [] h = refl
  one_past k (r ∷ l) h = rw (ne_eqb i k (λ e. omega arith)) (omega (arith, one_past (suc k) l (omega arith)))

  one_among : (k : ℕ) (l : List Rec) → k ≤ i → i < k + length l → sum (λ j r. bit (eqb i j)) k l ≡ 1
  unfolding sum
  one_among k [] h below = absurd (omega arith)
  one_among k (r ∷ l) h below = go (one_among (suc k) l) (eqb i k) refl
    where
      go : (suc k ≤ i → i < suc k + length l → sum (λ j r. bit (eqb i j)) (suc k) l ≡ 1) → (b : Bool) → eqb i k ≡ b
          → bit b + sum (λ j r. bit (eqb i j)) (suc k) l ≡ 1
      go later true e = omega (arith, one_past (suc k) l (omega (arith, eqb-true i k e)))
      go later false e = omega (arith, later (omega (arith, eqb-false i k e, h)) (omega (arith, below)))

-- ---- the rows of which a test holds are of threads below n
pub data Below (n : ℕ) (test : Row → Bool) : List Row → Type 0 where
  none : Below n test []
  holds : {r : Row} {rows : List Row} → test r ≡ true → r.thread < n → Below n test rows → Below n test (r ∷ rows)
  fails : {r : Row} {rows : List Row} → test r ≡ false → Below n test rows → Below n test (r ∷ rows)

module _ (test : Row → Bool) (l : List Rec) where
  -- thread by thread
  pub by_threads : (rows : List Row) → Below (length l) test rows → sum (λ t r. counted (λ q. test q && by t q) rows) 0 l ≡ counted test rows
  unfolding counted
  by_threads [] none = omega (arith, sum_const 0 0 l)
  by_threads (r ∷ rows) (holds e h b) =
      rw e (omega (
        arith,
        sum_add (λ t s. bit (by t r)) (λ t s. counted (λ q. test q && by t q) rows) 0 l,
        one_among r.thread 0 l (omega arith) (omega (arith, h)),
        by_threads rows b,
      ))
  by_threads (r ∷ rows) (fails e b) =
      rw e (omega (arith, sum_add (λ t s. 0) (λ t s. counted (λ q. test q && by t q) rows) 0 l, sum_const 0 0 l, by_threads rows b))

-- a thread's own and those of the others
pub own_and_others : (test : Row → Bool) (t : ℕ) (rows : List Row)
    → counted (λ r. test r && by t r) rows + counted (λ r. test r && not (by t r)) rows ≡ counted test rows
unfolding counted
own_and_others test t [] = refl
own_and_others test t (r ∷ rows) = omega (arith, split (test r) (by t r), own_and_others test t rows)
  where
    split : (a b : Bool) → bit (a && b) + bit (a && not b) ≡ bit a
    split true true = refl
    split true false = refl
    split false b = refl

-- so, over all threads, those of the others
sum_same : (f : ℕ → ℕ) (g : ℕ → ℕ) (c k : ℕ) (l : List Rec) → ((t : ℕ) → f t + g t ≡ c) → sum (λ t r. f t) k l + sum (λ t r. g t) k l ≡ c * length l
unfolding sum
sum_same f g c k [] h = omega arith
sum_same f g c k (r ∷ l) h = omega (arith, h k, sum_same f g c (suc k) l h)

pub others : (test : Row → Bool) (l : List Rec) (rows : List Row) → Below (length l) test rows
    → sum (λ t r. counted (λ q. test q && not (by t q)) rows) 0 l + counted test rows ≡ counted test rows * length l
others test l rows b =
    omega (
      arith,
      by_threads test l rows b,
      sum_same (λ t. counted (λ q. test q && by t q) rows) (λ t. counted (λ q. test q && not (by t q)) rows) (counted test rows) 0 l (λ t. own_and_others test t rows),
    )
