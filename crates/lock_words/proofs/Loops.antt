-- One turn of each loop over the records is one unfolding of the definition that it follows.
use Prim.Native.Nat.{ℕ, ◌+◌, ◌<◌, ◌≤◌, min}
use mathlib.Core.Path.{◌≡◌, sym, ◌∙◌}
use mathlib.Core.Bool.{Bool, true, false}
use mathlib.Core.List.{List, [], ◌∷◌}
use native.Mathlib.Numerals.{add-one}
use native.Mathlib.Omega.{arith}
use lib.ListN.{length, take, drop, length-take, drop_of_length-le}
use lib.Seq.{drop-cons, get_or-take}
use Rattle.machine.specs.Words.{unbegun}
use Rattle.machine.specs.Step.{sum, here}
use Rattle.machine.specs.Sound.{every}
use Rattle.machine.specs.declared.Rec.{Rec}

-- how many records there are, of 16
pub size : (count n : ℕ) (recs : List Rec) → length recs ≡ 16 → n ≡ min count 16 → length (take count recs) ≡ n
size count n recs e m = length-take count recs ∙ rw e (sym m)

-- from record k on, where there is one
first : (count n : ℕ) (recs : List Rec) (k : ℕ) → length (take count recs) ≡ n → k < n → drop k (take count recs) ≡ here recs k ∷ drop (k + 1) (take count recs)
first count n recs k s lt =
    let there : k < length (take count recs) = omega arith in
    let asked : k < count = omega (arith, length-take count recs) in
    rw (add-one, drop-cons (take count recs) k unbegun there, get_or-take count recs k unbegun asked)

none : (count n : ℕ) (recs : List Rec) (k : ℕ) → length (take count recs) ≡ n → n ≤ k → drop k (take count recs) ≡ []
none count n recs k s over =
    let past : length (take count recs) ≤ k = omega arith in
    drop_of_length-le (take count recs) past

-- ---- a test of every record: from record k on it is the whole test, as each before k passed
abbrev pub Passed : (ℕ → Rec → Bool) → ℕ → List Rec → ℕ → Type 0
Passed f count recs k = every f k (drop k (take count recs)) ≡ every f 0 (take count recs)

module _ (f : ℕ → Rec → Bool) (count n : ℕ) (recs : List Rec) (k : ℕ) (s : length (take count recs) ≡ n) (p : Passed f count recs k) where
  pub pass_on : k < n → f k (here recs k) ≡ true → Passed f count recs (k + 1)
  unfolding every
  pass_on lt e = rw add-one (rw (first count n recs k s lt, e, add-one) at p)

  pub pass_not : k < n → f k (here recs k) ≡ false → false ≡ every f 0 (take count recs)
  unfolding every
  pass_not lt e = rw (first count n recs k s lt, e) at p

  pub pass_over : n ≤ k → true ≡ every f 0 (take count recs)
  unfolding every
  pass_over over = rw (none count n recs k s over) at p

-- ---- a sum over the records: x is gathered before record k
abbrev pub Gathered : (ℕ → Rec → ℕ) → ℕ → List Rec → ℕ → ℕ → Type 0
Gathered f count recs k x = x + sum f k (drop k (take count recs)) ≡ sum f 0 (take count recs)

module _ (f : ℕ → Rec → ℕ) (count n : ℕ) (recs : List Rec) (k x : ℕ) (s : length (take count recs) ≡ n) (g : Gathered f count recs k x) where
  pub sum_on : k < n → Gathered f count recs (k + 1) (x + f k (here recs k))
  unfolding sum
  sum_on lt = rw add-one (omega (arith, rw (first count n recs k s lt, add-one) at g))

  pub sum_over : n ≤ k → x ≡ sum f 0 (take count recs)
  unfolding sum
  sum_over over = omega (arith, rw (none count n recs k s over) at g)
