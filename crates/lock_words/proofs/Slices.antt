-- Loops over the records of a slice: one turn is one unfolding of the definition that it follows.
use Prim.Native.Nat.{ℕ, suc, ◌+◌, ◌<◌, ◌≤◌}
use mathlib.Core.Path.{◌≡◌, refl}
use mathlib.Core.Bool.{Bool}
use mathlib.Core.List.{List, [], ◌∷◌}
use native.Mathlib.Numerals.{add-one}
use native.Mathlib.Omega.{arith}
use lib.ListN.{length, drop, get_or, drop_of_length-le}
use lib.Seq.{drop-cons}
use Rattle.std.specs.List.{list_all, enumerate_from}
use Rattle.machine.specs.Words.{unbegun}
use Rattle.machine.specs.Step.{sum}
use Rattle.machine.specs.Sound.{every}
use Rattle.machine.specs.declared.Rec.{Rec}

-- a test of every record is one of every record with its thread
pub every_is_all : (f : ℕ → Rec → Bool) (k : ℕ) (l : List Rec) → every f k l ≡ list_all (λ p. f p.0 p.1) (enumerate_from k l)
unfolding every
every_is_all f k [] = refl
every_is_all f k (r ∷ l) = rw add-one (rw (every_is_all f (suc k) l))

-- ---- a sum over the records: x is summed up before record k
abbrev pub Summed : (ℕ → Rec → ℕ) → List Rec → ℕ → ℕ → Type 0
Summed f l k x = x + sum f k (drop k l) ≡ sum f 0 l

module _ (f : ℕ → Rec → ℕ) (l : List Rec) (k x : ℕ) (s : Summed f l k x) where
  pub next_summed : k < length l → Summed f l (k + 1) (x + f k (get_or l k unbegun))
  unfolding sum
  next_summed there = rw add-one (omega (arith, rw (drop-cons l k unbegun there) at s))

  pub all_summed : length l ≤ k → x ≡ sum f 0 l
  unfolding sum
  all_summed past = omega (arith, rw (drop_of_length-le l past) at s)
