-- The records that are not Idle, counted.
use Prim.Native.Nat.{ℕ, suc, ◌+◌, ◌-◌}
use mathlib.Core.Path.{◌≡◌, refl}
use mathlib.Core.Bool.{Bool, true, false, not, cond}
use mathlib.Core.List.{List, [], ◌∷◌}
use native.Mathlib.Omega.{arith}
use Rattle.std.specs.List.{count_by}
use Rattle.std.proofs.lemmas.List.Recursion.{is_count_by}
use Rattle.machine.specs.Words.{bit, is}
use Rattle.machine.specs.Step.{sum, busy_of, busy}
use Rattle.machine.specs.declared.Rec.{Rec}
use Rattle.machine.specs.declared.Place.TheVariants.{Idle}

-- where the numbers of the records begin does not matter
anywhere : (k : ℕ) (l : List Rec) → sum (λ j r. busy_of r) k l ≡ busy l
unfolding sum
anywhere k [] = refl
anywhere k (r ∷ l) = rw (anywhere (suc k) l, anywhere 1 l)

one : (r : Rec) (n : ℕ) → busy_of r + n ≡ cond (not (is r.place Idle)) (1 + n) n
one r n = go (is r.place Idle)
  where
    go : (b : Bool) → 1 - bit b + n ≡ cond (not b) (1 + n) n
    go true = omega arith
    go false = omega arith

pub counted : (l : List Rec) → busy l ≡ count_by (λ r. not (is r.place Idle)) l
unfolding sum
counted = is_count_by busy (λ r. not (is r.place Idle)) refl (λ r l. rw (anywhere 1 l) (one r (busy l)))
