-- The law of the sums over the records: a record changed moves each sum by what it weighed and what it weighs now.
use Prim.Native.Nat.{ℕ, zero, suc, ◌+◌, ◌*◌, ◌<◌, ◌≤◌}
use mathlib.Core.Path.{◌≡◌, refl, ap}
use mathlib.Core.Logic.{◌≢◌}
use mathlib.Core.List.{List, [], ◌∷◌}
use native.Mathlib.Nat.{add-zero, zero-add, add-suc, suc-add, le_of_suc-le-suc, not-suc-le-zero}
use native.Mathlib.Omega.{arith}
use lib.ListN.{length, get_or, set, replicate}
use lib.Seq.{lt-length-set, get_or-set_other}
use Rattle.machine.specs.Step.{sum}
use Rattle.machine.specs.declared.Rec.{Rec}

sum_set_from : (f : ℕ → Rec → ℕ) (l : List Rec) (k i : ℕ) (r d : Rec) → i < length l → sum f k (set l i r) + f (k + i) (get_or l i d) ≡ sum f k l + f (k + i) r
unfolding sum
sum_set_from f [] k i r d h = absurd (not-suc-le-zero h)
sum_set_from f (x ∷ l) k zero r d h = rw add-zero (omega arith)
sum_set_from f (x ∷ l) k (suc i) r d h = rw (add-suc k i, ← suc-add k i) (omega (arith, sum_set_from f l (suc k) i r d (le_of_suc-le-suc h)))

pub sum_set : (f : ℕ → Rec → ℕ) (l : List Rec) (i : ℕ) (r d : Rec) → i < length l → sum f 0 (set l i r) + f i (get_or l i d) ≡ sum f 0 l + f i r
sum_set f l i r d h = rw zero-add at (sum_set_from f l 0 i r d h)

pub sum_le : (f g : ℕ → Rec → ℕ) → ((k : ℕ) (r : Rec) → f k r ≤ g k r) → (k : ℕ) (l : List Rec) → sum f k l ≤ sum g k l
unfolding sum
sum_le f g h k [] = omega arith
sum_le f g h k (r ∷ l) = omega (arith, h k r, sum_le f g h (suc k) l)

-- each weight is part of the sum
sum_part_from : (f : ℕ → Rec → ℕ) (l : List Rec) (k i : ℕ) (d : Rec) → i < length l → f (k + i) (get_or l i d) ≤ sum f k l
unfolding sum
sum_part_from f [] k i d h = absurd (not-suc-le-zero h)
sum_part_from f (x ∷ l) k zero d h = rw add-zero (omega arith)
sum_part_from f (x ∷ l) k (suc i) d h = rw (add-suc k i, ← suc-add k i) (omega (arith, sum_part_from f l (suc k) i d (le_of_suc-le-suc h)))

pub sum_part : (f : ℕ → Rec → ℕ) (l : List Rec) (i : ℕ) (d : Rec) → i < length l → f i (get_or l i d) ≤ sum f 0 l
sum_part f l i d h = rw zero-add at (sum_part_from f l 0 i d h)

-- the sum, with record i taken out of it: d weighs nothing
pub sum_at : (f : ℕ → Rec → ℕ) (l : List Rec) (i : ℕ) (s d : Rec) → f i d ≡ 0 → i < length l → sum f 0 (set l i s) ≡ f i s + sum f 0 (set l i d)
sum_at f l i s d z h = omega (arith, sum_set f l i s d h, sum_set f l i d d h)

-- what holds of every other record, and of the new one at its place, holds of every record afterwards
pub all_set : (P : ℕ → Rec → Type 0) (l : List Rec) (i : ℕ) (s d : Rec) → P i s → ((j : ℕ) → j ≢ i → j < length l → P j (get_or l j d)) → (j : ℕ) → j < length (set l i s) → P j (get_or (set l i s) j d)
all_set P [] i s d p h j k = absurd (not-suc-le-zero k)
all_set P (x ∷ l) zero s d p h zero k = p
all_set P (x ∷ l) zero s d p h (suc j) k = h (suc j) (omega arith) k
all_set P (x ∷ l) (suc i) s d p h zero k = h zero (omega arith) (omega arith)
all_set P (x ∷ l) (suc i) s d p h (suc j) k = all_set (λ n. P (suc n)) l i s d p (λ n ne q. h (suc n) (omega arith) (omega arith)) j (le_of_suc-le-suc k)

pub sum_none : (f : ℕ → Rec → ℕ) (d : Rec) → ((k : ℕ) → f k d ≡ 0) → (k n : ℕ) → sum f k (replicate n d) ≡ 0
unfolding sum
sum_none f d z k zero = refl
sum_none f d z k (suc n) = omega (arith, z k, sum_none f d z (suc k) n)

-- two records' weights are part of the sum
pub sum_two : (f : ℕ → Rec → ℕ) (l : List Rec) (i j : ℕ) (d : Rec) → f i d ≡ 0 → i < length l → j < length l → j ≢ i → f i (get_or l i d) + f j (get_or l j d) ≤ sum f 0 l
sum_two f l i j d z h k ne =
    let part : f j (get_or (set l i d) j d) ≤ sum f 0 (set l i d) = sum_part f (set l i d) j d (lt-length-set l i d k) in
    let same : get_or (set l i d) j d ≡ get_or l j d = get_or-set_other l i j d d ne in
    let all : sum f 0 (set l i d) + f i (get_or l i d) ≡ sum f 0 l + f i d = sum_set f l i d d h in
    omega (arith, ap (λ (r : Rec). f j r) same)

-- a sum of nothing but zeros
sum_zeros_from : (f : ℕ → Rec → ℕ) (d : Rec) (l : List Rec) (k : ℕ) → ((j : ℕ) → j < length l → f (k + j) (get_or l j d) ≡ 0) → sum f k l ≡ 0
unfolding sum
sum_zeros_from f d [] k h = refl
sum_zeros_from f d (x ∷ l) k h =
    omega (
      arith,
      rw add-zero at (h zero (omega arith)),
      sum_zeros_from f d l (suc k) (λ j q. rw (suc-add k j, ← add-suc k j) (h (suc j) (omega arith))),
    )

pub sum_zeros : (f : ℕ → Rec → ℕ) (d : Rec) (l : List Rec) → ((j : ℕ) → j < length l → f j (get_or l j d) ≡ 0) → sum f 0 l ≡ 0
sum_zeros f d l h = sum_zeros_from f d l 0 (λ j q. rw zero-add (h j q))

pub sum_add : (f g : ℕ → Rec → ℕ) (k : ℕ) (l : List Rec) → sum (λ j r. f j r + g j r) k l ≡ sum f k l + sum g k l
unfolding sum
sum_add f g k [] = refl
sum_add f g k (r ∷ l) = omega (arith, sum_add f g (suc k) l)

pub sum_const : (c k : ℕ) (l : List Rec) → sum (λ j r. c) k l ≡ c * length l
unfolding sum
sum_const c k [] = omega arith
sum_const c k (r ∷ l) = omega (arith, sum_const c (suc k) l)

-- another record's weight is part of the sum without record i
pub sum_other : (f : ℕ → Rec → ℕ) (l : List Rec) (i j : ℕ) (d : Rec) → j ≢ i → j < length l → f j (get_or l j d) ≤ sum f 0 (set l i d)
sum_other f l i j d ne q = rw (get_or-set_other l i j d d ne) at (sum_part f (set l i d) j d (lt-length-set l i d q))
