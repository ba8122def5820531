-- Lists of lengths with one operation added: the sum, the starts, and where the new operation stands. Assumes nothing.
use Prim.Native.Nat.{ℕ, zero, suc, ◌+◌, ◌<◌, ◌≤◌}
use mathlib.Core.Path.{◌≡◌, refl, ap}
use mathlib.Core.List.{List, [], ◌∷◌}
use native.Mathlib.Omega.{arith}
use lib.ListN.{length, get_or, set, take, replicate}
use Rattle.machine.specs.Lists.{total}

pub total_set : (lens : List ℕ) (t x : ℕ) → t < length lens → total (set lens t x) + get_or lens t 0 ≡ total lens + x
unfolding total
total_set [] t x h = absurd (omega arith)
total_set (n ∷ lens) zero x h = omega arith
total_set (n ∷ lens) (suc t) x h = let ih = total_set lens t x (omega arith) in omega arith

-- a start at or before t is as it was
pub start_set : (lens : List ℕ) (t x i : ℕ) → i ≤ t → total (take i (set lens t x)) ≡ total (take i lens)
unfolding total
start_set [] t x i h = refl
start_set (n ∷ lens) zero x zero h = refl
start_set (n ∷ lens) zero x (suc i) h = absurd (omega arith)
start_set (n ∷ lens) (suc t) x zero h = refl
start_set (n ∷ lens) (suc t) x (suc i) h = ap (λ (k : ℕ). n + k) (start_set lens t x i (omega arith))

all_zero : (lens : List ℕ) → ((i : ℕ) → get_or lens i 0 ≡ 0) → total lens ≡ 0
unfolding total
all_zero [] h = refl
all_zero (n ∷ lens) h = let ih = all_zero lens (λ i. h (suc i)) in omega (arith, h 0)

-- with nothing after it, thread t's script ends where all end
pub ends_last : (lens : List ℕ) (t : ℕ) → t < length lens → ((i : ℕ) → t < i → get_or lens i 0 ≡ 0) → total (take t lens) + get_or lens t 0 ≡ total lens
unfolding total
ends_last [] t h later = absurd (omega arith)
ends_last (n ∷ lens) zero h later = let z = all_zero lens (λ i. later (suc i) (omega arith)) in omega arith
ends_last (n ∷ lens) (suc t) h later = let ih = ends_last lens t (omega arith) (λ i g. later (suc i) (omega arith)) in omega arith

-- a script lies inside the lists
pub inside : (lens : List ℕ) (i k : ℕ) → i < length lens → k < get_or lens i 0 → total (take i lens) + k < total lens
unfolding total
inside [] i k h g = absurd (omega arith)
inside (n ∷ lens) zero k h g = omega arith
inside (n ∷ lens) (suc i) k h g = let ih = inside lens i k (omega arith) g in omega arith

pub total_none : (n : ℕ) → total (replicate n 0) ≡ 0
unfolding total
total_none zero = refl
total_none (suc n) = let ih = total_none n in omega arith

pub none_there : (n i : ℕ) → ◌≡◌ {A = ℕ} (get_or (replicate n 0) i 0) 0
none_there zero i = refl
none_there (suc n) zero = refl
none_there (suc n) (suc i) = none_there n i
