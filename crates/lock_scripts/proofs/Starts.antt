-- Where scripts start: one length further on, in order, past the last; and that a number which is cut at another still tells what it has to.
use Prim.Native.Nat.{ℕ, zero, suc, ◌+◌, ◌<◌, ◌≤◌, min}
use mathlib.Core.Path.{◌≡◌, refl, sym, ◌∙◌}
use mathlib.Core.Bool.{Bool, true, false}
use mathlib.Core.List.{List, [], ◌∷◌}
use native.Mathlib.Nat.{min-eq_left}
use native.Mathlib.Numerals.{add-one}
use native.Mathlib.Omega.{arith}
use lib.Dec.{leb}
use lib.ListN.{length, get_or, get_or-eq_default}
use lib.Seq.{take-nil, take-length}
use package.borrow.Author.Tests.{leb-true, leb-false}
use Rattle.machine.specs.Lists.{total, start}

start_suc : (lens : List ℕ) (t : ℕ) → start lens (suc t) ≡ start lens t + get_or lens t 0
unfolding total
start_suc [] t = rw (take-nil t)
start_suc (n ∷ lens) zero = omega arith
start_suc (n ∷ lens) (suc t) = omega (arith, start_suc lens t)

pub start_next : (lens : List ℕ) (t : ℕ) → start lens (t + 1) ≡ start lens t + get_or lens t 0
start_next lens t = rw add-one (start_suc lens t)

-- a script ends before any later one starts
pub start_later : (lens : List ℕ) (t i : ℕ) → t < i → start lens t + get_or lens t 0 ≤ start lens i
unfolding total
start_later lens t zero h = absurd (omega arith)
start_later [] t (suc i) h = rw (take-nil t) (omega arith)
start_later (n ∷ lens) zero (suc i) h = omega arith
start_later (n ∷ lens) (suc t) (suc i) h = omega (arith, start_later lens t i (omega arith))

pub start_last : (lens : List ℕ) → start lens (length lens) ≡ total lens
start_last lens = rw take-length

-- ---- numbers that are cut
-- a number that is cut at another is itself, or that one
cut : {P : Type 0} (s n : ℕ) → (min s n ≡ s → P) → (min s n ≡ n → n ≤ s → P) → P
cut {P} s n below past = go (leb s n) refl
  where
    go : (b : Bool) → leb s n ≡ b → P
    go true e = below (min-eq_left (leb-true _ _ e))
    go false e = let h : n < s = leb-false _ _ e in past (omega arith) (omega arith)

-- a start that is cut at the list's end reads the same word
pub capped : (words : List ℕ) (s at : ℕ) → get_or words (min s (length words) + at) 0 ≡ get_or words (s + at) 0
capped words s at =
    cut s (length words) (λ e. rw e)
    (λ e h. rw e (get_or-eq_default words 0 (omega arith) ∙ sym (get_or-eq_default words 0 (omega arith))))
