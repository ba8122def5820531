-- When a test is true: of a comparison, of tests joined, and of a test made on every record.
use Prim.Native.Nat.{ℕ, zero, suc, ◌+◌, ◌<◌, ◌≤◌}
use mathlib.Core.Path.{◌≡◌, refl}
use mathlib.Core.Logic.Iff
use mathlib.Core.Logic.{◌↔◌, ◌⊎◌, inl, inr, ⊎_elim}
use mathlib.Core.Bool.{Bool, true, false, ◌||◌, ◌&&◌, not, false≢true, true≢false}
use mathlib.Core.List.{List, [], ◌∷◌}
use native.Mathlib.Nat.{add-zero, zero-add, add-suc, suc-add, le_of_suc-le-suc, not-suc-le-zero}
use native.Mathlib.Omega.{arith}
use lib.Dec.{eqb, ltb, leb}
use lib.ListN.{length}
use package.borrow.Author.Tests.{ltb-true, leb-true, eqb-true, eq-eqb, lt-ltb, le-leb}
use Rattle.machine.specs.Words.{bit}
use Rattle.machine.specs.Step.{here}
use Rattle.machine.specs.Sound.{every}
use Rattle.machine.specs.declared.Rec.{Rec}

-- the test is true exactly if the fact holds
abbrev pub Says : Bool → Type 0 → Type 0
Says b A = (b ≡ true) ↔ A

-- ---- comparisons, and a test by itself
pub says_leb : (a b : ℕ) → Says (leb a b) (a ≤ b)
says_leb a b = (leb-true a b, le-leb a b)

pub says_ltb : (a b : ℕ) → Says (ltb a b) (a < b)
says_ltb a b = (ltb-true a b, lt-ltb a b)

pub says_eqb : (a b : ℕ) → Says (eqb a b) (a ≡ b)
says_eqb a b = (eqb-true a b, eq-eqb a b)

pub says_so : (b : Bool) → Says b (b ≡ true)
says_so b = (λ e. e, λ e. e)

pub says_not : (b : Bool) → Says (not b) (b ≡ false)
says_not true = (λ e. absurd (false≢true e), λ e. absurd (true≢false e))
says_not false = (λ _. refl, λ _. refl)

pub says_bit : (b : Bool) → Says b (bit b ≡ 1)
says_bit true = (λ _. refl, λ _. refl)
says_bit false = (λ e. absurd (false≢true e), λ e. absurd (omega arith))

-- ---- tests joined
pub and_both : {b c : Bool} {A B : Type 0} → Says b A → Says c B → Says (b && c) (A × B)
and_both {b = true} f g = (λ t. (f.0 refl, g.0 t), λ p. g.1 p.1)
and_both {b = false} f g = (λ t. absurd (false≢true t), λ p. f.1 p.0)

pub or_either : {b c : Bool} {A B : Type 0} → Says b A → Says c B → Says (b || c) (A ⊎ B)
or_either {b = true} f g = (λ t. inl (f.0 t), λ _. refl)
or_either {b = false} f g = (λ t. inr (g.0 t), ⊎_elim (λ x. absurd (false≢true (f.1 x))) g.1)

-- a test that is asked for only where another is true
pub only_if : (b : Bool) {c : Bool} {A : Type 0} → Says c A → Says (not b || c) (b ≡ true → A)
only_if true f = (λ t _. f.0 t, λ g. f.1 (g refl))
only_if false f = (λ t e. absurd (false≢true e), λ _. refl)

-- a choice whose other side is never true
pub or_none : {b : Bool} {A : Type 0} → Says b A → Says (b || false) A
or_none {b = true} f = f
or_none {b = false} f = f

-- products are flat, so that three and four facts are no pair of pairs
pub and_three : {b c d : Bool} {A B C : Type 0} → Says b A → Says c B → Says d C → Says (b && (c && d)) (A × B × C)
and_three f g h = Iff.trans (and_both f (and_both g h)) (λ p. (p.0, p.1.0, p.1.1), λ p. (p.0, (p.1, p.2)))

pub and_four : {b c d e : Bool} {A B C D : Type 0} → Says b A → Says c B → Says d C → Says e D → Says (b && (c && (d && e))) (A × B × C × D)
and_four f g h k = Iff.trans (and_both f (and_three g h k)) (λ p. (p.0, p.1.0, p.1.1, p.1.2), λ p. (p.0, (p.1, p.2, p.3)))

-- ---- a test made on every record
-- from thread k on, with the facts counted from the first record
every_from : (f : ℕ → Rec → Bool) (P : ℕ → Rec → Type 0) (k : ℕ) → ((j : ℕ) (r : Rec) → Says (f (k + j) r) (P j r)) → (l : List Rec)
    → Says (every f k l) ((j : ℕ) → j < length l → P j (here l j))
unfolding every
every_from f P k h [] = (λ _ j q. absurd (not-suc-le-zero q), λ _. refl)
every_from f P k h (r ∷ l) =
    Iff.trans (and_both (rw add-zero at (h zero r)) (every_from f (λ j. P (suc j)) (suc k) later l))
    (join, λ g. (g zero (omega arith), λ j q. g (suc j) (omega arith)))
  where
    later : (j : ℕ) (s : Rec) → Says (f (suc k + j) s) (P (suc j) s)
    later j s = rw (suc-add k j, ← add-suc k j) (h (suc j) s)

    join : P zero r × ((j : ℕ) → j < length l → P (suc j) (here l j)) → (j : ℕ) → j < length (r ∷ l) → P j (here (r ∷ l) j)
    join p zero q = p.0
    join p (suc j) q = p.1 j (le_of_suc-le-suc q)

pub every_says : (f : ℕ → Rec → Bool) (P : ℕ → Rec → Type 0) → ((j : ℕ) (r : Rec) → Says (f j r) (P j r)) → (l : List Rec)
    → Says (every f 0 l) ((j : ℕ) → j < length l → P j (here l j))
every_says f P h l = every_from f P 0 (λ j r. rw zero-add (h j r)) l
