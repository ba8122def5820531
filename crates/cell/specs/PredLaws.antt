-- The laws of the predicates, which stand for their definitions everywhere else. The last three speak of no kind.
use Rattle.std.specs.Prelude.{ℕ, ◌%◌, ◌≤◌, ◌<◌, true, false, ◌≡◌, ◌⊎◌, ◌↔◌}
use Rattle.cell.specs.Pred.{permits, good, of_kind}
use Rattle.cell.specs.declared.pred.Pred.{Pred}
use Rattle.cell.specs.declared.pred.Pred.TheVariants.{Any, Either, Parity}
use Rattle.std.specs.Prelude.{None, Some}

abbrev pub AnyPermits : Type 0
AnyPermits = (v : ℕ) → permits Any v ≡ true

abbrev pub EitherPermits : Type 0
EitherPermits = (a b v : ℕ) → (permits (Either a b) v ≡ true) ↔ ((v ≡ a) ⊎ (v ≡ b))

abbrev pub ParityPermits : Type 0
ParityPermits = (a v : ℕ) → (permits (Parity a) v ≡ true) ↔ (v % 2 ≡ a)

abbrev pub AnyGood : Type 0
AnyGood = good Any ≡ true

abbrev pub EitherGood : Type 0
EitherGood = (a b : ℕ) → good (Either a b) ≡ true

abbrev pub ParityGood : Type 0
ParityGood = (a : ℕ) → (good (Parity a) ≡ true) ↔ (a ≤ 1)

-- a file's kinds; parameters that a kind has no use for are ignored
abbrev pub Kinds : Type 0
Kinds =
    (a b : ℕ) →
    (of_kind 0 a b ≡ Some Any)
    × (of_kind 1 a b ≡ Some (Either a b))
    × (of_kind 2 a b ≡ Some (Parity a))
    × ((kind : ℕ) → 2 < kind → of_kind kind a b ≡ None)

-- with a bad parameter no value is permitted, and with good ones some is
abbrev pub BadPermitsNone : Type 0
BadPermitsNone = (p : Pred) (v : ℕ) → good p ≡ false → permits p v ≡ false

abbrev pub GoodPermitsSome : Type 0
GoodPermitsSome = (p : Pred) → good p ≡ true → (v : ℕ) × (permits p v ≡ true)

abbrev pub PermittedIsGood : Type 0
PermittedIsGood = (p : Pred) (v : ℕ) → permits p v ≡ true → good p ≡ true
