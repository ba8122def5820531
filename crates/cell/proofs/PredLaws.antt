-- The laws of the predicates. Only this file, the examples and the proofs of the functions in pred open the definitions. Assumes nothing.
use Prim.Native.Nat.{ℕ, ◌%◌}
use native.Mathlib.Omega.{arith}
use mathlib.Core.Bool.{Bool, true, false, ◌||◌, or-true}
use mathlib.Core.Path.{◌≡◌, refl}
use mathlib.Core.Logic.{◌⊎◌, inl, inr}
use lib.Dec.{eqb}
use borrow.Author.Tests.{eqb-true, eq-eqb, ne_eqb, leb-true, leb-false, le-leb}
use Rattle.cell.specs.Pred.{permits, good, of_kind}
use Rattle.cell.specs.PredLaws.{AnyPermits, EitherPermits, ParityPermits, AnyGood, EitherGood, ParityGood, Kinds, BadPermitsNone, GoodPermitsSome, PermittedIsGood}
use Rattle.cell.specs.declared.pred.Pred.TheVariants.{Any, Either, Parity}

pub any_permits : AnyPermits
unfolding permits
any_permits v = refl

one_of : (s t : Bool) → (s || t) ≡ true → (s ≡ true) ⊎ (t ≡ true)
one_of true t e = inl refl
one_of false t e = inr e

is_one : (a b v : ℕ) → (v ≡ a) ⊎ (v ≡ b) → (eqb v a || eqb v b) ≡ true
is_one a b v (inl e) = rw (eq-eqb v a e)
is_one a b v (inr e) = rw (eq-eqb v b e, or-true)

which : (a b v : ℕ) → (eqb v a ≡ true) ⊎ (eqb v b ≡ true) → (v ≡ a) ⊎ (v ≡ b)
which a b v (inl e) = inl (eqb-true v a e)
which a b v (inr e) = inr (eqb-true v b e)

pub either_permits : EitherPermits
unfolding permits
either_permits a b v = (λ e. which a b v (one_of (eqb v a) (eqb v b) e), is_one a b v)

pub parity_permits : ParityPermits
unfolding permits
parity_permits a v = (eqb-true (v % 2) a, eq-eqb (v % 2) a)

pub any_good : AnyGood
unfolding good
any_good = refl

pub either_good : EitherGood
unfolding good
either_good a b = refl

pub parity_good : ParityGood
unfolding good
parity_good a = (leb-true a 1, le-leb a 1)

pub kinds : Kinds
unfolding of_kind
kinds a b =
    (refl, refl, refl, λ kind above. simp (ne_eqb kind 0 (λ e. omega arith), ne_eqb kind 1 (λ e. omega arith), ne_eqb kind 2 (λ e. omega arith)))

pub bad_permits_none : BadPermitsNone
unfolding permits good
bad_permits_none Any v bad = cc
bad_permits_none (Either a b) v bad = cc
bad_permits_none (Parity a) v bad = ne_eqb (v % 2) a (λ e. omega (arith, leb-false a 1 bad))

pub good_permits_some : GoodPermitsSome
unfolding permits good
good_permits_some Any fine = (0, refl)
good_permits_some (Either a b) fine = (a, is_one a b a (inl refl))
good_permits_some (Parity a) fine = (a, eq-eqb (a % 2) a (omega (arith, leb-true a 1 fine)))

pub permitted_is_good : PermittedIsGood
permitted_is_good p v e = by_cases (good p) refl
  where
    by_cases : (b : Bool) → good p ≡ b → good p ≡ true
    by_cases true fine = fine
    by_cases false bad = cc (bad_permits_none p v bad)
