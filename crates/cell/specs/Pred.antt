-- The predicates: which values each kind permits, which parameters are good, and the kinds by number. Whatever stands above cites
-- the laws of PredLaws and opens no definition.
use Rattle.std.specs.Prelude.{ℕ, ◌%◌, Bool, true, ◌||◌, cond, eqb, leb}
use Rattle.cell.specs.declared.pred.Pred.{Pred}
use Rattle.cell.specs.declared.pred.Pred.TheVariants.{Any, Either, Parity}
use Rattle.std.specs.Prelude.{None, Option, Some}

unfoldable pub permits : Pred → ℕ → Bool
permits Any v = true
permits (Either a b) v = eqb v a || eqb v b
permits (Parity a) v = eqb (v % 2) a

unfoldable pub good : Pred → Bool
good Any = true
good (Either a b) = true
good (Parity a) = leb a 1

unfoldable pub of_kind : ℕ → ℕ → ℕ → Option Pred
of_kind kind a b =
    cond (eqb kind 0) (Some Any)
    (cond (eqb kind 1) (Some (Either a b))
    (cond (eqb kind 2) (Some (Parity a)) None))
