-- Which of setup's numbers a pred line is given: 1, 2, 3 or 4, each exactly where its cause holds and no earlier one does, and otherwise none.
use Rattle.std.specs.Prelude.{ℕ, ◌≡◌, Bool, ◌||◌, ◌&&◌, not, cond, eqb, ltb}
use Rattle.cell.specs.Pred.{permits, good, of_kind}
use Rattle.cell.specs.declared.pred.Pred.{Pred}
use Rattle.machine.specs.Names.{thread_count, top_is_zero, bad_predicate, first_value}
use Rattle.scenario_lines.specs.declared.Line.TheVariants.{Pred as PredLine}
use Rattle.scenario.specs.Scenario.{Scenario, pred_of, with_pred}
use Rattle.scenario.specs.Refused.{asked, setup_number}

-- what the lock line said, then whether the predicate is good and permits the first value
abbrev pub first_of : Scenario → Bool → Bool → ℕ
first_of s fine permitted =
    cond (eqb s.threads 0 || ltb 16 s.threads) thread_count
    (cond (eqb s.top 0) top_is_zero
    (cond fine (cond permitted 0 first_value) bad_predicate))

-- of any predicate
abbrev pub OfPred : Type 0
OfPred = (s : Scenario) (q : Pred) → asked (with_pred s q) ≡ first_of s (good q) (permits q s.first)

-- kinds are 0, 1 and 2; parity's parameter is 0 or 1
abbrev pub names_none : ℕ → ℕ → Bool
names_none kind a = ltb 2 kind || (eqb kind 2 && ltb 1 a)

-- of the line's three numbers
abbrev pub OfLine : Type 0
OfLine =
    (s : Scenario) (kind a b : ℕ)
    → setup_number s (PredLine kind a b) ≡ first_of s (not (names_none kind a)) (permits (pred_of (of_kind kind a b)) s.first)
