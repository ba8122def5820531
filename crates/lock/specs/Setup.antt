-- Setup as code: its own checks, 1 to 4, apart from those of the lists; and what it leaves, with records by value.
use Rattle.std.specs.Prelude.{ℕ, ◌||◌, not, List, [], ◌∷◌, eqb, ltb}
use Rattle.cell.specs.Pred.{permits, good}
use Rattle.cell.specs.declared.pred.Pred.{Pred}
use Rattle.machine.specs.Names.{thread_count, top_is_zero, bad_predicate, first_value, most_threads}
use Rattle.machine.specs.Refusals.{Check, gives}
use Rattle.machine.specs.Lists.{Lent}
use Rattle.machine.specs.Setup.{setup}
use Rattle.machine.specs.declared.Rec.{Rec}
use Rattle.lock.specs.ByValue.{setup_of}
use Rattle.lock.specs.declared.setup.Begun.{Begun}

-- the predicate q, the top m, the first value v, and so many threads
abbrev pub own_checks : Pred → ℕ → ℕ → ℕ → List Check
own_checks q m v threads =
    gives thread_count (eqb threads 0 || ltb most_threads threads)
    ∷ gives top_is_zero (eqb m 0)
    ∷ gives bad_predicate (not (good q))
    ∷ gives first_value (not (permits q v))
    ∷ []

abbrev pub begun_of : Pred → ℕ → ℕ → Lent → ℕ → List Rec → Begun
begun_of q m v s count recs = record { start = setup q m v s count; recs = setup_of q m v s count recs }
