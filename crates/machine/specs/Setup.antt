-- Setup: its refusals, 1 to 7, and the state that it leaves.
use Rattle.std.specs.Prelude.{ℕ, ◌||◌, not, cond, List, ◌∷◌, eqb, ltb, length, replicate}
use Rattle.cell.specs.Pred.{permits, good}
use Rattle.cell.specs.declared.pred.Pred.{Pred}
use Rattle.machine.specs.Names.{thread_count, top_is_zero, bad_predicate, first_value, most_threads}
use Rattle.machine.specs.Words.{unbegun, unused}
use Rattle.machine.specs.Refusals.{Check, gives, lowest}
use Rattle.machine.specs.Lists.{Lent, list_checks, beside}
use Rattle.machine.specs.declared.Rec.{Rec}
use Rattle.std.specs.Prelude.{Err, Ok, Result}
use Rattle.machine.specs.declared.Refusal.{Refusal}
use Rattle.machine.specs.declared.Lock.{Lock}

-- n records after setup
abbrev pub fresh : ℕ → List Rec
fresh n = replicate n unbegun

-- the predicate q, the top m, the first value v, and the scripts with so many records
abbrev pub setup_checks : Pred → ℕ → ℕ → Lent → ℕ → List Check
setup_checks q m v s records =
    gives thread_count (eqb (length s.lens) 0 || ltb most_threads (length s.lens))
    ∷ gives top_is_zero (eqb m 0)
    ∷ gives bad_predicate (not (good q))
    ∷ gives first_value (not (permits q v))
    ∷ list_checks s records

unfoldable pub setup_refusal : Pred → ℕ → ℕ → Lent → ℕ → ℕ
setup_refusal q m v s records = lowest (setup_checks q m v s records)

-- what setup answers, and the records as it leaves them
unfoldable pub setup : Pred → ℕ → ℕ → Lent → ℕ → Result Lock Refusal
setup q m v s records =
    let k = setup_refusal q m v s records in
    cond (eqb k 0) (Ok (unused q m v)) (Err (beside s k))

unfoldable pub setup_recs : Pred → ℕ → ℕ → Lent → List Rec → List Rec
setup_recs q m v s l = cond (eqb (setup_refusal q m v s (length l)) 0) (fresh (length l)) l
