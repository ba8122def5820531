-- An entry for a thread that there is, by its own record alone: the refusals 12 to 16, and what the table does. proofs/Turn.antt has
-- that it is machine's answer to the entry.
use Rattle.std.specs.Prelude.{ℕ, Bool, ◌||◌, ◌&&◌, not, cond, List, [], ◌∷◌, eqb, ltb, leb}
use Rattle.cell.specs.Pred.{permits}
use Rattle.machine.specs.Names.{release_write, into_inner, script_finished, lock_gone, does_not_fit, others_busy, not_permitted}
use Rattle.machine.specs.Words.{is, may_go, begun}
use Rattle.machine.specs.Refusals.{Check, gives, lowest}
use Rattle.machine.specs.Step.{act, fits}
use Rattle.machine.specs.declared.Lock.{Lock}
use Rattle.machine.specs.declared.Rec.{Rec}
use Rattle.std.specs.Prelude.{Err, Ok, Result}
use Rattle.machine.specs.declared.Did.{Did}
use Rattle.machine.specs.declared.Place.TheVariants.{Writing}

-- into_inner is finished, or another thread than i has begun it
abbrev pub gone : Lock → ℕ → Bool
gone L i = L.finished || not (may_go L.mover i)

-- the operation o is an into_inner that thread i has not begun, and of the other records so many are not Idle
abbrev pub others_are_busy : Lock → ℕ → ℕ → ℕ → Bool
others_are_busy L i others o = eqb o into_inner && (not (begun L.mover i) && ltb 0 others)

-- the record r is about to put the value v, which is not permitted
abbrev pub forbidden : Lock → Rec → ℕ → ℕ → Bool
forbidden L r o v = is r.place Writing && (eqb o release_write && not (permits L.pred v))

-- thread i has the record r, a script of the length n, at its script place the operation o with the value v; of the other records
-- so many are not Idle
abbrev pub turn_checks : Lock → Rec → ℕ → ℕ → ℕ → ℕ → ℕ → List Check
turn_checks L r i n others o v =
    gives script_finished (leb n r.at)
    ∷ gives lock_gone (gone L i)
    ∷ gives does_not_fit (not (fits r.place o))
    ∷ gives others_busy (others_are_busy L i others o)
    ∷ gives not_permitted (forbidden L r o v)
    ∷ []

unfoldable pub turn_refusal : Lock → Rec → ℕ → ℕ → ℕ → ℕ → ℕ → ℕ
turn_refusal L r i n others o v = lowest (turn_checks L r i n others o v)

unfoldable pub turn_of : Lock → Rec → ℕ → ℕ → ℕ → ℕ → ℕ → Result Did ℕ
turn_of L r i n others o v =
    let k = turn_refusal L r i n others o v in
    cond (eqb k 0) (Ok (act i L r r.place o v)) (Err k)
