-- A schedule run piece by piece: the rows of a piece, then those of what still waits, are the rows of all.
use Rattle.std.specs.Prelude.{ℕ, ◌%◌, ◌≡◌, List, ◌++◌}
use Rattle.machine.specs.Words.{unused}
use Rattle.machine.specs.Lists.{Lent, scripts_of}
use Rattle.machine.specs.Setup.{fresh}
use Rattle.machine.specs.Run.{Ran, run}
use Rattle.machine.specs.declared.Lock.{Lock}
use Rattle.machine.specs.declared.Rec.{Rec}
use Rattle.machine.specs.declared.Row.{Row}
use Rattle.scenario.specs.Names.{counted_to}
use Rattle.scenario.specs.Scenario.{Scenario}
use Rattle.scenario.specs.Printed.{rows_of, rows_text}

-- the lock and the records as the pieces so far have left them
pub record Standing : Type 0 where
  pub lock : Lock
  pub recs : List Rec

abbrev pub at_first : Scenario → Standing
at_first s = record { lock = unused s.pred s.top s.first; recs = fresh s.threads }

-- the entries, run from there: their rows, and what they leave
abbrev pub ran_from : Lent → Standing → List ℕ → Ran
ran_from l p entries = run (scripts_of l) p.lock p.recs entries

abbrev pub piece_rows : Lent → Standing → List ℕ → List Row
piece_rows l p entries = (ran_from l p entries).rows

abbrev pub after_piece : Lent → Standing → List ℕ → Standing
after_piece l p entries = record { lock = (ran_from l p entries).lock; recs = (ran_from l p entries).recs }

-- two pieces have the rows of one, and leave what it leaves
abbrev pub TwoPieces : Type 0
TwoPieces =
    (l : Lent) (p : Standing) (a b : List ℕ)
    → (piece_rows l p (a ++ b) ≡ piece_rows l p a ++ piece_rows l (after_piece l p a) b)
    × (after_piece l p (a ++ b) ≡ after_piece l (after_piece l p a) b)

-- only what is left of a row's number by 2 ^ 64 is of account, so that a count of 64 bits serves
abbrev pub CountedRows : Type 0
CountedRows = (n : ℕ) (rows : List Row) → rows_text n rows ≡ rows_text (n % counted_to) rows

-- all rows of a scenario are one piece from the first standing
abbrev pub OnePiece : Type 0
OnePiece = (s : Scenario) → rows_of s ≡ piece_rows s.lent (at_first s) s.schedule
