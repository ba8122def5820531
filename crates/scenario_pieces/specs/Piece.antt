-- A piece as the code runs it, with records by value: at most 64 entries, run and their rows stored; or nothing at all, where there is no room
-- for so many rows or the run is refused.
use Rattle.std.specs.Prelude.{ℕ, ◌+◌, ◌*◌, Bool, cond, List, eqb, leb, length, take}
use Rattle.std.proofs.lemmas.List.Edits.{sets}
use Rattle.cell.specs.declared.pred.Pred.{Pred}
use Rattle.machine.specs.Names.{most_threads, row_words}
use Rattle.machine.specs.Words.{unused}
use Rattle.machine.specs.Lists.{Lent, scripts_of}
use Rattle.machine.specs.Setup.{fresh}
use Rattle.machine.specs.Run.{Ran, run, words_of}
use Rattle.machine.specs.declared.Rec.{Rec}
use Rattle.lock.specs.ByValue.{put_back, run_refusal_of}
use Rattle.scenario_pieces.specs.declared.Standing.{Standing}
use Rattle.scenario_pieces.specs.declared.Left.{Left}

abbrev pub most_entries : ℕ
most_entries = 64

-- before the first piece
abbrev pub first_of : Pred → ℕ → ℕ → Standing
first_of q m v = record { lock = unused q m v; recs = fresh most_threads }

-- ---- what is run
-- the entries of the piece; those past the most are not run
abbrev pub piece : List ℕ → List ℕ
piece entries = take most_entries entries

-- a record for each script
abbrev pub recs_of : Lent → Standing → List Rec
recs_of s p = take (length s.lens) p.recs

-- the number of the run's refusal, 0 for none
abbrev pub refusal_of : Lent → Standing → ℕ
refusal_of s p = run_refusal_of s (length s.lens) p.lock (recs_of s p)

abbrev pub piece_ran : Lent → Standing → List ℕ → Ran
piece_ran s p entries = run (scripts_of s) p.lock (recs_of s p) (piece entries)

-- the rows, as words
abbrev pub words_in : Lent → Standing → List ℕ → List ℕ
words_in s p entries = words_of (piece_ran s p entries).rows

-- records past the scripts stay
abbrev pub standing_of : Lent → Standing → List ℕ → Standing
standing_of s p entries =
    record { lock = (piece_ran s p entries).lock; recs = put_back (length s.lens) p.recs (piece_ran s p entries).recs }

-- ---- where there is room
unfoldable pub ran_left : Lent → Standing → List ℕ → ℕ → Left
ran_left s p entries at =
    cond (eqb (refusal_of s p) 0) (record { standing = standing_of s p entries; at = at + length (words_in s p entries) }) (record { standing = p; at = at })

unfoldable pub ran_stored : Lent → Standing → List ℕ → List ℕ → ℕ → List ℕ
ran_stored s p entries out at = cond (eqb (refusal_of s p) 0) (sets out at (words_in s p entries)) out

-- ---- as it is called
-- so many rows have room from `at` on
abbrev pub has_room : List ℕ → List ℕ → ℕ → Bool
has_room entries out at = leb (at + row_words * length (piece entries)) (length out)

-- the answer, and the list afterwards
unfoldable pub left_of : Lent → Standing → List ℕ → List ℕ → ℕ → Left
left_of s p entries out at = cond (has_room entries out at) (ran_left s p entries at) (record { standing = p; at = at })

unfoldable pub stored_of : Lent → Standing → List ℕ → List ℕ → ℕ → List ℕ
stored_of s p entries out at = cond (has_room entries out at) (ran_stored s p entries out at) out
