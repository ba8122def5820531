-- What pieces leave and store, in the words of `scenario`: what one piece does, and the relation between a standing and the entries so far. The
-- first standing has it and every piece keeps it; from there no piece is refused, and a piece stores the rows that come next.
use Rattle.std.specs.Prelude.{ℕ, ◌+◌, ◌*◌, ◌<◌, ◌≤◌, ◌≡◌, ◌≢◌, ◌⊎◌, cond, List, [], ◌++◌, length}
use Rattle.std.proofs.lemmas.List.Edits.{sets}
use Rattle.cell.specs.declared.pred.Pred.{Pred}
use Rattle.machine.specs.Names.{most_threads, row_words}
use Rattle.machine.specs.Words.{unused}
use Rattle.machine.specs.Lists.{Lent}
use Rattle.machine.specs.Run.{words_of}
use Rattle.machine.specs.Setup.{fresh, setup_refusal}
use Rattle.scenario.specs.Scenario.{Scenario}
use Rattle.scenario.specs.Refused.{asked}
use Rattle.scenario.specs.Pieces.{Standing as Listed, at_first, piece_rows, after_piece}
use Rattle.scenario_pieces.specs.Piece.{first_of, piece, recs_of, refusal_of, has_room, left_of, stored_of}
use Rattle.scenario_pieces.specs.declared.Standing.{Standing}
use Rattle.scenario_pieces.specs.declared.Left.{Left}

-- the standing with a list of records, one for each script
abbrev pub listed : Lent → Standing → Listed
listed s p = record { lock = p.lock; recs = recs_of s p }

-- the rows of entries from there, as words
abbrev pub piece_words : Lent → Listed → List ℕ → List ℕ
piece_words s p entries = words_of (piece_rows s p entries)

-- ---- one piece
-- where the entries of the piece have room and the run is not refused, their rows are stored, and the standing is the one after them
abbrev pub PieceIsRun : Type 0
PieceIsRun =
    (s : Lent) (p : Standing) (entries out : List ℕ) (at : ℕ) (r : Left) (out' : List ℕ)
    → r ≡ left_of s p entries out at → out' ≡ stored_of s p entries out at
    → length p.recs ≡ most_threads → at + row_words * length (piece entries) ≤ length out → refusal_of s p ≡ 0
    → let words = piece_words s (listed s p) (piece entries) in
    (out' ≡ sets out at words)
    × (r.at ≡ at + length words)
    × (r.at ≡ at + row_words * length (piece entries))
    × (listed s r.standing ≡ after_piece s (listed s p) (piece entries))
    × (length r.standing.recs ≡ most_threads)

-- with no room, and where the run is refused, all comes back as it was
abbrev pub AllStays : Type 0
AllStays =
    (s : Lent) (p : Standing) (entries out : List ℕ) (at : ℕ) (r : Left) (out' : List ℕ)
    → r ≡ left_of s p entries out at → out' ≡ stored_of s p entries out at
    → ((length out < at + row_words * length (piece entries)) ⊎ (refusal_of s p ≢ 0))
    → (r.standing ≡ p) × (r.at ≡ at) × (out' ≡ out)

-- ---- piece after piece
-- as setup makes it, with the predicate q, the top m and the first value v
abbrev pub first_listed : Lent → Pred → ℕ → ℕ → Listed
first_listed s q m v = record { lock = unused q m v; recs = fresh (length s.lens) }

-- setup takes the scripts, and p is what the entries `before` leave of it
pub record Stands (s : Lent) (q : Pred) (m v : ℕ) (before : List ℕ) (p : Standing) : Type 0 where
  pub accepted : setup_refusal q m v s (length s.lens) ≡ 0
  -- the array has sixteen records
  pub wide : length p.recs ≡ most_threads
  pub is : listed s p ≡ after_piece s (first_listed s q m v) before

abbrev pub FirstStands : Type 0
FirstStands =
    (s : Lent) (q : Pred) (m v : ℕ) (p : Standing) → p ≡ first_of q m v → setup_refusal q m v s (length s.lens) ≡ 0 → Stands s q m v [] p

-- so the standings of a scenario file begin, where setup refuses nothing of what is read; and `first_listed` is scenario's
abbrev pub ScenarioStands : Type 0
ScenarioStands =
    (file : Scenario) (p : Standing) → asked file ≡ 0 → p ≡ first_of file.pred file.top file.first
    → Stands file.lent file.pred file.top file.first [] p × (first_listed file.lent file.pred file.top file.first ≡ at_first file)

-- the entries that are run: those of the piece, or none where there is no room
abbrev pub run_entries : List ℕ → List ℕ → ℕ → List ℕ
run_entries entries out at = cond (has_room entries out at) (piece entries) []

abbrev pub PieceStands : Type 0
PieceStands =
    (s : Lent) (q : Pred) (m v : ℕ) (before : List ℕ) (p : Standing) → Stands s q m v before p
    → (entries out : List ℕ) (at : ℕ) (r : Left) → r ≡ left_of s p entries out at
    → Stands s q m v (before ++ run_entries entries out at) r.standing

abbrev pub NeverRefused : Type 0
NeverRefused = (s : Lent) (q : Pred) (m v : ℕ) (before : List ℕ) (p : Standing) → Stands s q m v before p → refusal_of s p ≡ 0

-- the rows of all entries are those so far, then those of the others from here
abbrev pub RowsNext : Type 0
RowsNext =
    (s : Lent) (q : Pred) (m v : ℕ) (before : List ℕ) (p : Standing) → Stands s q m v before p → (entries : List ℕ)
    → piece_words s (first_listed s q m v) (before ++ entries) ≡ piece_words s (first_listed s q m v) before ++ piece_words s (listed s p) entries
