-- What is claimed: rows may be cut anywhere, with a count of 64 bits; where there is room none is lost; and what a scenario file prints is the header, the
-- text of its rows, and its refusal, however the reader came to them, and in whatever calls they were stored as text.
use Rattle.std.specs.Prelude.{◌≡◌, ℕ, ◌+◌, ◌*◌, ◌/◌, ◌%◌, ◌≤◌, false, List, [], ◌∷◌, ◌++◌, length, take}
use Rattle.std.proofs.lemmas.List.Edits.{sets}
use Rattle.machine.specs.Names.{row_words}
use Rattle.machine.specs.Run.{words_of}
use Rattle.machine.specs.declared.Row.{Row}
use Rattle.scenario_text.specs.Lines.{header}
use Rattle.lock_promises.specs.Reached.{rows_in as rows_of_words}
use Rattle.scenario.specs.Names.{counted_to}
use Rattle.scenario.specs.Printed.{rows_text, refusal_text, reading_of, rows_in, printed}
use Rattle.scenario_read.specs.Feed.{World, stop_of, is_end}
use Rattle.scenario_read.specs.declared.Stop.{Stop}
use Rattle.scenario_promises.specs.Piped.{ComesTo}
use Rattle.scenario_prints.specs.Prints.{stop_text, more_text, most_text, place_of, stored_of}

-- rows out of their words
abbrev pub RowsOfWords : Type 0
RowsOfWords = (rows : List Row) (rest : List ℕ) → rows_of_words (length rows) (words_of rows ++ rest) ≡ rows

abbrev pub CutAnywhere : Type 0
CutAnywhere = (n : ℕ) (a b : List Row) → rows_text n (a ++ b) ≡ rows_text n a ++ rows_text ((n + length a) % counted_to) b

-- where there are so many rows and their text has room, all of it is stored
abbrev pub NoneLost : Type 0
NoneLost =
    (first : ℕ) (rows : List ℕ) (n : ℕ) (stop : Stop) (out : List ℕ) (at : ℕ) → row_words * n ≤ length rows → at + most_text n ≤ length out
    → (place_of first rows n stop out at ≡ at + length (more_text first rows n stop))
    × (stored_of first rows n stop out at ≡ sets out at (more_text first rows n stop))

-- ---- a file
abbrev pub PrintedIsRows : Type 0
PrintedIsRows = (file : List ℕ) → printed file ≡ header ++ (rows_text 0 (rows_in file) ++ refusal_text (reading_of file))

-- it is the header, the text of the words that the reader stored, and what it was stopped by, in whatever chunks the file came
abbrev pub PrintedByReader : Type 0
PrintedByReader =
    (file words : List ℕ) (w : World) → ComesTo file words w → (room at : ℕ)
    → printed file ≡ header ++ (rows_text 0 (rows_of_words (length words / row_words) words) ++ stop_text (stop_of w.state room at))

-- ---- page by page
-- what one call is handed: a list, how many rows stand in its first places, and what the reader was stopped by
pub record Page : Type 0 where
  pub rows : List ℕ
  pub n : ℕ
  pub stop : Stop

-- there are so many rows; places behind them may hold anything, since one list serves for all calls
abbrev pub Whole : Page → Type 0
Whole p = row_words * p.n ≤ length p.rows

-- so many, and the reader goes on after it
unfoldable pub GoOn : List Page → Type 0
GoOn [] = Unit {0}
GoOn (p ∷ pages) = Whole p × (is_end p.stop ≡ false) × GoOn pages

-- the words of their rows
unfoldable pub pages_words : List Page → List ℕ
pages_words [] = []
pages_words (p ∷ pages) = take (row_words * p.n) p.rows ++ pages_words pages

-- what the calls store, one behind the other: rows are numbered on from call to call, with a count of 64 bits
unfoldable pub pages_text : ℕ → List Page → List ℕ
pages_text first [] = []
pages_text first (p ∷ pages) = more_text first p.rows p.n p.stop ++ pages_text ((first + p.n) % counted_to) pages

-- so where the pages have the words that the reader stored, and the last of them the stop that it came to, the calls store what the file prints
abbrev pub PrintedInPages : Type 0
PrintedInPages =
    (file words : List ℕ) (w : World) → ComesTo file words w → (room at : ℕ) (before : List Page) (last : Page) → GoOn before → Whole last
    → last.stop ≡ stop_of w.state room at → pages_words (before ++ (last ∷ [])) ≡ words
    → printed file ≡ header ++ pages_text 0 (before ++ (last ∷ []))
