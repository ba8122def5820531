-- Rows as text may be cut anywhere, and with the header and the refusal they are what a file prints. Assumes nothing.
use Rattle.std.proofs.Common.{◌≡◌, ℕ, ◌+◌, ◌*◌, ◌/◌, ◌%◌, Bool, true, false, cond, eqb, List, [], ◌++◌, length, sym, refl, ap, ◌∙◌, append-nil, arith, le-leb}
use Rattle.machine.specs.Names.{row_words}
use Rattle.machine.specs.Run.{words_of}
use Rattle.machine.specs.declared.Row.{Row}
use Rattle.scenario_text.specs.Lines.{header, refusal}
use Rattle.lock_promises.specs.Reached.{rows_in as rows_of_words}
use Rattle.scenario.specs.Names.{counted_to}
use Rattle.scenario_read.specs.declared.Stop.TheVariants.{Refused, Over}
use Rattle.scenario_prints.specs.Prints.{stop_text, place_of, stored_of}
use Rattle.machine.proofs.Words.{words_length}
use Rattle.lock_promises.proofs.Rows.{rows_read_back}
use Rattle.scenario.specs.Printed.{rows_text, output, reading_of, rows_in, printed}
use Rattle.scenario.proofs.Pieces.{rows_append, counted_rows}
use Rattle.scenario_prints.specs.Laws.{RowsOfWords, CutAnywhere, NoneLost, PrintedIsRows, PrintedByReader}

pub rows_of_words_lem : RowsOfWords
rows_of_words_lem rows rest = rows_read_back rows rest

pub cut_anywhere : CutAnywhere
cut_anywhere n a b = rows_append n a b ∙ ap (λ (t : List ℕ). rows_text n a ++ t) (counted_rows (n + length a) b)

pub printed_is_rows : PrintedIsRows
unfolding printed output
printed_is_rows file = refl

pub none_lost : NoneLost
unfolding place_of stored_of
none_lost first rows n stop out at some room = rw (le-leb (6 * n) (length rows) some, le-leb (at + (148 * n + 51)) (length out) room) (refl, refl)

-- ---- the words of rows are so many rows
pub rows_back : (rows : List Row) → rows_of_words (length (words_of rows) / row_words) (words_of rows) ≡ rows
rows_back rows =
    let n : length (words_of rows) / row_words ≡ length rows = omega (arith, words_length rows (length rows) refl) in
    rw n (ap (rows_of_words (length rows)) (sym (append-nil (words_of rows))) ∙ rows_of_words_lem rows [])

-- the refusal is the same text
refusal_same : (k line : ℕ) → stop_text (cond (eqb k 0) Over (Refused k (line % counted_to))) ≡ cond (eqb k 0) [] (refusal k (line % counted_to))
refusal_same k line = go (eqb k 0)
  where
    go : (b : Bool) → stop_text (cond b Over (Refused k (line % counted_to))) ≡ cond b [] (refusal k (line % counted_to))
    go true = refl
    go false = refl

pub printed_by_reader : PrintedByReader
printed_by_reader file words w comes room at =
    let rows : rows_of_words (length words / row_words) words ≡ rows_in file = rw comes.rows (rows_back (rows_in file)) in
    let stop = ap stop_text (comes.end room at) ∙ refusal_same (reading_of file).refused (reading_of file).line in
    printed_is_rows file ∙ sym (λ i. header ++ (rows_text 0 (rows i) ++ stop i))
