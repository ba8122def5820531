-- Rows stored as text, and a refusal behind them, where there are so many and they have room.
use Rattle.std.specs.Prelude.{ℕ, ◌+◌, ◌*◌, Bool, cond, ◌&&◌, List, [], ◌++◌, length, nat_le, slice_index}
use Rattle.std.proofs.lemmas.List.Edits.{sets}
use Rattle.machine.specs.Names.{row_words}
use Rattle.machine.specs.declared.Row.{Row}
use Rattle.lock_promises.specs.Reached.{rows_in}
use Rattle.scenario.specs.Printed.{rows_text}
use Rattle.scenario_text.specs.Lines.{refusal}
use Rattle.scenario_read.specs.declared.Stop.{Stop}
use Rattle.scenario_read.specs.declared.Stop.TheVariants.{Wants, Full, Refused, Over}

-- the most bytes of a row, and of a refusal
abbrev pub row_bytes : ℕ
row_bytes = 148

abbrev pub refusal_bytes : ℕ
refusal_bytes = 51

-- the row whose words start at p
abbrev pub row_at : List ℕ → ℕ → Row
row_at trace p =
    record {
      thread = slice_index trace p;
      access = slice_index trace (p + 1);
      answer = slice_index trace (p + 2);
      got = slice_index trace (p + 3);
      exc = slice_index trace (p + 4);
      rc = slice_index trace (p + 5);
    }

-- what is printed where the reader stopped: the refusal, where it was stopped by one
abbrev pub stop_text : Stop → List ℕ
stop_text Wants = []
stop_text Full = []
stop_text (Refused number line) = refusal number line
stop_text Over = []

-- ---- a call
-- the first n rows, numbered from `first` on, and the refusal behind them
abbrev pub more_text : ℕ → List ℕ → ℕ → Stop → List ℕ
more_text first rows n stop = rows_text first (rows_in n rows) ++ stop_text stop

-- the most bytes of so many rows and a refusal
abbrev pub most_text : ℕ → ℕ
most_text n = row_bytes * n + refusal_bytes

abbrev pub fits : List ℕ → ℕ → List ℕ → ℕ → Bool
fits rows n out at = nat_le (row_words * n) (length rows) && nat_le (at + most_text n) (length out)

unfoldable pub place_of : ℕ → List ℕ → ℕ → Stop → List ℕ → ℕ → ℕ
place_of first rows n stop out at = cond (fits rows n out at) (at + length (more_text first rows n stop)) at

unfoldable pub stored_of : ℕ → List ℕ → ℕ → Stop → List ℕ → ℕ → List ℕ
stored_of first rows n stop out at = cond (fits rows n out at) (sets out at (more_text first rows n stop)) out
