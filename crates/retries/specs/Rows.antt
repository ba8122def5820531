-- Rows counted by a test, and rows read out of a list of words.
use Rattle.std.specs.Prelude.{ℕ, zero, suc, ◌+◌, ◌/◌, Bool, List, [], ◌∷◌, length, get_or, drop}
use Rattle.machine.specs.Names.{row_words}
use Rattle.machine.specs.Words.{bit}
use Rattle.machine.specs.declared.Row.{Row}

-- ---- rows
-- of how many of them a test holds
unfoldable pub counted : (Row → Bool) → List Row → ℕ
counted test [] = 0
counted test (r ∷ rows) = bit (test r) + counted test rows

-- the row whose words start at p
abbrev pub row_at : List ℕ → ℕ → Row
row_at trace p =
    record {
      thread = get_or trace p 0;
      access = get_or trace (p + 1) 0;
      answer = get_or trace (p + 2) 0;
      got = get_or trace (p + 3) 0;
      exc = get_or trace (p + 4) 0;
      rc = get_or trace (p + 5) 0;
    }

-- the first row of a list of words, and the first n
abbrev pub row_in : List ℕ → Row
row_in trace = row_at trace 0

unfoldable pub rows_in : ℕ → List ℕ → List Row
rows_in zero trace = []
rows_in (suc n) trace = row_in trace ∷ rows_in n (drop row_words trace)

-- all whole rows that stand in a list
abbrev pub rows_of_words : List ℕ → List Row
rows_of_words trace = rows_in (length trace / row_words) trace
