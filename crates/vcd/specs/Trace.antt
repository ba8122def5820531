-- The signals of a trace, and which signals a trace that can be lent has.
use Rattle.std.specs.Prelude.{ℕ, zero, suc, ◌-◌, ◌/◌, ◌^◌, ◌<◌, ◌≤◌, List, [], ◌∷◌, length, get_or, drop}
use Rattle.machine.specs.Names.{row_words}
use Rattle.machine.specs.declared.Row.{Row}
use Rattle.vcd.specs.declared.Signals.{Signals}

-- after each of n rows, whose words are thread, access, answer, got, exc, rc
unfoldable pub row_signals : ℕ → List ℕ → List Signals
row_signals zero trace = []
row_signals (suc n) trace = record { exc = get_or trace 4 0; rc = get_or trace 5 0 } ∷ row_signals n (drop row_words trace)

unfoldable pub signals_in : List ℕ → List Signals
signals_in trace = row_signals (length trace / row_words) trace

-- ---- the signals of rows
abbrev pub of_row : Row → Signals
of_row row = record { exc = row.exc; rc = row.rc }

unfoldable pub of_rows : List Row → List Signals
of_rows [] = []
of_rows (row ∷ rows) = of_row row ∷ of_rows rows

-- ---- what can be lent
-- a list has fewer than 2 ^ 64 words
abbrev pub most_rows : ℕ
most_rows = (2 ^ 64 - 1) / row_words

-- one bit, and 64 bits
pub record Wired (s : Signals) : Type 0 where
  pub one : s.exc ≤ 1
  pub wide : s.rc < 2 ^ 64

abbrev pub AllWired : List Signals → Type 0
AllWired [] = Unit {0}
AllWired (x ∷ xs) = Wired x × AllWired xs

-- the signals at time 0 and after every row of some trace
pub record Lendable (s : Signals) (xs : List Signals) : Type 0 where
  pub first : Wired s
  pub rows : AllWired xs
  pub few : length xs ≤ most_rows

-- ---- as words: exc and rc of time 0, then of each row
unfoldable pub words : List Signals → List ℕ
words [] = []
words (x ∷ xs) = x.exc ∷ x.rc ∷ words xs
