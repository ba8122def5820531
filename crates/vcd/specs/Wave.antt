-- The text of a waveform: opening, changes, close.
use Rattle.std.specs.Prelude.{ℕ, ◌+◌, ◌%◌, ◌^◌, cond, List, [], ◌∷◌, ◌++◌, eqb}
use Rattle.vcd.specs.Blocks.{time_line, front, same, change}
use Rattle.vcd.specs.declared.Signals.{Signals}
use Rattle.vcd.specs.declared.Wave.{Wave}

-- at time 0, which the opening writes
abbrev pub at_first : Signals → Wave
at_first s = record { time = 0; written = 0; signals = s }

-- after one more row: its time is written only where a signal changed
abbrev pub next : Wave → Signals → Wave
next p x = record { time = p.time + 1; written = cond (same p.signals x) p.written (p.time + 1); signals = x }

-- the same as code counts it, times modulo 2 ^ 64 (`CountedIsNext` of Laws.antt)
abbrev pub time_of : Wave → ℕ
time_of p = (p.time + 1) % 2 ^ 64

abbrev pub counted : Wave → Signals → Wave
counted p x = record { time = time_of p; written = cond (same p.signals x) p.written (time_of p); signals = x }

unfoldable pub after : Wave → List Signals → Wave
after p [] = p
after p (x ∷ xs) = after (next p x) xs

-- what the rows write
unfoldable pub changes : Wave → List Signals → List ℕ
changes p [] = []
changes p (x ∷ xs) = change (p.time + 1) p.signals x ++ changes (next p x) xs

-- the last time, where it is not written already
unfoldable pub close : Wave → List ℕ
close p = cond (eqb p.time p.written) [] (time_line p.time)

-- the signals at time 0, and after every row
unfoldable pub waveform : Signals → List Signals → List ℕ
waveform s xs = front s ++ (changes (at_first s) xs ++ close (after (at_first s) xs))
