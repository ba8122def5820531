-- What the writer answers, and what it leaves.
use Rattle.std.specs.Prelude.{ℕ, ◌%◌, Bool, false, ◌||◌, not, cond, List, [], ◌∷◌, eqb, ltb, leb, length, Result, Ok, Err, is_ok}
use Rattle.std.proofs.lemmas.List.Edits.{sets}
use Rattle.machine.specs.Names.{row_words}
use Rattle.vcd.specs.Wave.{waveform}
use Rattle.vcd.specs.Trace.{signals_in}
use Rattle.vcd.specs.declared.Signals.{Signals}
use Rattle.vcd.specs.declared.Refusal.{Refusal}
use Rattle.vcd.specs.declared.Refusal.TheVariants.{NoRoom, NoTrace}

-- a flag that is no bit
unfoldable pub any_high : List Signals → Bool
any_high [] = false
any_high (x ∷ xs) = ltb 1 x.exc || any_high xs

-- no whole rows, or a flag above 1: the starting one, or a row's
unfoldable pub wrong : List ℕ → Signals → Bool
wrong trace s = not (eqb (length trace % row_words) 0) || any_high (s ∷ signals_in trace)

abbrev pub file_of : List ℕ → Signals → List ℕ
file_of trace s = waveform s (signals_in trace)

-- how many bytes were written, or the refusal
unfoldable pub written : List ℕ → Signals → ℕ → Result ℕ Refusal
written trace s room =
    cond (wrong trace s) (Err NoTrace) (cond (leb (length (file_of trace s)) room) (Ok (length (file_of trace s))) (Err NoRoom))

-- the list afterwards: bytes behind the text stay, and all of them in a refusal
unfoldable pub written_in : List ℕ → Signals → List ℕ → List ℕ
written_in trace s out = cond (is_ok (written trace s (length out))) (sets out 0 (file_of trace s)) out
