-- The changes of a waveform for rows, piece after piece, with times as code counts them.
use Rattle.std.specs.Prelude.{ℕ, ◌+◌, ◌*◌, Bool, ◌&&◌, cond, List, [], ◌∷◌, ◌++◌, leb, length, get_or}
use Rattle.std.proofs.lemmas.List.Edits.{sets}
use Rattle.machine.specs.Names.{row_words}
use Rattle.vcd.specs.Blocks.{change, change_bytes}
use Rattle.vcd.specs.Wave.{time_of, counted}
use Rattle.vcd.specs.Trace.{row_signals}
use Rattle.vcd.specs.declared.Signals.{Signals}
use Rattle.vcd.specs.declared.Wave.{Wave}
use Rattle.vcd_rows.specs.declared.Left.{Left}

-- of the row whose words start at p
abbrev pub signals_at : List ℕ → ℕ → Signals
signals_at rows p = record { exc = get_or rows (p + 4) 0; rc = get_or rows (p + 5) 0 }

-- where the waveform stands after the signals of rows, and what they write
unfoldable pub left_by : Wave → List Signals → Wave
left_by w [] = w
left_by w (x ∷ xs) = left_by (counted w x) xs

unfoldable pub text_by : Wave → List Signals → List ℕ
text_by w [] = []
text_by w (x ∷ xs) = change (time_of w) w.signals x ++ text_by (counted w x) xs

-- ---- a call
-- there are so many rows, and what they change has room, however long it is
abbrev pub fits : List ℕ → ℕ → List ℕ → ℕ → Bool
fits rows n out at = leb (row_words * n) (length rows) && leb (at + change_bytes * n) (length out)

unfoldable pub left_of : Wave → List ℕ → ℕ → List ℕ → ℕ → Left
left_of w rows n out at =
    let xs = row_signals n rows in
    cond (fits rows n out at) (record { wave = left_by w xs; at = at + length (text_by w xs) }) (record { wave = w; at = at })

unfoldable pub stored_of : Wave → List ℕ → ℕ → List ℕ → ℕ → List ℕ
stored_of w rows n out at = cond (fits rows n out at) (sets out at (text_by w (row_signals n rows))) out
