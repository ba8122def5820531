-- The rows of a scenario file write the waveform of them. Assumes nothing.
use Prim.Native.Nat.{ℕ, suc, ◌+◌, ◌*◌, ◌/◌, ◌^◌, ◌<◌}
use mathlib.Core.Path.{◌≡◌, refl, sym, ap, ◌∙◌}
use mathlib.Core.List.{List, [], ◌∷◌, ◌++◌, append_assoc, append-nil}
use native.Mathlib.Omega.{arith}
use borrow.Author.Tests.{le-leb}
use lib.ListN.{length}
use Rattle.machine.specs.Names.{row_words}
use Rattle.machine.specs.Run.{words_of}
use Rattle.machine.proofs.Words.{words_length}
use Rattle.machine.specs.declared.Row.{Row}
use Rattle.scenario.specs.Printed.{rows_in}
use Rattle.vcd.specs.Blocks.{front, change}
use Rattle.vcd.specs.Wave.{at_first, close, time_of, counted, next, after, changes, waveform}
use Rattle.vcd.specs.Trace.{row_signals, AllWired, of_row, of_rows}
use Rattle.vcd.specs.declared.Signals.{Signals}
use Rattle.vcd.specs.declared.Wave.{Wave}
use Rattle.vcd.proofs.Laws.{counted_is_next}
use Rattle.vcd.proofs.FindsAll.{finds_all}
use Rattle.vcd_rows.specs.Waves.{left_by, text_by, left_of, stored_of}
use Rattle.vcd_rows.specs.Laws.{SignalsOfRows, CutAnywhere, NoneLost, unlocked, Fit, WaveOfFile, WaveByReader, FoundInWave}
use Rattle.vcd_rows.proofs.Fits.{file_fits}

pub signals_of_rows : SignalsOfRows
unfolding row_signals words_of of_rows
signals_of_rows [] rest = refl
signals_of_rows (row ∷ rows) rest = ap (λ (xs : List Signals). of_row row ∷ xs) (signals_of_rows rows rest)

pub cut_anywhere : CutAnywhere
unfolding left_by text_by of_rows
cut_anywhere w [] b = (refl, refl)
cut_anywhere w (row ∷ a) b =
    let x = of_row row in
    let v = counted w x in
    let (text, left) = cut_anywhere v a b in
    let t = change (time_of w) w.signals x in
    (ap (λ (l : List ℕ). t ++ l) text ∙ sym (append_assoc t (text_by v (of_rows a)) (text_by (left_by v (of_rows a)) (of_rows b))), left)

pub none_lost : NoneLost
unfolding left_of stored_of
none_lost w rows n out at some room = rw (le-leb (6 * n) (length rows) some, le-leb (at + 93 * n) (length out) room) (refl, refl)

-- ---- the words of rows are so many rows
signals_back : (rows : List Row) → row_signals (length (words_of rows) / row_words) (words_of rows) ≡ of_rows rows
signals_back rows =
    let n : length (words_of rows) / row_words ≡ length rows = omega (arith, words_length rows (length rows) refl) in
    rw n (ap (row_signals (length rows)) (sym (append-nil (words_of rows))) ∙ signals_of_rows rows [])

pub wave_by_reader : WaveByReader
wave_by_reader file words w comes =
    let xs : row_signals (length words / row_words) words ≡ of_rows (rows_in file) = rw comes.rows (signals_back (rows_in file)) in
    sym (λ i. front unlocked ++ (text_by (at_first unlocked) (xs i) ++ close (left_by (at_first unlocked) (xs i))))

-- ---- the times are numbers of 64 bits
rows_write : (rows : List Row) (w : Wave) → w.time + length rows < 2 ^ 64
    → (left_by w (of_rows rows) ≡ after w (of_rows rows)) × (text_by w (of_rows rows) ≡ changes w (of_rows rows))
unfolding left_by text_by of_rows after changes
rows_write [] w h = (refl, refl)
rows_write (row ∷ rows) w h =
    let (is, time) = counted_is_next w (of_row row) (omega arith) in
    let (left, text) = rows_write rows (next w (of_row row)) (omega arith) in
    let x = of_row row in
    let xs = of_rows rows in (
      ap (λ (v : Wave). left_by v xs) is ∙ left,
      ap (λ (t : ℕ). change t w.signals x ++ text_by (counted w x) xs) time
          ∙ ap (λ (v : Wave). change (w.time + 1) w.signals x ++ text_by v xs) is
          ∙ ap (λ (l : List ℕ). change (w.time + 1) w.signals x ++ l) text,
    )

pub wave_of_file : WaveOfFile
unfolding waveform
wave_of_file file h =
    let (left, text) = rows_write (rows_in file) (at_first unlocked) (omega arith) in
    rw (left, text) refl

-- ---- read back
rows_wired : (rows : List Row) → Fit rows → AllWired (of_rows rows)
unfolding Fit of_rows
rows_wired [] fit = tt
rows_wired (row ∷ rows) (exc, rc, fit) = (record { one = exc; wide = rc }, rows_wired rows fit)

of_length : (rows : List Row) → length (of_rows rows) ≡ length rows
unfolding of_rows
of_length [] = refl
of_length (row ∷ rows) = ap suc (of_length rows)

pub found_in_wave : FoundInWave
found_in_wave file few =
    let rows = rows_in file in
    rw (wave_of_file file (omega (arith, few)))
    (finds_all unlocked (of_rows rows)
    (record { first = record { one = omega arith; wide = omega arith }; rows = rows_wired rows (file_fits file); few = omega (arith, few, of_length rows) }))
