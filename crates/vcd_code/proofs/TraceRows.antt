-- The rows of a trace by their numbers: the signals of the rows that are left, their text, and whether one has a flag above 1. Assumes nothing.
use Prim.Native.Nat.{ℕ, suc, ◌+◌, ◌-◌, ◌*◌, ◌/◌, ◌<◌, ◌≤◌}
use mathlib.Core.Path.{◌≡◌, refl}
use mathlib.Core.Bool.{Bool, true, false, cond}
use mathlib.Core.List.{List, [], ◌∷◌, ◌++◌, append_assoc}
use native.Mathlib.Omega.{arith}
use lib.Dec.{eqb}
use lib.ListN.{length, get_or, drop}
use lib.Seq.{get_or-drop, drop-drop}
use borrow.Author.Tests.{lt-ltb, le-ltb}
use Rattle.machine.specs.Names.{row_words}
use Rattle.vcd.specs.Blocks.{time_line, change, time_bytes}
use Rattle.vcd.specs.Wave.{next, after, changes, close}
use Rattle.vcd.specs.Trace.{row_signals, signals_in}
use Rattle.vcd.specs.Write.{any_high}
use Rattle.vcd.specs.declared.Signals.{Signals}
use Rattle.vcd.specs.declared.Wave.{Wave}
use Rattle.vcd.proofs.Laws.{short}
use Rattle.vcd_code.specs.Walk.{rest_of}

-- of the row whose words start at p
abbrev pub signals_of : List ℕ → ℕ → Signals
signals_of trace p = record { exc = get_or trace (p + 4) 0; rc = get_or trace (p + 5) 0 }

-- of n rows, those from the k-th on
abbrev pub rows_left : List ℕ → ℕ → ℕ → List Signals
rows_left trace n k = row_signals (n - k) (drop (row_words * k) trace)

first_row : (trace : List ℕ) (p left : ℕ) → row_signals (suc left) (drop p trace) ≡ signals_of trace p ∷ row_signals left (drop (p + row_words) trace)
unfolding row_signals
first_row trace p left = simp (get_or-drop, drop-drop)

pub next_row : (trace : List ℕ) (n k : ℕ) → k < n → rows_left trace n k ≡ signals_of trace (row_words * k) ∷ rows_left trace n (k + 1)
next_row trace n k h =
    let e : n - k ≡ suc (n - (k + 1)) = omega arith in
    let f : row_words * (k + 1) ≡ row_words * k + row_words = omega arith in
    rw (e, f) (first_row trace (row_words * k) (n - (k + 1)))

pub no_rows : (trace : List ℕ) (n k : ℕ) → n ≤ k → rows_left trace n k ≡ []
unfolding row_signals
no_rows trace n k h =
    let e : n - k ≡ 0 = omega arith in
    rw e refl

pub all_rows : (trace : List ℕ) → rows_left trace (length trace / row_words) 0 ≡ signals_in trace
unfolding signals_in
all_rows trace =
    let e : length trace / row_words - 0 ≡ length trace / row_words = omega arith in
    rw e refl

-- ---- their text
pub rest_more : (p : Wave) (x : Signals) (xs : List Signals) → rest_of p (x ∷ xs) ≡ change (p.time + 1) p.signals x ++ rest_of (next p x) xs
unfolding changes after
rest_more p x xs = append_assoc (change (p.time + 1) p.signals x) (changes (next p x) xs) (close (after (next p x) xs))

pub rest_over : (p : Wave) → rest_of p [] ≡ close p
unfolding changes after
rest_over p = refl

close_by : (t : Bool) (p : Wave) → length (cond t [] (time_line p.time)) ≤ time_bytes
close_by true p = omega arith
close_by false p = short.0 p.time

pub close_short : (p : Wave) → length (close p) ≤ time_bytes
unfolding close
close_short p = close_by (eqb p.time p.written) p

-- ---- a flag above 1
pub high_here : (trace : List ℕ) (n k : ℕ) → k < n → 1 < get_or trace (row_words * k + 4) 0 → any_high (rows_left trace n k) ≡ true
unfolding any_high
high_here trace n k h g = rw (next_row trace n k h, lt-ltb 1 (get_or trace (row_words * k + 4) 0) g) refl

pub high_later : (trace : List ℕ) (n k : ℕ) → k < n → get_or trace (row_words * k + 4) 0 ≤ 1 → any_high (rows_left trace n k) ≡ any_high (rows_left trace n (k + 1))
unfolding any_high
high_later trace n k h g = rw (next_row trace n k h, le-ltb 1 (get_or trace (row_words * k + 4) 0) g) refl

pub none_high : (trace : List ℕ) (n k : ℕ) → n ≤ k → any_high (rows_left trace n k) ≡ false
unfolding any_high
none_high trace n k h = rw (no_rows trace n k h) refl
