-- The signals of a trace that the writer takes can be lent, and all signals that can be lent are those of such a trace; which traces it takes; and
-- the signals of the words that a run writes. Assumes nothing.
use Prim.Native.Nat.{ℕ, zero, suc, ◌+◌, ◌*◌, ◌/◌, ◌%◌, ◌^◌, ◌<◌, ◌≤◌}
use mathlib.Core.Bool.{Bool, true, false, ◌||◌, not, false≢true, true≢false}
use mathlib.Core.Path.{◌≡◌, refl, ap, ◌∙◌}
use mathlib.Core.Logic.Iff
use mathlib.Core.Logic.{◌≢◌, ◌⊎◌, inl, inr}
use mathlib.Core.List.{List, [], ◌∷◌}
use native.Mathlib.Omega.{arith}
use borrow.Author.Tests.{ltb-false, le-ltb, eqb-false, ne_eqb}
use lib.Dec.{eqb, ltb}
use lib.ListN.{length, get_or, drop}
use lib.Seq.{get_or-drop}
use Rattle.machine.specs.Names.{row_words}
use Rattle.machine.specs.Run.{words_of}
use Rattle.machine.specs.declared.Row.{Row}
use Rattle.machine.proofs.Every.{Says, says_ltb, says_not, or_either}
use Rattle.vcd.specs.Trace.{row_signals, signals_in, of_row, of_rows, Wired, AllWired}
use Rattle.vcd.specs.Write.{any_high, wrong}
use Rattle.vcd.specs.Exact.{OfWords, AllBelow, TraceLendable, EachHasTrace, WrongExactly}
use Rattle.vcd.specs.declared.Signals.{Signals}

-- ---- neither of two tests
neither_left : (a b : Bool) → (a || b) ≡ false → a ≡ false
neither_left true b h = h
neither_left false b h = refl

neither_right : (a b : Bool) → (a || b) ≡ false → b ≡ false
neither_right true b h = absurd (true≢false h)
neither_right false b h = h

-- ---- no flag above 1
first_low : (s : Signals) (xs : List Signals) → any_high (s ∷ xs) ≡ false → s.exc ≤ 1
unfolding any_high
first_low s xs h = ltb-false 1 s.exc (neither_left (ltb 1 s.exc) (any_high xs) h)

rest_low : (s : Signals) (xs : List Signals) → any_high (s ∷ xs) ≡ false → any_high xs ≡ false
unfolding any_high
rest_low s xs h = neither_right (ltb 1 s.exc) (any_high xs) h

-- ---- words of a trace
below_at : (l : List ℕ) (i : ℕ) → AllBelow l → get_or l i 0 < 2 ^ 64
below_at [] i h = omega arith
below_at (v ∷ l) zero h = h.0
below_at (v ∷ l) (suc i) h = below_at l i h.1

below_rest : (n : ℕ) (l : List ℕ) → AllBelow l → AllBelow (drop n l)
below_rest zero l h = h
below_rest (suc n) [] h = h
below_rest (suc n) (v ∷ l) h = below_rest n l h.1

rows_length : (n : ℕ) (trace : List ℕ) → length (row_signals n trace) ≡ n
unfolding row_signals
rows_length zero trace = refl
rows_length (suc n) trace = ap suc (rows_length n (drop row_words trace))

rows_wired : (n : ℕ) (trace : List ℕ) → AllBelow trace → any_high (row_signals n trace) ≡ false → AllWired (row_signals n trace)
unfolding row_signals
rows_wired zero trace b h = tt
rows_wired (suc n) trace b h =
    let x : Signals = record { exc = get_or trace 4 0; rc = get_or trace 5 0 } in
    let xs = row_signals n (drop row_words trace) in
    (record { one = first_low x xs h; wide = below_at trace 5 b }, rows_wired n (drop row_words trace) (below_rest row_words trace b) (rest_low x xs h))

pub trace_lendable : TraceLendable
unfolding wrong signals_in
trace_lendable trace s few b wide h =
    let low = neither_right (not (eqb (length trace % row_words) 0)) (any_high (s ∷ signals_in trace)) h in
    record {
      first = record { one = first_low s (signals_in trace) low; wide = wide };
      rows = rows_wired (length trace / row_words) trace b (rest_low s (signals_in trace) low);
      few = omega (arith, rows_length (length trace / row_words) trace, few);
    }

-- ---- a trace for signals
abbrev trace_of : List Signals → List ℕ
trace_of [] = []
trace_of (x ∷ xs) = 0 ∷ 0 ∷ 0 ∷ 0 ∷ x.exc ∷ x.rc ∷ trace_of xs

trace_length : (xs : List Signals) → length (trace_of xs) ≡ length xs * 6
trace_length [] = refl
trace_length (x ∷ xs) = omega (arith, trace_length xs)

trace_below : (xs : List Signals) → AllWired xs → AllBelow (trace_of xs)
trace_below [] w = tt
trace_below (x ∷ xs) w =
    let z : 0 < 2 ^ 64 = omega arith in
    let e : x.exc < 2 ^ 64 = omega (arith, w.0.one) in
    (z, (z, (z, (z, (e, (w.0.wide, trace_below xs w.1))))))

trace_rows : (xs : List Signals) → row_signals (length xs) (trace_of xs) ≡ xs
unfolding row_signals
trace_rows [] = refl
trace_rows (x ∷ xs) = ap {B = List Signals} (λ r. x ∷ r) (trace_rows xs)

trace_signals : (xs : List Signals) → signals_in (trace_of xs) ≡ xs
unfolding signals_in
trace_signals xs =
    let e : length (trace_of xs) / row_words ≡ length xs = omega (arith, trace_length xs) in
    rw e (trace_rows xs)

wired_low : (xs : List Signals) → AllWired xs → any_high xs ≡ false
unfolding any_high
wired_low [] w = refl
wired_low (x ∷ xs) w = rw (le-ltb 1 x.exc w.0.one) (wired_low xs w.1)

trace_right : (s : Signals) (xs : List Signals) → Wired s → AllWired xs → wrong (trace_of xs) s ≡ false
unfolding wrong
trace_right s xs f w =
    let e : length (trace_of xs) % row_words ≡ 0 = omega (arith, trace_length xs) in
    rw (e, trace_signals xs) (wired_low (s ∷ xs) (f, w))

pub each_has_trace : EachHasTrace
each_has_trace s xs h =
    (trace_of xs, omega (arith, trace_length xs, h.few), trace_below xs h.rows, trace_right s xs h.first h.rows, trace_signals xs)

-- ---- the words of rows
words_length : (rows : List Row) → length (words_of rows) ≡ length rows * 6
unfolding words_of
words_length [] = refl
words_length (row ∷ rows) = omega (arith, words_length rows)

words_rows : (rows : List Row) → row_signals (length rows) (words_of rows) ≡ of_rows rows
unfolding words_of row_signals of_rows
words_rows [] = refl
words_rows (row ∷ rows) = ap {B = List Signals} (λ r. of_row row ∷ r) (words_rows rows)

pub of_words : OfWords
unfolding signals_in
of_words rows =
    let e : length (words_of rows) / row_words ≡ length rows = omega (arith, words_length rows) in
    rw e (words_rows rows)

-- ---- what is wrong with a trace
abbrev HighRow : ℕ → List ℕ → Type 0
HighRow n trace = (k : ℕ) × (k < n) × (1 < get_or trace (row_words * k + 4) 0)

-- the flag of a later row
later_flag : (trace : List ℕ) (k : ℕ) → get_or (drop row_words trace) (row_words * k + 4) 0 ≡ get_or trace (row_words * suc k + 4) 0
later_flag trace k =
    let e : row_words + (row_words * k + 4) ≡ row_words * suc k + 4 = omega arith in
    get_or-drop row_words trace (row_words * k + 4) 0 ∙ rw e

says_high : (n : ℕ) (trace : List ℕ) → Says (any_high (row_signals n trace)) (HighRow n trace)
unfolding row_signals any_high
says_high zero trace = (λ t. absurd (false≢true t), λ (k, few, high). absurd (omega (arith, few)))
says_high (suc n) trace = Iff.trans (or_either (says_ltb 1 (get_or trace 4 0)) (says_high n (drop row_words trace))) (join, part)
  where
    join : (1 < get_or trace 4 0) ⊎ HighRow n (drop row_words trace) → HighRow (suc n) trace
    join (inl high) = (0, omega arith, high)
    join (inr (k, few, high)) = (suc k, omega (arith, few), rw (← later_flag trace k) high)

    part : HighRow (suc n) trace → (1 < get_or trace 4 0) ⊎ HighRow n (drop row_words trace)
    part (zero, few, high) = inl high
    part (suc k, few, high) = inr (k, omega (arith, few), rw (later_flag trace k) high)

says_ne : (a b : ℕ) → Says (not (eqb a b)) (a ≢ b)
says_ne a b = Iff.trans (says_not (eqb a b)) (eqb-false a b, ne_eqb a b)

pub wrong_exactly : WrongExactly
unfolding wrong signals_in any_high
wrong_exactly trace s =
    or_either (says_ne (length trace % row_words) 0) (or_either (says_ltb 1 s.exc) (says_high (length trace / row_words) trace))
