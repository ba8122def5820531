-- The loop over a trace's rows, as a walk through their text: a row is a piece, and the close is the last. Assumes nothing.
use Prim.Native.Nat.{ℕ, ◌+◌, ◌*◌, ◌/◌, ◌<◌, ◌≤◌}
use mathlib.Core.Path.{◌≡◌, refl, sym, ap, subst, ◌∙◌}
use mathlib.Core.Bool.{Bool, true}
use mathlib.Core.List.{List, ◌∷◌, ◌++◌}
use native.Mathlib.Omega.{arith}
use lib.ListN.{length}
use Rattle.machine.specs.Names.{row_words}
use Rattle.std.specs.Prelude.{Result, Ok, Err}
use Rattle.vcd.specs.Blocks.{front, change}
use Rattle.vcd.specs.Wave.{at_first, next, close, waveform}
use Rattle.vcd.specs.Trace.{signals_in}
use Rattle.vcd.specs.Write.{file_of}
use Rattle.vcd.specs.declared.Signals.{Signals}
use Rattle.vcd.specs.declared.Wave.{Wave}
use Rattle.vcd.specs.declared.Refusal.{Refusal}
use Rattle.vcd_code.specs.Walk.{rest_of, told, passes}
use Rattle.vcd_code.proofs.TraceRows.{signals_of, rows_left, next_row, no_rows, all_rows, rest_more, rest_over}
use Rattle.vcd_code.proofs.Walk.{Going, Gone, begins, one_more, no_more, last}

-- of all the rows from p₀ on and the close, `rest` is left
abbrev pub RestGoing : List ℕ → List ℕ → ℕ → Bool → Wave → List ℕ → List ℕ → ℕ → Type 0
RestGoing trace before from storing p₀ rest out at =
    Going (from + length (rest_of p₀ (signals_in trace))) (rest_of p₀ (signals_in trace)) before from storing rest out at

abbrev pub RestGone : List ℕ → List ℕ → ℕ → Bool → Wave → Result ℕ Refusal → List ℕ → Type 0
RestGone trace before from storing p₀ r out = Gone (from + length (rest_of p₀ (signals_in trace))) (rest_of p₀ (signals_in trace)) before from storing r out

-- before row k of n, where the wave was p₀ before the first
abbrev pub RowsGoing : List ℕ → ℕ → List ℕ → ℕ → Bool → Wave → List ℕ → Wave → ℕ → ℕ → Type 0
RowsGoing trace n before from storing p₀ out p at k =
    (k ≤ n) × (p.time ≡ k) × RestGoing trace before from storing p₀ (rest_of p (rows_left trace n k)) out at

pub rows_begin : (trace before : List ℕ) (from : ℕ) (storing : Bool) (p : Wave)
    → RestGoing trace before from storing p (rest_of p (rows_left trace (length trace / row_words) 0)) before from
rows_begin trace before from storing p =
    subst (λ (xs : List Signals). RestGoing trace before from storing p (rest_of p xs) before from)
    (sym (all_rows trace)) (begins (from + length (rest_of p (signals_in trace))) (rest_of p (signals_in trace)) before from storing refl)

-- the text of a row and of those after it
this_row : (trace : List ℕ) (n k : ℕ) (p : Wave) (x : Signals) → k < n → x ≡ signals_of trace (row_words * k)
    → rest_of p (rows_left trace n k) ≡ change (p.time + 1) p.signals x ++ rest_of (next p x) (rows_left trace n (k + 1))
this_row trace n k p x h is =
    let e : rows_left trace n k ≡ x ∷ rows_left trace n (k + 1) = rw is (next_row trace n k h) in
    ap (rest_of p) e ∙ rest_more p x (rows_left trace n (k + 1))

module _ (trace : List ℕ) (n : ℕ) (before : List ℕ) (from : ℕ) (storing : Bool) (p₀ : Wave) (out : List ℕ) (p : Wave) (at k : ℕ)
    (g : RowsGoing trace n before from storing p₀ out p at k) where
  module _ (x : Signals) (out' : List ℕ) (h : k < n) (is : x ≡ signals_of trace (row_words * k))
      (left : out' ≡ passes storing out at (change (p.time + 1) p.signals x)) where
    here : RestGoing trace before from storing p₀ (change (p.time + 1) p.signals x ++ rest_of (next p x) (rows_left trace n (k + 1))) out at
    here = subst (λ (l : List ℕ). RestGoing trace before from storing p₀ l out at) (this_row trace n k p x h is) g.2

    pub row_more : (p' : Wave) (at' : ℕ) → p' ≡ next p x → Ok at' ≡ told (length out) (at + length (change (p.time + 1) p.signals x))
        → RowsGoing trace n before from storing p₀ out' p' at' (k + 1)
    row_more p' at' e answer =
        let t : p'.time ≡ k + 1 = ap (λ (w : Wave). w.time) e ∙ ap (λ (m : ℕ). m + 1) g.1 in
        let on = one_more (change (p.time + 1) p.signals x) (rest_of (next p x) (rows_left trace n (k + 1))) at' out' here answer left in
        (omega arith, t, subst (λ (w : Wave). RestGoing trace before from storing p₀ (rest_of w (rows_left trace n (k + 1))) out' at') (sym e) on)

    pub row_none : (why : Refusal) → (storing ≡ true → from + length (rest_of p₀ (signals_in trace)) ≤ length before)
        → Err why ≡ told (length out) (at + length (change (p.time + 1) p.signals x)) → RestGone trace before from storing p₀ (Err why) out'
    row_none why fits answer = no_more (change (p.time + 1) p.signals x) (rest_of (next p x) (rows_left trace n (k + 1))) why out' here fits answer left

  pub rows_over : (r : Result ℕ Refusal) (out' : List ℕ) → n ≤ k → (storing ≡ true → from + length (rest_of p₀ (signals_in trace)) ≤ length before)
      → r ≡ told (length out) (at + length (close p)) → out' ≡ passes storing out at (close p)
      → RestGone trace before from storing p₀ r out'
  rows_over r out' h fits answer left =
      let e : rest_of p (rows_left trace n k) ≡ close p = ap (rest_of p) (no_rows trace n k h) ∙ rest_over p in
      let end = subst (λ (l : List ℕ). RestGoing trace before from storing p₀ l out at) e g.2 in
      last r out' end fits answer left

-- ---- the whole file
module _ (trace before : List ℕ) (s : Signals) (storing : Bool) where
  file_begins : Going (length (file_of trace s)) (file_of trace s) before 0 storing (front s ++ rest_of (at_first s) (signals_in trace)) before 0
  unfolding waveform
  file_begins = begins (length (file_of trace s)) (file_of trace s) before 0 storing (omega arith)

  module _ (out : List ℕ) (left : out ≡ passes storing before 0 (front s)) where
    pub front_more : (at : ℕ) → Ok at ≡ told (length before) (0 + length (front s))
        → Going (length (file_of trace s)) (file_of trace s) before 0 storing (rest_of (at_first s) (signals_in trace)) out at
    front_more at answer = one_more (front s) (rest_of (at_first s) (signals_in trace)) at out file_begins answer left

    pub front_none : (why : Refusal) → (storing ≡ true → length (file_of trace s) ≤ length before) → Err why ≡ told (length before) (0 + length (front s))
        → Gone (length (file_of trace s)) (file_of trace s) before 0 storing (Err why) out
    front_none why fits answer = no_more (front s) (rest_of (at_first s) (signals_in trace)) why out file_begins fits answer left
