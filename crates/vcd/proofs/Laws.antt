-- The text of a waveform can be written in pieces, nothing is written that need not be, and every block is short. Assumes nothing.
use Prim.Native.Nat.{ℕ, zero, suc, ◌+◌, ◌≤◌}
use mathlib.Core.Bool.{Bool, true, false, cond, ◌&&◌}
use mathlib.Core.Path.{◌≡◌, refl, sym, ap, ◌∙◌}
use mathlib.Core.Logic.{◌≢◌}
use mathlib.Core.List.{List, [], ◌∷◌, ◌++◌, append_assoc}
use native.Mathlib.Omega.{arith}
use borrow.Author.Tests.{eq-eqb, eqb-true}
use lib.Dec.{eqb}
use lib.ListN.{length, length-append, replicate}
use Rattle.scenario_lines.specs.Ascii.{bytes}
use Rattle.scenario_text.specs.Number.{text, digits_to}
use Rattle.scenario_text.proofs.Digits.{text_short}
use Rattle.vcd.specs.Binary.{binary}
use Rattle.vcd.specs.Blocks.{time_line, exc_line, rc_line, opening, dump, front, same, changed, change, time_bytes, changed_bytes, change_bytes, front_bytes}
use Rattle.vcd.specs.Wave.{at_first, next, time_of, after, changes, close, waveform}
use Rattle.vcd.specs.Laws.{TwoPieces, AfterBoth, InPieces, TimeIsRows, CountedIsNext, StillRows, ClosedByChange, ClosedByTime, ClosedAtFirst, Short, Edges}
use Rattle.vcd.specs.declared.Signals.{Signals}
use Rattle.vcd.specs.declared.Wave.{Wave}
use Rattle.vcd.proofs.Bits.{bits_short}
use Rattle.vcd.proofs.Parts.{change_none, close_none, close_some}

-- ---- pieces
pub two_pieces : TwoPieces
unfolding changes after
two_pieces p [] ys = refl
two_pieces p (x ∷ xs) ys =
    let first = change (p.time + 1) p.signals x in
    ap (λ (l : List ℕ). first ++ l) (two_pieces (next p x) xs ys)
    ∙ sym (append_assoc first (changes (next p x) xs) (changes (after (next p x) xs) ys))

pub after_both : AfterBoth
unfolding after
after_both p [] ys = refl
after_both p (x ∷ xs) ys = after_both (next p x) xs ys

pub in_pieces : InPieces
unfolding waveform
in_pieces s xs ys =
    let p = after (at_first s) xs in
    rw (two_pieces (at_first s) xs ys, after_both (at_first s) xs ys, append_assoc (changes (at_first s) xs) (changes p ys) (close (after p ys)))

-- ---- where the rows end
pub time_is_rows : TimeIsRows
unfolding after
time_is_rows p [] = omega arith
time_is_rows p (x ∷ xs) = time_is_rows (next p x) xs ∙ omega arith

pub same_self : (s : Signals) → same s s ≡ true
same_self s = rw (eq-eqb s.exc s.exc refl, eq-eqb s.rc s.rc refl)

-- signals that are not the same differ
module _ (s x : Signals) (h : x ≢ s) where
  abbrev made : ℕ → ℕ → Signals
  made e r = record { exc = e; rc = r }

  by_rc : (u : Bool) → eqb s.rc x.rc ≡ u → s.exc ≡ x.exc → u ≡ false
  by_rc true e f =
      absurd (h (ap (λ (v : ℕ). made v x.rc) (sym f) ∙ ap (λ (v : ℕ). made s.exc v) (sym (eqb-true s.rc x.rc e))))
  by_rc false e f = refl

  by_exc : (t : Bool) → eqb s.exc x.exc ≡ t → (t && eqb s.rc x.rc) ≡ false
  by_exc true e = by_rc (eqb s.rc x.rc) refl (eqb-true s.exc x.exc e)
  by_exc false e = refl

  pub differ : same s x ≡ false
  differ = by_exc (eqb s.exc x.exc) refl

-- the place after a row, from whether it changed a signal
abbrev then : Wave → Signals → Bool → Wave
then p x t = record { time = p.time + 1; written = cond t p.written (p.time + 1); signals = x }

abbrev later : Wave → ℕ → Wave
later p n = record { time = p.time + n; written = p.written; signals = p.signals }

next_still : (p : Wave) → next p p.signals ≡ later p 1
next_still p = ap (then p p.signals) (same_self p.signals)

later_more : (p : Wave) (n : ℕ) → later (later p 1) n ≡ later p (suc n)
later_more p n = let e : p.time + 1 + n ≡ p.time + suc n = omega arith in rw e

later_none : (p : Wave) → p ≡ later p 0
later_none p = let e : p.time + 0 ≡ p.time = omega arith in rw e

-- rows that change nothing
still_text : (p : Wave) (n : ℕ) → changes p (replicate n p.signals) ≡ []
unfolding changes
still_text p zero = refl
still_text p (suc n) =
    rw (change_none (p.time + 1) p.signals p.signals (same_self p.signals), next_still p) (still_text (later p 1) n)

still_after : (p : Wave) (n : ℕ) → after p (replicate n p.signals) ≡ later p n
unfolding after
still_after p zero = later_none p
still_after p (suc n) =
    ap (λ (q : Wave). after q (replicate n p.signals)) (next_still p) ∙ still_after (later p 1) n ∙ later_more p n

pub counted_is_next : CountedIsNext
counted_is_next p x h = let time : time_of p ≡ p.time + 1 = omega arith in (rw time refl, time)

pub still_rows : StillRows
still_rows p n = (still_text p n, still_after p n)

-- ---- the close
one_after : (p : Wave) (xs : List Signals) (x : Signals) → after p (xs ++ (x ∷ [])) ≡ next (after p xs) x
unfolding after
one_after p xs x = after_both p xs (x ∷ [])

pub closed_by_change : ClosedByChange
closed_by_change p xs x h =
    let q = after p xs in
    ap close (one_after p xs x ∙ ap (then q x) (differ q.signals x h)) ∙ close_none (then q x false) refl

written_by : (t : Bool) (p : Wave) (x : Signals) → p.written ≤ p.time → (then p x t).written ≤ (then p x t).time
written_by true p x h = omega arith
written_by false p x h = omega arith

-- no time is written before it is
pub written_before : (p : Wave) (xs : List Signals) → p.written ≤ p.time → (after p xs).written ≤ (after p xs).time
unfolding after
written_before p [] h = h
written_before p (x ∷ xs) h = written_before (next p x) xs (written_by (same p.signals x) p x h)

closed_later : (q : Wave) → q.written ≤ q.time → close (later q 1) ≡ time_line (q.time + 1)
closed_later q h = close_some (later q 1) (λ e. omega arith)

pub closed_by_time : ClosedByTime
closed_by_time s xs x e =
    let q = after (at_first s) xs in
    ap close (one_after (at_first s) xs x ∙ ap (next q) e ∙ next_still q)
    ∙ closed_later q (written_before (at_first s) xs (omega arith))
    ∙ ap (λ (n : ℕ). time_line (n + 1)) (time_is_rows (at_first s) xs ∙ omega arith)

pub closed_at_first : ClosedAtFirst
unfolding after
closed_at_first s = close_none (at_first s) refl

-- ---- the most bytes
pub time_short : (t : ℕ) → length (time_line t) ≤ time_bytes
unfolding time_line
time_short t = simp length-append (omega (arith, text_short t))

exc_by : (t : Bool) → length (cond t (bytes "0e\n") (bytes "1e\n")) ≤ 3
exc_by true = omega arith
exc_by false = omega arith

pub exc_short : (v : ℕ) → length (exc_line v) ≤ 3
unfolding exc_line
exc_short v = exc_by (eqb v 0)

pub rc_short : (v : ℕ) → length (rc_line v) ≤ 68
unfolding rc_line
rc_short v = simp length-append (omega (arith, bits_short v))

maybe_short : (t : Bool) (l : List ℕ) (most : ℕ) → length l ≤ most → length (cond t [] l) ≤ most
maybe_short true l most h = omega arith
maybe_short false l most h = h

pub changed_short : (s x : Signals) → length (changed s x) ≤ changed_bytes
unfolding changed
changed_short s x =
    simp length-append
    (omega (
      arith,
      maybe_short (eqb s.exc x.exc) (exc_line x.exc) 3 (exc_short x.exc),
      maybe_short (eqb s.rc x.rc) (rc_line x.rc) 68 (rc_short x.rc),
    ))

pub change_short : (t : ℕ) (s x : Signals) → length (change t s x) ≤ change_bytes
unfolding change
change_short t s x =
    maybe_short (same s x) (time_line t ++ changed s x) change_bytes (simp length-append (omega (arith, time_short t, changed_short s x)))

opening_size : length opening ≡ 126
unfolding opening
opening_size = refl

dump_short : (s : Signals) → length (dump s) ≤ 89
unfolding dump
dump_short s = simp length-append (omega (arith, exc_short s.exc, rc_short s.rc))

pub front_short : (s : Signals) → length (front s) ≤ front_bytes
unfolding front
front_short s = simp length-append (omega (arith, opening_size, dump_short s))

pub short : Short
short = (time_short, changed_short, change_short, front_short)

-- ---- the edges
pub edges : Edges
unfolding binary rc_line exc_line time_line changed text digits_to
edges = (refl, refl, refl, refl, refl, refl, refl, refl, refl, refl)
