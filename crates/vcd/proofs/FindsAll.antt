-- The reader finds every waveform, with its signals. Assumes nothing.
use Prim.Native.Nat.{ℕ, zero, suc, ◌+◌, ◌-◌, ◌<◌, ◌≤◌}
use mathlib.Core.Logic.{◌⊎◌, inl, inr}
use mathlib.Core.Bool.{Bool, true, false, ◌&&◌, cond}
use mathlib.Core.Path.{◌≡◌, refl, sym, ap, ◌∙◌}
use mathlib.Core.List.{List, [], ◌∷◌, ◌++◌, append_assoc, append-nil}
use native.Mathlib.Omega.{arith}
use native.Mathlib.Nat.{eq-or-lt_of_le}
use borrow.Author.Tests.{eqb-true, eqb-false}
use lib.Dec.{eqb}
use lib.ListN.{length, drop, replicate, length-append}
use lib.Seq.{drop-append_seam, drop-length}
use Rattle.vcd.specs.Blocks.{time_line, opening, front, same, changed, change}
use Rattle.vcd.specs.Wave.{at_first, next, after, changes, close, waveform}
use Rattle.vcd.specs.Trace.{most_rows, Wired, AllWired}
use Rattle.std.specs.Prelude.{Option, Some, option_and_then}
use Rattle.vcd.specs.Read.{block_at, behind, rows_found, found}
use Rattle.vcd.specs.Exact.{FindsAll}
use Rattle.vcd.specs.declared.Signals.{Signals}
use Rattle.vcd.specs.declared.Wave.{Wave}
use Rattle.vcd.specs.declared.Block.{Block}
use Rattle.vcd.proofs.OwnText.{NoLine, both_are, block_of, first_ahead_lem, starts_own, block_changed, block_last}

-- ---- a block that is found
-- what is found where a block stands
abbrev found_behind : ℕ → ℕ → Signals → List ℕ → Block → Option (List Signals)
found_behind n t s l k = behind (replicate (k.time - (t + 1)) s ++ (k.signals ∷ [])) (rows_found n k.time k.signals (drop k.len l))

found_by : (n t : ℕ) (s : Signals) (l : List ℕ) (k : Block) → 0 < length l → block_at t s l ≡ Some k
    → rows_found (suc n) t s l ≡ found_behind n t s l k
unfolding rows_found
found_by n t s [] k some e = absurd (omega arith)
found_by n t s (b ∷ l) k some e = ap (option_and_then (found_behind n t s (b ∷ l))) e

-- a time has bytes
some_time : (u : ℕ) (l : List ℕ) → 0 < length (time_line u ++ l)
unfolding time_line
some_time u l = omega arith

some_line : (u : ℕ) → 0 < length (time_line u)
some_line u = rw append-nil at (some_time u [])

found_change : (n t u : ℕ) (s x : Signals) (l : List ℕ) → t < u → u ≤ most_rows → Wired x → NoLine l → same s x ≡ false
    → rows_found (suc n) t s (time_line u ++ (changed s x ++ l)) ≡ behind (replicate (u - (t + 1)) s ++ (x ∷ [])) (rows_found n u x l)
found_change n t u s x l later low w clear h =
    found_by n t s (time_line u ++ (changed s x ++ l)) (block_of u s x) (some_time u (changed s x ++ l)) (block_changed t u s x l later low w clear h)
    ∙ rw (← (append_assoc (time_line u) (changed s x) l), drop-append_seam (time_line u ++ changed s x) l)

found_last : (n t u : ℕ) (s : Signals) → t < u → u ≤ most_rows → Wired s
    → rows_found (suc n) t s (time_line u) ≡ behind (replicate (u - (t + 1)) s ++ (s ∷ [])) (rows_found n u s [])
found_last n t u s later low w =
    found_by n t s (time_line u) (record { time = u; signals = s; len = length (time_line u) }) (some_line u) (block_last s t u later low w)
    ∙ rw (drop-length (time_line u))

-- ---- what stands behind a block
abbrev rest : Wave → List Signals → List ℕ
rest p xs = changes p xs ++ close (after p xs)

time_clear : (t : Bool) (u : ℕ) (k l : List ℕ) → NoLine l → NoLine (cond t [] (time_line u ++ k) ++ l)
unfolding time_line
time_clear true u k l h = h
time_clear false u k l h = record { bit = refl; vector = refl }

close_clear : (t : Bool) (u : ℕ) → NoLine (cond t [] (time_line u))
unfolding time_line
close_clear true u = record { bit = refl; vector = refl }
close_clear false u = record { bit = refl; vector = refl }

rest_clear : (xs : List Signals) (p : Wave) → NoLine (rest p xs)
unfolding changes after close change
rest_clear [] p = close_clear (eqb p.time p.written) p.time
rest_clear (x ∷ xs) p =
    rw (append_assoc (change (p.time + 1) p.signals x) (changes (next p x) xs) (close (after (next p x) xs)))
    (time_clear (same p.signals x) (p.time + 1) (changed p.signals x) (rest (next p x) xs) (rest_clear xs (next p x)))

-- ---- rows
again : (k : ℕ) (s : Signals) (xs : List Signals) → replicate k s ++ (s ∷ xs) ≡ replicate (suc k) s ++ xs
again zero s xs = refl
again (suc k) s xs = ap (λ (l : List Signals). s ∷ l) (again k s xs)

pub is_same : (s x : Signals) → same s x ≡ true → s ≡ x
is_same s x h = by_exc (eqb s.exc x.exc) refl h
  where
    by_exc : (t : Bool) → eqb s.exc x.exc ≡ t → (t && eqb s.rc x.rc) ≡ true → s ≡ x
    by_exc true e f = both_are x s.exc s.rc (eqb-true s.exc x.exc e) (eqb-true s.rc x.rc f)
    by_exc false e f = cc

found_none : (n t : ℕ) (s : Signals) → rows_found (suc n) t s [] ≡ Some []
unfolding rows_found
found_none n t s = refl

before : (a b : ℕ) → (a ≡ b) ⊎ (a < b) → (b ≡ a → ⊥) → a < b
before a b (inl e) differ = absurd (differ (sym e))
before a b (inr h) differ = h

-- after the last row: nothing, or the last time
ends_by : (still : Bool) (n time written : ℕ) (s : Signals) → eqb time written ≡ still → written ≤ time → time ≤ most_rows → Wired s
    → length (cond still [] (time_line time)) < n → rows_found n written s (cond still [] (time_line time)) ≡ Some (replicate (time - written) s ++ [])
ends_by true zero time written s e h low w f = absurd (omega arith)
ends_by true (suc n) time written s e h low w f =
    let z : time - written ≡ 0 = omega (arith, eqb-true time written e) in
    rw z (found_none n written s)
ends_by false zero time written s e h low w f = absurd (omega arith)
ends_by false (suc zero) time written s e h low w f = absurd (omega (arith, some_line time))
ends_by false (suc (suc n)) time written s e h low w f =
    let g : written < time = before written time (eq-or-lt_of_le h) (eqb-false time written e) in
    let z : time - written ≡ suc (time - (written + 1)) = omega arith in
    found_last (suc n) written time s g low w
    ∙ rw (found_none n time s, z, append-nil (replicate (time - (written + 1)) s ++ (s ∷ []))) (ap Some (again (time - (written + 1)) s []))

-- a block has bytes, so what stands behind it is shorter
fuel_left : (n u : ℕ) (k l : List ℕ) → length ((time_line u ++ k) ++ l) < suc n → length l < n
fuel_left n u k l h = omega (arith, length-append (time_line u ++ k) l, some_time u k)

module _ (n time written : ℕ) (s x : Signals) (xs : List Signals) (h : written ≤ time) (low : time + 1 ≤ most_rows) (w : Wired x) where
  -- after this row
  abbrev here : Bool → Wave
  here still = record { time = time + 1; written = cond still written (time + 1); signals = x }

  abbrev text : Bool → List ℕ
  text still = cond still [] (time_line (time + 1) ++ changed s x) ++ rest (here still) xs

  -- the rows behind this one
  abbrev Others : Bool → Type 0
  Others still =
      (n : ℕ) → (here still).written ≤ time + 1 → length (rest (here still) xs) < n
      → rows_found n (here still).written x (rest (here still) xs) ≡ Some (replicate (time + 1 - (here still).written) x ++ xs)

  row_by : (still : Bool) → same s x ≡ still → Others still → length (text still) < n
      → rows_found n written s (text still) ≡ Some (replicate (time - written) s ++ (x ∷ xs))
  row_by true e others f =
      let z : time + 1 - written ≡ suc (time - written) = omega arith in
      rw (is_same s x e) (others n (omega arith) f ∙ rw z (ap Some (sym (again (time - written) x xs))))
  row_by false e others f = changes_by n f
    where
      changes_by : (n : ℕ) → length (text false) < n → rows_found n written s (text false) ≡ Some (replicate (time - written) s ++ (x ∷ xs))
      changes_by zero f = absurd (omega arith)
      changes_by (suc n) f =
          let now = others n (omega arith) (fuel_left n (time + 1) (changed s x) (rest (here false) xs) f) in
          let z : time + 1 - (time + 1) ≡ 0 = omega arith in
          let y : time + 1 - (written + 1) ≡ time - written = omega arith in
          rw (append_assoc (time_line (time + 1)) (changed s x) (rest (here false) xs))
          (found_change n written (time + 1) s x (rest (here false) xs) (omega arith) low w (rest_clear xs (here false)) e
          ∙ rw (now, z, y) (ap Some (append_assoc (replicate (time - written) s) (x ∷ []) xs)))

-- from where the waveform stands at p: the rows that were not written yet, then the others
pub rows_found_lem : (xs : List Signals) (n : ℕ) (p : Wave) → p.written ≤ p.time → Wired p.signals → AllWired xs → p.time + length xs ≤ most_rows
    → length (rest p xs) < n → rows_found n p.written p.signals (rest p xs) ≡ Some (replicate (p.time - p.written) p.signals ++ xs)
unfolding changes after close change
rows_found_lem [] n p h w all low f = ends_by (eqb p.time p.written) n p.time p.written p.signals refl h (omega arith) w f
rows_found_lem (x ∷ xs) n p h w all low f =
    let e = append_assoc (change (p.time + 1) p.signals x) (changes (next p x) xs) (close (after (next p x) xs)) in
    rw e
    (row_by n p.time p.written p.signals x xs h (omega arith) all.0 (same p.signals x) refl
    (λ n g f. rows_found_lem xs n (next p x) g all.0 all.1 (omega arith) f)
    (rw e at f))

-- ---- the whole file
front_some : (s : Signals) (l : List ℕ) → length l < length (front s ++ l)
unfolding front opening
front_some s l = omega (arith, length-append (front s) l)

pub finds_all : FindsAll
unfolding waveform found
finds_all s xs can =
    let l = rest (at_first s) xs in
    let rows = rows_found_lem xs (length (front s ++ l)) (at_first s) (omega arith) can.first can.rows (omega (arith, can.few)) (front_some s l) in
    rw (first_ahead_lem s l can.first, starts_own (front s) l, drop-append_seam (front s) l, rows)
