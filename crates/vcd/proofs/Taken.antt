-- A block that is taken is what the writer has there: rows that change nothing, then one that does, or the close. Assumes nothing.
use Prim.Native.Nat.{ℕ, zero, suc, ◌+◌, ◌≤◌}
use mathlib.Core.Bool.{Bool, true, false, cond, false≢true}
use mathlib.Core.Path.{◌≡◌, refl, sym, ap, subst, ◌∙◌}
use mathlib.Core.List.{List, [], ◌∷◌, ◌++◌, append_assoc, append-nil}
use native.Mathlib.Omega.{arith}
use borrow.Author.Tests.{eqb-true, ne_eqb}
use lib.Dec.{eqb}
use lib.ListN.{length, drop, replicate, length-append, length-replicate, replicate-append-replicate, drop_of_length-le}
use Rattle.std.proofs.lemmas.Bool.{and_parts}
use Rattle.vcd.specs.Blocks.{time_line, same, changed, change}
use Rattle.vcd.specs.Wave.{next, after, changes, close}
use Rattle.vcd.specs.Trace.{most_rows, Wired, AllWired}
use Rattle.vcd.specs.Read.{starts}
use Rattle.vcd.specs.declared.Signals.{Signals}
use Rattle.vcd.specs.declared.Wave.{Wave}
use Rattle.vcd.proofs.Laws.{two_pieces, after_both, still_rows}
use Rattle.vcd.proofs.OwnText.{changed_own}
use Rattle.vcd.proofs.FindsAll.{is_same}

-- what begins with a is a and the rest
pub starts_with : (a l : List ℕ) → starts a l ≡ true → l ≡ a ++ drop (length a) l
unfolding starts
starts_with [] l h = refl
starts_with (x ∷ a) [] h = absurd (false≢true h)
starts_with (x ∷ a) (y ∷ l) h =
    let (first, others) = and_parts (eqb x y) (starts a l) h in
    let e : x ≡ y = eqb-true x y first in
    rw e (ap {B = List ℕ} (λ r. y ∷ r) (starts_with a l others))

-- ---- rows
-- time t, which is written
abbrev pub at_time : ℕ → Signals → Wave
at_time t s = record { time = t; written = t; signals = s }

-- n rows that stand still, then x
abbrev pub rows_to : ℕ → Signals → Signals → List Signals
rows_to n s x = replicate n s ++ (x ∷ [])

-- the text l is what rows behind time t write, and these can be lent
pub record Rows (t : ℕ) (s : Signals) (l : List ℕ) (xs : List Signals) : Type 0 where
  pub text : l ≡ changes (at_time t s) xs ++ close (after (at_time t s) xs)
  pub wired : AllWired xs
  pub few : t + length xs ≤ most_rows

wired_then : (n : ℕ) (s x : Signals) (ys : List Signals) → Wired s → Wired x → AllWired ys → AllWired (rows_to n s x ++ ys)
wired_then zero s x ys w u us = (u, us)
wired_then (suc n) s x ys w u us = (w, wired_then n s x ys w u us)

length_then : (n : ℕ) (s x : Signals) (ys : List Signals) → length (rows_to n s x ++ ys) ≡ n + 1 + length ys
length_then n s x ys = omega (arith, length-append (rows_to n s x) ys, length-append (replicate n s) (x ∷ []), length-replicate n s)

-- n rows after time t, which is the last that is written
abbrev waiting : ℕ → ℕ → Signals → Wave
waiting t n s = record { time = t + n; written = t; signals = s }

module _ (t n : ℕ) (s x : Signals) (ys : List Signals) where
  changes_then : changes (at_time t s) (rows_to n s x ++ ys) ≡ change (t + n + 1) s x ++ changes (next (waiting t n s) x) ys
  unfolding changes
  changes_then =
      rw (append_assoc (replicate n s) (x ∷ []) ys, two_pieces (at_time t s) (replicate n s) (x ∷ ys), (still_rows (at_time t s) n).0, (still_rows (at_time t s) n).1)

  after_then : after (at_time t s) (rows_to n s x ++ ys) ≡ after (next (waiting t n s) x) ys
  unfolding after
  after_then =
      rw (append_assoc (replicate n s) (x ∷ []) ys, after_both (at_time t s) (replicate n s) (x ∷ ys), (still_rows (at_time t s) n).1)

-- ---- a block that changes a signal
module _ (t n : ℕ) (s x : Signals) (ys : List Signals) (other : same s x ≡ false) where
  next_other : next (waiting t n s) x ≡ at_time (t + n + 1) x
  next_other = ap (λ (b : Bool). record { time = t + n + 1; written = cond b t (t + n + 1); signals = x }) other

  change_other : change (t + n + 1) s x ≡ time_line (t + n + 1) ++ changed s x
  unfolding change
  change_other = ap (λ (b : Bool). cond b [] (time_line (t + n + 1) ++ changed s x)) other

  pub text_other : (r : List ℕ) → r ≡ changes (at_time (t + n + 1) x) ys ++ close (after (at_time (t + n + 1) x) ys)
      → (time_line (t + n + 1) ++ changed s x) ++ r ≡ changes (at_time t s) (rows_to n s x ++ ys) ++ close (after (at_time t s) (rows_to n s x ++ ys))
  text_other r e =
      rw (changes_then t n s x ys, after_then t n s x ys, next_other, change_other, e)
      (sym (append_assoc (time_line (t + n + 1) ++ changed s x) (changes (at_time (t + n + 1) x) ys) (close (after (at_time (t + n + 1) x) ys))))

-- ---- the close
module _ (t n : ℕ) (s : Signals) where
  close_waiting : close (waiting t (n + 1) s) ≡ time_line (t + (n + 1))
  unfolding close
  close_waiting = rw (ne_eqb (t + (n + 1)) t (λ e. omega arith))

  rows_still : rows_to n s s ++ [] ≡ replicate (n + 1) s
  rows_still = append-nil (rows_to n s s) ∙ replicate-append-replicate n 1 s

  pub text_still : time_line (t + n + 1) ++ changed s s ≡ changes (at_time t s) (rows_to n s s ++ []) ++ close (after (at_time t s) (rows_to n s s ++ []))
  text_still =
      let e : t + n + 1 ≡ t + (n + 1) = omega arith in
      rw (e, rows_still, (still_rows (at_time t s) (n + 1)).0, (still_rows (at_time t s) (n + 1)).1, close_waiting, changed_own s) (append-nil (time_line (t + (n + 1))))

-- ---- a block
module _ (t n : ℕ) (s x : Signals) (l : List ℕ) (ys : List Signals) where
  -- a block at time u, then the rows ys; where it changes nothing it is the last
  pub record Stands (u : ℕ) : Type 0 where
    pub begins : starts (time_line u ++ changed s x) l ≡ true
    pub then : Rows u x (drop (length (time_line u ++ changed s x)) l) ys
    pub last : same s x ≡ true → (length l ≤ length (time_line u ++ changed s x)) × (ys ≡ [])

  ends_by : x ≡ s → ys ≡ [] → l ≡ time_line (t + n + 1) ++ changed s x → l ≡ changes (at_time t s) (rows_to n s x ++ ys) ++ close (after (at_time t s) (rows_to n s x ++ ys))
  ends_by e f h = rw (f, e) ((rw e at h) ∙ text_still t n s)

  text_by : (b : Bool) → same s x ≡ b → Stands (t + n + 1) → l ≡ changes (at_time t s) (rows_to n s x ++ ys) ++ close (after (at_time t s) (rows_to n s x ++ ys))
  text_by false e k = starts_with (time_line (t + n + 1) ++ changed s x) l k.begins ∙ text_other t n s x ys e (drop (length (time_line (t + n + 1) ++ changed s x)) l) k.then.text
  text_by true e k =
      let none : drop (length (time_line (t + n + 1) ++ changed s x)) l ≡ [] = drop_of_length-le l (k.last e).0 in
      ends_by (sym (is_same s x e)) (k.last e).1
      (starts_with (time_line (t + n + 1) ++ changed s x) l k.begins ∙ rw none (append-nil (time_line (t + n + 1) ++ changed s x)))

  taken_at : Wired s → Wired x → Stands (t + n + 1) → Rows t s l (rows_to n s x ++ ys)
  taken_at w v k = record {
    text = text_by (same s x) refl k;
    wired = wired_then n s x ys w v k.then.wired;
    few = omega (arith, length_then n s x ys, k.then.few);
  }

  pub taken : (u : ℕ) → u ≡ t + n + 1 → Wired s → Wired x → Stands u → Rows t s l (rows_to n s x ++ ys)
  taken u e w v k = taken_at w v (subst Stands e k)
