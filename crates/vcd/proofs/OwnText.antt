-- What is gathered from the writer's own text is what it was written for: a time, the signals, a block, the signals of the opening. Assumes nothing.
use Prim.Native.Nat.{ℕ, zero, suc, ◌^◌, ◌<◌, ◌≤◌}
use mathlib.Core.Bool.{Bool, true, false, ◌||◌, ◌&&◌, not, cond}
use mathlib.Core.Path.{◌≡◌, refl, sym, ap, subst, ◌∙◌}
use mathlib.Core.List.{List, [], ◌∷◌, ◌++◌, append_assoc, append-nil}
use native.Mathlib.Omega.{arith}
use native.Mathlib.Nat.{le_refl}
use borrow.Author.Tests.{lt-ltb, le-leb, eq-eqb, eqb-true}
use lib.Dec.{T, ltb, leb, eqb}
use lib.ListN.{length, get_or, drop}
use lib.Seq.{drop-append_seam}
use Rattle.scenario_lines.specs.Ascii.{bytes}
use Rattle.scenario_text.specs.Number.{text}
use Rattle.vcd.specs.Binary.{is_bit, binary}
use Rattle.std.specs.Prelude.{Option, None, Some}
use Rattle.vcd.specs.Blocks.{time_line, exc_line, rc_line, opening, dump, front, same, changed}
use Rattle.vcd.specs.Trace.{most_rows, Wired}
use Rattle.vcd.specs.Read.{time_ahead, exc_ahead, behind_exc, rc_ahead, signals_ahead, starts, block_at, first_ahead}
use Rattle.vcd.specs.declared.Signals.{Signals}
use Rattle.vcd.specs.declared.Block.{Block}
use Rattle.vcd.proofs.NumbersAhead.{text_ahead, binary_ahead}

-- ---- a time
pub time_ahead_lem : (t : ℕ) (l : List ℕ) → t < 2 ^ 64 → time_ahead (time_line t ++ l) ≡ t
unfolding time_line
time_ahead_lem t l h = rw (append_assoc (text t) (bytes "\n") l) (text_ahead t l h)

-- ---- the signals
-- no line of exc begins there, and none of rc
pub record NoLine (l : List ℕ) : Type 0 where
  pub bit : is_bit (get_or l 0 0) ≡ false
  pub vector : eqb (get_or l 0 0) 98 ≡ false

abbrev exc_part : Bool → ℕ → List ℕ
exc_part still v = cond still [] (exc_line v)

abbrev rc_part : Bool → ℕ → List ℕ
rc_part still v = cond still [] (rc_line v)

exc_there : (was v : ℕ) (l : List ℕ) → v ≤ 1 → (exc_ahead was (exc_line v ++ l) ≡ v) × (behind_exc (exc_line v ++ l) ≡ l)
unfolding exc_line
exc_there was zero l h = (refl, refl)
exc_there was (suc zero) l h = (refl, refl)
exc_there was (suc (suc v)) l h = absurd (omega arith)

-- a line of exc is gathered, or the signal is as it was
exc_ahead_lem : (still : Bool) (was v : ℕ) (l : List ℕ) → (still ≡ true → was ≡ v) → v ≤ 1 → is_bit (get_or l 0 0) ≡ false
    → (exc_ahead was (exc_part still v ++ l) ≡ v) × (behind_exc (exc_part still v ++ l) ≡ l)
exc_ahead_lem true was v l e h clear = (rw clear (e refl), rw clear)
exc_ahead_lem false was v l e h clear = exc_there was v l h

rc_there : (was v : ℕ) (l : List ℕ) → v < 2 ^ 64 → rc_ahead was (rc_line v ++ l) ≡ v
unfolding rc_line
rc_there was v l h = rw (append_assoc (binary v) (bytes " r\n") l) (binary_ahead v (bytes "r\n" ++ l) h)

rc_ahead_lem : (still : Bool) (was v : ℕ) (l : List ℕ) → (still ≡ true → was ≡ v) → v < 2 ^ 64 → eqb (get_or l 0 0) 98 ≡ false
    → rc_ahead was (rc_part still v ++ l) ≡ v
rc_ahead_lem true was v l e h clear = rw clear (e refl)
rc_ahead_lem false was v l e h clear = rc_there was v l h

-- a line of rc does not begin with a bit
no_bit : (still : Bool) (v : ℕ) (l : List ℕ) → is_bit (get_or l 0 0) ≡ false → is_bit (get_or (rc_part still v ++ l) 0 0) ≡ false
unfolding rc_line
no_bit true v l h = h
no_bit false v l h = refl

pub both_are : (x : Signals) (a b : ℕ) → a ≡ x.exc → b ≡ x.rc → ◌≡◌ {A = Signals} (record { exc = a; rc = b }) x
both_are x a b e f = rw (e, f)

parts_ahead : (a b : Bool) (s x : Signals) (l : List ℕ) → (a ≡ true → s.exc ≡ x.exc) → (b ≡ true → s.rc ≡ x.rc) → Wired x → NoLine l
    → signals_ahead s (exc_part a x.exc ++ (rc_part b x.rc ++ l)) ≡ x
unfolding signals_ahead
parts_ahead a b s x l e f w clear =
    let exc = exc_ahead_lem a s.exc x.exc (rc_part b x.rc ++ l) e w.one (no_bit b x.rc l clear.bit) in
    both_are x _ _ exc.0 (rw exc.1 (rc_ahead_lem b s.rc x.rc l f w.wide clear.vector))

pub signals_ahead_lem : (s x : Signals) (l : List ℕ) → Wired x → NoLine l → signals_ahead s (changed s x ++ l) ≡ x
unfolding changed
signals_ahead_lem s x l w clear =
    let a = eqb s.exc x.exc in
    let b = eqb s.rc x.rc in
    rw (append_assoc (exc_part a x.exc) (rc_part b x.rc) l)
    (parts_ahead a b s x l (eqb-true s.exc x.exc) (eqb-true s.rc x.rc) w clear)

-- ---- the opening
end_no_line : (l : List ℕ) → NoLine (bytes "$end\n" ++ l)
end_no_line l = record { bit = refl; vector = refl }

never : {A : Type 0} → false ≡ true → A
never h = absurd (subst T (sym h) tt)

pub first_ahead_lem : (s : Signals) (l : List ℕ) → Wired s → first_ahead (front s ++ l) ≡ s
unfolding front opening dump
first_ahead_lem s l w =
    rw (append_assoc (exc_line s.exc) (rc_line s.rc ++ bytes "$end\n") l, append_assoc (rc_line s.rc) (bytes "$end\n") l)
    (parts_ahead false false (record { exc = 0; rc = 0 }) s (bytes "$end\n" ++ l) (λ h. never h) (λ h. never h) w (end_no_line l))

-- ---- a block
pub starts_own : (a l : List ℕ) → starts a (a ++ l) ≡ true
unfolding starts
starts_own [] l = refl
starts_own (x ∷ a) l = rw (eq-eqb x x refl) (starts_own a l)

-- a block whose time is u, after which the signals are x
abbrev block_text : ℕ → Signals → Signals → List ℕ
block_text u s x = time_line u ++ changed s x

-- a signal changed, or nothing stands behind it
abbrev needed : ℕ → Signals → Signals → List ℕ → Bool
needed u s x l = not (same s x) || leb (length l) (length (block_text u s x))

-- the block at l, for a time and signals that were gathered
abbrev block_with : ℕ → Signals → List ℕ → ℕ → Signals → Option Block
block_with t s l u x =
    cond
    (starts (block_text u s x) l && (ltb t u && (leb u most_rows && needed u s x l)))
    (Some (record { time = u; signals = x; len = length (block_text u s x) }))
    None

block_with_lem : (t : ℕ) (s x : Signals) (u : ℕ) (l : List ℕ) → time_ahead l ≡ u → signals_ahead s (drop (length (time_line u)) l) ≡ x
    → block_at t s l ≡ block_with t s l u x
unfolding block_at
block_with_lem t s x u l e f =
    ap (λ (v : ℕ). block_with t s l v (signals_ahead s (drop (length (time_line v)) l))) e ∙ ap (λ (y : Signals). block_with t s l u y) f

abbrev pub block_of : ℕ → Signals → Signals → Block
block_of u s x = record { time = u; signals = x; len = length (time_line u ++ changed s x) }

module _ (t u : ℕ) (s x : Signals) (l : List ℕ) (later : t < u) (low : u ≤ most_rows) (w : Wired x) (clear : NoLine l) where
  good : needed u s x (time_line u ++ (changed s x ++ l)) ≡ true → block_with t s (time_line u ++ (changed s x ++ l)) u x ≡ Some (block_of u s x)
  good h =
      let own : starts (block_text u s x) (time_line u ++ (changed s x ++ l)) ≡ true =
      ap (starts (block_text u s x)) (sym (append_assoc (time_line u) (changed s x) l)) ∙ starts_own (block_text u s x) l in
      rw (own, lt-ltb t u later, le-leb u most_rows low, h)

  found_there : signals_ahead s (drop (length (time_line u)) (time_line u ++ (changed s x ++ l))) ≡ x
  found_there = rw (drop-append_seam (time_line u) (changed s x ++ l)) (signals_ahead_lem s x l w clear)

  block_ahead : needed u s x (time_line u ++ (changed s x ++ l)) ≡ true → block_at t s (time_line u ++ (changed s x ++ l)) ≡ Some (block_of u s x)
  block_ahead h =
      block_with_lem t s x u (time_line u ++ (changed s x ++ l)) (time_ahead_lem u (changed s x ++ l) (omega arith)) found_there ∙ good h

  pub block_changed : same s x ≡ false → block_at t s (time_line u ++ (changed s x ++ l)) ≡ Some (block_of u s x)
  block_changed h = block_ahead (rw h)

-- ---- the last time, without a change
module _ (s : Signals) where
  pub same_own : same s s ≡ true
  same_own = rw (eq-eqb s.exc s.exc refl, eq-eqb s.rc s.rc refl)

  pub changed_own : changed s s ≡ []
  unfolding changed
  changed_own = rw (eq-eqb s.exc s.exc refl, eq-eqb s.rc s.rc refl)

  alone : (u : ℕ) → time_line u ++ changed s s ≡ time_line u
  alone u = rw changed_own (append-nil (time_line u))

  needed_last : (u : ℕ) → needed u s s (time_line u ++ (changed s s ++ [])) ≡ true
  needed_last u = rw (append-nil (changed s s), same_own) (le-leb _ _ (le_refl (length (time_line u ++ changed s s))))

  pub block_last : (t u : ℕ) → t < u → u ≤ most_rows → Wired s
      → block_at t s (time_line u) ≡ Some (record { time = u; signals = s; len = length (time_line u) })
  block_last t u later low w =
      ap (block_at t s) (sym (rw (append-nil (changed s s)) (alone u)))
      ∙ block_ahead t u s s [] later low w (record { bit = refl; vector = refl }) (needed_last u)
      ∙ ap (λ (l : List ℕ). Some (record { time = u; signals = s; len = length l })) (alone u)
