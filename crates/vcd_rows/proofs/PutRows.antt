-- Changes stored one behind the other: storing here those of the rows that are left is storing all of them at the start. Assumes nothing.
use Prim.Native.Nat.{ℕ, suc, ◌+◌, ◌-◌, ◌*◌, ◌<◌, ◌≤◌}
use mathlib.Core.Path.{◌≡◌, refl, sym, ap, subst, ◌∙◌}
use mathlib.Core.List.{List, [], ◌∷◌, ◌++◌}
use native.Mathlib.Omega.{arith}
use lib.ListN.{length, drop, length-append}
use lib.Seq.{get_or-drop, drop-drop, sets, length-sets}
use borrow.Author.Tests.{le-leb}
use Rattle.machine.specs.Names.{row_words}
use Rattle.scenario_text.specs.Put.{Put, stored, place_after}
use Rattle.scenario_text.proofs.Stores.{sets_append, puts}
use Rattle.vcd.specs.Blocks.{change, change_bytes}
use Rattle.vcd.specs.Wave.{time_of, counted}
use Rattle.vcd.specs.Trace.{row_signals}
use Rattle.vcd.specs.declared.Signals.{Signals}
use Rattle.vcd.specs.declared.Wave.{Wave}
use Rattle.vcd.proofs.Laws.{short}
use Rattle.vcd_rows.specs.Waves.{signals_at, left_by, text_by}

-- of n rows, the signals of those from the k-th on
abbrev pub left : List ℕ → ℕ → ℕ → List Signals
left rows n k = row_signals (n - k) (drop (row_words * k) rows)

next_row : (rows : List ℕ) (n k : ℕ) → k < n → left rows n k ≡ signals_at rows (row_words * k) ∷ left rows n (k + 1)
unfolding row_signals
next_row rows n k h =
    let e : n - k ≡ suc (n - (k + 1)) = omega arith in
    let f : row_words * (k + 1) ≡ row_words * k + row_words = omega arith in
    rw (e, f) (simp (get_or-drop, drop-drop))

-- ---- the loop over rows
pub record Going (rows : List ℕ) (n : ℕ) (first : Wave) (before : List ℕ) (at : ℕ) (out : List ℕ) (w : Wave) (p k : ℕ) : Type 0 where
  pub few : k ≤ n
  pub near : p ≤ at + change_bytes * k
  pub size : length out ≡ length before
  pub wave : left_by first (left rows n 0) ≡ left_by w (left rows n k)
  pub place : at + length (text_by first (left rows n 0)) ≡ p + length (text_by w (left rows n k))
  pub same : sets before at (text_by first (left rows n 0)) ≡ sets out p (text_by w (left rows n k))

pub begins : (rows : List ℕ) (n : ℕ) (w : Wave) (out : List ℕ) (at : ℕ) → Going rows n w out at out w at 0
begins rows n w out at = record { few = omega arith; near = omega arith; size = refl; wave = refl; place = refl; same = refl }

module _
    (rows : List ℕ) (n : ℕ) (first : Wave) (before : List ℕ) (at : ℕ) (out : List ℕ) (w : Wave) (p k : ℕ)
    (g : Going rows n first before at out w p k) where
  pub one_more : (x : Signals) (v : Wave) (p' : ℕ) (out' : List ℕ) → k < n → at + change_bytes * n ≤ length before → x ≡ signals_at rows (row_words * k)
      → v ≡ counted w x
      → p' ≡ place_after change_bytes out p (change v.time w.signals x) → out' ≡ stored change_bytes out p (change v.time w.signals x)
      → Going rows n first before at out' v p' (k + 1)
  unfolding left_by text_by
  one_more x v p' out' h room is counts place kept =
      let t = change (time_of w) w.signals x in
      let time : v.time ≡ time_of w = ap (λ (y : Wave). y.time) counts in
      let fits = le-leb (p + change_bytes) (length out) (omega (arith, g.near, g.size)) in
      let next : p' ≡ p + length t = rw (time, fits) at place in
      let stores : out' ≡ sets out p t = rw (time, fits) at kept in
      let rest = left rows n (k + 1) in
      let more : left rows n k ≡ x ∷ rest = rw is (next_row rows n k h) in
      let text : text_by w (left rows n k) ≡ t ++ text_by v rest = rw (more, counts) refl in
      let after : left_by w (left rows n k) ≡ left_by v rest = rw (more, counts) refl in
      record {
        few = omega arith;
        near = omega (arith, g.near, short.2 (time_of w) w.signals x);
        size = ap length stores ∙ length-sets out p t ∙ g.size;
        wave = g.wave ∙ after;
        place = omega (arith, g.place, ap length text, length-append t (text_by v rest));
        same = g.same ∙ ap (sets out p) text ∙ rw (stores, next) (sets_append t (text_by v rest) out p);
      }

  pub all_done : n ≤ k
      → (w ≡ left_by first (row_signals n rows)) × Put before at (text_by first (row_signals n rows)) (change_bytes * n) p out
  unfolding row_signals left_by text_by
  all_done h =
      let e : n - k ≡ 0 = omega arith in
      let all : n - 0 ≡ n = omega arith in
      let none : left rows n k ≡ [] = rw e refl in
      let text : text_by w (left rows n k) ≡ [] = rw none refl in
      let after : left_by w (left rows n k) ≡ w = rw none refl in
      let place : at + length (text_by first (left rows n 0)) ≡ p + 0 = g.place ∙ ap (λ (l : List ℕ). p + length l) text in
      let put : Put before at (text_by first (left rows n 0)) (change_bytes * n) p out =
      puts before out (text_by first (left rows n 0)) at p (change_bytes * n) (omega arith) (sym (g.same ∙ ap (sets out p) text)) (omega (arith, g.near, g.few))
      in (
        sym (g.wave ∙ after) ∙ ap (λ (m : ℕ). left_by first (row_signals m rows)) all,
        subst (λ (m : ℕ). Put before at (text_by first (row_signals m rows)) (change_bytes * n) p out) all put,
      )
