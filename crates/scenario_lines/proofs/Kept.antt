-- The line as the code keeps it is the line of the byte machine, byte by byte. Assumes nothing.
use Prim.Native.Nat.{ℕ, ◌+◌, ◌<◌, ◌≤◌}
use mathlib.Core.Bool.{Bool, true, false, cond}
use mathlib.Core.Path.{◌≡◌, refl, ◌∙◌}
use mathlib.Core.List.{List, []}
use native.Mathlib.Numerals.{add-one}
use native.Mathlib.Omega.{arith}
use borrow.Author.Tests.{ltb-false, ltb-true, lt-ltb, le-ltb}
use lib.Dec.{eqb, ltb}
use lib.ListN.{length, take, set, length-set}
use lib.Seq.{length-take-le, take-suc-set}
use Rattle.scenario_lines.specs.Bytes.{add, too_long, Reader, reader, pushed}
use Rattle.scenario_lines.specs.Held.{grown, kept, held, held_by, line_by, line_after, view}
use Rattle.scenario_lines.specs.Laws.{means}
use Rattle.scenario_lines.specs.declared.bytes.Held.{Held}

module _ (l : List ℕ) (n b : ℕ) (e : length l ≡ 80) where
  full : (u : Bool) → ltb n 81 ≡ u → 80 ≤ n → too_long ≡ add (cond u (take n l) too_long) b
  unfolding add
  full true h g =
      let i : n ≤ length l = omega (arith, ltb-true n 81 h) in
      let j : length (take n l) ≡ n = length-take-le n l i in
      rw (le-ltb (length (take n l)) 80 (omega arith))
  full false h g = refl

  by_room : (t : Bool) → ltb n 80 ≡ t → view (cond t (set l n b) l) (cond t (n + 1) 81) ≡ add (view l n) b
  unfolding view add
  by_room true h =
      let i : n < 80 = ltb-true n 80 h in
      let j : n < length l = omega arith in
      let k : length (take n l) ≡ n = length-take-le n l (omega arith) in
      rw (lt-ltb (n + 1) 81 (omega arith), lt-ltb n 81 (omega arith), lt-ltb (length (take n l)) 80 (omega arith), add-one) (take-suc-set l n b j)
  by_room false h = full (ltb n 81) refl (ltb-false n 80 h)

  pub view_kept : view (kept l n b) (grown n) ≡ add (view l n) b
  view_kept = by_room (ltb n 80) refl

  by_room_length : (t : Bool) → length (cond t (set l n b) l) ≡ 80
  by_room_length true = length-set l n b ∙ e
  by_room_length false = e

  pub kept_length : length (kept l n b) ≡ 80
  kept_length = by_room_length (ltb n 80)

module _ {S : Type 0} (next : S → List ℕ → S) (s : S) where
  module _ (l : List ℕ) (e : length l ≡ 80) (n b : ℕ) where
    -- where the machine stands, told from the places m and what is held of them
    abbrev stands : List ℕ → Held → Reader S
    stands m h = cond h.done (reader [] false (next s (view m h.len))) (means m h s)

    free : (u : Bool) → cond u (reader (view l n) true s) (reader (add (view l n) b) false s)
        ≡ stands (cond u l (kept l n b)) (cond u (held n true false) (held (grown n) false false))
    free true = refl
    free false = rw (view_kept l n b e)

    after : (t u : Bool)
        → cond t (reader [] false (next s (view l n))) (cond u (reader (add (view l n) 13) true s) (reader (add (add (view l n) 13) b) false s))
        ≡ stands (cond t l (cond u (kept l n 13) (kept (kept l n 13) (grown n) b))) (cond t (held n false true) (cond u (held (grown n) true false) (held (grown (grown n)) false false)))
    after true u = refl
    after false true = rw (view_kept l n 13 e)
    after false false = rw (view_kept (kept l n 13) (grown n) b (kept_length l n 13 e), view_kept l n 13 e)

    pub either : (back : Bool) → pushed next back (view l n) s b ≡ stands (line_by back l n b) (held_by back n b)
    either false = free (eqb b 13)
    either true = after (eqb b 10) (eqb b 13)

-- ---- the places stay 80
length_by : (t u : Bool) (l : List ℕ) (n b : ℕ) → length l ≡ 80 → length (cond t l (cond u (kept l n 13) (kept (kept l n 13) (grown n) b))) ≡ 80
length_by true u l n b e = e
length_by false true l n b e = kept_length l n 13 e
length_by false false l n b e = kept_length (kept l n 13) (grown n) b (kept_length l n 13 e)

length_free : (u : Bool) (l : List ℕ) (n b : ℕ) → length l ≡ 80 → length (cond u l (kept l n b)) ≡ 80
length_free true l n b e = e
length_free false l n b e = kept_length l n b e

length_line : (back : Bool) (l : List ℕ) (n b : ℕ) → length l ≡ 80 → length (line_by back l n b) ≡ 80
length_line true l n b e = length_by (eqb b 10) (eqb b 13) l n b e
length_line false l n b e = length_free (eqb b 13) l n b e

pub length_after : (l : List ℕ) (h : Held) (b : ℕ) → length l ≡ 80 → length (line_after l h b) ≡ 80
unfolding line_after
length_after l h b e = length_line h.cr l h.len b e
