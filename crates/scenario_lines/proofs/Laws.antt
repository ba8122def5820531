-- The laws of the lines. Assumes nothing.
use Prim.Native.Nat.{ℕ, zero, suc}
use mathlib.Core.Bool.{Bool, true, false, cond}
use mathlib.Core.Path.{◌≡◌, refl, sym, ap, ◌∙◌}
use mathlib.Core.List.{List, [], ◌∷◌}
use native.Mathlib.Omega.{arith}
use borrow.Author.Tests.{lt-ltb}
use lib.Dec.{ltb}
use lib.ListN.{length, drop, take}
use Rattle.scenario_lines.specs.Bytes.{Reader, reader, feed, finish, ended, too_long}
use Rattle.scenario_lines.specs.Held.{view, held_after, line_after, took, taking, one_byte_more, held_last, line_last, held_end, line_end}
use Rattle.scenario_lines.specs.Laws.{LongAlike, ByBytes, AnyCut, means, AByte, ALine, TheEnd}
use Rattle.scenario_lines.specs.declared.bytes.Held.{Held}
use Rattle.scenario_lines.proofs.Agree.{agree, cut, unended}
use Rattle.scenario_lines.proofs.Kept.{either, view_kept, length_after}

pub by_bytes : ByBytes
by_bytes S next long s file = agree next long s file

pub any_cut : AnyCut
any_cut S next r a b = cut next r a b

pub a_byte : AByte
unfolding held_after line_after
a_byte S next s l h b e = either next s l e h.len b h.cr

module _ (S : Type 0) (next : S → List ℕ → S) (s : S) where
  -- what is read where the line was completed, and where it was not
  abbrev reads : List ℕ → List ℕ → Held → ℕ → Reader S
  reads bs m g k = cond g.done (feed next (reader [] false (next s (view m g.len))) (drop k bs)) (means m g s)

  completed : (t : Bool) (b : ℕ) (bs m : List ℕ) (g : Held) → g.done ≡ t
      → (feed next (means m g s) bs ≡ reads bs (took bs m g).line (took bs m g).held (took bs m g).used)
      → let w = cond t (taking g m 1) (one_byte_more (took bs m g)) in
      feed next (cond t (reader [] false (next s (view m g.len))) (means m g s)) bs ≡ reads (b ∷ bs) w.line w.held w.used
  completed true b bs m g e same = rw e
  completed false b bs m g e same = same

  a_line_from : (bs l : List ℕ) (h : Held) → length l ≡ 80 → feed next (means l h s) bs ≡ reads bs (took bs l h).line (took bs l h).held (took bs l h).used
  unfolding feed took
  a_line_from [] l h e = refl
  a_line_from (b ∷ bs) l h e =
      let g = held_after h b in
      let m = line_after l h b in
      ap (λ (r : Reader S). feed next r bs) (a_byte S next s l h b e) ∙ completed g.done b bs m g refl (a_line_from bs m g (length_after l h b e))

pub a_line : ALine
a_line S next s bs l h e = a_line_from S next s bs l h e

-- ---- the end
module _ (S : Type 0) (next : S → List ℕ → S) (s : S) where
  some : (t : Bool) (x : ℕ) (l : List ℕ) → ended next s (cond t (x ∷ l) too_long) ≡ next s (cond t (x ∷ l) too_long)
  some true x l = refl
  some false x l = refl

  held_line : (l : List ℕ) (n : ℕ) → length l ≡ 80 → ended next s (view l n) ≡ cond (ltb 0 n) (next s (view l n)) s
  unfolding view
  held_line [] n e = absurd (omega arith)
  held_line (x ∷ l) zero e = refl
  held_line (x ∷ l) (suc n) e = rw (lt-ltb 0 (suc n) (omega arith)) (some (ltb (suc n) 81) x (take n l))

  ends : LongAlike next → (back : Bool) (l : List ℕ) (n : ℕ) → length l ≡ 80
      → finish next (reader (view l n) back s) ≡ cond (held_last back n).done (next s (view (line_last back l n) (held_last back n).len)) s
  ends long true l n e = unended next long s (view l n) 13 ∙ ap (next s) (sym (view_kept l n 13 e))
  ends long false l n e = held_line l n e

pub the_end : TheEnd
unfolding held_end line_end
the_end S next long s l h e = ends S next s long h.cr l h.len e
