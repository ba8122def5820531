-- One turn of the loop over a line's numbers is one field of the line. Assumes nothing.
use Prim.Native.Nat.{ℕ, suc, ◌+◌, ◌-◌, ◌<◌, ◌≤◌}
use mathlib.Core.Bool.{Bool, true, false, cond}
use mathlib.Core.Path.{◌≡◌, refl, sym, ap, ◌∙◌}
use mathlib.Core.List.{List, [], ◌∷◌}
use native.Mathlib.Numerals.{add-one}
use native.Mathlib.Omega.{arith}
use borrow.Author.Tests.{ltb-true, ltb-false, lt-ltb, le-ltb}
use lib.Dec.{eqb, ltb}
use lib.ListN.{length, take, drop, length-drop}
use lib.Seq.{drop-drop}
use Rattle.scenario_lines.specs.Judge.{fields, comma_at}
use Rattle.scenario_lines.specs.Number.{number}
use Rattle.scenario_lines.proofs.Scans.{part_whole, fields_cut, fields_one}
use Rattle.replay.specs.Lists.{part_of, place_of}
use Rattle.replay.specs.Numbers.{Filled, filled, is_put, put_in, fill}
use Rattle.std.specs.Prelude.{Option, None, Some}
use Rattle.replay.proofs.Scans.{part_in}

place_by : (t : Bool) (n m : ℕ) → n ≤ m → cond t 0 (suc n) ≤ suc m
place_by true n m h = omega arith
place_by false n m h = omega arith

place_most : (b : ℕ) (l : List ℕ) → place_of b l ≤ length l
unfolding place_of
place_most b [] = omega arith
place_most b (x ∷ l) = place_by (eqb x b) (place_of b l) (length l) (place_most b l)

-- the place of the first comma is the one that `scenario_lines` splits at
place_comma : (l : List ℕ) → place_of 44 l ≡ comma_at l
unfolding place_of comma_at
place_comma [] = refl
place_comma (x ∷ l) = ap (λ (n : ℕ). cond (eqb x 44) 0 (suc n)) (place_comma l)

module _ (s : List ℕ) (from to : ℕ) (within : from ≤ length s) (here : to ≡ from + place_of 44 (drop from s)) where
  at_end : length s ≤ to → part_of from to s ≡ drop from s
  at_end h =
      let most = place_most 44 (drop from s) in
      let whole : to ≡ length s = omega (arith, length-drop from s) in
      part_in s from to (omega arith) ∙ rw whole (part_whole s from)

  before_end : to < length s → part_of from to s ≡ take (place_of 44 (drop from s)) (drop from s)
  before_end h =
      let width : to - from ≡ place_of 44 (drop from s) = omega arith in
      part_in s from to (omega arith) ∙ rw width

  behind : drop (place_of 44 (drop from s) + 1) (drop from s) ≡ drop (to + 1) s
  behind =
      let width : from + (place_of 44 (drop from s) + 1) ≡ to + 1 = omega arith in
      drop-drop (place_of 44 (drop from s) + 1) from s ∙ ap (λ (n : ℕ). drop n s) width

  by_end : (t : Bool) → ltb to (length s) ≡ t → fields (drop from s) ≡ part_of from to s ∷ cond t (fields (drop (to + 1) s)) []
  by_end true e =
      let h = ltb-true to (length s) e in
      fields_cut (drop from s) _ (place_comma (drop from s)) (omega (arith, length-drop from s))
      ∙ rw (before_end h) (ap (λ (l : List ℕ). take (place_of 44 (drop from s)) (drop from s) ∷ fields l) behind)
  by_end false e =
      let h = ltb-false to (length s) e in
      fields_one (drop from s) _ (place_comma (drop from s)) (omega (arith, length-drop from s)) ∙ ap (λ (l : List ℕ). l ∷ []) (sym (at_end h))

  -- a turn: p is what the field says, ok whether it was put, and v the words afterwards
  module _ (w : List ℕ) (n : ℕ) {all : Filled} (so_far : all ≡ fill (fields (drop from s)) w n)
      {p : Option ℕ} {ok : Bool} {v : List ℕ} (says : p ≡ number (part_of from to s)) (put : (ok ≡ is_put p n w) × (v ≡ put_in p n w)) where
    turned : all ≡ cond ok (fill (cond (ltb to (length s)) (fields (drop (to + 1) s)) []) v (suc n)) (filled None v)
    unfolding fill
    turned =
        so_far ∙ ap (λ (fs : List (List ℕ)). fill fs w n) (by_end (ltb to (length s)) refl)
        ∙ rw (← says) (rw (← put.0, ← put.1))

    pub fills_broken : ok ≡ false → (None ≡ all.told) × (v ≡ all.words)
    fills_broken e =
        let at_last : all ≡ filled None v = turned ∙ rw e in
        (sym (ap (λ (x : Filled). x.told) at_last), sym (ap (λ (x : Filled). x.words) at_last))

    pub fills_last : ok ≡ true → length s ≤ to → (Some (n + 1) ≡ all.told) × (v ≡ all.words)
    unfolding fill
    fills_last e h =
        let at_last : all ≡ filled (Some (suc n)) v = turned ∙ rw (e, le-ltb to (length s) h) in
        (rw add-one (sym (ap (λ (x : Filled). x.told) at_last)), sym (ap (λ (x : Filled). x.words) at_last))

    pub fills_on : ok ≡ true → to < length s → all ≡ fill (fields (drop (to + 1) s)) v (n + 1)
    fills_on e h = turned ∙ rw (e, lt-ltb to (length s) h, add-one n)
