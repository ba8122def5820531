-- One turn of the loop over a chunk is one unfolding of `took`. Assumes nothing.
use Prim.Native.Nat.{ℕ, suc, ◌+◌, ◌<◌, ◌≤◌}
use mathlib.Core.Bool.{true, false}
use mathlib.Core.Path.{◌≡◌, refl, sym, ap, ◌∙◌}
use mathlib.Core.List.{List, [], ◌∷◌}
use native.Mathlib.Numerals.{add-one}
use native.Mathlib.Omega.{arith}
use lib.ListN.{length, get_or, drop, drop_of_length-le}
use lib.Seq.{drop-cons}
use Rattle.scenario_lines.specs.Held.{opened, held_after, line_after, Took, taking, one_byte_more, took, taken_from}
use Rattle.scenario_lines.specs.declared.bytes.Held.{Held}
use Rattle.scenario_lines.specs.declared.bytes.Taken.{Taken}

-- whether the byte before completed the line is of no account
pub took_opened : (bs l : List ℕ) (h : Held) → took bs l h ≡ took bs l (opened h)
unfolding took held_after line_after
took_opened [] l h = refl
took_opened (b ∷ bs) l h = refl

module _ (s : List ℕ) (i : ℕ) (l : List ℕ) (g : Held) where
  pub took_last : i < length s → (held_after g (get_or s i 0)).done ≡ true
      → took (drop i s) l g ≡ taking (held_after g (get_or s i 0)) (line_after l g (get_or s i 0)) 1
  unfolding took
  took_last h e = rw (drop-cons s i 0, e)

  pub took_on : i < length s → (held_after g (get_or s i 0)).done ≡ false
      → took (drop i s) l g ≡ one_byte_more (took (drop (i + 1) s) (line_after l g (get_or s i 0)) (held_after g (get_or s i 0)))
  unfolding took
  took_on h e = rw (add-one, drop-cons s i 0, e)

  pub took_over : length s ≤ i → took (drop i s) l g ≡ taking (opened g) l 0
  unfolding took
  took_over h = rw (drop_of_length-le s h)

-- from this place on, what is taken is t; and the places afterwards are m
abbrev pub Takes : Taken → List ℕ → ℕ → Took → Type 0
Takes t m from w = (t ≡ taken_from from w) × (m ≡ w.line)

shifted : (i n : ℕ) → i + suc n ≡ i + 1 + n
shifted i n = omega arith

-- a turn of the loop: h and k are what is held and the places after the byte
module _ (s : List ℕ) (i : ℕ) (l : List ℕ) (g : Held) (in_range : i < length s) {t : Taken} {m : List ℕ} (here : Takes t m i (took (drop i s) l g)) where
  pub takes_last : {h : Held} {k : List ℕ} → (h ≡ held_after g (get_or s i 0)) × (k ≡ line_after l g (get_or s i 0)) → h.done ≡ true
      → (record { held = h; at = i + 1 } ≡ t) × (k ≡ m)
  takes_last {h} {k} e d =
      let w = took_last s i l g in_range (rw e.0 at d) in
      (rw e.0 (sym (here.0 ∙ ap (λ (x : Took). taken_from i x) w)), rw e.1 (sym (here.1 ∙ ap (λ (x : Took). x.line) w)))

  pub takes_on : {h : Held} {k : List ℕ} → (h ≡ held_after g (get_or s i 0)) × (k ≡ line_after l g (get_or s i 0)) → h.done ≡ false
      → Takes t m (i + 1) (took (drop (i + 1) s) k h)
  takes_on {h} {k} e d =
      let w = took_on s i l g in_range (rw e.0 at d) in
      let x = took (drop (i + 1) s) (line_after l g (get_or s i 0)) (held_after g (get_or s i 0)) in
      rw (e.0, e.1) (
        here.0 ∙ ap (λ (x : Took). taken_from i x) w ∙ ap (λ (n : ℕ). record { held = x.held; at = n }) (shifted i x.used),
        here.1 ∙ ap (λ (x : Took). x.line) w,
      )

pub takes_over : (s : List ℕ) (i : ℕ) (l : List ℕ) (g : Held) {t : Taken} {m : List ℕ} → length s ≤ i → g.done ≡ false → Takes t m i (took (drop i s) l g)
    → (record { held = g; at = i } ≡ t) × (l ≡ m)
takes_over s i l g {t} {m} h d here =
    let w = took_over s i l g h in
    let e : i + 0 ≡ i = omega arith in
    (rw (d, ← e) (sym (here.0 ∙ ap (λ (x : Took). taken_from i x) w)), sym (here.1 ∙ ap (λ (x : Took). x.line) w))
