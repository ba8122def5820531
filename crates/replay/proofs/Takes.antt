-- One turn of the loop over a chunk is one unfolding of `took`. Assumes nothing.
use Prim.Native.Nat.{ℕ, suc, ◌+◌, ◌<◌, ◌≤◌, min}
use mathlib.Core.Bool.{true, false}
use mathlib.Core.Path.{◌≡◌, sym, ap, ◌∙◌}
use mathlib.Core.List.{List}
use native.Mathlib.Numerals.{add-one}
use native.Mathlib.Omega.{arith}
use borrow.Author.Tests.{eq-eqb, ne_eqb}
use lib.ListN.{length, get_or, set, take, drop, drop_of_length-le}
use lib.Seq.{drop-cons}
use Rattle.replay.specs.Reading.{reads, opened, grown, Took, taking, byte_before, took, taken_from, of_chunk, line_taken, line_by}
use Rattle.replay.specs.declared.reading.Reading.{Reading}
use Rattle.replay.specs.declared.reading.TakenSome.{TakenSome}

-- from this place on, what is taken is t; and the room afterwards is m
abbrev pub Takes : TakenSome → List ℕ → ℕ → Took → Type 0
Takes t m from w = (t ≡ taken_from from w) × (m ≡ w.line)

shifted : (i n : ℕ) → i + suc n ≡ i + 1 + n
shifted i n = omega arith

module _ (s : List ℕ) (i : ℕ) (l : List ℕ) (n : ℕ) where
  took_last : i < length s → get_or s i 0 ≡ 10 → took (drop i s) l n ≡ taking l n 1 true
  unfolding took
  took_last h e = rw (drop-cons s i 0, eq-eqb (get_or s i 0) 10 e)

  took_on : i < length s → (get_or s i 0 ≡ 10 → ⊥)
      → took (drop i s) l n ≡ byte_before (took (drop (i + 1) s) (set l n (get_or s i 0)) (grown (length l) n))
  unfolding took
  took_on h e = rw (add-one, drop-cons s i 0, ne_eqb (get_or s i 0) 10 e)

  took_over : length s ≤ i → took (drop i s) l n ≡ taking l n 0 false
  unfolding took
  took_over h = rw (drop_of_length-le s h)

  module _ {t : TakenSome} {m : List ℕ} (here : Takes t m i (took (drop i s) l n)) where
    pub takes_last : i < length s → get_or s i 0 ≡ 10 → (record { held = n; at = i + 1; done = true } ≡ t) × (l ≡ m)
    takes_last h e =
        let w = took_last h e in
        (sym (here.0 ∙ ap (λ (x : Took). taken_from i x) w), sym (here.1 ∙ ap (λ (x : Took). x.line) w))

    -- k and v are the number and the room after the byte
    pub takes_on : i < length s → (get_or s i 0 ≡ 10 → ⊥) → {k : ℕ} {v : List ℕ} → (k ≡ grown (length l) n) × (v ≡ set l n (get_or s i 0))
        → Takes t m (i + 1) (took (drop (i + 1) s) v k)
    takes_on h e {k} {v} kept =
        let w = took_on h e in
        let x = took (drop (i + 1) s) (set l n (get_or s i 0)) (grown (length l) n) in
        rw (kept.0, kept.1) (
          here.0 ∙ ap (λ (y : Took). taken_from i y) w ∙ ap (λ (j : ℕ). record { held = x.held; at = j; done = x.done }) (shifted i x.used),
          here.1 ∙ ap (λ (y : Took). y.line) w,
        )

    pub takes_over : length s ≤ i → {at : ℕ} → at ≡ i → (record { held = n; at = at; done = false } ≡ t) × (l ≡ m)
    takes_over h {at} here_too =
        let w = took_over h in
        let e : i + 0 ≡ at = omega arith in
        (rw (← e) (sym (here.0 ∙ ap (λ (x : Took). taken_from i x) w)), sym (here.1 ∙ ap (λ (x : Took). x.line) w))

-- what is taken of the front of a chunk, with what is held of the line
pub taken_by : (chunk l : List ℕ) (r : Reading) {bytes : List ℕ} {n : ℕ} {t : TakenSome} {m : List ℕ} → bytes ≡ take (min r.len (length chunk)) chunk → n ≡ opened r
    → Takes t m r.from (took (drop r.from bytes) l n)
    → (reads r.len t.at t.held t.done r.over ≡ line_taken chunk l r) × (m ≡ line_by chunk l r)
unfolding of_chunk
taken_by chunk l r {bytes} {n} {t} {m} b o taken =
    let whole : took (drop r.from bytes) l n ≡ of_chunk chunk l r = rw (b, o) in
    (ap (λ (x : TakenSome). reads r.len x.at x.held x.done r.over) (taken.0 ∙ ap (λ (x : Took). taken_from r.from x) whole), taken.1 ∙ ap (λ (x : Took). x.line) whole)
