-- The drain order is one: from a state no other entries follow it, and no other state is left. And of entries that are all
-- accepted: they may be put together, and a run of them leaves what they leave.
use Prim.Native.Nat.{ℕ}
use mathlib.Core.Path.{◌≡◌, refl, ap, sym, ◌∙◌}
use mathlib.Core.Bool.{Bool, true≢false}
use mathlib.Core.List.{List, [], ◌∷◌, ◌++◌}
use Rattle.machine.specs.Step.{Scripts, step, entry_refusal}
use Rattle.machine.specs.Run.{run}
use Rattle.machine.specs.Drain.{not_waiting, waiting, all, at_idle, at_end, Until, stops, steps, Turn, skips, works, Turns, over, turn}
use Rattle.machine.specs.Ends.{AllAccepted, OrderIsOne}
use Rattle.machine.specs.declared.Lock.{Lock}
use Rattle.machine.specs.declared.Rec.{Rec}
use Rattle.machine.proofs.RunLaws.{row_says}

-- ---- the order is one
abbrev Same : List ℕ → List ℕ → Lock → Lock → List Rec → List Rec → Type 0
Same es fs M N m n = (es ≡ fs) × (M ≡ N) × (m ≡ n)

module _ (stop : ℕ → Rec → Bool) (S : Scripts) where
  until_one : {i : ℕ} {L M N : Lock} {l m n : List Rec} {es fs : List ℕ} → Until stop S i L l es M m → Until stop S i L l fs N n → Same es fs M N m n
  until_one (stops e) (stops h) = (refl, refl, refl)
  until_one (stops e) (steps h u) = absurd (true≢false (sym e ∙ h))
  until_one (steps e u) (stops h) = absurd (true≢false (sym h ∙ e))
  until_one {i} (steps e u) (steps h v) = let s = until_one u v in (ap (λ (es : List ℕ). i ∷ es) s.0, s.1, s.2)

  module _ (who : Rec → Bool) where
    turn_one : {i : ℕ} {L M N : Lock} {l m n : List Rec} {es fs : List ℕ} → Turn who stop S i L l es M m → Turn who stop S i L l fs N n → Same es fs M N m n
    turn_one (skips e) (skips h) = (refl, refl, refl)
    turn_one (skips e) (works h u) = absurd (true≢false (sym h ∙ e))
    turn_one (works e u) (skips h) = absurd (true≢false (sym e ∙ h))
    turn_one (works e u) (works h v) = until_one u v

    turns_one : {k c : ℕ} {L M N : Lock} {l m n : List Rec} {es fs : List ℕ} → Turns who stop S k c L l es M m → Turns who stop S k c L l fs N n
        → Same es fs M N m n
    turns_one over over = (refl, refl, refl)
    turns_one (turn t u) (turn s v) =
        let a = turn_one t s in
        let b = turns_one u (rw (← a.1, ← a.2) at v) in
        ((λ j. a.0 j ++ b.0 j), b.1, b.2)

pub order_is_one : OrderIsOne
order_is_one S L M N l m n es fs o p =
    let a = turns_one at_idle S not_waiting o.first p.first in
    let b = turns_one at_idle S waiting o.second (rw (← a.1, ← a.2) at p.second) in
    let c = turns_one (at_end S) S all o.third (rw (← b.1, ← b.2) at p.third) in
    (o.whole ∙ (λ j. a.0 j ++ (b.0 j ++ c.0 j)) ∙ sym p.whole, c.1, c.2)

-- ---- entries that are all accepted
pub data Accepts (S : Scripts) : Lock → List Rec → List ℕ → Lock → List Rec → Type 0 where
  none : {L : Lock} {l : List Rec} → Accepts S L l [] L l
  entry : {L M : Lock} {l m : List Rec} {i : ℕ} {es : List ℕ} → entry_refusal S L l i ≡ 0
      → Accepts S (step S L l i).lock (step S L l i).recs es M m → Accepts S L l (i ∷ es) M m

module _ (S : Scripts) where
  pub accepts_then : {L M N : Lock} {l m n : List Rec} {es fs : List ℕ} → Accepts S L l es M m → Accepts S M m fs N n → Accepts S L l (es ++ fs) N n
  accepts_then none b = b
  accepts_then (entry e a) b = entry e (accepts_then a b)

  -- a run of them refuses none and leaves the same
  pub accepts_run : {L M : Lock} {l m : List Rec} {es : List ℕ} → Accepts S L l es M m
      → AllAccepted (run S L l es).rows × ((run S L l es).lock ≡ M) × ((run S L l es).recs ≡ m)
  unfolding run AllAccepted
  accepts_run none = (tt, refl, refl)
  accepts_run {L} {l = l} (entry {i = i} e a) = let b = accepts_run a in (((row_says S L l i).0 ∙ e, b.0), b.1, b.2)
