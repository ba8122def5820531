-- Where a waiting thread stands: the ways of the table that fail, by place, operation and lock; and that these are the failed rows.
use Prim.Native.Nat.{ℕ}
use mathlib.Core.Path.{◌≡◌, refl, sym, subst, ◌∙◌}
use mathlib.Core.Logic.{◌≢◌, ◌⊎◌, inl, inr, ⊎_elim}
use mathlib.Core.Bool.{true, false, true≢false}
use mathlib.Core.List.{List}
use native.Mathlib.Omega.{arith}
use lib.ListN.{set}
use package.borrow.Author.Tests.{eqb-true, eq-eqb, ne_eqb, ltb-true}
use Rattle.machine.specs.Names.{acquire_read, acquire_write, into_inner, loads_rc, loads_exc, waits_rc, fails_rc, fails_exc}
use Rattle.machine.specs.Step.{Scripts, here, op_of, val_of, entry_refusal, answer, step, unread}
use Rattle.machine.specs.Sound.{Sound}
use Rattle.machine.specs.Move.{Move, by_load_below, by_load_full, by_try_done, by_try_lost, by_check_clear, by_check_set, by_exc_done, by_exc_lost, into_done, into_lost, by_wait_done, by_wait_more}
use Rattle.machine.specs.declared.Did.{Did}
use Rattle.machine.specs.declared.Lock.{Lock}
use Rattle.machine.specs.declared.Rec.{Rec}
use Rattle.machine.specs.declared.Place.{Place}
use Rattle.machine.specs.declared.Place.TheVariants.{Idle, ReadTry, ReadCheck, WriteWait}
use Rattle.machine.proofs.Accesses.{code_1, code_3, code_8, code_13, code_14}
use Rattle.machine.proofs.Moves.{moves}
use Rattle.machine.proofs.RunLaws.{row_says}
use Rattle.machine.proofs.Steps.{MoveOf, passed}
use Rattle.why.specs.Reasons.{Failed, as_sees_full, as_loses_count, as_meets_flag, as_meets_readers, Stuck, at_the_top, not_as_seen, sees_the_flag, finds_the_flag, is_not_alone, WaitsWhere}
use Rattle.why.proofs.Reasons.{full_here, changed_here, up_here, readers_here}

-- what an accepted entry leaves, and its row, are those of a way of the table
pub entered : (S : Scripts) (L : Lock) (l : List Rec) (i : ℕ) → entry_refusal S L l i ≡ 0
    → (d : Did) × MoveOf S L l i d × ((step S L l i).recs ≡ set l i d.rec) × ((step S L l i).row.access ≡ d.access) × ((step S L l i).row.got ≡ d.got)
unfolding step answer
entered S L l i e = (_, moves i L (here l i) _ _ (here l i).place (passed S L l i e).fit, rw (eq-eqb _ 0 e) refl, rw (eq-eqb _ 0 e) refl, rw (eq-eqb _ 0 e) refl)

-- ---- the ways that fail
module _ {i o v : ℕ} {L : Lock} {r : Rec} where
  at_top : {d : Did} → o ≡ acquire_read → L.rc.0 ≡ L.top.0 → Move i L r o v Idle d → (d.access ≡ loads_rc) × (d.got ≡ L.top.0)
  at_top is full (by_load_below e t) = absurd (omega (arith, ltb-true L.rc.0 L.top.0 t))
  at_top is full (by_load_full e t) = (refl, full)
  at_top is full (by_exc_done e t) = absurd (omega arith)
  at_top is full (by_exc_lost e t) = absurd (omega arith)
  at_top is full (into_done e t) = absurd (omega arith)
  at_top is full (into_lost e t) = absurd (omega arith)

  at_try : {d : Did} → L.rc.0 ≢ r.seen.0 → Move i L r o v ReadTry d → d.access ≡ fails_rc
  at_try other (by_try_done e t) = absurd (other (eqb-true L.rc.0 r.seen.0 t))
  at_try other (by_try_lost e t) = refl

  at_check : {d : Did} → L.exc ≡ true → Move i L r o v ReadCheck d → (d.access ≡ loads_exc) × (d.got ≡ 1)
  at_check up (by_check_clear e t) = absurd (true≢false (sym up ∙ t))
  at_check up (by_check_set e t) = (refl, refl)

  at_flag : {d : Did} → (o ≡ acquire_write) ⊎ (o ≡ into_inner) → L.exc ≡ true → Move i L r o v Idle d → d.access ≡ fails_exc
  at_flag is up (by_load_below e t) = absurd (⊎_elim (λ (f : o ≡ acquire_write). omega (arith, f)) (λ f. omega (arith, f)) is)
  at_flag is up (by_load_full e t) = absurd (⊎_elim (λ (f : o ≡ acquire_write). omega (arith, f)) (λ f. omega (arith, f)) is)
  at_flag is up (by_exc_done e t) = absurd (true≢false (sym up ∙ t))
  at_flag is up (by_exc_lost e t) = refl
  at_flag is up (into_done e t) = absurd (true≢false (sym up ∙ t))
  at_flag is up (into_lost e t) = refl

  pub at_wait : {d : Did} → unread L ≡ false → Move i L r o v WriteWait d → (d.access ≡ waits_rc) × (d.got ≡ L.rc.0)
  at_wait some (by_wait_done e t) = absurd (true≢false (sym t ∙ some))
  at_wait some (by_wait_more e t) = (refl, refl)

-- ---- both ways
module _ (S : Scripts) (L : Lock) (l : List Rec) (i : ℕ) (h : Sound S L l) where
  stands : Failed L.top.0 (step S L l i).row → Stuck S L l i
  stands (as_sees_full m) = let c = code_1 S L l i h m.0 in at_the_top c.0 c.1 (full_here S L l i h m)
  stands (as_loses_count m) = let c = code_13 S L l i h m in not_as_seen c.0 (changed_here S L l i h m)
  stands (as_meets_flag (inl m)) = let c = code_3 S L l i h m.0 in sees_the_flag c.0 (up_here S L l i h (inl m))
  stands (as_meets_flag (inr m)) = let c = code_14 S L l i h m in finds_the_flag c.0 c.1 (up_here S L l i h (inr m))
  stands (as_meets_readers m) = let c = code_8 S L l i h m.0 in is_not_alone c.0 (readers_here S L l i h m)

  fails : entry_refusal S L l i ≡ 0 → Stuck S L l i → Failed L.top.0 (step S L l i).row
  fails ok stuck = go stuck
    where
      way : (d : Did) × MoveOf S L l i d × ((step S L l i).recs ≡ set l i d.rec) × ((step S L l i).row.access ≡ d.access) × ((step S L l i).row.got ≡ d.got)
      way = entered S L l i ok

      at : (p : Place) → (here l i).place ≡ p → Move i L (here l i) (op_of S l i) (val_of S l i) p way.0
      at p e = subst (λ (p : Place). Move i L (here l i) (op_of S l i) (val_of S l i) p way.0) e way.1

      go : Stuck S L l i → Failed L.top.0 (step S L l i).row
      go (at_the_top p o full) = let (a, g) = at_top o full (at Idle p) in as_sees_full (way.3 ∙ a, way.4 ∙ g)
      go (not_as_seen p other) = as_loses_count (way.3 ∙ at_try other (at ReadTry p))
      go (sees_the_flag p up) = let (a, g) = at_check up (at ReadCheck p) in as_meets_flag (inl (way.3 ∙ a, way.4 ∙ g))
      go (finds_the_flag p o up) = as_meets_flag (inr (way.3 ∙ at_flag o up (at Idle p)))
      go (is_not_alone p some) =
          let (a, g) = at_wait (ne_eqb L.rc.0 0 some) (at WriteWait p) in
          as_meets_readers (way.3 ∙ a, λ z. some (sym (way.4 ∙ g) ∙ z))

pub waits_where : WaitsWhere
waits_where S L l i h = (
  λ w. (sym (row_says S L l i).0 ∙ w.0, stands S L l i h w.1),
  λ x. ((row_says S L l i).0 ∙ x.0, fails S L l i h x.0 x.1),
)
