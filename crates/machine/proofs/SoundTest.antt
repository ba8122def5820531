-- The test `sound` is true exactly at the sound states: clause by clause, the test of a clause against its fact.
use Prim.Native.Nat.{ℕ, zero, suc, ◌+◌, ◌-◌, ◌*◌, min}
use mathlib.Core.Path.{◌≡◌, refl, ap}
use mathlib.Core.Logic.Iff
use mathlib.Core.Logic.{◌⊎◌, inl, inr, ⊎_elim}
use mathlib.Core.Bool.{Bool, true, false, ◌||◌, ◌&&◌}
use mathlib.Core.List.{List}
use native.Mathlib.Omega.{arith}
use lib.Dec.{eqb}
use package.borrow.Author.Tests.{eqb-true}
use Rattle.cell.specs.Pred.{permits}
use Rattle.cell.specs.declared.pred.Pred.{Pred}
use Rattle.machine.specs.Names.{acquire_write, into_inner}
use Rattle.machine.specs.Words.{bit}
use Rattle.machine.specs.Step.{Scripts}
use Rattle.machine.specs.Sound.{WriteOp, is_into, Tally, tally, Counts, Kept, Moves, test_counts, test_mover, in_range, has_its, keeps_seen, keeps_taken, sound}
use Rattle.machine.specs.Tested.{SoundTested, WriteOpSays}
use Rattle.machine.specs.declared.Lock.{Lock}
use Rattle.machine.specs.declared.Rec.{Rec}
use Rattle.std.specs.Prelude.{None, Option, Some}
use Rattle.machine.specs.declared.Place.{Place}
use Rattle.machine.specs.declared.Place.TheVariants.{Idle, ReadTry, ReadCheck, ReadBack, Reading, WriteWait, WriteTake, Writing, WritePut}
use Rattle.machine.proofs.Every.{Says, says_leb, says_ltb, says_eqb, says_so, says_bit, and_both, and_three, and_four, or_either, or_none, only_if, every_says}

-- ---- the two facts that are not said as they are tested
-- the less of two numbers is 0
less_zero : (a b : ℕ) → min a b ≡ 0 → (a ≡ 0) ⊎ (b ≡ 0)
less_zero zero b e = inl refl
less_zero (suc a) zero e = inr refl
less_zero (suc a) (suc b) e = absurd (omega arith)

says_min : (a b : ℕ) → Says (eqb a 0 || eqb b 0) (min a b ≡ 0)
says_min a b = Iff.trans (or_either (says_eqb a 0) (says_eqb b 0)) (⊎_elim (λ e. omega arith) (λ e. omega arith), less_zero a b)

-- the operation is one of those that write
write_or_into : (o : ℕ) → o ≡ acquire_write + (into_inner - acquire_write) * is_into o → (o ≡ acquire_write) ⊎ (o ≡ into_inner)
write_or_into o e = go (eqb o into_inner) refl
  where
    go : (b : Bool) → eqb o into_inner ≡ b → (o ≡ acquire_write) ⊎ (o ≡ into_inner)
    go true t = inr (eqb-true o into_inner t)
    go false t = inl (omega (arith, ap bit t))

pub write_op_says : WriteOpSays
write_op_says o = (write_or_into o, ⊎_elim (λ e. omega (arith, ap is_into e)) (λ e. omega (arith, ap is_into e)))

says_writes : (o : ℕ) → Says (eqb o acquire_write || eqb o into_inner) (WriteOp o)
says_writes o = Iff.trans (or_either (says_eqb o acquire_write) (says_eqb o into_inner)) ((write_op_says o).1, (write_op_says o).0)

-- ---- the clauses on counts
says_counts : (L : Lock) (N : Tally) → Says (test_counts L N) (Counts L N)
says_counts L N =
    Iff.trans
    (and_both (says_leb _ _)
    (and_both (says_eqb _ _)
    (and_both (says_eqb _ _)
    (and_both (says_min _ _)
    (and_both (says_eqb _ _)
    (and_both (says_leb _ _)
    (and_both (says_leb _ _)
    (only_if L.finished (and_both (says_eqb _ _) (says_eqb _ _)))))))))) (
      λ p. record {
        most = p.0;
        count = p.1.0;
        flag = p.1.1.0;
        alone = p.1.1.1.0;
        cell = p.1.1.1.1.0;
        value = p.1.1.1.1.1.0;
        inside = p.1.1.1.1.1.1.0;
        finish = p.1.1.1.1.1.1.1;
      },
      λ c. (c.most, (c.count, (c.flag, (c.alone, (c.cell, (c.value, (c.inside, c.finish))))))),
    )

-- ---- the clauses on one record, place by place
module _ (q : Pred) (top n o : ℕ) (r : Rec) where
  says_kept : (p : Place) → Says (in_range n r p && (has_its o p && (keeps_seen top r p && keeps_taken q r p))) (Kept q top n o r p)
  says_kept Idle = and_three (says_leb _ _) (says_eqb _ _) (says_eqb _ _)
  says_kept ReadTry = and_four (says_ltb _ _) (says_eqb _ _) (or_none (says_ltb _ _)) (says_eqb _ _)
  says_kept ReadCheck = and_four (says_ltb _ _) (says_eqb _ _) (says_eqb _ _) (says_eqb _ _)
  says_kept ReadBack = and_four (says_ltb _ _) (says_eqb _ _) (says_eqb _ _) (says_eqb _ _)
  says_kept Reading = and_three (says_leb _ _) (says_eqb _ _) (says_eqb _ _)
  says_kept WriteWait = and_four (says_ltb _ _) (says_writes o) (says_eqb _ _) (says_eqb _ _)
  says_kept WriteTake = and_four (says_ltb _ _) (says_writes o) (says_eqb _ _) (says_eqb _ _)
  says_kept Writing = and_three (says_leb _ _) (says_eqb _ _) (or_none (says_bit (permits q r.taken)))
  says_kept WritePut = and_four (says_ltb _ _) (says_eqb _ _) (says_eqb _ _) (says_eqb _ _)

-- ---- the clauses on the mover
says_mover : (S : Scripts) (l : List Rec) (m : Option ℕ) → Says (test_mover S l m) (Moves S l m)
says_mover S l None = (λ _. tt, λ _. refl)
says_mover S l (Some t) = and_four (says_ltb _ _) (says_ltb _ _) (says_eqb _ _) (says_eqb _ _)

pub sound_tested : SoundTested
unfolding sound
sound_tested S L l =
    Iff.trans
    (and_both (says_leb _ _)
    (and_both (says_so _)
    (and_both (says_counts L (tally S l))
    (and_both (every_says _ _ (λ j r. says_kept L.pred L.top.0 (S.len j) (S.op j r.at) r r.place) l)
    (says_mover S l L.mover))))) (
      λ p. record { top = p.0; pred = p.1.0; counts = p.1.1.0; kept = p.1.1.1.0; mover = p.1.1.1.1 },
      λ h. (h.top, (h.pred, (h.counts, (h.kept, h.mover)))),
    )
