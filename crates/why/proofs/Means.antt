-- What the tests of the definition say, in the words of the statements; and the reason taken apart by them.
use Prim.Native.Nat.{ℕ}
use mathlib.Core.Path.{◌≡◌, refl, sym, ap, ◌∙◌}
use mathlib.Core.Logic.Iff
use mathlib.Core.Logic.{◌≢◌, ◌⊎◌, inl, inr, ⊎_elim}
use mathlib.Core.Bool.{Bool, false, not, false≢true}
use mathlib.Core.List.{List}
use lib.Dec.{eqb}
use package.borrow.Author.Tests.{eqb-false, eq-eqb, ne_eqb}
use Rattle.machine.specs.Words.{place_no, is}
use Rattle.machine.specs.declared.Rec.{Rec}
use Rattle.machine.specs.declared.Row.{Row}
use Rattle.machine.specs.declared.Place.{Place}
use Rattle.machine.specs.declared.Place.TheVariants.{ReadCheck, ReadBack, Reading, WriteWait, WriteTake, Writing, WritePut}
use Rattle.machine.proofs.Every.{Says, says_eqb, says_not, and_both, or_either}
use Rattle.machine.proofs.ExactEntry.{is_same}
use Rattle.machine.proofs.Moves.{either_way}
use Rattle.why.specs.Why.{sees_full, loses_count, meets_flag, meets_readers, has_flag, is_counted, blocker_of, reason_of}
use Rattle.why.specs.Reasons.{SeesFull, LosesCount, MeetsFlag, MeetsReaders, Failed, as_sees_full, as_loses_count, as_meets_flag, as_meets_readers, HasFlag, waits, takes, writes, puts, Counted, checks, backs, reads}
use Rattle.why.specs.declared.Reason.{Reason}
use Rattle.why.specs.declared.Reason.TheVariants.{NotWaiting, CountFull, CountChanged, Flag, Readers}

-- ---- the row
says_other : (a b : ℕ) → Says (not (eqb a b)) (a ≢ b)
says_other a b = Iff.trans (says_not (eqb a b)) (eqb-false a b, ne_eqb a b)

module _ (M : ℕ) (row : Row) where
  says_full : Says (sees_full M row.access row.got) (SeesFull M row)
  says_full = and_both (says_eqb _ _) (says_eqb _ _)

  says_loses : Says (loses_count row.access) (LosesCount row)
  says_loses = says_eqb _ _

  says_flag : Says (meets_flag row.access row.got) (MeetsFlag row)
  says_flag = or_either (and_both (says_eqb _ _) (says_eqb _ _)) (says_eqb _ _)

  says_readers : Says (meets_readers row.access row.got) (MeetsReaders row)
  says_readers = and_both (says_eqb _ _) (says_other _ _)

  fails : {b : Bool} {A : Type 0} → Says b A → b ≡ false → A → ⊥
  fails s e x = false≢true (sym e ∙ s.1 x)

  -- what holds of each reason under its test holds of the reason
  pub reason_by {ℓ} : (P : Reason → Type ℓ) (l : List Rec) → (SeesFull M row → P CountFull) → (LosesCount row → P CountChanged)
      → (MeetsFlag row → P (Flag (blocker_of has_flag l))) → (MeetsReaders row → P (Readers (blocker_of is_counted l))) → ((Failed M row → ⊥) → P NotWaiting)
      → P (reason_of M l row.access row.got)
  unfolding reason_of
  reason_by P l full loses flag readers none =
      either_way P _ (λ e. full (says_full.0 e)) (λ no_1.
      either_way P _ (λ e. loses (says_loses.0 e)) (λ no_2.
      either_way P _ (λ e. flag (says_flag.0 e)) (λ no_3.
      either_way P _ (λ e. readers (says_readers.0 e)) (λ no_4. none (not_one no_1 no_2 no_3 no_4)))))
    where
      not_one : sees_full M row.access row.got ≡ false → loses_count row.access ≡ false → meets_flag row.access row.got ≡ false
          → meets_readers row.access row.got ≡ false → Failed M row → ⊥
      not_one no_1 no_2 no_3 no_4 (as_sees_full h) = fails says_full no_1 h
      not_one no_1 no_2 no_3 no_4 (as_loses_count h) = fails says_loses no_2 h
      not_one no_1 no_2 no_3 no_4 (as_meets_flag h) = fails says_flag no_3 h
      not_one no_1 no_2 no_3 no_4 (as_meets_readers h) = fails says_readers no_4 h

  -- ---- each row has its reason
  module _ (l : List Rec) where
    pub at_full : SeesFull M row → reason_of M l row.access row.got ≡ CountFull
    unfolding reason_of
    at_full h = rw (h.0, eq-eqb _ _ h.1) refl

    pub at_loses : LosesCount row → reason_of M l row.access row.got ≡ CountChanged
    unfolding reason_of
    at_loses h = rw h refl

    pub at_flag : MeetsFlag row → reason_of M l row.access row.got ≡ Flag (blocker_of has_flag l)
    unfolding reason_of
    at_flag (inl h) = rw (h.0, h.1) refl
    at_flag (inr h) = rw h refl

    pub at_readers : MeetsReaders row → reason_of M l row.access row.got ≡ Readers (blocker_of is_counted l)
    unfolding reason_of
    at_readers h = rw (h.0, ne_eqb _ 0 h.1) refl

-- ---- the records
says_is : (p q : Place) → Says (is p q) (p ≡ q)
says_is p q = (is_same p q, λ e. eq-eqb _ _ (ap place_no e))

pub says_has_flag : (r : Rec) → Says (has_flag r) (HasFlag r)
says_has_flag r =
    Iff.trans (or_either (says_is _ _) (or_either (says_is _ _) (or_either (says_is _ _) (says_is _ _))))
    (⊎_elim waits (⊎_elim takes (⊎_elim writes puts)), back)
  where
    back : HasFlag r → (r.place ≡ WriteWait) ⊎ ((r.place ≡ WriteTake) ⊎ ((r.place ≡ Writing) ⊎ (r.place ≡ WritePut)))
    back (waits e) = inl e
    back (takes e) = inr (inl e)
    back (writes e) = inr (inr (inl e))
    back (puts e) = inr (inr (inr e))

pub says_counted : (r : Rec) → Says (is_counted r) (Counted r)
says_counted r =
    Iff.trans (or_either (says_is _ _) (or_either (says_is _ _) (says_is _ _)))
    (⊎_elim checks (⊎_elim backs reads), back)
  where
    back : Counted r → (r.place ≡ ReadCheck) ⊎ ((r.place ≡ ReadBack) ⊎ (r.place ≡ Reading))
    back (checks e) = inl e
    back (backs e) = inr (inl e)
    back (reads e) = inr (inr e)
