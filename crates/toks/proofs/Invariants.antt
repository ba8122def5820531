-- The token machine starts in its invariants and keeps them, has its two properties, and pays what its notation owes.
-- Assumes nothing.
use Prim.Native.Nat.{ℕ, zero, suc, ◌+◌, ◌-◌, ◌≤◌}
use mathlib.Core.Bool.{Bool, true, false, cond, true≢false, false≢true}
use mathlib.Core.Logic.{◌⊎◌, inl, inr, ⊎_elim}
use mathlib.Core.Path.{◌≡◌, refl, sym, ◌∙◌, ap, subst}
use native.Mathlib.Omega.{arith}
use lib.Dec.{eqb}
use borrow.Author.Tests.{eqb-true, eq-eqb}
use Rattle.toks.specs.Multiset.{Multiset, adding, removing}
use Rattle.toks.specs.Toks.{Storage, empty, holds, stored, Toks, Transition}
use Rattle.toks.specs.Invariants.{one, Holds, Starts, Keeps, ReadGuard, ReadMatch, Pays}

-- what is stored is not empty
holds≢empty : (x : ℕ) → holds x ≡ empty → ⊥
holds≢empty x e = let z : ◌≡◌ {A = ℕ} 0 1 = cc in omega arith

is_stored : (st : Storage) → (st ≡ empty → ⊥) → st ≡ holds (stored st)
is_stored empty full = absurd (full refl)
is_stored (holds x) full = refl

same_stored : (x y : ℕ) → holds x ≡ holds y → x ≡ y
same_stored x y e = cc

zero_if : (n : ℕ) → (1 ≤ n → ⊥) → n ≡ 0
zero_if zero none = refl
zero_if (suc n) none = absurd (none (omega arith))

-- one flag against its two tokens
both_off : (a b c : Bool) → one a ≡ one b + one c → a ≡ false → (b ≡ false) × (c ≡ false)
both_off true b c e off = absurd (true≢false off)
both_off false true true e off = absurd (omega arith)
both_off false true false e off = absurd (omega arith)
both_off false false true e off = absurd (omega arith)
both_off false false false e off = (refl, refl)

other_off : (a b c : Bool) → one a ≡ one b + one c → b ≡ true → (a ≡ true) × (c ≡ false)
other_off a false c e on = absurd (false≢true on)
other_off true true true e on = absurd (omega arith)
other_off true true false e on = (refl, refl)
other_off false true c e on = absurd (omega arith)

-- the counts after one more and one fewer
added_here : (x : ℕ) (m : Multiset) → adding x m x ≡ m x + 1
added_here x m = simp (eq-eqb x x refl)

removed_here : (x : ℕ) (m : Multiset) → removing x m x ≡ m x - 1
removed_here x m = simp (eq-eqb x x refl)

-- whoever is there after one more of x is x or was there, and whoever is there after one fewer was there
added_was : (x t : ℕ) (m : Multiset) → 1 ≤ adding x m t → (t ≡ x) ⊎ (1 ≤ m t)
added_was x t m h = by_test (eqb t x) refl h
  where
    by_test : (b : Bool) → eqb t x ≡ b → 1 ≤ cond b (m t + 1) (m t) → (t ≡ x) ⊎ (1 ≤ m t)
    by_test true e l = inl (eqb-true t x e)
    by_test false e l = inr l

removed_was : (x t : ℕ) (m : Multiset) → 1 ≤ removing x m t → 1 ≤ m t
removed_was x t m h = by_test (eqb t x) h
  where
    by_test : (b : Bool) → 1 ≤ cond b (m t - 1) (m t) → 1 ≤ m t
    by_test true l = omega arith
    by_test false l = l

module _ {K : Type 0} (inv : K → ℕ → Type 0) where
  pub starts : Starts inv
  starts k t good =
      record {
        exc_bit_matches = refl;
        count_matches = refl;
        reader_agrees_storage = λ t h. absurd (omega arith);
        writer_agrees_storage = λ e. absurd (false≢true e);
        writer_agrees_storage_rev = λ e. absurd (holds≢empty _ e);
        sto_user_inv = λ x e. subst (inv k) (same_stored t x e) good;
      }

  -- With no writer something is stored; with nothing stored there is no reader.
  module _ (s : Toks K) (h : Holds inv s) where
    full : s.writer ≡ false → s.storage ≡ holds (stored s.storage)
    full off = is_stored s.storage (λ e. true≢false (sym (h.writer_agrees_storage_rev e) ∙ off))

    -- with the flag clear there is neither token of a writer, and with one of them there is not the other
    clear_is : s.flag_exc ≡ false → (s.pending_writer ≡ false) × (s.writer ≡ false)
    clear_is = both_off s.flag_exc s.pending_writer s.writer h.exc_bit_matches

    waiting_is : s.pending_writer ≡ true → (s.flag_exc ≡ true) × (s.writer ≡ false)
    waiting_is = other_off s.flag_exc s.pending_writer s.writer h.exc_bit_matches

    writing_is : s.writer ≡ true → (s.flag_exc ≡ true) × (s.pending_writer ≡ false)
    writing_is = other_off s.flag_exc s.writer s.pending_writer (omega (arith, h.exc_bit_matches))

    unread : s.storage ≡ empty → (t : ℕ) → s.reader t ≡ 0
    unread e t = zero_if (s.reader t) (λ l. holds≢empty t (sym (h.reader_agrees_storage t l) ∙ e))

    -- a reader of t is counted
    counted : (t : ℕ) → 1 ≤ s.reader t → s.flag_rc ≡ s.pending_reader + s.reader t
    counted t l = h.count_matches ∙ ap (λ (st : Storage). s.pending_reader + s.reader (stored st)) (h.reader_agrees_storage t l)

    -- with the count at 0 there is no reader
    uncounted : s.flag_rc ≡ 0 → (t : ℕ) → s.reader t ≡ 0
    uncounted e t = zero_if (s.reader t) (λ l. absurd (omega (arith, counted t l)))

    keep : (t : Toks K) → Transition inv s t → Holds inv t
    keep t Transition.by_acquire_read_start =
        record {
          exc_bit_matches = h.exc_bit_matches;
          count_matches = omega (arith, h.count_matches);
          reader_agrees_storage = h.reader_agrees_storage;
          writer_agrees_storage = h.writer_agrees_storage;
          writer_agrees_storage_rev = h.writer_agrees_storage_rev;
          sto_user_inv = h.sto_user_inv;
        }
    keep t (Transition.by_acquire_read_end clear pending) =
        let st = stored s.storage in
        record {
          exc_bit_matches = h.exc_bit_matches;
          count_matches = omega (arith, h.count_matches, added_here st s.reader);
          reader_agrees_storage =
              λ t l. ⊎_elim (λ e. full (clear_is clear).1 ∙ ap holds (sym e)) (h.reader_agrees_storage t) (added_was st t s.reader l);
          writer_agrees_storage = h.writer_agrees_storage;
          writer_agrees_storage_rev = h.writer_agrees_storage_rev;
          sto_user_inv = h.sto_user_inv;
        }
    keep t (Transition.by_acquire_read_abandon pending) =
        record {
          exc_bit_matches = h.exc_bit_matches;
          count_matches = omega (arith, h.count_matches);
          reader_agrees_storage = h.reader_agrees_storage;
          writer_agrees_storage = h.writer_agrees_storage;
          writer_agrees_storage_rev = h.writer_agrees_storage_rev;
          sto_user_inv = h.sto_user_inv;
        }
    keep t (Transition.by_acquire_exc_start clear) =
        record {
          exc_bit_matches = rw (clear_is clear).1 refl;
          count_matches = h.count_matches;
          reader_agrees_storage = h.reader_agrees_storage;
          writer_agrees_storage = h.writer_agrees_storage;
          writer_agrees_storage_rev = h.writer_agrees_storage_rev;
          sto_user_inv = h.sto_user_inv;
        }
    keep t (Transition.by_acquire_exc_end none pending) =
        record {
          exc_bit_matches = rw (waiting_is pending).0 refl;
          count_matches = omega (arith, h.count_matches, uncounted none 0);
          reader_agrees_storage = λ t l. absurd (omega (arith, uncounted none t));
          writer_agrees_storage = λ e. refl;
          writer_agrees_storage_rev = λ e. refl;
          sto_user_inv = λ x e. absurd (holds≢empty x (sym e));
        }
    keep t (Transition.by_release_exc x good writing) =
        let gone = unread (h.writer_agrees_storage writing) in
        record {
          exc_bit_matches = rw (writing_is writing).1 refl;
          count_matches = omega (arith, h.count_matches, gone x, gone (stored s.storage));
          reader_agrees_storage = λ t l. absurd (omega (arith, gone t));
          writer_agrees_storage = λ e. absurd (false≢true e);
          writer_agrees_storage_rev = λ e. absurd (holds≢empty x e);
          sto_user_inv = λ y e. subst (inv s.k) (same_stored x y e) good;
        }
    keep t (Transition.by_release_shared x reading) =
        record {
          exc_bit_matches = h.exc_bit_matches;
          count_matches = rw (ap stored (h.reader_agrees_storage x reading)) (omega (arith, counted x reading, removed_here x s.reader));
          reader_agrees_storage = λ t l. h.reader_agrees_storage t (removed_was x t s.reader l);
          writer_agrees_storage = h.writer_agrees_storage;
          writer_agrees_storage_rev = h.writer_agrees_storage_rev;
          sto_user_inv = h.sto_user_inv;
        }

  pub keeps : Keeps inv
  keeps s t h move = keep s h t move

  pub read_guard : ReadGuard inv
  read_guard s h x l = h.reader_agrees_storage x l

  pub read_match : ReadMatch inv
  read_match s h x y l m = same_stored x y (sym (h.reader_agrees_storage x l) ∙ h.reader_agrees_storage y m)

  pub pays : Pays inv
  pays s t h Transition.by_acquire_read_start = tt
  pays s t h (Transition.by_acquire_read_end clear pending) = full s h (clear_is s h clear).1
  pays s t h (Transition.by_acquire_read_abandon pending) = omega (arith, h.count_matches)
  pays s t h (Transition.by_acquire_exc_start clear) = (clear_is s h clear).0
  pays s t h (Transition.by_acquire_exc_end none pending) =
      let off = (waiting_is s h pending).1 in
      (off, full s h off)
  pays s t h (Transition.by_release_exc x good writing) = h.writer_agrees_storage writing
  pays s t h (Transition.by_release_shared x reading) = omega (arith, counted s h x reading)
