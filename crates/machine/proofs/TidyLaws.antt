-- Whole sections are tidy, at setup and from any place in them; and a step from a tidy state leaves it tidy.
use Prim.Native.Nat.{ℕ, zero, suc, ◌+◌, ◌<◌}
use mathlib.Core.Path.{◌≡◌, refl, ap}
use mathlib.Core.Bool.{◌||◌, cond}
use mathlib.Core.List.{List}
use native.Mathlib.Nat.{add-zero}
use native.Mathlib.Omega.{arith}
use lib.Dec.{eqb}
use lib.ListN.{set, length-replicate, get_or-replicate}
use Rattle.cell.specs.declared.pred.Pred.{Pred}
use Rattle.machine.specs.Names.{acquire_read, borrows, release_read, acquire_write, drop_handle}
use Rattle.machine.specs.Words.{moving, unbegun}
use Rattle.machine.specs.Step.{Scripts, here, settle, step}
use Rattle.machine.specs.Setup.{fresh}
use Rattle.machine.specs.Tidy.{Mode, Free, InRead, InWrite, mode_of, Rest, ends, reads, lends, returns, writes, puts, TidyRec, Clean, Tidy}
use Rattle.machine.specs.Tested.{Sections, none, read, write, Proper, free, in_read, in_write, SectionsAreTidy, ProperIsTidy, TidyIsKept}
use Rattle.machine.specs.Move.{Move, by_load_below, by_load_full, by_try_done, by_try_lost, by_check_clear, by_check_set, back, lend, release, by_exc_done, by_exc_lost, into_done, into_lost, by_wait_done, by_wait_more, take, take_last, put, store, drop_read, drop_write}
use Rattle.machine.specs.declared.Did.{Did}
use Rattle.machine.specs.declared.Lock.{Lock}
use Rattle.machine.specs.declared.Rec.{Rec}
use Rattle.machine.specs.declared.Place.{Place}
use Rattle.machine.proofs.Sums.{all_set}
use Rattle.machine.proofs.Steps.{Same, frame, Passed, MoveOf, answered}

-- what is held after an operation that a tidy rest may have
abbrev pub holds : ℕ → Mode
holds o = cond (eqb o acquire_read || eqb o borrows) InRead (cond (eqb o acquire_write) InWrite Free)

module _ (q : Pred) (n : ℕ) (ops vals : ℕ → ℕ) where
  -- ---- whole sections
  -- in a read section, the borrows that are left and the release
  lending : (times at : ℕ) → at + times < n → ((k : ℕ) → k < times → ops (at + k) ≡ borrows) → ops (at + times) ≡ release_read
      → Rest q n ops vals Free (at + times + 1) → Rest q n ops vals InRead at
  lending zero at lt twos three t = let h : at < n = omega arith in returns h (rw add-zero at three) (rw add-zero at t)
  lending (suc times) at lt twos three t =
      let h : at < n = omega arith in
      lends h (rw add-zero at (twos zero (omega arith)))
      (lending times (at + 1) (omega arith) (λ k s. rw (shift at k) (twos (suc k) (omega arith))) (rw (shift at times) three) (rw (shift at times) t))
    where
      shift : (a b : ℕ) → a + 1 + b ≡ a + suc b
      shift a b = omega arith

  sections_rest : {at : ℕ} → Sections q n ops vals at → Rest q n ops vals Free at
  sections_rest (none e) = ends e
  sections_rest {at} (read times lt one twos three s) = let h : at < n = omega arith in reads h one (lending times (at + 1) lt twos three (sections_rest s))
  sections_rest {at} (write lt four five ok s) = let h : at < n = omega arith in writes h four (puts lt five ok (sections_rest s))

  proper_rest : {m : Mode} {at : ℕ} → Proper q n ops vals m at → Rest q n ops vals m at
  proper_rest (free s) = sections_rest s
  proper_rest {at = at} (in_read times lt twos three s) = lending times at lt twos three (sections_rest s)
  proper_rest (in_write lt five ok s) = puts lt five ok (sections_rest s)

  -- ---- a tidy rest, one operation on
  pub rest_next : {m : Mode} {at : ℕ} → at < n → Rest q n ops vals m at → Rest q n ops vals (holds (ops at)) (at + 1)
  rest_next lt (ends h) = absurd (omega arith)
  rest_next lt (reads h o t) = rw o t
  rest_next lt (lends h o t) = rw o t
  rest_next lt (returns h o t) = rw o t
  rest_next lt (writes h o t) = rw o t
  rest_next lt (puts h o ok t) = rw o t

  -- it has no drop and no into_inner
  pub rest_small : {m : Mode} {at : ℕ} → at < n → Rest q n ops vals m at → ops at < drop_handle
  rest_small lt (ends h) = absurd (omega arith)
  rest_small lt (reads h o t) = omega arith
  rest_small lt (lends h o t) = omega arith
  rest_small lt (returns h o t) = omega arith
  rest_small lt (writes h o t) = omega arith
  rest_small lt (puts h o ok t) = omega arith

  -- every way of the table keeps the lock clean and the own rest tidy
  module _ (i : ℕ) (L : Lock) (r : Rec) (v : ℕ) (lt : r.at < n) (c : Clean L) where
    tidy_way : (p : Place) (d : Did) → Move i L r (ops r.at) v p d → Rest q n ops vals (mode_of p) r.at → Clean d.lock × TidyRec q n ops vals d.rec
    tidy_way p d (by_load_below e t) h = (c, h)
    tidy_way p d (by_load_full e t) h = (c, h)
    tidy_way p d (by_try_done e t) h = (c, h)
    tidy_way p d (by_try_lost e t) h = (c, h)
    tidy_way p d (by_check_clear e t) h = (c, rw e at (rest_next lt h))
    tidy_way p d (by_check_set e t) h = (c, h)
    tidy_way p d (back e) h = (c, h)
    tidy_way p d (lend e) h = (c, rw e at (rest_next lt h))
    tidy_way p d (release e) h = (c, rw e at (rest_next lt h))
    tidy_way p d (by_exc_done e t) h = (c, h)
    tidy_way p d (by_exc_lost e t) h = (c, h)
    tidy_way p d (into_done e t) h = absurd (omega (arith, rest_small lt h))
    tidy_way p d (into_lost e t) h = absurd (omega (arith, rest_small lt h))
    tidy_way p d (by_wait_done e t) h = (c, h)
    tidy_way p d (by_wait_more e t) h = (c, h)
    tidy_way p d (take e) h = (c, rw e at (rest_next lt h))
    tidy_way p d (take_last e) h = absurd (omega (arith, rest_small lt h))
    tidy_way p d (put e) h = (c, h)
    tidy_way p d (store e) h = (c, rw e at (rest_next lt h))
    tidy_way p d (drop_read e) h = absurd (omega (arith, rest_small lt h))
    tidy_way p d (drop_write e) h = absurd (omega (arith, rest_small lt h))

pub proper_is_tidy : ProperIsTidy
proper_is_tidy S L l r w m f h =
    record {
      clean = (omega (arith, ap moving m), f);
      rest = λ j lt. proper_rest L.pred (S.len j) (S.op j) (S.val j) (h j lt);
    }

pub sections_are_tidy : SectionsAreTidy
sections_are_tidy S q m v n h = proper_is_tidy S _ _ refl refl refl refl (λ j lt. fresh_one j (rw length-replicate at lt))
  where
    fresh_one : (j : ℕ) → j < n → Proper q (S.len j) (S.op j) (S.val j) (mode_of (here (fresh n) j).place) (here (fresh n) j).at
    fresh_one j lt = rw (get_or-replicate n j unbegun unbegun lt) (free (h j lt))

-- any step leaves a tidy state tidy: a refused one changes nothing
pub step_tidy : (S : Scripts) (L : Lock) (l : List Rec) (i : ℕ) → Tidy S L l → Tidy S (step S L l i).lock (step S L l i).recs
unfolding step
step_tidy S L l i h = answered (λ out. Tidy S (settle L l i out).lock (settle L l i out).recs) S L l i (λ k. h) accepted
  where
    accepted : Passed S L l i → (d : Did) → MoveOf S L l i d → Tidy S d.lock (set l i d.rec)
    accepted p d mv =
        record {
          clean = now.0;
          rest =
              all_set (λ j r. TidyRec d.lock.pred (S.len j) (S.op j) (S.val j) r) l i d.rec unbegun (rw same.pred now.1)
              (λ j ne q. rw same.pred (h.rest j q));
        }
      where
        same : Same i L d.lock
        same = frame _ _ _ _ _ _ _ mv

        now : Clean d.lock × TidyRec L.pred (S.len i) (S.op i) (S.val i) d.rec
        now = tidy_way L.pred (S.len i) (S.op i) (S.val i) i L (here l i) _ p.more h.clean (here l i).place d mv (h.rest i p.thread)

pub tidy_is_kept : TidyIsKept
tidy_is_kept S L l i h = step_tidy S L l i h
