-- A step keeps `Sound`, accepted or refused. An entry that is not refused is one of the ways of the table, and what the refusals
-- leave is known of it.
use Prim.Native.Nat.{ℕ, ◌<◌, ◌≤◌}
use mathlib.Core.Path.{◌≡◌, refl, ap, sym, subst}
use mathlib.Core.Bool.{Bool, true, false, ◌||◌, ◌&&◌, not, true≢false}
use mathlib.Core.List.{List}
use native.Mathlib.Omega.{arith}
use lib.Dec.{eqb, ltb}
use lib.ListN.{length, set, length-set}
use lib.Seq.{set-get_or, get_or-set_same, set-set}
use package.borrow.Author.Tests.{leb-false, ltb-false, eqb-true, eq-eqb}
use Rattle.cell.specs.Value.{kept, is_full}
use Rattle.cell.specs.Pred.{permits}
use Rattle.machine.specs.Names.{release_write, into_inner}
use Rattle.machine.specs.Words.{bit, is, is_at, begun, may_go, unbegun}
use Rattle.machine.specs.Step.{Scripts, fits, entry_checks, entry_refusal, answer, step, settle, here, op_of, val_of, busy_of, others}
use Rattle.machine.specs.Sound.{is_into, inside_of, tally, Tally, KeptRec, Moves, Sound}
use Rattle.machine.specs.Move.{Move, by_load_below, by_load_full, by_try_done, by_try_lost, by_check_clear, by_check_set, back, lend, release, by_exc_done, by_exc_lost, into_done, into_lost, by_wait_done, by_wait_more, take, take_last, put, store, drop_read, drop_write}
use Rattle.machine.specs.declared.Did.{Did}
use Rattle.std.specs.Prelude.{Err, None, Ok, Option, Result, Some}
use Rattle.machine.specs.declared.Lock.{Lock}
use Rattle.machine.specs.declared.Rec.{Rec}
use Rattle.machine.specs.declared.Place.{Place}
use Rattle.machine.specs.declared.Place.TheVariants.{Idle, ReadTry, ReadCheck, ReadBack, Reading, WriteWait, WriteTake, Writing, WritePut}
use Rattle.machine.proofs.Sums.{sum_at, sum_le, all_set}
use Rattle.machine.proofs.Moves.{either_way, moves}
use Rattle.machine.proofs.Refusals.{passed as none_apply}
use Rattle.machine.proofs.Keep.{moved, weighed, Own, Before, Holds, keep, bit_le, moving_le}

-- ---- what no way changes, and whose the mover is
pub data Mine (i : ℕ) : Option ℕ → Type 0 where
  nobody : Mine i None
  mine : Mine i (Some i)

mine_of : (i : ℕ) (m : Option ℕ) → may_go m i ≡ true → Mine i m
mine_of i None e = nobody
mine_of i (Some t) e = subst (λ (k : ℕ). Mine i (Some k)) (sym (eqb-true t i e)) mine

pub record Same (i : ℕ) (L M : Lock) : Type 0 where
  pub pred : M.pred ≡ L.pred
  pub top : M.top ≡ L.top
  pub mover : Mine i L.mover → Mine i M.mover

same : {i : ℕ} {L M : Lock} → M.pred ≡ L.pred → M.top ≡ L.top → M.mover ≡ L.mover → Same i L M
same {i} p t m = record { pred = p; top = t; mover = λ o. rw m o }

module _ (i : ℕ) (L : Lock) (r : Rec) (o v : ℕ) where
  pub frame : (p : Place) (d : Did) → Move i L r o v p d → Same i L d.lock
  frame p d (by_load_below e t) = same refl refl refl
  frame p d (by_load_full e t) = same refl refl refl
  frame p d (by_try_done e t) = same refl refl refl
  frame p d (by_try_lost e t) = same refl refl refl
  frame p d (by_check_clear e t) = same refl refl refl
  frame p d (by_check_set e t) = same refl refl refl
  frame p d (back e) = same refl refl refl
  frame p d (lend e) = same refl refl refl
  frame p d (release e) = same refl refl refl
  frame p d (by_exc_done e t) = same refl refl refl
  frame p d (by_exc_lost e t) = same refl refl refl
  frame p d (into_done e t) = record { pred = refl; top = refl; mover = λ m. mine }
  frame p d (into_lost e t) = record { pred = refl; top = refl; mover = λ m. mine }
  frame p d (by_wait_done e t) = same refl refl refl
  frame p d (by_wait_more e t) = same refl refl refl
  frame p d (take e) = same refl refl refl
  frame p d (take_last e) = record { pred = refl; top = refl; mover = λ m. nobody }
  frame p d (put e) = same refl refl refl
  frame p d (store e) = same refl refl refl
  frame p d (drop_read e) = same refl refl refl
  frame p d (drop_write e) = same refl refl refl

-- ---- what the refusals leave
not_false : (b : Bool) → not b ≡ false → b ≡ true
not_false true e = refl
not_false false e = absurd (true≢false e)

neither : (a b : Bool) → (a || b) ≡ false → (a ≡ false) × (b ≡ false)
neither true b e = absurd (true≢false e)
neither false b e = (refl, e)

-- of two tests that do not both hold: where the first does, the second does not
not_both : (a b : Bool) → (a && b) ≡ false → a ≡ true → b ≡ false
not_both true b e h = e
not_both false b e h = absurd (true≢false (sym h))

pub record Passed (S : Scripts) (L : Lock) (l : List Rec) (i : ℕ) : Type 0 where
  pub thread : i < length l
  pub more : (here l i).at < S.len i
  pub going : L.finished ≡ false
  pub mine : Mine i L.mover
  pub fit : fits (here l i).place (op_of S l i) ≡ true
  pub calm : op_of S l i ≡ into_inner → begun L.mover i ≡ false → others l i ≡ 0
  pub allowed : is_at Writing (here l i) ≡ 1 → op_of S l i ≡ release_write → permits L.pred (val_of S l i) ≡ true

no_more : (n : ℕ) → ltb 0 n ≡ false → n ≡ 0
no_more n e = omega (arith, ltb-false 0 n e)

is_true : (b : Bool) → bit b ≡ 1 → b ≡ true
is_true true e = refl
is_true false e = absurd (omega arith)

pub passed : (S : Scripts) (L : Lock) (l : List Rec) (i : ℕ) → entry_refusal S L l i ≡ 0 → Passed S L l i
unfolding entry_refusal
passed S L l i e =
    let none = none_apply 0 (entry_checks S L l i) (omega arith) e in
    let gone = neither L.finished _ none.1.1.0 in
    record {
      thread = leb-false (length l) i none.0;
      more = leb-false (S.len i) (here l i).at none.1.0;
      going = gone.0;
      mine = mine_of i L.mover (not_false _ gone.1);
      fit = not_false _ none.1.1.1.0;
      calm =
          λ o n. no_more (others l i) (not_both (not (begun L.mover i)) _ (not_both (eqb (op_of S l i) into_inner) _ none.1.1.1.1.0 (eq-eqb _ _ o)) (ap not n));
      allowed =
          λ w o. not_false _ (not_both (eqb (op_of S l i) release_write) _ (not_both (is (here l i).place Writing) _ none.1.1.1.1.1.0 (is_true _ w)) (eq-eqb _ _ o));
    }

-- the ways open to thread i, with its record, operation and value
abbrev pub MoveOf : Scripts → Lock → List Rec → ℕ → Did → Type 0
MoveOf S L l i d = Move i L (here l i) (op_of S l i) (val_of S l i) (here l i).place d

-- the answer to an entry, taken apart: a refusal, or a way of the table with what the refusals leave
pub answered {ℓ} : (P : Result Did ℕ → Type ℓ) (S : Scripts) (L : Lock) (l : List Rec) (i : ℕ) → ((k : ℕ) → P (Err k))
    → (Passed S L l i → (d : Did) → MoveOf S L l i d → P (Ok d)) → P (answer S L l i)
unfolding answer
answered P S L l i refusal way =
    either_way P (eqb (entry_refusal S L l i) 0)
    (λ e. let p = passed S L l i (eqb-true _ _ e) in way p _ (moves i L (here l i) _ _ (here l i).place p.fit))
    (λ _. refusal _)

-- ---- the counts of the others
abbrev pub rest : Scripts → List Rec → ℕ → Tally
rest S l i = tally S (set l i unbegun)

pub tally_set : (S : Scripts) (l : List Rec) (i : ℕ) (s : Rec) → i < length l → tally S (set l i s) ≡ weighed (S.op i) s (rest S l i)
tally_set S l i s h =
    λ j. record {
      check = sum_at (λ k r. is_at ReadCheck r) l i s unbegun refl h j;
      back = sum_at (λ k r. is_at ReadBack r) l i s unbegun refl h j;
      reading = sum_at (λ k r. is_at Reading r) l i s unbegun refl h j;
      wait = sum_at (λ k r. is_at WriteWait r) l i s unbegun refl h j;
      take = sum_at (λ k r. is_at WriteTake r) l i s unbegun refl h j;
      writing = sum_at (λ k r. is_at Writing r) l i s unbegun refl h j;
      put = sum_at (λ k r. is_at WritePut r) l i s unbegun refl h j;
      busy = sum_at (λ k r. busy_of r) l i s unbegun refl h j;
      inside = sum_at (λ k r. inside_of (S.op k) r) l i s unbegun (omega arith) h j;
    }

pub tally_split : (S : Scripts) (l : List Rec) (i : ℕ) → i < length l → tally S l ≡ weighed (S.op i) (here l i) (rest S l i)
tally_split S l i h = subst (λ (m : List Rec). tally S m ≡ weighed (S.op i) (here l i) (rest S l i)) (set-get_or l i unbegun) (tally_set S l i (here l i) h)

inside_busy : (ops : ℕ → ℕ) (r : Rec) → inside_of ops r ≤ busy_of r
inside_busy ops r = go r.place
  where
    go : (p : Place) → inside_of ops (moved r p) ≤ busy_of (moved r p)
    go Idle = omega arith
    go ReadTry = omega arith
    go ReadCheck = omega arith
    go ReadBack = omega arith
    go Reading = omega arith
    go WriteWait = omega (arith, bit_le (eqb (ops r.at) into_inner))
    go WriteTake = omega (arith, bit_le (eqb (ops r.at) into_inner))
    go Writing = omega arith
    go WritePut = omega arith

into_eq : (o : ℕ) → 1 ≤ is_into o → o ≡ into_inner
into_eq o h = go (eqb o into_inner) refl
  where
    go : (b : Bool) → eqb o into_inner ≡ b → o ≡ into_inner
    go true e = eqb-true o into_inner e
    go false e = let z : is_into o ≡ 0 = ap bit e in omega arith

module _ (S : Scripts) (l : List Rec) (i : ℕ) (lt : i < length l) where
  -- the mover's clause, to and from the thread that steps
  own_of : (m : Option ℕ) → Mine i m → Moves S l m → (here l i).at < S.len i → Own m (rest S l i) (S.len i) (here l i).at (op_of S l i)
  own_of m nobody ok more = omega arith
  own_of m mine ok more =
      let into : is_into (op_of S l i) ≡ 1 = ap is_into ok.2 in
      omega arith

  of_own : (m : Option ℕ) (s : Rec) → Mine i m → Own m (rest S l i) (S.len i) s.at (S.op i s.at) → Moves S (set l i s) m
  of_own m s nobody o = tt
  of_own m s mine o =
      rw (length-set l i s, get_or-set_same l i s unbegun lt, set-set l i s unbegun) (lt, omega arith, into_eq (S.op i s.at) o.op, omega (arith, o))

  calm_of : (L : Lock) (m : Option ℕ) → Own m (rest S l i) (S.len i) (here l i).at (op_of S l i)
      → (op_of S l i ≡ into_inner → begun m i ≡ false → others l i ≡ 0) → op_of S l i ≡ into_inner → others l i ≡ 0
  calm_of L None o c e = c e refl
  calm_of L (Some t) o c e = omega (arith, o)

  -- what a sound state says to the thread that steps
  pub before : (L : Lock) → Sound S L l → Passed S L l i → Before L (S.len i) (S.op i) (rest S l i) (here l i) (val_of S l i)
  before L h p =
      let own = own_of L.mover p.mine h.mover p.more in
      record {
        counts = rw (tally_split S l i lt) at h.counts;
        rec = h.kept i lt;
        own = own;
        more = p.more;
        going = p.going;
        calm = calm_of L L.mover own p.calm;
        allowed = p.allowed;
        sub = sum_le (λ k r. inside_of (S.op k) r) (λ k r. busy_of r) (λ k r. inside_busy (S.op k) r) 0 (set l i unbegun);
        exc1 = bit_le L.exc;
        full1 = bit_le (is_full L.cell);
        mover1 = moving_le L.mover;
        good1 = bit_le (permits L.pred (kept L.cell));
      }

  -- a way of the table keeps all
  pub accepted : (L : Lock) → Sound S L l → Passed S L l i → (d : Did) → MoveOf S L l i d → Sound S d.lock (set l i d.rec)
  accepted L h p d mv =
      record {
        top = rw kin.top h.top;
        pred = rw kin.pred h.pred;
        counts = rw (tally_set S l i d.rec lt) now.counts;
        kept =
            all_set (λ j r. KeptRec d.lock.pred d.lock.top.0 (S.len j) (S.op j) r) l i d.rec unbegun now.rec
            (λ j ne q. rw (kin.pred, kin.top) (h.kept j q));
        mover = of_own d.lock.mover d.rec (kin.mover p.mine) now.own;
      }
    where
      kin : Same i L d.lock
      kin = frame _ _ _ _ _ _ _ mv

      now : Holds d.lock (S.len i) (S.op i) (rest S l i) d.rec
      now = keep i L (S.len i) (S.op i) (rest S l i) (here l i) _ (here l i).place d mv (before L h p)

-- every step keeps Sound, accepted or refused
pub step_sound : (S : Scripts) (L : Lock) (l : List Rec) (i : ℕ) → Sound S L l → Sound S (step S L l i).lock (step S L l i).recs
unfolding step
step_sound S L l i h =
    answered (λ out. Sound S (settle L l i out).lock (settle L l i out).recs) S L l i (λ k. h) (λ p d mv. accepted S l i p.thread L h p d mv)
