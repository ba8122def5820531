-- The tokens of a lock with its records are RwLockToks': they start as its initial state, each row moves them as the transition that
-- is named for it, with all that the source requires, and its invariants follow from soundness.
use Prim.Native.Nat.{ℕ, ◌+◌, ◌-◌, ◌≤◌}
use mathlib.Core.Path.{◌≡◌, refl, ap, sym, subst, ◌∙◌}
use mathlib.Core.Bool.{Bool, true, false, cond, false≢true}
use mathlib.Core.List.{List}
use native.Mathlib.Omega.{arith}
use lib.Dec.{eqb, ltb}
use package.borrow.Author.Tests.{eqb-true, eq-eqb, lt-ltb, le-ltb, ltb-true, ltb-false}
use Rattle.cell.specs.Value.{kept}
use Rattle.cell.specs.Pred.{permits}
use Rattle.cell.specs.declared.pred.Pred.{Pred}
use Rattle.toks.specs.Multiset.{Multiset, none, adding, removing}
use Rattle.toks.specs.Toks.{Storage, empty, holds, stored, Toks, Transition, by_acquire_read_start, by_acquire_read_end, by_acquire_read_abandon, by_acquire_exc_start, by_acquire_exc_end, by_release_exc, by_release_shared}
use Rattle.toks.specs.Invariants.{one, Holds}
use Rattle.machine.specs.Words.{bit, unused}
use Rattle.machine.specs.Step.{Scripts, step, settle}
use Rattle.machine.specs.Sound.{tally, Tally, handles, writers, Counts, Sound}
use Rattle.machine.specs.Tokens.{copies, tokens_of, Inv, moves_tokens, named, code_of, TokensNamed, TokensMove, TokensStart, TokensHold}
use Rattle.machine.specs.Move.{Move, by_load_below, by_load_full, by_try_done, by_try_lost, by_check_clear, by_check_set, back, lend, release, by_exc_done, by_exc_lost, into_done, into_lost, by_wait_done, by_wait_more, take, take_last, put, store, drop_read, drop_write}
use Rattle.machine.specs.declared.Did.{Did}
use Rattle.machine.specs.declared.Lock.{Lock}
use Rattle.machine.specs.declared.Rec.{Rec}
use Rattle.machine.specs.declared.Place.{Place}
use Rattle.machine.proofs.Keep.{moved, weighed, Before, bit_le, bit_false}
use Rattle.machine.proofs.Every.{says_bit}
use Rattle.machine.proofs.Runs.{none_fresh}
use Rattle.machine.proofs.Steps.{answered, before, tally_set, tally_split}

-- ---- the tokens are the same if these fields are: count, what is stored, pending writer, writer, pending readers, readers
same : {q : Pred} {exc : Bool} {rc rc' : ℕ} {st st' : Storage} {pw pw' w w' : Bool} {p p' : ℕ} {m m' : Multiset}
    → rc ≡ rc' → st ≡ st' → pw ≡ pw' → w ≡ w' → p ≡ p' → m ≡ m'
    → ◌≡◌ {A = Toks Pred}
    (record { k = q; flag_exc = exc; flag_rc = rc; storage = st; pending_writer = pw; writer = w; pending_reader = p; reader = m })
    (record { k = q; flag_exc = exc; flag_rc = rc'; storage = st'; pending_writer = pw'; writer = w'; pending_reader = p'; reader = m' })
same {q} {exc} a b c d e f =
    λ j. record { k = q; flag_exc = exc; flag_rc = a j; storage = b j; pending_writer = c j; writer = d j; pending_reader = e j; reader = f j }

-- what is stored beside n writers, of which the source has one at most
abbrev stored_beside : ℕ → ℕ → Storage
stored_beside n x = cond (ltb 0 n) empty (holds x)

withdrawn : (n x : ℕ) → 1 ≤ n → stored_beside n x ≡ empty
withdrawn n x h = rw (lt-ltb 0 n h) refl

deposited : (n x : ℕ) → n ≡ 0 → stored_beside n x ≡ holds x
deposited n x h = rw (le-ltb 0 n (omega arith)) refl

-- ---- copies: none, one more and one fewer
no_copy : (n x y : ℕ) → n ≡ 0 → copies n x y ≡ 0
no_copy n x y e = law (eqb y x)
  where
    law : (b : Bool) → cond b n 0 ≡ 0
    law true = e
    law false = refl

no_copies : (n x : ℕ) → n ≡ 0 → copies n x ≡ none
no_copies n x e = λ j y. no_copy n x y e j

all_copies : (n x : ℕ) → copies n x x ≡ n
all_copies n x = rw (eq-eqb x x refl) refl

one_more : (m n w x : ℕ) → m ≡ n + 1 → w ≡ 0 → copies m x ≡ adding (stored (stored_beside w x)) (copies n x)
one_more m n w x e z = rw (deposited w x z) (λ j y. law (eqb y x) j)
  where
    law : (b : Bool) → cond b m 0 ≡ cond b (cond b n 0 + 1) (cond b n 0)
    law true = e
    law false = refl

one_fewer : (m n x : ℕ) → n ≡ m + 1 → copies m x ≡ removing x (copies n x)
one_fewer m n x e = λ j y. law (eqb y x) j
  where
    law : (b : Bool) → cond b m 0 ≡ cond b (cond b n 0 - 1) (cond b n 0)
    law true = omega arith
    law false = refl

-- with a writer there is no reader, and nothing is stored: what the cell keeps is not seen
unseen : {q : Pred} {exc : Bool} {rc : ℕ} {pw : Bool} {p : ℕ} (m n h x y : ℕ) → m ≡ n → 1 ≤ n → h ≡ 0
    → ◌≡◌ {A = Toks Pred}
    (record { k = q; flag_exc = exc; flag_rc = rc; storage = stored_beside m x; pending_writer = pw; writer = ltb 0 m; pending_reader = p; reader = copies h x })
    (record { k = q; flag_exc = exc; flag_rc = rc; storage = stored_beside n y; pending_writer = pw; writer = ltb 0 n; pending_reader = p; reader = copies h y })
unseen m n h x y e some z =
    same refl (withdrawn m x (omega arith) ∙ sym (withdrawn n y some)) refl (ap (ltb 0) e) refl (no_copies h x z ∙ sym (no_copies h y z))

-- ---- each way
-- from the lock L with the counts N to the lock M with the counts O, by a row of that access and that value got: the tokens go as is
-- named for the row, and where they move, the state before has what the source requires
record TokensGo (L : Lock) (N : Tally) (M : Lock) (O : Tally) (access got : ℕ) : Type 0 where
  as_named : tokens_of M O ≡ named access got (kept L.cell) (tokens_of L N)
  allowed : moves_tokens access got ≡ true → (move : Transition Inv (tokens_of L N) (named access got (kept L.cell) (tokens_of L N))) × (code_of move ≡ access)

module _ {L : Lock} {N : Tally} {M : Lock} {O : Tally} {access got : ℕ} where
  -- of a row that moves none only what it leaves is to be shown
  stays : moves_tokens access got ≡ false → tokens_of M O ≡ named access got (kept L.cell) (tokens_of L N) → TokensGo L N M O access got
  stays f e = record { as_named = e; allowed = λ t. absurd (false≢true (sym f ∙ t)) }

module _ (i : ℕ) (L : Lock) (n : ℕ) (ops : ℕ → ℕ) (R : Tally) (r : Rec) (v : ℕ) where
  -- the counts before and after, and the writers among them
  abbrev was : Place → Tally
  was p = weighed ops (moved r p) R

  abbrev now : Did → Tally
  now d = weighed ops d.rec R

  abbrev wrote : Place → ℕ
  wrote p = writers L (was p)

  abbrev writes : Did → ℕ
  writes d = writers d.lock (now d)

  goes_on : (p : Place) (d : Did) → Move i L r (ops r.at) v p d → Before L n ops R (moved r p) v → TokensGo L (was p) d.lock (now d) d.access d.got
  goes_on p d (by_load_below e t) b = stays refl refl
  goes_on p d (by_load_full e t) b = stays refl refl
  goes_on p d (by_try_done e t) b =
      record { allowed = λ _. (by_acquire_read_start, refl); as_named = same (omega (arith, eqb-true L.rc.0 r.seen.0 t)) refl refl refl (omega arith) refl }
  goes_on p d (by_try_lost e t) b = stays refl refl
  goes_on p d (by_check_clear e t) b =
      record {
        allowed = λ _. (by_acquire_read_end t (omega arith), refl);
        as_named = same refl refl refl refl (omega arith) (one_more _ _ (wrote p) (kept L.cell) (omega arith) (omega (arith, bit_false L.exc t)));
      }
  goes_on p d (by_check_set e t) b = stays refl (same refl refl refl refl (omega arith) refl)
  goes_on p d (back e) b = record { allowed = λ _. (by_acquire_read_abandon (omega arith), refl); as_named = same refl refl refl refl (omega arith) refl }
  goes_on p d (lend e) b = stays refl refl
  goes_on p d (release e) b =
      record {
        allowed = λ _. (by_release_shared (kept L.cell) (omega (arith, all_copies (handles L (was p)) (kept L.cell))), refl);
        as_named = same refl refl refl refl refl (one_fewer _ _ (kept L.cell) (omega arith));
      }
  goes_on p d (by_exc_done e t) b = record { allowed = λ _. (by_acquire_exc_start t, refl); as_named = same refl refl (lt-ltb 0 (now d).wait (omega arith)) refl refl refl }
  goes_on p d (by_exc_lost e t) b = stays refl refl
  goes_on p d (into_done e t) b = record { allowed = λ _. (by_acquire_exc_start t, refl); as_named = same refl refl (lt-ltb 0 (now d).wait (omega arith)) refl refl refl }
  goes_on p d (into_lost e t) b = stays refl refl
  goes_on p d (by_wait_done e t) b =
      record {
        allowed = λ _. rw t (by_acquire_exc_end (eqb-true L.rc.0 0 t) (lt-ltb 0 (was p).wait (omega arith)), refl);
        as_named =
            rw t (same refl (withdrawn (writes d) _ (omega arith)) (le-ltb 0 (now d).wait (omega arith)) (lt-ltb 0 (writes d) (omega arith)) refl refl);
      }
  goes_on p d (by_wait_more e t) b = stays (rw t refl) (rw t refl)
  goes_on p d (take e) b = stays refl (unseen (writes d) (wrote p) _ _ _ (omega arith) (omega arith) (omega arith))
  goes_on p d (take_last e) b = stays refl (unseen (writes d) (wrote p) _ _ _ (omega (arith, bit_false L.finished b.going)) (omega arith) (omega arith))
  goes_on p d (put e) b = stays refl (unseen (writes d) (wrote p) _ _ _ (omega arith) (omega arith) (omega arith))
  goes_on p d (store e) b =
      record {
        allowed = λ _. (by_release_exc (kept L.cell) ((says_bit _).1 (omega arith)) (lt-ltb 0 (wrote p) (omega arith)), refl);
        as_named = same refl (deposited (writes d) _ (omega arith)) refl (le-ltb 0 (writes d) (omega arith)) refl refl;
      }
  goes_on p d (drop_read e) b = stays refl (same refl refl refl refl refl (ap (λ (k : ℕ). copies k (kept L.cell)) (omega arith)))
  goes_on p d (drop_write e) b = stays refl (unseen (writes d) (wrote p) _ _ _ (omega arith) (omega arith) (omega arith))

-- ---- each step
module _ (S : Scripts) (L : Lock) (l : List Rec) (i : ℕ) (h : Sound S L l) where
  steps_on : TokensGo L (tally S l) (step S L l i).lock (tally S (step S L l i).recs) (step S L l i).row.access (step S L l i).row.got
  unfolding step
  steps_on =
      answered (λ out. let w = settle L l i out in TokensGo L (tally S l) w.lock (tally S w.recs) w.row.access w.row.got) S L l i
      (λ k. stays refl refl)
      (λ p d mv. rw (tally_set S l i d.rec p.thread, tally_split S l i p.thread)
      (goes_on _ _ _ _ _ _ _ _ d mv (before S l i p.thread L h p)))

pub tokens_named : TokensNamed
tokens_named S L l i h = (steps_on S L l i h).as_named

pub tokens_move : TokensMove
tokens_move S L l i h t = (steps_on S L l i h).allowed t

-- ---- the start, and the invariants
pub tokens_start : TokensStart
tokens_start S q m v n = ap (tokens_of (unused q m v)) (none_fresh S n) ∙ same refl refl refl refl refl (no_copies 0 v refl)

-- a flag as a number, and of a count that is 0 or 1 whether there is one
one_if_there : (n : ℕ) → n ≤ 1 → one (ltb 0 n) ≡ n
one_if_there n h = law (ltb 0 n) refl
  where
    law : (b : Bool) → ltb 0 n ≡ b → one b ≡ n
    law true e = omega (arith, ltb-true 0 n e)
    law false e = omega (arith, ltb-false 0 n e)

one_bit : (b : Bool) → one b ≡ bit b
one_bit true = refl
one_bit false = refl

-- a reader is of the value that there are copies of
copied : (n x t : ℕ) → 1 ≤ copies n x t → x ≡ t
copied n x t = law (eqb t x) refl
  where
    law : (b : Bool) → eqb t x ≡ b → 1 ≤ cond b n 0 → x ≡ t
    law true e h = sym (eqb-true t x e)
    law false e h = absurd (omega arith)

two_storages : (x : ℕ) → holds x ≡ empty → ⊥
two_storages x e = let z : ◌≡◌ {A = ℕ} 0 1 = cc in omega arith

module _ (L : Lock) (N : Tally) (c : Counts L N) where
  -- the flag stands for the one writer, waiting or not
  flag_matches : one L.exc ≡ one (ltb 0 N.wait) + one (ltb 0 (writers L N))
  flag_matches = let most = bit_le L.exc in omega (arith, one_bit L.exc, one_if_there N.wait (omega arith), one_if_there (writers L N) (omega arith))

  -- with no writer the cell is full, of a value that is permitted
  permitted : writers L N ≡ 0 → permits L.pred (kept L.cell) ≡ true
  permitted z = let most = bit_le (permits L.pred (kept L.cell)) in (says_bit _).1 (omega arith)

  -- by whether the writer is there: with it there is no reader, and without it the value is stored
  hold : (w : Bool) → ltb 0 (writers L N) ≡ w → Holds Inv (tokens_of L N)
  hold true e =
      let a_writer = ltb-true 0 (writers L N) e in
      rw e (record {
        exc_bit_matches = rw e at flag_matches;
        count_matches = omega (arith, no_copy (handles L N) (kept L.cell) 0 (omega arith));
        reader_agrees_storage = λ t h. absurd (omega (arith, no_copy (handles L N) (kept L.cell) t (omega arith)));
        writer_agrees_storage = λ _. refl;
        writer_agrees_storage_rev = λ _. refl;
        sto_user_inv = λ x f. absurd (two_storages x (sym f));
      })
  hold false e =
      let no_writer = ltb-false 0 (writers L N) e in
      rw e (record {
        exc_bit_matches = rw e at flag_matches;
        count_matches = omega (arith, all_copies (handles L N) (kept L.cell));
        reader_agrees_storage = λ t h. ap holds (copied (handles L N) (kept L.cell) t h);
        writer_agrees_storage = λ f. absurd (false≢true f);
        writer_agrees_storage_rev = λ f. absurd (two_storages _ f);
        sto_user_inv = λ x f. subst (Inv L.pred) (cc f) (permitted (omega arith));
      })

pub tokens_hold : TokensHold
tokens_hold S L l h = hold L (tally S l) h.counts (ltb 0 (writers L (tally S l))) refl
