-- With the records taken out of a list of any length, the functions of `lock` are machine's. Where nothing is refused there are at most
-- sixteen records, all of them in the array; and where something is refused, the refusal is machine's, also past sixteen, and the array
-- is put back as it was taken.
use Prim.Native.Nat.{ℕ, ◌<◌, ◌≤◌}
use mathlib.Core.Path.{◌≡◌, refl, sym, ◌∙◌}
use mathlib.Core.Bool.{Bool, true, false, ◌&&◌, not, cond, and-eq-true_iff}
use mathlib.Core.List.{List, [], ◌∷◌, ◌++◌, append-nil}
use native.Mathlib.Omega.{arith}
use lib.Dec.{eqb, leb}
use lib.ListN.{length, take, take-append-drop, drop_of_length-le, length-replicate}
use lib.Seq.{take_at, take-length}
use package.borrow.Author.Tests.{eqb-true, eqb-false, leb-true, leb-false, lt-ltb, not-false}
use Rattle.machine.specs.Names.{most_threads, untidy}
use Rattle.machine.specs.Words.{unbegun}
use Rattle.machine.specs.Refusals.{Check, gives, lowest}
use Rattle.machine.specs.Lists.{Lent, total, scripts_of, list_checks, beside}
use Rattle.machine.specs.Setup.{fresh, setup_refusal, setup_recs}
use Rattle.machine.specs.Run.{run, entries, RunLeft, made_run, refused_run, run_checks, run_refusal, run_lent}
use Rattle.machine.specs.Tidy.{tidy}
use Rattle.machine.specs.Step.{Scripts}
use Rattle.machine.specs.Drain.{sweep, at_idle, at_idle_or_wait, at_end, enough, drain, drain_refusal, DrainLeft, drain_lent}
use Rattle.machine.specs.declared.Lock.{Lock}
use Rattle.machine.specs.declared.Rec.{Rec}
use Rattle.machine.proofs.Refusals.{Passed, passed}
use Rattle.machine.proofs.RunRule.{run_length}
use Rattle.lock.specs.ByValue.{put_back, setup_of, run_checks_of, run_refusal_of, run_of, drain_refusal_of, drain_of}
use Rattle.lock.proofs.Refusing.{earlier, none_refused}
use Rattle.lock.proofs.Begins.{count_most}
use Rattle.lock.proofs.Draining.{none_of_run, sweep_length}
use Rattle.lock_lent.specs.Exchange.{front, shared}
use Rattle.lock_lent.specs.Run.{ran_of}
use Rattle.lock_lent.specs.Drain.{drained_of}
use Rattle.lock_lent.specs.Taken.{taken, back}
use Rattle.lock_lent.specs.AnyLength.{SetupAnyLength, RunAnyLength, DrainAnyLength}
use Rattle.lock_lent.proofs.Fronts.{front_length, front_again, front_whole}

-- ---- lists
module _ (l : List Rec) where
  -- nothing was changed
  back_taken : back l (taken l) ≡ l
  back_taken = front_whole (shared l) l (fresh 16) (omega arith)

  module _ (few : length l ≤ 16) where
    all_shared : shared l ≡ length l
    all_shared = omega (arith, few)

    -- all records are in the array
    pub taken_first : take (length l) (taken l) ≡ l
    taken_first = rw (all_shared, take-length l) (take_at l _ (length l) refl)

    -- the list with as many records put back is those records
    back_put : (recs rest : List Rec) → length recs ≡ length l → back l (recs ++ rest) ≡ recs
    back_put recs rest e = rw (all_shared, take_at recs rest (length l) e, drop_of_length-le l {i = length l} (omega arith)) (append-nil recs)

-- the list while its records are out, with blank ones in their place
abbrev pub emptied : List Rec → List Rec
emptied l = front (shared l) (fresh 16) l

pub emptied_length : (l : List Rec) → length (emptied l) ≡ length l
emptied_length l = front_length (shared l) (fresh 16) l (omega (arith, length-replicate 16 unbegun)) (omega arith)

-- putting an array back into it is putting the array back into the list
pub put_again : (l array : List Rec) → front (shared (emptied l)) array (emptied l) ≡ back l array
put_again l array = rw (emptied_length l) (front_again (shared l) (fresh 16) array l (omega (arith, length-replicate 16 unbegun)))

-- ---- the refusals
module _ (s : Lent) (L : Lock) where
  -- the lists have a record for each length
  pub as_many : (n : ℕ) → Passed (list_checks s n) → n ≡ length s.lens
  as_many n p =
      let sum = total s.lens in
      let values_too = eqb (length s.vals) sum && eqb n (length s.lens) in
      let rest = ((and-eq-true_iff (eqb (length s.ops) sum) values_too).0 (not-false _ p.1.0)).1 in
      eqb-true n (length s.lens) ((and-eq-true_iff (eqb (length s.vals) sum) (eqb n (length s.lens))).0 rest).1

  -- past sixteen records the state does not matter: the lists are refused, or there are too many threads
  many_refused : (n : ℕ) (l m : List Rec) → most_threads < n → run_refusal_of s n L l ≡ run_refusal_of s n L m
  unfolding run_refusal_of
  many_refused n l m many = go (eqb (lowest (list_checks s n)) 0) refl
    where
      go : (b : Bool) → eqb (lowest (list_checks s n)) 0 ≡ b → lowest (run_checks_of s n L l) ≡ lowest (run_checks_of s n L m)
      go false e = let some = eqb-false _ 0 e in earlier (list_checks s n) _ some ∙ sym (earlier (list_checks s n) _ some)
      go true e =
          let same = as_many n (passed 0 (list_checks s n) (omega arith) (eqb-true _ 0 e)) in
          rw (lt-ltb most_threads (length s.lens) (omega (arith, same))) refl

  pub same_refusal : (l : List Rec) → run_refusal_of s (length l) L (take (length l) (taken l)) ≡ run_refusal s L l
  unfolding run_refusal_of run_refusal
  same_refusal l = go (leb (length l) most_threads) refl
    where
      go : (b : Bool) → leb (length l) most_threads ≡ b → run_refusal_of s (length l) L (take (length l) (taken l)) ≡ run_refusal s L l
      go true e = rw (taken_first l (leb-true _ _ e)) refl
      go false e = many_refused (length l) (take (length l) (taken l)) l (leb-false _ _ e)

-- ---- setup
pub setup_any_length : SetupAnyLength
unfolding setup_of setup_recs
setup_any_length q m v s l = go (eqb (setup_refusal q m v s (length l)) 0) refl
  where
    go : (b : Bool) → eqb (setup_refusal q m v s (length l)) 0 ≡ b
        → back l (cond b (put_back (length l) (taken l) (fresh (length l))) (taken l)) ≡ cond b (fresh (length l)) l
    go true e = back_put l (count_most q m v s (length l) (eqb-true _ 0 e)) (fresh (length l)) _ (length-replicate (length l) unbegun)
    go false e = back_taken l

-- ---- run
module _ (s : Lent) (L : Lock) (l : List Rec) where
  -- what is put back where nothing was made of the records
  back_refused : back l (put_back (length l) (taken l) (take (length l) (taken l))) ≡ l
  back_refused = rw (take-append-drop (length l) (taken l)) (back_taken l)

  pub few_of_run : run_refusal s L l ≡ 0 → length l ≤ 16
  few_of_run none = let (same, ready) = none_refused s (length l) L (taken l) (same_refusal s L l ∙ none) in omega (arith, same, ready.threads)

  module _ (schedule : List ℕ) (budget : ℕ) (trace : List ℕ) where
    abbrev n : ℕ
    n = entries budget schedule trace

    abbrev Agrees : RunLeft → RunLeft → Type 0
    Agrees left made = (ran_of left ≡ ran_of made) × (back l (put_back (length l) (taken l) left.recs) ≡ made.recs) × (left.trace ≡ made.trace)

    agrees : (b : Bool) → eqb (run_refusal s L l) 0 ≡ b
        → Agrees
        (cond b (made_run (beside s 0) n trace (run (scripts_of s) L (take (length l) (taken l)) (take n schedule))) (refused_run (beside s (run_refusal s L l)) L (take (length l) (taken l)) trace))
        (cond b (made_run (beside s 0) n trace (run (scripts_of s) L l (take n schedule))) (refused_run (beside s (run_refusal s L l)) L l trace))
    agrees true e =
        let few = few_of_run (eqb-true _ 0 e) in
        rw (taken_first l few) (refl, back_put l few (run (scripts_of s) L l (take n schedule)).recs _ (run_length (scripts_of s) L l (take n schedule)), refl)
    agrees false e = (refl, back_refused, refl)

pub run_any_length : RunAnyLength
unfolding run_of run_lent
run_any_length s L l schedule budget trace = rw (same_refusal s L l) (agrees s L l schedule budget trace (eqb (run_refusal s L l) 0) refl)

-- ---- drain
drain_length : (S : Scripts) (L : Lock) (l : List Rec) → length (drain S L l).recs ≡ length l
unfolding drain
drain_length S L l =
    let f = enough S l in
    let a = sweep at_idle_or_wait S f 0 (length l) L l in
    let b = sweep at_idle S f 0 (length l) a.lock a.recs in
    sweep_length (at_end S) S f 0 (length l) b.lock b.recs ∙ sweep_length at_idle S f 0 (length l) a.lock a.recs ∙ sweep_length at_idle_or_wait S f 0 (length l) L l

module _ (s : Lent) (L : Lock) (l : List Rec) where
  abbrev untidy_of : List Rec → List Check
  untidy_of m = gives untidy (not (tidy (scripts_of s) L m)) ∷ []

  -- by the refusal of run: where it is given it is drain's, and where it is not, all records are in the array
  same_drain_refusal : drain_refusal_of s (length l) L (take (length l) (taken l)) ≡ drain_refusal s L l
  unfolding drain_refusal_of drain_refusal run_refusal_of run_refusal
  same_drain_refusal = go (eqb (run_refusal s L l) 0) refl
    where
      go : (b : Bool) → eqb (run_refusal s L l) 0 ≡ b → drain_refusal_of s (length l) L (take (length l) (taken l)) ≡ drain_refusal s L l
      go true e = rw (taken_first l (few_of_run s L l (eqb-true _ 0 e))) refl
      go false e =
          let some : run_refusal s L l ≡ 0 → ⊥ = eqb-false _ 0 e in
          earlier (run_checks_of s (length l) L (take (length l) (taken l))) (untidy_of (take (length l) (taken l))) (λ z. some (sym (same_refusal s L l) ∙ z))
          ∙ same_refusal s L l
          ∙ sym (earlier (run_checks s L l) (untidy_of l) some)

  few_of_drain : drain_refusal s L l ≡ 0 → length l ≤ 16
  few_of_drain none = few_of_run s L l (sym (same_refusal s L l) ∙ none_of_run s (length l) L (take (length l) (taken l)) (same_drain_refusal ∙ none))

pub drain_any_length : DrainAnyLength
unfolding drain_of drain_lent
drain_any_length s L l = rw (same_drain_refusal s L l) (go (eqb (drain_refusal s L l) 0) refl)
  where
    made : List Rec → DrainLeft
    made m = let w = drain (scripts_of s) L m in record { refusal = beside s 0; n = length w.made; lock = w.lock; recs = w.recs }

    kept : List Rec → DrainLeft
    kept m = record { refusal = beside s (drain_refusal s L l); n = 0; lock = L; recs = m }

    go : (b : Bool) → eqb (drain_refusal s L l) 0 ≡ b
        → let left = cond b (made (take (length l) (taken l))) (kept (take (length l) (taken l))) in
        let right = cond b (made l) (kept l) in
        (drained_of left ≡ drained_of right) × (back l (put_back (length l) (taken l) left.recs) ≡ right.recs)
    go true e =
        let few = few_of_drain s L l (eqb-true _ 0 e) in
        rw (taken_first l few) (refl, back_put l few (drain (scripts_of s) L l).recs _ (drain_length (scripts_of s) L l))
    go false e = (refl, back_refused s L l)
