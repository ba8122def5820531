-- Every failed exchange on the count is paid for by a change of the count that another thread made since it was loaded.
use Prim.Native.Nat.{ℕ, zero, suc, ◌+◌, ◌-◌, ◌*◌, ◌≤◌}
use mathlib.Core.Path.{◌≡◌, refl, sym, ap, subst}
use mathlib.Core.Bool.{Bool, true, false, ◌&&◌, not}
use mathlib.Core.List.{List, [], ◌∷◌}
use native.Mathlib.Omega.{arith}
use native.Mathlib.Nat.{mul_comm, suc-mul}
use lib.Dec.{eqb}
use lib.ListN.{length, set}
use lib.Seq.{get_or-set_same, get_or-set_other}
use package.borrow.Author.Tests.{eqb-true, eqb-false, eq-eqb}
use Rattle.machine.specs.Words.{bit, is, unbegun, unused}
use Rattle.machine.specs.Step.{Scripts, here, unmoved, settle, step, sum}
use Rattle.machine.specs.Setup.{fresh}
use Rattle.machine.specs.Run.{run}
use Rattle.retries.specs.Rows.{counted}
use Rattle.machine.specs.Move.{Move, by_load_below, by_load_full, by_try_done, by_try_lost, by_check_clear, by_check_set, back, lend, release, by_exc_done, by_exc_lost, into_done, into_lost, by_wait_done, by_wait_more, take, take_last, put, store, drop_read, drop_write}
use Rattle.machine.specs.declared.Did.{Did}
use Rattle.std.specs.Prelude.{Err, Ok, Result}
use Rattle.machine.specs.declared.Lock.{Lock}
use Rattle.machine.specs.declared.Rec.{Rec}
use Rattle.machine.specs.declared.Row.{Row}
use Rattle.machine.specs.declared.Place.{Place}
use Rattle.machine.specs.declared.Place.TheVariants.{ReadTry}
use Rattle.machine.proofs.Sums.{sum_add, sum_none}
use Rattle.machine.proofs.Keep.{moved}
use Rattle.machine.proofs.Steps.{Passed, MoveOf, answered}
use Rattle.machine.proofs.RunRule.{step_length, run_length}
use Rattle.retries.specs.Retries.{lost, changes, by, lost_by, changed_by_others, most_lost, LostByOne, LostByAll, stale, stale_among, LostOnTheWay, AllOnTheWay}
use Rattle.retries.proofs.Threads.{sums_le, Below, none, holds, fails, by_threads, others}

abbrev row_as : ℕ → Did → Row
row_as i d = record { thread = i; access = d.access; answer = 0; got = d.got; exc = bit d.lock.exc; rc = d.lock.rc.0 }

one_at_most : (L : Lock) (r : Rec) → stale L r ≤ 1
one_at_most L r = go (is r.place ReadTry && not (unmoved L r))
  where
    go : (b : Bool) → bit b ≤ 1
    go true = omega arith
    go false = omega arith

-- ---- one way of the table: the own record, and any other
module _ (i : ℕ) (L : Lock) (r : Rec) (o v : ℕ) where
  own : (p : Place) (d : Did) → Move i L r o v p d → bit (lost (row_as i d)) + stale d.lock d.rec ≤ stale L (moved r p)
  own p d (by_load_below e t) = rw (eq-eqb L.rc.0 L.rc.0 refl) (omega arith)
  own p d (by_load_full e t) = omega arith
  own p d (by_try_done e t) = omega arith
  own p d (by_try_lost e t) = rw t (omega arith)
  own p d (by_check_clear e t) = omega arith
  own p d (by_check_set e t) = omega arith
  own p d (back e) = omega arith
  own p d (lend e) = omega arith
  own p d (release e) = omega arith
  own p d (by_exc_done e t) = omega arith
  own p d (by_exc_lost e t) = omega arith
  own p d (into_done e t) = omega arith
  own p d (into_lost e t) = omega arith
  own p d (by_wait_done e t) = omega arith
  own p d (by_wait_more e t) = omega arith
  own p d (take e) = omega arith
  own p d (take_last e) = omega arith
  own p d (put e) = omega arith
  own p d (store e) = omega arith
  own p d (drop_read e) = omega arith
  own p d (drop_write e) = omega arith

  -- the count changes in three of the ways
  other : (q : Rec) (p : Place) (d : Did) → Move i L r o v p d → stale d.lock q ≤ stale L q + bit (changes (row_as i d))
  other q p d (by_load_below e t) = omega arith
  other q p d (by_load_full e t) = omega arith
  other q p d (by_try_done e t) = omega (arith, one_at_most d.lock q)
  other q p d (by_try_lost e t) = omega arith
  other q p d (by_check_clear e t) = omega arith
  other q p d (by_check_set e t) = omega arith
  other q p d (back e) = omega (arith, one_at_most d.lock q)
  other q p d (lend e) = omega arith
  other q p d (release e) = omega (arith, one_at_most d.lock q)
  other q p d (by_exc_done e t) = omega arith
  other q p d (by_exc_lost e t) = omega arith
  other q p d (into_done e t) = omega arith
  other q p d (into_lost e t) = omega arith
  other q p d (by_wait_done e t) = omega arith
  other q p d (by_wait_more e t) = omega arith
  other q p d (take e) = omega arith
  other q p d (take_last e) = omega arith
  other q p d (put e) = omega arith
  other q p d (store e) = omega arith
  other q p d (drop_read e) = omega arith
  other q p d (drop_write e) = omega arith

-- ---- one entry
both : (a : Bool) → (a && true) ≡ a
both true = refl
both false = refl

neither : (a : Bool) → (a && false) ≡ false
neither true = refl
neither false = refl

module _ (S : Scripts) (L : Lock) (l : List Rec) (i : ℕ) where
  -- for thread t, whose row this is or not
  abbrev Paid : Result Did ℕ → ℕ → Type 0
  Paid out t =
      let w = settle L l i out in
      bit (lost w.row && by t w.row) + stale w.lock (here w.recs t) ≤ bit (changes w.row && not (by t w.row)) + stale L (here l t)

  accepts : Passed S L l i → (d : Did) → MoveOf S L l i d → (t : ℕ) → Paid (Ok d) t
  accepts p d mv t = go t (eqb i t) refl
    where
      Each : ℕ → Bool → Type 0
      Each t b =
          bit (lost (row_as i d) && b) + stale d.lock (here (set l i d.rec) t) ≤ bit (changes (row_as i d) && not b) + stale L (here l t)

      mine : Each i true
      mine =
          rw (both (lost (row_as i d)), neither (changes (row_as i d)), get_or-set_same l i d.rec unbegun p.thread)
          (omega (arith, own i L (here l i) _ _ _ d mv))

      go : (t : ℕ) (b : Bool) → eqb i t ≡ b → Each t b
      go t true e = subst (λ (u : ℕ). Each u true) (eqb-true i t e) mine
      go t false e =
          rw (both (changes (row_as i d)), neither (lost (row_as i d)), get_or-set_other l i t d.rec unbegun (λ q. eqb-false i t e (sym q)))
          (omega (arith, other i L (here l i) _ _ (here l t) _ d mv))

  paid : (t : ℕ) → let x = step S L l i in bit (lost x.row && by t x.row) + stale x.lock (here x.recs t) ≤ bit (changes x.row && not (by t x.row)) + stale L (here l t)
  unfolding step
  paid t = answered (λ out. Paid out t) S L l i (λ k. omega arith) (λ p d mv. accepts p d mv t)

  -- only a thread that the records have makes an access
  below : (test : Row → Bool) → ((k : ℕ) → test (settle L l i (Err k)).row ≡ false) → (rows : List Row) → Below (length l) test rows
      → Below (length l) test ((step S L l i).row ∷ rows)
  unfolding step
  below test not_refused rows b =
      answered (λ out. Below (length l) test ((settle L l i out).row ∷ rows)) S L l i (λ k. fails (not_refused k) b) (λ p d mv. go p d (test (row_as i d)) refl)
    where
      go : Passed S L l i → (d : Did) (x : Bool) → test (row_as i d) ≡ x → Below (length l) test (row_as i d ∷ rows)
      go p d true e = holds e p.thread b
      go p d false e = fails e b

-- ---- every schedule
pub lost_on_the_way : LostOnTheWay
unfolding run counted
lost_on_the_way S L l [] t = omega arith
lost_on_the_way S L l (i ∷ more) t =
    let x = step S L l i in
    omega (arith, paid S L l i t, lost_on_the_way S x.lock x.recs more t)

all_below : (test : Row → Bool) (S : Scripts) → ((L : Lock) (l : List Rec) (i k : ℕ) → test (settle L l i (Err k)).row ≡ false)
    → (L : Lock) (l : List Rec) (schedule : List ℕ) → Below (length l) test (run S L l schedule).rows
unfolding run
all_below test S not_refused L l [] = none
all_below test S not_refused L l (i ∷ more) =
    let x = step S L l i in
    below S L l i test (not_refused L l i) _ (rw (step_length S L l i) at (all_below test S not_refused x.lock x.recs more))

pub lost_below : (S : Scripts) (L : Lock) (l : List Rec) (schedule : List ℕ) → Below (length l) lost (run S L l schedule).rows
lost_below S = all_below lost S (λ L l i k. refl)

pub changes_below : (S : Scripts) (L : Lock) (l : List Rec) (schedule : List ℕ) → Below (length l) changes (run S L l schedule).rows
changes_below S = all_below changes S (λ L l i k. refl)

-- as many as the others of each thread, over all threads
less_one : (n c x : ℕ) → x + c ≡ c * n → x ≤ (n - 1) * c
less_one zero c x e = omega (arith, e)
less_one (suc n) c x e =
    let less : suc n - 1 ≡ n = omega arith in
    rw less (omega (arith, e, suc-mul n c, mul_comm c (suc n)))

pub all_on_the_way : AllOnTheWay
all_on_the_way S L l schedule =
    let w = run S L l schedule in
    let rows = w.rows in
    let l' = w.recs in
    let same : length l' ≡ length l = run_length S L l schedule in
    let lost_all : sum (λ t r. lost_by t rows) 0 l' ≡ counted lost rows = by_threads lost l' rows (rw same (lost_below S L l schedule)) in
    let most : sum (λ t r. changed_by_others t rows) 0 l ≤ most_lost (length l) rows =
    less_one (length l) (counted changes rows) _ (others changes l rows (changes_below S L l schedule))
    in
    omega (
      arith,
      lost_all,
      most,
      sum_add (λ t r. lost_by t rows) (λ t r. stale w.lock r) 0 l',
      sum_add (λ t r. changed_by_others t rows) (λ t r. stale L r) 0 l,
      sums_le (λ t r. lost_by t rows + stale w.lock r) (λ t r. changed_by_others t rows + stale L r) 0 l' l same (λ t. let here : 0 + t ≡ t = omega arith in rw here (lost_on_the_way S L l schedule t)),
    )

-- ---- from setup
fresh_idle : (n t : ℕ) → here (fresh n) t ≡ unbegun
fresh_idle zero t = refl
fresh_idle (suc n) zero = refl
fresh_idle (suc n) (suc t) = fresh_idle n t

pub lost_by_one : LostByOne
lost_by_one S q m v n top ok schedule t =
    let start : stale (unused q m v) (here (fresh n) t) ≡ 0 = ap (stale (unused q m v)) (fresh_idle n t) in
    omega (arith, start, lost_on_the_way S (unused q m v) (fresh n) schedule t)

pub lost_by_all : LostByAll
lost_by_all S q m v n top ok schedule =
    let w = run S (unused q m v) (fresh n) schedule in
    let start : stale_among (unused q m v) (fresh n) ≡ 0 = sum_none (λ j r. stale (unused q m v) r) unbegun (λ k. refl) 0 n in
    let same : length w.recs ≡ length (fresh n) = run_length S (unused q m v) (fresh n) schedule in
    rw same (omega (arith, start, all_on_the_way S (unused q m v) (fresh n) schedule))
