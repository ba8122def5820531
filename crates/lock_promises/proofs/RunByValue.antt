-- What a run with records by value leaves, refused or not, and a run of one entry that is refused: of all that the contract of run
-- allows.
use Rattle.std.specs.Prelude.{None}
use Prim.Native.Nat.{ℕ, ◌*◌, ◌≤◌}
use mathlib.Core.Path.{◌≡◌, refl, sym, ap, ◌∙◌}
use mathlib.Core.Logic.{◌≢◌}
use mathlib.Core.Bool.{Bool, true, false}
use mathlib.Core.List.{List, [], ◌∷◌, ◌++◌}
use native.Mathlib.Omega.{arith}
use lib.Dec.{eqb}
use lib.ListN.{length, get_or, take, drop, take-append-drop}
use lib.Seq.{length-take-le, take_at, drop_at}
use package.borrow.Author.Tests.{eqb-true, eqb-false, ne_eqb}
use Rattle.machine.specs.Names.{no_access, most_threads, row_words}
use Rattle.machine.specs.Words.{bit}
use Rattle.machine.specs.Lists.{Lent, scripts_of, beside, some_refusal}
use Rattle.machine.specs.Step.{Scripts, entry_refusal, row_of, step}
use Rattle.machine.specs.Run.{Ran as Machine, run, accepted, words_of, entries, made_run}
use Rattle.machine.specs.declared.Lock.{Lock}
use Rattle.machine.specs.declared.Rec.{Rec}
use Rattle.machine.proofs.Words.{length_stays}
use Rattle.machine.proofs.RunLaws.{run_one, refused_entry, row_says}
use Rattle.machine.proofs.RunRule.{run_length}
use Rattle.lock.specs.ByValue.{run_refusal_of, run_of}
use Rattle.lock.specs.Run.{ran_of, rest_of, Ready}
use Rattle.lock.specs.declared.run.RunReturn.{RunReturn}
use Rattle.lock.proofs.Told.{told_some, is_none, none_some}
use Rattle.lock.proofs.Refusing.{none_refused, left}
use Rattle.lock_promises.specs.Runs.{IsRun, RunIsRunByValue, RestIsRunByValue}
use Rattle.lock_promises.proofs.Rows.{handled, row_each, rest_read_back}
use Rattle.lock_promises.proofs.Runs.{made_is_run}
use Rattle.lock_promises.proofs.Refusing.{run_told_by_value}
use Rattle.lock_promises.proofs.Reached.{ran_as}

module _
    (s : Lent) (count : ℕ) (L : Lock) (recs : List Rec) (schedule : List ℕ) (budget : ℕ) (trace : List ℕ) (r : RunReturn) (trace' : List ℕ)
    (is : r ≡ ran_of count recs (run_of s count L recs schedule budget trace)) (trace_is : trace' ≡ (run_of s count L recs schedule budget trace).trace) where
  abbrev k : ℕ
  k = run_refusal_of s count L (take count recs)

  abbrev n : ℕ
  n = entries budget schedule trace

  abbrev after : Machine
  after = run (scripts_of s) L (take count recs) (handled schedule budget trace)

  refusal_is : r.ran.refusal ≡ some_refusal (beside s k)
  refusal_is = run_told_by_value s count L recs schedule budget trace r is

  pub run_refused : r.ran.refusal ≢ None → (r.ran.n ≡ 0) × (r.ran.done ≡ 0) × (r.ran.lock ≡ L) × (r.recs ≡ recs) × (trace' ≡ trace)
  run_refused some =
      let more : k ≢ 0 = λ z. some (refusal_is ∙ is_none s k z) in
      let (same, list) = left s count L recs schedule budget trace (beside s k) (told_some s k more) in
      let all = is ∙ sym same in (
        ap (λ (x : RunReturn). x.ran.n) all,
        ap (λ (x : RunReturn). x.ran.done) all,
        ap (λ (x : RunReturn). x.ran.lock) all,
        ap (λ (x : RunReturn). x.recs) all,
        trace_is ∙ sym list,
      )

  module _ (none : r.ran.refusal ≡ None) where
    pub run_made : (r ≡ ran_of count recs (made_run (beside s 0) n trace after)) × (trace' ≡ words_of after.rows ++ drop (row_words * n) trace)
    unfolding run_of
    run_made = let zero = none_some s k (sym refusal_is ∙ none) in (is ∙ rw zero, trace_is ∙ rw zero)

    -- the count is the number of threads, and the state is sound
    pub run_ready : (count ≡ length s.lens) × Ready s L recs
    run_ready = none_refused s count L recs (none_some s k (sym refusal_is ∙ none))

    pub run_counted : length recs ≡ most_threads
        → IsRun s L (take count recs) schedule budget trace r.ran.n r.ran.done r.ran.lock (take count r.recs) trace' × (drop count r.recs ≡ drop count recs)
    run_counted wide =
        let (all, list) = run_made in
        let (same, ready) = run_ready in
        let enough : count ≤ length recs = omega (arith, ready.threads) in
        let size : length after.recs ≡ count =
        run_length (scripts_of s) L (take count recs) (handled schedule budget trace) ∙ length-take-le count recs enough
        in
        rw (all, list, take_at after.recs (drop count recs) count size)
        (made_is_run s L (take count recs) schedule budget trace (rw (← same) at ready.sound), drop_at after.recs (drop count recs) count size)

pub run_is_run_by_value : RunIsRunByValue
run_is_run_by_value s count L recs schedule budget trace r trace' is trace_is wide none =
    run_counted s count L recs schedule budget trace r trace' is trace_is none wide

pub rest_is_run_by_value : RestIsRunByValue
rest_is_run_by_value s count L recs schedule budget used trace r trace' is trace_is wide none =
    let k = row_words * used in
    let room = drop k trace in
    let n = entries budget schedule room in
    let l = take count recs in
    let list = (rest_of s count L recs schedule budget used trace).trace in
    let (piece, others) = run_counted s count L recs schedule budget room r list is refl none wide in
    let words = (run_made s count L recs schedule budget room r list is refl none).1 in
    let fits : row_words * n ≤ length room = omega arith in
    let rows = (run (scripts_of s) L l (handled schedule budget room)).rows in
    let size = ap length words ∙ length_stays rows n (row_each (scripts_of s) L l schedule budget room) room fits in
    let (there, before) = rest_read_back k trace list size in
    rw (trace_is, there) (piece, before, others)

-- ---- a run of one entry
-- it is that entry's step
pub one_run : (S : Scripts) (L : Lock) (l : List Rec) (i : ℕ) → let x = step S L l i in run S L l (i ∷ []) ≡ ran_as x.lock x.recs (x.row ∷ [])
one_run S L l i = let (lock, recs, rows) = run_one S L l i in λ j. ran_as (lock j) (recs j) (rows j)

-- a refused entry's run, whole
alone : (S : Scripts) (L : Lock) (l : List Rec) (i : ℕ) → entry_refusal S L l i ≢ 0
    → run S L l (i ∷ []) ≡ ran_as L l (row_of i L no_access (entry_refusal S L l i) 0 ∷ [])
alone S L l i some =
    let (same, stay, row) = refused_entry S L l i some in
    one_run S L l i ∙ (λ j. ran_as (same j) (stay j) (row j ∷ []))

-- its answer, read out of the trace list
answer_told : (S : Scripts) (L : Lock) (l : List Rec) (i : ℕ) (rest : List ℕ) → get_or (words_of (run S L l (i ∷ [])).rows ++ rest) 2 0 ≡ entry_refusal S L l i
unfolding words_of
answer_told S L l i rest = rw (run_one S L l i).2 (row_says S L l i).0

module _
    (s : Lent) (count : ℕ) (L : Lock) (recs : List Rec) (i budget : ℕ) (trace : List ℕ) (r : RunReturn) (trace' : List ℕ)
    (is : r ≡ ran_of count recs (run_of s count L recs (i ∷ []) budget trace)) (trace_is : trace' ≡ (run_of s count L recs (i ∷ []) budget trace).trace)
    (one : r.ran.n ≡ 1) where
  abbrev l : List Rec
  l = take count recs

  abbrev S : Scripts
  S = scripts_of s

  -- a refused run handles none
  pub not_refused : r.ran.refusal ≡ None
  not_refused = go (eqb k 0) refl
    where
      k : ℕ
      k = run_refusal_of s count L l

      told : r.ran.refusal ≡ some_refusal (beside s k)
      told = run_told_by_value s count L recs (i ∷ []) budget trace r is

      go : (b : Bool) → eqb k 0 ≡ b → r.ran.refusal ≡ None
      go true e = told ∙ is_none s k (eqb-true k 0 e)
      go false e =
          let some : r.ran.refusal ≢ None = λ z. eqb-false k 0 e (none_some s k (sym told ∙ z)) in
          absurd (omega (arith, (run_refused s count L recs (i ∷ []) budget trace r trace' is trace_is some).0))

  entry_made : (r ≡ ran_of count recs (made_run (beside s 0) 1 trace (run S L l (i ∷ [])))) × (trace' ≡ words_of (run S L l (i ∷ [])).rows ++ drop row_words trace)
  entry_made =
      let (all, list) = run_made s count L recs (i ∷ []) budget trace r trace' is trace_is not_refused in
      let n : entries budget (i ∷ []) trace ≡ 1 = sym (ap (λ (x : RunReturn). x.ran.n) all) ∙ one in
      (rw n at all, rw n at list)

  pub entry_answered : get_or trace' 2 0 ≡ entry_refusal S L l i
  entry_answered = ap (λ (t : List ℕ). get_or t 2 0) entry_made.1 ∙ answer_told S L l i (drop row_words trace)

  pub entry_refused : get_or trace' 2 0 ≢ 0
      → (r.ran.lock ≡ L)
      × (r.recs ≡ recs)
      × (r.ran.done ≡ 0)
      × (take row_words trace' ≡ i ∷ 0 ∷ get_or trace' 2 0 ∷ 0 ∷ bit L.exc ∷ L.rc.0 ∷ [])
  unfolding words_of accepted
  entry_refused some =
      let (all, list) = entry_made in
      let refused : entry_refusal S L l i ≢ 0 = λ z. some (entry_answered ∙ z) in
      rw (all, list, alone S L l i refused, ne_eqb (entry_refusal S L l i) 0 refused) (refl, take-append-drop count recs, refl, refl)
