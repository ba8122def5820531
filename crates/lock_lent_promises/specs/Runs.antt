-- What a run over a lent list, a later piece and a run of one entry leave, and that their answers are exact, whatever the state: said of
-- what the functions of `lock_lent` return and leave in the lent lists.
use Rattle.std.specs.Prelude.{ℕ, ◌*◌, ◌≤◌, ◌≡◌, ◌≢◌, List, [], ◌∷◌, ◌++◌, eqb, length, get_or, take, drop, None}
use Rattle.cell.specs.declared.pred.Pred.{Pred}
use Rattle.machine.specs.Names.{row_words}
use Rattle.machine.specs.Words.{bit}
use Rattle.machine.specs.Refusals.{Exact}
use Rattle.machine.specs.Lists.{Lent, scripts_of}
use Rattle.machine.specs.Step.{step}
use Rattle.machine.specs.Run.{words_of}
use Rattle.machine.specs.When.{AtEntry, AtRun, AtDrain}
use Rattle.machine.specs.declared.Lock.{Lock}
use Rattle.machine.specs.declared.Rec.{Rec}
use Rattle.std.specs.Prelude.{Ok, Result}
use Rattle.machine.specs.declared.Refusal.{Refusal}
use Rattle.lock.specs.declared.run.Ran.{Ran}
use Rattle.lock.specs.declared.drain.Drained.{Drained}
use Rattle.lock_promises.specs.Given.{refusal_in}
use Rattle.lock_promises.specs.Runs.{IsRun}
use Rattle.lock_promises.specs.Answers.{ExactRefusal, SetupSays, BeginsWith}
use Rattle.lock_lent_promises.specs.Reached.{GivenBySetup, GivenByRun, GivenByRest, GivenByStep, GivenByDrain}

-- ---- a run that is not refused is machine's run of the first entries of its schedule
abbrev pub RunIsRun : Type 0
RunIsRun =
    (s : Lent) (L : Lock) (l : List Rec) (schedule : List ℕ) (budget : ℕ) (trace : List ℕ) (r : Ran) (l' : List Rec) (trace' : List ℕ)
    → GivenByRun s L l schedule budget trace r l' trace' → r.refusal ≡ None
    → IsRun s L l schedule budget trace r.n r.done r.lock l' trace'

-- a later piece is a run into what comes after the first `used` rows of the trace list, and these stay
abbrev pub RestIsRun : Type 0
RestIsRun =
    (s : Lent) (L : Lock) (l : List Rec) (schedule : List ℕ) (budget used : ℕ) (trace : List ℕ) (r : Ran) (l' : List Rec) (trace' : List ℕ)
    → GivenByRest s L l schedule budget used trace r l' trace' → r.refusal ≡ None
    → let k = row_words * used in
    IsRun s L l schedule budget (drop k trace) r.n r.done r.lock l' (drop k trace') × (take k trace' ≡ take k trace)

-- a step is a run of one entry with a budget of 1, so what is said of runs is said of steps
abbrev pub StepIsRun : Type 0
StepIsRun =
    (s : Lent) (L : Lock) (l : List Rec) (i : ℕ) (trace : List ℕ) (r : Ran) (l' : List Rec) (trace' : List ℕ) → GivenByStep s L l i trace r l' trace'
    → GivenByRun s L l (i ∷ []) 1 trace r l' trace'

-- ---- a run of one entry
-- not refused, with a budget and room for a row, it is machine's step
abbrev pub OneEntry : Type 0
OneEntry =
    (s : Lent) (L : Lock) (l : List Rec) (i budget : ℕ) (trace : List ℕ) (r : Ran) (l' : List Rec) (trace' : List ℕ)
    → GivenByRun s L l (i ∷ []) budget trace r l' trace'
    → r.refusal ≡ None → 1 ≤ budget → row_words ≤ length trace
    → let x = step (scripts_of s) L l i in
    (r.n ≡ 1)
    × (r.done ≡ bit (eqb x.row.answer 0))
    × (r.lock ≡ x.lock)
    × (l' ≡ x.recs)
    × (trace' ≡ words_of (x.row ∷ []) ++ drop row_words trace)

-- the answer in its row is exact
abbrev pub EntryAnswer : Type 0
EntryAnswer =
    (s : Lent) (L : Lock) (l : List Rec) (i budget : ℕ) (trace : List ℕ) (r : Ran) (l' : List Rec) (trace' : List ℕ)
    → GivenByRun s L l (i ∷ []) budget trace r l' trace' → r.n ≡ 1
    → Exact (AtEntry (scripts_of s) L l i) (get_or trace' 2 0)

-- with an answer other than 0 it changes neither the lock nor a record; its row has the thread as given, access 0, got 0, and the flag
-- and the count as they stand
abbrev pub RefusedEntry : Type 0
RefusedEntry =
    (s : Lent) (L : Lock) (l : List Rec) (i budget : ℕ) (trace : List ℕ) (r : Ran) (l' : List Rec) (trace' : List ℕ)
    → GivenByRun s L l (i ∷ []) budget trace r l' trace' → r.n ≡ 1 → get_or trace' 2 0 ≢ 0
    → (r.lock ≡ L)
    × (l' ≡ l)
    × (r.done ≡ 0)
    × (take row_words trace' ≡ i ∷ 0 ∷ get_or trace' 2 0 ∷ 0 ∷ bit L.exc ∷ L.rc.0 ∷ [])

-- ---- the refusals are exact; and the state after setup
abbrev pub SetupAnswer : Type 0
SetupAnswer =
    (s : Lent) (q : Pred) (m v : ℕ) (l : List Rec) (start : Result Lock Refusal) (l' : List Rec) → GivenBySetup s q m v l start l'
    → SetupSays q m v s (length l) start

abbrev pub SetupState : Type 0
SetupState =
    (s : Lent) (q : Pred) (m v : ℕ) (l : List Rec) (start : Result Lock Refusal) (l' : List Rec) (L : Lock) → GivenBySetup s q m v l start l' → start ≡ Ok L
    → BeginsWith q m v L (length l) l'

abbrev pub RunAnswer : Type 0
RunAnswer =
    (s : Lent) (L : Lock) (l : List Rec) (schedule : List ℕ) (budget : ℕ) (trace : List ℕ) (r : Ran) (l' : List Rec) (trace' : List ℕ)
    → GivenByRun s L l schedule budget trace r l' trace'
    → ExactRefusal (AtRun s L l) s (refusal_in r.refusal)

abbrev pub RestAnswer : Type 0
RestAnswer =
    (s : Lent) (L : Lock) (l : List Rec) (schedule : List ℕ) (budget used : ℕ) (trace : List ℕ) (r : Ran) (l' : List Rec) (trace' : List ℕ)
    → GivenByRest s L l schedule budget used trace r l' trace'
    → ExactRefusal (AtRun s L l) s (refusal_in r.refusal)

abbrev pub DrainAnswer : Type 0
DrainAnswer =
    (s : Lent) (L : Lock) (l : List Rec) (d : Drained) (l' : List Rec) → GivenByDrain s L l d l' → ExactRefusal (AtDrain s L l) s (refusal_in d.refusal)
