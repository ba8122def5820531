-- The three demands, said of what the functions of `lock_lent` return and leave in the lent lists.
use Rattle.std.specs.Prelude.{ℕ, ◌≡◌, ◌≢◌, List, ◌++◌, get_or, None}
use Rattle.cell.specs.declared.pred.Pred.{Pred}
use Rattle.machine.specs.Lists.{Lent, scripts_of}
use Rattle.machine.specs.Run.{run}
use Rattle.machine.specs.Tidy.{Tidy}
use Rattle.machine.specs.declared.Lock.{Lock}
use Rattle.machine.specs.declared.Rec.{Rec}
use Rattle.machine.specs.declared.Row.{Row}
use Rattle.machine.specs.declared.Refusal.{Refusal}
use Rattle.std.specs.Prelude.{Err, Result}
use Rattle.lock.specs.declared.run.Ran.{Ran}
use Rattle.lock.specs.declared.drain.Drained.{Drained}
use Rattle.lock_promises.specs.Reached.{row_in, Reached}
use Rattle.lock_promises.specs.Given.{refusal_in}
use Rattle.lock_promises.specs.Promises.{Kept, Over}
use Rattle.lock_promises.specs.Accesses.{Entered}
use Rattle.lock_lent_promises.specs.Reached.{GivenBySetup, GivenByRun, GivenByRest, GivenByStep, GivenByDrain, ReachedLent}

-- what the lent functions reach is reached
abbrev pub LentIsReached : Type 0
LentIsReached = (s : Lent) (q : Pred) (m v : ℕ) (L : Lock) (l : List Rec) (rows : List Row) → ReachedLent s q m v L l rows → Reached s q m v L l rows

-- ---- demand 1: a refused call changes nothing that is lent
abbrev pub RefusedSetup : Type 0
RefusedSetup =
    (s : Lent) (q : Pred) (m v : ℕ) (l : List Rec) (start : Result Lock Refusal) (l' : List Rec) (why : Refusal)
    → GivenBySetup s q m v l start l' → start ≡ Err why
    → (l' ≡ l) × (why.number ≢ 0)

-- what is left where nothing changed: no entry, no row
abbrev pub Unchanged : Lock → List Rec → List ℕ → Ran → List Rec → List ℕ → Type 0
Unchanged L l trace r l' trace' = (r.n ≡ 0) × (r.done ≡ 0) × (r.lock ≡ L) × (l' ≡ l) × (trace' ≡ trace)

abbrev pub RefusedRun : Type 0
RefusedRun =
    (s : Lent) (L : Lock) (l : List Rec) (schedule : List ℕ) (budget : ℕ) (trace : List ℕ) (r : Ran) (l' : List Rec) (trace' : List ℕ)
    → GivenByRun s L l schedule budget trace r l' trace' → r.refusal ≢ None → Unchanged L l trace r l' trace'

abbrev pub RefusedRest : Type 0
RefusedRest =
    (s : Lent) (L : Lock) (l : List Rec) (schedule : List ℕ) (budget used : ℕ) (trace : List ℕ) (r : Ran) (l' : List Rec) (trace' : List ℕ)
    → GivenByRest s L l schedule budget used trace r l' trace' → r.refusal ≢ None → Unchanged L l trace r l' trace'

abbrev pub RefusedStep : Type 0
RefusedStep =
    (s : Lent) (L : Lock) (l : List Rec) (i : ℕ) (trace : List ℕ) (r : Ran) (l' : List Rec) (trace' : List ℕ)
    → GivenByStep s L l i trace r l' trace' → r.refusal ≢ None → Unchanged L l trace r l' trace'

abbrev pub RefusedDrain : Type 0
RefusedDrain =
    (s : Lent) (L : Lock) (l : List Rec) (d : Drained) (l' : List Rec) → GivenByDrain s L l d l'
    → d.refusal ≢ None
    → (d.n ≡ 0) × (d.lock ≡ L) × (l' ≡ l)

-- ---- demand 2, and the next run, later piece or step with the same scripts is not refused
abbrev pub Demand2 : Type 0
Demand2 = (s : Lent) (q : Pred) (m v : ℕ) (L : Lock) (l : List Rec) (rows : List Row) → ReachedLent s q m v L l rows → Kept s v L l rows

abbrev pub RunsGoOn : Type 0
RunsGoOn =
    (s : Lent) (q : Pred) (m v : ℕ) (L : Lock) (l : List Rec) (rows : List Row) → ReachedLent s q m v L l rows
    → (schedule : List ℕ) (budget : ℕ) (trace : List ℕ) (r : Ran) (l' : List Rec) (trace' : List ℕ)
    → GivenByRun s L l schedule budget trace r l' trace' → r.refusal ≡ None

abbrev pub RestGoesOn : Type 0
RestGoesOn =
    (s : Lent) (q : Pred) (m v : ℕ) (L : Lock) (l : List Rec) (rows : List Row) → ReachedLent s q m v L l rows
    → (schedule : List ℕ) (budget used : ℕ) (trace : List ℕ) (r : Ran) (l' : List Rec) (trace' : List ℕ)
    → GivenByRest s L l schedule budget used trace r l' trace' → r.refusal ≡ None

abbrev pub StepGoesOn : Type 0
StepGoesOn =
    (s : Lent) (q : Pred) (m v : ℕ) (L : Lock) (l : List Rec) (rows : List Row) → ReachedLent s q m v L l rows
    → (i : ℕ) (trace : List ℕ) (r : Ran) (l' : List Rec) (trace' : List ℕ) → GivenByStep s L l i trace r l' trace' → r.refusal ≡ None

-- ---- a step whose row has the answer 0
abbrev pub AcceptedStep : Type 0
AcceptedStep =
    (s : Lent) (L : Lock) (l : List Rec) (i : ℕ) (trace : List ℕ) (r : Ran) (l' : List Rec) (trace' : List ℕ) → GivenByStep s L l i trace r l' trace'
    → r.n ≡ 1 → get_or trace' 2 0 ≡ 0
    → Entered (scripts_of s) L l i r.lock l' (row_in trace')

-- ---- demand 3: what a drain from the state L, l leaves
abbrev pub Ended : Lent → Lock → List Rec → Drained → List Rec → Type 0
Ended s L l d l' = Over s L l (refusal_in d.refusal) d.n d.lock l'

abbrev pub Demand3 : Type 0
Demand3 =
    (s : Lent) (q : Pred) (m v : ℕ) (L : Lock) (l : List Rec) (rows : List Row) → ReachedLent s q m v L l rows → Tidy (scripts_of s) L l
    → (d : Drained) (l' : List Rec) → GivenByDrain s L l d l'
    → Ended s L l d l'

-- whatever the state, a drain that is not refused leaves that
abbrev pub AcceptedDrain : Type 0
AcceptedDrain =
    (s : Lent) (L : Lock) (l : List Rec) (d : Drained) (l' : List Rec) → GivenByDrain s L l d l'
    → d.refusal ≡ None
    → Ended s L l d l'

-- After a drain demand 2 holds, with the rows of its entries after the others, and no run with the same scripts is refused.
abbrev pub AfterDrain : Type 0
AfterDrain =
    (s : Lent) (q : Pred) (m v : ℕ) (L : Lock) (l : List Rec) (rows : List Row) → ReachedLent s q m v L l rows
    → (d : Drained) (l' : List Rec) → GivenByDrain s L l d l'
    → (over : Ended s L l d l')
    → Kept s v d.lock l' (rows ++ (run (scripts_of s) L l over.entries).rows)
    × ((schedule : List ℕ) (budget : ℕ) (trace : List ℕ) (r : Ran) (l'' : List Rec) (trace' : List ℕ)
    → GivenByRun s d.lock l' schedule budget trace r l'' trace' → r.refusal ≡ None)
