-- The three demands, said of what the functions of `lock` return, so that a user of them needs no definition's text.
use Rattle.std.specs.Prelude.{ℕ, ◌*◌, ◌<◌, ◌≤◌, min, ◌/◌, ◌≡◌, ◌≢◌, true, false, List, [], ◌∷◌, ◌++◌, reverse, length, get_or, take, drop, None}
use Rattle.cell.specs.Value.{is_full}
use Rattle.cell.specs.declared.pred.Pred.{Pred}
use Rattle.machine.specs.Names.{most_threads, row_words}
use Rattle.machine.specs.Step.{here}
use Rattle.machine.specs.Words.{bit}
use Rattle.machine.specs.Lists.{Lent, scripts_of}
use Rattle.machine.specs.Sound.{Sound}
use Rattle.machine.specs.Tidy.{Tidy, bound}
use Rattle.machine.specs.Trace.{Told}
use Rattle.machine.specs.RunLaws.{zero_answers}
use Rattle.machine.specs.Drain.{Order, DrainLeft, drain_lent}
use Rattle.machine.specs.Ends.{AllAccepted}
use Rattle.machine.specs.Run.{run, RunLeft, run_lent}
use Rattle.machine.specs.Demands.{Safe}
use Rattle.machine.specs.declared.Lock.{Lock}
use Rattle.machine.specs.declared.Rec.{Rec}
use Rattle.machine.specs.declared.Row.{Row}
use Rattle.machine.specs.declared.Refusal.{Refusal}
use Rattle.machine.specs.declared.Place.TheVariants.{Idle}
use Rattle.std.specs.Prelude.{Err}
use Rattle.lock.specs.declared.run.RunReturn.{RunReturn}
use Rattle.lock.specs.declared.setup.Begun.{Begun}
use Rattle.lock.specs.declared.drain.DrainReturn.{DrainReturn}
use Rattle.lock_promises.specs.Given.{ReturnedBySetup, ReturnedByRun, LeftByRun, ReturnedByRest, LeftByRest, ReturnedByDrain, refusal_in}
use Rattle.lock_promises.specs.Reached.{Reached, ReachedByValue}

-- ---- demand 1: a refused call changes nothing that is lent
abbrev pub RefusedSetup : Type 0
RefusedSetup =
    (s : Lent) (q : Pred) (m v count : ℕ) (recs : List Rec) (b : Begun) (why : Refusal) → ReturnedBySetup s q m v count recs b → b.start ≡ Err why
    → (b.recs ≡ recs) × (why.number ≢ 0)

abbrev pub RefusedRun : Type 0
RefusedRun =
    (s : Lent) (count : ℕ) (L : Lock) (recs : List Rec) (schedule : List ℕ) (budget : ℕ) (trace : List ℕ) (r : RunReturn) (trace' : List ℕ)
    → ReturnedByRun s count L recs schedule budget trace r → LeftByRun s count L recs schedule budget trace trace'
    → r.ran.refusal ≢ None
    → (r.ran.n ≡ 0) × (r.ran.done ≡ 0) × (r.ran.lock ≡ L) × (r.recs ≡ recs) × (trace' ≡ trace)

abbrev pub RefusedRest : Type 0
RefusedRest =
    (s : Lent) (count : ℕ) (L : Lock) (recs : List Rec) (schedule : List ℕ) (budget used : ℕ) (trace : List ℕ) (r : RunReturn) (trace' : List ℕ)
    → ReturnedByRest s count L recs schedule budget used trace r → LeftByRest s count L recs schedule budget used trace trace'
    → r.ran.refusal ≢ None
    → (r.ran.n ≡ 0) × (r.ran.done ≡ 0) × (r.ran.lock ≡ L) × (r.recs ≡ recs) × (trace' ≡ trace)

abbrev pub RefusedDrain : Type 0
RefusedDrain =
    (s : Lent) (count : ℕ) (L : Lock) (recs : List Rec) (d : DrainReturn) → ReturnedByDrain s count L recs d
    → d.drained.refusal ≢ None
    → (d.drained.n ≡ 0) × (d.drained.lock ≡ L) × (d.recs ≡ recs)

-- a run of one entry whose row has an answer other than 0 changes neither the lock nor a record; its row has the thread as given, access 0,
-- got 0, and the flag and the count as they stand
abbrev pub RefusedEntry : Type 0
RefusedEntry =
    (s : Lent) (count : ℕ) (L : Lock) (recs : List Rec) (i budget : ℕ) (trace : List ℕ) (r : RunReturn) (trace' : List ℕ)
    → ReturnedByRun s count L recs (i ∷ []) budget trace r → LeftByRun s count L recs (i ∷ []) budget trace trace'
    → r.ran.n ≡ 1 → get_or trace' 2 0 ≢ 0
    → (r.ran.lock ≡ L)
    × (r.recs ≡ recs)
    × (r.ran.done ≡ 0)
    × (take row_words trace' ≡ i ∷ 0 ∷ get_or trace' 2 0 ∷ 0 ∷ bit L.exc ∷ L.rc.0 ∷ [])

-- ---- run's rule, of the results: n, the number of answer-0 rows, and the other words
abbrev pub RunCounts : Type 0
RunCounts =
    (s : Lent) (count : ℕ) (L : Lock) (recs : List Rec) (schedule : List ℕ) (budget : ℕ) (trace : List ℕ) (r : RunReturn) (trace' : List ℕ)
    → ReturnedByRun s count L recs schedule budget trace r → LeftByRun s count L recs schedule budget trace trace'
    → length recs ≡ most_threads → r.ran.refusal ≡ None
    → (r.ran.n ≡ min budget (min (length schedule) (length trace / row_words)))
    × (r.ran.done ≡ zero_answers r.ran.n trace')
    × (drop (row_words * r.ran.n) trace' ≡ drop (row_words * r.ran.n) trace)
    × (drop count r.recs ≡ drop count recs)

-- ---- demand 2: what is true of every reached state l with the rows so far, v being the first value
pub record Kept (s : Lent) (v : ℕ) (L : Lock) (l : List Rec) (rows : List Row) : Type 0 where
  -- 2a: no writer past code 8 beside a read handle or beside a second such writer; 2b: the count is that of the pending, the held and the
  -- dropped readers, and at most M
  pub safe : Safe (scripts_of s) L l
  -- 2c: every borrow, take and into_inner got what the last finished release put, or the first value
  pub told : Told (scripts_of s) v (reverse rows)

abbrev pub Demand2 : Type 0
Demand2 =
    (s : Lent) (q : Pred) (m v : ℕ) (L : Lock) (l : List Rec) (rows : List Row) → Reached s q m v L l rows → Kept s v L l rows

abbrev pub Demand2ByValue : Type 0
Demand2ByValue =
    (s : Lent) (q : Pred) (m v count : ℕ) (L : Lock) (recs : List Rec) (rows : List Row) → ReachedByValue s q m v count L recs rows
    → Kept s v L (take count recs) rows

-- and the next run or later piece with the same scripts is not refused
abbrev pub RunsGoOn : Type 0
RunsGoOn =
    (s : Lent) (q : Pred) (m v : ℕ) (L : Lock) (l : List Rec) (rows : List Row) → Reached s q m v L l rows
    → (schedule : List ℕ) (budget : ℕ) (trace : List ℕ) (left : RunLeft) → left ≡ run_lent s L l schedule budget trace → left.refusal.number ≡ 0

abbrev pub RunsGoOnByValue : Type 0
RunsGoOnByValue =
    (s : Lent) (q : Pred) (m v count : ℕ) (L : Lock) (recs : List Rec) (rows : List Row) → ReachedByValue s q m v count L recs rows
    → (schedule : List ℕ) (budget : ℕ) (trace : List ℕ) (r : RunReturn) → ReturnedByRun s count L recs schedule budget trace r
    → r.ran.refusal ≡ None

abbrev pub RestGoesOnByValue : Type 0
RestGoesOnByValue =
    (s : Lent) (q : Pred) (m v count : ℕ) (L : Lock) (recs : List Rec) (rows : List Row) → ReachedByValue s q m v count L recs rows
    → (schedule : List ℕ) (budget used : ℕ) (trace : List ℕ) (r : RunReturn) → ReturnedByRest s count L recs schedule budget used trace r
    → r.ran.refusal ≡ None

-- ---- demand 3: what a drain from the state L, l leaves
pub record Over (s : Lent) (L : Lock) (l : List Rec) (why : Refusal) (n : ℕ) (L' : Lock) (l' : List Rec) : Type 0 where
  -- none of 5, 6, 7, 10, 17
  pub accepted : why.number ≡ 0
  -- the state that was lent is sound
  pub sound : Sound (scripts_of s) L l
  -- the entries that were made, n of them, are the drain order; no other entries are, and no other state is left by it
  pub entries : List ℕ
  pub used : n ≡ length entries
  pub order : Order (scripts_of s) L l entries L' l'
  pub only : (es : List ℕ) (M : Lock) (m : List Rec) → Order (scripts_of s) L l es M m → (es ≡ entries) × (M ≡ L') × (m ≡ l')
  -- a run of them refuses none and leaves the same
  pub none_refused : AllAccepted (run (scripts_of s) L l entries).rows
  pub same_lock : (run (scripts_of s) L l entries).lock ≡ L'
  pub same_recs : (run (scripts_of s) L l entries).recs ≡ l'
  pub bounded : n ≤ bound (scripts_of s) l
  pub size : length l' ≡ length l
  pub ended : (j : ℕ) → j < length l → ((here l' j).place ≡ Idle) × ((here l' j).at ≡ (scripts_of s).len j)
  pub clear : L'.exc ≡ false
  pub none_counted : L'.rc.0 ≡ 0
  pub full : is_full L'.cell ≡ true

-- of the first `count` records of the array; the others stay
abbrev pub OverByValue : Lent → ℕ → Lock → List Rec → DrainReturn → Type 0
OverByValue s count L recs d =
    Over s L (take count recs) (refusal_in d.drained.refusal) d.drained.n d.drained.lock (take count d.recs) × (drop count d.recs ≡ drop count recs)

-- whatever the state, a drain that is not refused leaves that
abbrev pub AcceptedDrain : Type 0
AcceptedDrain =
    (s : Lent) (L : Lock) (l : List Rec) (left : DrainLeft) → left ≡ drain_lent s L l → left.refusal.number ≡ 0
    → Over s L l left.refusal left.n left.lock left.recs

abbrev pub AcceptedDrainByValue : Type 0
AcceptedDrainByValue =
    (s : Lent) (count : ℕ) (L : Lock) (recs : List Rec) (d : DrainReturn) → ReturnedByDrain s count L recs d → length recs ≡ most_threads
    → d.drained.refusal ≡ None
    → OverByValue s count L recs d

-- then 2a and 2b hold of the state that was lent, after every entry, and of what is left
abbrev pub SafeDrain : Type 0
SafeDrain =
    (s : Lent) (L : Lock) (l : List Rec) (why : Refusal) (n : ℕ) (L' : Lock) (l' : List Rec)
    → (over : Over s L l why n L' l')
    → ((k : ℕ) → let w = run (scripts_of s) L l (take k over.entries) in Safe (scripts_of s) w.lock w.recs) × Safe (scripts_of s) L' l'

-- and it is not refused from a tidy state that calls reach
abbrev pub Demand3 : Type 0
Demand3 =
    (s : Lent) (q : Pred) (m v : ℕ) (L : Lock) (l : List Rec) (rows : List Row) → Reached s q m v L l rows → Tidy (scripts_of s) L l
    → (left : DrainLeft) → left ≡ drain_lent s L l
    → Over s L l left.refusal left.n left.lock left.recs

abbrev pub Demand3ByValue : Type 0
Demand3ByValue =
    (s : Lent) (q : Pred) (m v count : ℕ) (L : Lock) (recs : List Rec) (rows : List Row) → ReachedByValue s q m v count L recs rows
    → Tidy (scripts_of s) L (take count recs) → (d : DrainReturn) → ReturnedByDrain s count L recs d
    → OverByValue s count L recs d

-- After a drain demand 2 holds, with the rows of its entries after the others, and no run with the same scripts is refused.
abbrev pub AfterDrain : Type 0
AfterDrain =
    (s : Lent) (q : Pred) (m v : ℕ) (L : Lock) (l : List Rec) (rows : List Row) → Reached s q m v L l rows
    → (left : DrainLeft) → left ≡ drain_lent s L l → (over : Over s L l left.refusal left.n left.lock left.recs)
    → Kept s v left.lock left.recs (rows ++ (run (scripts_of s) L l over.entries).rows)
    × ((schedule : List ℕ) (budget : ℕ) (trace : List ℕ) (next : RunLeft) → next ≡ run_lent s left.lock left.recs schedule budget trace
    → next.refusal.number ≡ 0)

abbrev pub AfterDrainByValue : Type 0
AfterDrainByValue =
    (s : Lent) (q : Pred) (m v count : ℕ) (L : Lock) (recs : List Rec) (rows : List Row) → ReachedByValue s q m v count L recs rows
    → (d : DrainReturn) → ReturnedByDrain s count L recs d
    → let l = take count recs in
    (over : Over s L l (refusal_in d.drained.refusal) d.drained.n d.drained.lock (take count d.recs))
    → Kept s v d.drained.lock (take count d.recs) (rows ++ (run (scripts_of s) L l over.entries).rows)
    × ((schedule : List ℕ) (budget : ℕ) (trace : List ℕ) (r : RunReturn) → ReturnedByRun s count d.drained.lock d.recs schedule budget trace r
    → r.ran.refusal ≡ None)
