-- What is promised of an answer, over a lent list of records and with records by value: the refusal is exact, and a reason is the one that there is;
-- in a state that calls reach it is refused exactly where the next entry is; it is what a run of that entry shows; and whoever is named has a way on.
use Rattle.std.specs.Prelude.{ℕ, ◌<◌, ◌≤◌, ◌≡◌, ◌≢◌, ◌↔◌, List, [], ◌∷◌, length, take, None, Ok, Result}
use Rattle.cell.specs.declared.pred.Pred.{Pred}
use Rattle.machine.specs.Names.{row_words}
use Rattle.machine.specs.Refusals.{Nothing, Exact}
use Rattle.machine.specs.Lists.{Lent, scripts_of}
use Rattle.machine.specs.Step.{here, step}
use Rattle.machine.specs.Run.{RunLeft, run_lent}
use Rattle.machine.specs.Tidy.{Tidy}
use Rattle.machine.specs.When.{AtEntry, AtRun}
use Rattle.machine.specs.declared.Lock.{Lock}
use Rattle.machine.specs.declared.Rec.{Rec}
use Rattle.machine.specs.declared.Row.{Row}
use Rattle.machine.specs.declared.Place.TheVariants.{Idle}
use Rattle.lock.specs.declared.run.RunReturn.{RunReturn}
use Rattle.lock_promises.specs.Given.{ReturnedByRun, LeftByRun}
use Rattle.lock_promises.specs.Answers.{AtRunOf}
use Rattle.lock_promises.specs.Reached.{row_in, Reached, ReachedByValue}
use Rattle.why.specs.Reasons.{Failed, Counted, Because, Names, Answers, number_of}
use Rattle.why.specs.WayOn.{WayOut, WayOn}
use Rattle.why.specs.declared.Reason.{Reason}
use Rattle.why.specs.declared.Reason.TheVariants.{NotWaiting, CountFull, CountChanged, Flag, Readers}
use Rattle.machine.specs.declared.Refusal.{Refusal}
use Rattle.why_promises.specs.Given.{ToldByValue, ToldOfList}

-- ---- any state
abbrev pub Answered : Type 0
Answered = (s : Lent) (L : Lock) (l : List Rec) (i : ℕ) (r : Result Reason Refusal) → ToldOfList s L l i r → Answers s (AtRun s L l) L l i r

abbrev pub AnsweredByValue : Type 0
AnsweredByValue =
    (s : Lent) (count : ℕ) (L : Lock) (recs : List Rec) (i : ℕ) (r : Result Reason Refusal) → ToldByValue s count L recs i r
    → Answers s (AtRunOf s count L (take count recs)) L (take count recs) i r

-- ---- a state that calls reach: it is refused exactly as the next entry is, and else it is answered whether and why the thread waits
abbrev pub AsEntry : Lent → Lock → List Rec → ℕ → Result Reason Refusal → Type 0
AsEntry s L l i r =
    Exact (AtEntry (scripts_of s) L l i) (number_of r)
    × (Nothing (AtEntry (scripts_of s) L l i) → (y : Reason) × (r ≡ Ok y) × Because (scripts_of s) L l i y)

abbrev pub AskedOfReached : Type 0
AskedOfReached =
    (s : Lent) (q : Pred) (m v : ℕ) (L : Lock) (l : List Rec) (rows : List Row) → Reached s q m v L l rows
    → (i : ℕ) (r : Result Reason Refusal) → ToldOfList s L l i r → AsEntry s L l i r

abbrev pub AskedOfReachedByValue : Type 0
AskedOfReachedByValue =
    (s : Lent) (q : Pred) (m v count : ℕ) (L : Lock) (recs : List Rec) (rows : List Row) → ReachedByValue s q m v count L recs rows
    → (i : ℕ) (r : Result Reason Refusal) → ToldByValue s count L recs i r → AsEntry s L (take count recs) i r

-- ---- a run of that one entry writes its row: its answer is the number told, and it is a failed look or exchange exactly where waiting is told
abbrev pub Shows : Lock → Result Reason Refusal → Row → Type 0
Shows L r row = (row.answer ≡ number_of r) × ((y : Reason) → r ≡ Ok y → (y ≢ NotWaiting) ↔ Failed L.top.0 row)

abbrev pub ShownByRun : Type 0
ShownByRun =
    (s : Lent) (L : Lock) (l : List Rec) (i : ℕ) (r : Result Reason Refusal) → ToldOfList s L l i r
    → (trace : List ℕ) (left : RunLeft) → left ≡ run_lent s L l (i ∷ []) 1 trace → left.refusal.number ≡ 0 → row_words ≤ length trace
    → Shows L r (row_in left.trace)

abbrev pub ShownByRunByValue : Type 0
ShownByRunByValue =
    (s : Lent) (count : ℕ) (L : Lock) (recs : List Rec) (i : ℕ) (r : Result Reason Refusal) → ToldByValue s count L recs i r
    → (trace : List ℕ) (ran : RunReturn) (trace' : List ℕ) → ReturnedByRun s count L recs (i ∷ []) 1 trace ran
    → LeftByRun s count L recs (i ∷ []) 1 trace trace' → ran.ran.refusal ≡ None → row_words ≤ length trace
    → Shows L r (row_in trace')

-- ---- demand 3: in a tidy state whoever is named has a way on, a full count goes down, who finds the count changed looks again, and no dropped handle
-- is blamed
abbrev pub NamedGoesOn : Type 0
NamedGoesOn =
    (s : Lent) (L : Lock) (l : List Rec) (i w : ℕ) (y : Reason) (r : Result Reason Refusal) → ToldOfList s L l i r → r ≡ Ok y → Names y w → Tidy (scripts_of s) L l
    → WayOn (scripts_of s) L l w

abbrev pub NamedGoesOnByValue : Type 0
NamedGoesOnByValue =
    (s : Lent) (count : ℕ) (L : Lock) (recs : List Rec) (i w : ℕ) (y : Reason) (r : Result Reason Refusal) → ToldByValue s count L recs i r → r ≡ Ok y → Names y w
    → Tidy (scripts_of s) L (take count recs) → WayOn (scripts_of s) L (take count recs) w

-- what a thread i that waits is told in a tidy state, where no record is named
abbrev pub Unnamed : Lent → Lock → List Rec → ℕ → Reason → Type 0
Unnamed s L l i y =
    (y ≡ CountFull → (w : ℕ) × (w < length l) × Counted (here l w) × WayOut (scripts_of s) L l w)
    × (y ≡ CountChanged → let x = step (scripts_of s) L l i in (x.row.answer ≡ 0) × ((here x.recs i).place ≡ Idle))
    × (y ≢ Flag None)
    × (y ≢ Readers None)

abbrev pub OthersGoOn : Type 0
OthersGoOn = (s : Lent) (L : Lock) (l : List Rec) (i : ℕ) (y : Reason) (r : Result Reason Refusal) → ToldOfList s L l i r → r ≡ Ok y → Tidy (scripts_of s) L l → Unnamed s L l i y

abbrev pub OthersGoOnByValue : Type 0
OthersGoOnByValue =
    (s : Lent) (count : ℕ) (L : Lock) (recs : List Rec) (i : ℕ) (y : Reason) (r : Result Reason Refusal) → ToldByValue s count L recs i r → r ≡ Ok y
    → Tidy (scripts_of s) L (take count recs) → Unnamed s L (take count recs) i y
