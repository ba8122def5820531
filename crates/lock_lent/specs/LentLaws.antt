-- Laws of the lent forms: a refused call changes no lent list, a list of more than sixteen records is refused, a step is the machine's
-- step of one entry with its row, and a later piece goes on where the first ended.
use Rattle.std.specs.Prelude.{ℕ, ◌+◌, ◌*◌, ◌<◌, ◌≤◌, ◌≡◌, ◌≢◌, cond, List, [], ◌∷◌, ◌++◌, eqb, length, drop}
use Rattle.cell.specs.declared.pred.Pred.{Pred}
use Rattle.machine.specs.Demands.{RefusedSetup as OfSetup}
use Rattle.machine.specs.Names.{most_threads, unsound, row_words}
use Rattle.machine.specs.Refusals.{lowest}
use Rattle.machine.specs.Lists.{Lent, scripts_of, list_checks, beside}
use Rattle.machine.specs.Setup.{setup_refusal}
use Rattle.machine.specs.Step.{step}
use Rattle.machine.specs.Run.{words_of, run_refusal, run_lent}
use Rattle.machine.specs.Drain.{drain_refusal, drain_lent}
use Rattle.machine.specs.declared.Lock.{Lock}
use Rattle.machine.specs.declared.Rec.{Rec}
use Rattle.machine.specs.declared.Refusal.{Refusal}
use Rattle.lock_lent.specs.Run.{RanLeft, ran_of, rest_lent, rest_lent_trace, step_lent}
use Rattle.lock_lent.specs.Drain.{DrainedLeft, drained_of}

-- ---- a refused call
-- what is left: the refusal with what stands beside it, no entry, and the lock as it was
abbrev pub refused_ran : Refusal → Lock → RanLeft
refused_ran why L = record { refusal = why; n = 0; done = 0; lock = L }

abbrev pub refused_drained : Refusal → Lock → DrainedLeft
refused_drained why L = record { refusal = why; n = 0; lock = L }

-- of setup over a list `machine` says it already
abbrev pub RefusedSetup : Type 0
RefusedSetup = OfSetup

module _ (s : Lent) (L : Lock) (l : List Rec) where
  abbrev RunRefused : Type 0
  RunRefused = run_refusal s L l ≢ 0

  abbrev why : Refusal
  why = beside s (run_refusal s L l)

abbrev pub RefusedRun : Type 0
RefusedRun =
    (s : Lent) (L : Lock) (l : List Rec) (schedule : List ℕ) (budget : ℕ) (trace : List ℕ) → RunRefused s L l
    → let left = run_lent s L l schedule budget trace in (ran_of left ≡ refused_ran (why s L l) L) × (left.recs ≡ l) × (left.trace ≡ trace)

abbrev pub RefusedRest : Type 0
RefusedRest =
    (s : Lent) (L : Lock) (l : List Rec) (schedule : List ℕ) (budget used : ℕ) (trace : List ℕ) → RunRefused s L l
    → let left = rest_lent s L l schedule budget used trace in
    (ran_of left ≡ refused_ran (why s L l) L) × (left.recs ≡ l) × (rest_lent_trace s L l schedule budget used trace ≡ trace)

abbrev pub RefusedStep : Type 0
RefusedStep =
    (s : Lent) (L : Lock) (l : List Rec) (i : ℕ) (trace : List ℕ) → RunRefused s L l
    → let left = step_lent s L l i trace in (ran_of left ≡ refused_ran (why s L l) L) × (left.recs ≡ l) × (left.trace ≡ trace)

abbrev pub RefusedDrain : Type 0
RefusedDrain =
    (s : Lent) (L : Lock) (l : List Rec) → drain_refusal s L l ≢ 0
    → let left = drain_lent s L l in (drained_of left ≡ refused_drained (beside s (drain_refusal s L l)) L) × (left.recs ≡ l)

-- ---- more than sixteen records: the lists' refusal, 6 among them, and 10 where the lists have none
abbrev pub PastSixteen : Type 0
PastSixteen =
    (s : Lent) (L : Lock) (l : List Rec) → most_threads < length l
    → let k = lowest (list_checks s (length l)) in
    let refusal = cond (eqb k 0) unsound k in
    (run_refusal s L l ≡ refusal) × (drain_refusal s L l ≡ refusal)

-- setup has no 10; where the lists have as many records as lengths, the threads are too many, which is 1
abbrev pub SetupPastSixteen : Type 0
SetupPastSixteen = (q : Pred) (m v : ℕ) (s : Lent) (l : List Rec) → most_threads < length l → setup_refusal q m v s (length l) ≢ 0

-- ---- what is not refused
-- with room for a row, a step is the machine's step of that entry, its row at the start of the trace list
abbrev pub OneEntry : Type 0
OneEntry =
    (s : Lent) (L : Lock) (l : List Rec) (i : ℕ) (trace : List ℕ) → run_refusal s L l ≡ 0 → row_words ≤ length trace
    → let x = step (scripts_of s) L l i in
    let left = step_lent s L l i trace in
    (left.n ≡ 1) × (left.lock ≡ x.lock) × (left.recs ≡ x.recs) × (left.trace ≡ words_of (x.row ∷ []) ++ drop row_words trace)

-- with budgets and room that suffice, a run and a later piece leave what one run of both leaves
abbrev pub LaterPiece : Type 0
LaterPiece =
    (s : Lent) (L : Lock) (l : List Rec) (first second : List ℕ) (m n both : ℕ) (trace : List ℕ) → run_refusal s L l ≡ 0
    → length first ≤ m → length second ≤ n → length first + length second ≤ both
    → row_words * (length first + length second) ≤ length trace
    → let a = run_lent s L l first m trace in
    let b = rest_lent s a.lock a.recs second n (length first) a.trace in
    let whole = run_lent s L l (first ++ second) both trace in
    (whole.lock ≡ b.lock)
    × (whole.recs ≡ b.recs)
    × (whole.n ≡ a.n + b.n)
    × (whole.done ≡ a.done + b.done)
    × (whole.trace ≡ rest_lent_trace s a.lock a.recs second n (length first) a.trace)
