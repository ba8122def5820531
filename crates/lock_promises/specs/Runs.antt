-- A run that is not refused is machine's run of the first entries of its schedule, whatever the state: said of what the functions of
-- `lock` return, and over a list of records.
use Rattle.std.specs.Prelude.{ℕ, ◌*◌, ◌/◌, ◌<◌, min, ◌≡◌, List, length, get_or, take, drop, None}
use Rattle.machine.specs.Names.{most_threads, row_words}
use Rattle.machine.specs.Lists.{Lent, scripts_of}
use Rattle.machine.specs.Step.{step}
use Rattle.machine.specs.Sound.{Sound}
use Rattle.machine.specs.Demands.{Safe}
use Rattle.machine.specs.RunLaws.{zero_answers}
use Rattle.machine.specs.Run.{run, accepted, RunLeft, run_lent}
use Rattle.machine.specs.declared.Lock.{Lock}
use Rattle.machine.specs.declared.Rec.{Rec}
use Rattle.lock.specs.declared.run.RunReturn.{RunReturn}
use Rattle.lock_promises.specs.Given.{ReturnedByRun, LeftByRun, ReturnedByRest, LeftByRest}
use Rattle.lock_promises.specs.Reached.{row_in, rows_in}

-- n entries of the schedule are handled from the lock L and the records l; L', l' and trace' are what they leave, `zeros` the number of
-- rows with answer 0 that is given back
pub record IsRun (s : Lent) (L : Lock) (l : List Rec) (schedule : List ℕ) (budget : ℕ) (trace : List ℕ) (n zeros : ℕ) (L' : Lock) (l' : List Rec) (trace' : List ℕ) : Type 0 where
  -- the state that was lent is sound
  pub sound : Sound (scripts_of s) L l
  pub entries : n ≡ min budget (min (length schedule) (length trace / row_words))
  pub lock : L' ≡ (run (scripts_of s) L l (take n schedule)).lock
  pub recs : l' ≡ (run (scripts_of s) L l (take n schedule)).recs
  -- the rows in the trace list, in order
  pub rows : rows_in n trace' ≡ (run (scripts_of s) L l (take n schedule)).rows
  pub done : zeros ≡ accepted (run (scripts_of s) L l (take n schedule)).rows
  pub told : zeros ≡ zero_answers n trace'
  -- the words after them stay
  pub others : drop (row_words * n) trace' ≡ drop (row_words * n) trace

abbrev pub RunIsRun : Type 0
RunIsRun =
    (s : Lent) (L : Lock) (l : List Rec) (schedule : List ℕ) (budget : ℕ) (trace : List ℕ) (left : RunLeft) → left ≡ run_lent s L l schedule budget trace
    → left.refusal.number ≡ 0
    → IsRun s L l schedule budget trace left.n left.done left.lock left.recs left.trace

abbrev pub RunIsRunByValue : Type 0
RunIsRunByValue =
    (s : Lent) (count : ℕ) (L : Lock) (recs : List Rec) (schedule : List ℕ) (budget : ℕ) (trace : List ℕ) (r : RunReturn) (trace' : List ℕ)
    → ReturnedByRun s count L recs schedule budget trace r → LeftByRun s count L recs schedule budget trace trace'
    → length recs ≡ most_threads → r.ran.refusal ≡ None
    → IsRun s L (take count recs) schedule budget trace r.ran.n r.ran.done r.ran.lock (take count r.recs) trace'
    × (drop count r.recs ≡ drop count recs)

-- a later piece, by run_rest: it is a run into what comes after the first `used` rows of the trace list, and these stay
abbrev pub RestIsRunByValue : Type 0
RestIsRunByValue =
    (s : Lent) (count : ℕ) (L : Lock) (recs : List Rec) (schedule : List ℕ) (budget used : ℕ) (trace : List ℕ) (r : RunReturn) (trace' : List ℕ)
    → ReturnedByRest s count L recs schedule budget used trace r → LeftByRest s count L recs schedule budget used trace trace'
    → length recs ≡ most_threads → r.ran.refusal ≡ None
    → let k = row_words * used in
    IsRun s L (take count recs) schedule budget (drop k trace) r.ran.n r.ran.done r.ran.lock (take count r.recs) (drop k trace')
    × (take k trace' ≡ take k trace)
    × (drop count r.recs ≡ drop count recs)

-- ---- of any run, by whichever function, from whatever state
-- row k is that of machine's step of entry k, from what the first k entries leave
abbrev pub RowByRow : Type 0
RowByRow =
    (s : Lent) (L : Lock) (l : List Rec) (schedule : List ℕ) (budget : ℕ) (trace : List ℕ) (n zeros : ℕ) (L' : Lock) (l' : List Rec) (trace' : List ℕ)
    → IsRun s L l schedule budget trace n zeros L' l' trace'
    → (k : ℕ) → k < n
    → let before = run (scripts_of s) L l (take k schedule) in
    row_in (drop (row_words * k) trace') ≡ (step (scripts_of s) before.lock before.recs (get_or schedule k 0)).row

-- 2a and 2b hold of the state that was lent, after every entry, and of what is left
abbrev pub SafeThrough : Type 0
SafeThrough =
    (s : Lent) (L : Lock) (l : List Rec) (schedule : List ℕ) (budget : ℕ) (trace : List ℕ) (n zeros : ℕ) (L' : Lock) (l' : List Rec) (trace' : List ℕ)
    → IsRun s L l schedule budget trace n zeros L' l' trace'
    → ((k : ℕ) → let w = run (scripts_of s) L l (take k schedule) in Safe (scripts_of s) w.lock w.recs) × Safe (scripts_of s) L' l'
