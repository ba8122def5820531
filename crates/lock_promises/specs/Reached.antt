-- What a user's calls reach: a setup that makes a lock, then any runs and drains with the same scripts lent, each run into any trace
-- list; and the rows of these, in order. A run has written its rows; a drain writes none, and its rows are those of machine's run of its
-- entries. Over a list of records, and with records by value.
use Rattle.std.specs.Prelude.{ℕ, zero, suc, ◌*◌, ◌≡◌, List, [], ◌∷◌, ◌++◌, length, get_or, take, drop, None}
use Rattle.cell.specs.declared.pred.Pred.{Pred}
use Rattle.machine.specs.Names.{most_threads, row_words}
use Rattle.machine.specs.Lists.{Lent, scripts_of}
use Rattle.machine.specs.Setup.{setup, setup_recs}
use Rattle.machine.specs.Run.{run, RunLeft, run_lent}
use Rattle.machine.specs.Drain.{Order, DrainLeft, drain_lent}
use Rattle.machine.specs.declared.Lock.{Lock}
use Rattle.machine.specs.declared.Rec.{Rec}
use Rattle.machine.specs.declared.Row.{Row}
use Rattle.std.specs.Prelude.{Ok}
use Rattle.lock.specs.declared.run.RunReturn.{RunReturn}
use Rattle.lock.specs.declared.setup.Begun.{Begun}
use Rattle.lock.specs.declared.drain.DrainReturn.{DrainReturn}
use Rattle.lock_promises.specs.Given.{ReturnedBySetup, ReturnedByRun, LeftByRun, ReturnedByRest, LeftByRest, ReturnedByDrain}

-- the first row of a trace list
abbrev pub row_in : List ℕ → Row
row_in trace =
    record {
      thread = get_or trace 0 0;
      access = get_or trace 1 0;
      answer = get_or trace 2 0;
      got = get_or trace 3 0;
      exc = get_or trace 4 0;
      rc = get_or trace 5 0;
    }

-- the first n rows
unfoldable pub rows_in : ℕ → List ℕ → List Row
rows_in zero trace = []
rows_in (suc n) trace = row_in trace ∷ rows_in n (drop row_words trace)

-- over a list of records: what the calls leave is what machine's setup and run leave
pub data Reached (s : Lent) (q : Pred) (m v : ℕ) : Lock → List Rec → List Row → Type 0 where
  begun : (l : List Rec) (L : Lock) → setup q m v s (length l) ≡ Ok L → Reached s q m v L (setup_recs q m v s l) []
  ran : {L : Lock} {l : List Rec} {rows : List Row} → Reached s q m v L l rows → (schedule : List ℕ) (budget : ℕ) (trace : List ℕ) (left : RunLeft)
      → left ≡ run_lent s L l schedule budget trace
      → Reached s q m v left.lock left.recs (rows ++ rows_in left.n left.trace)
  -- a drain that is not refused; es are its entries
  drained : {L : Lock} {l : List Rec} {rows : List Row} → Reached s q m v L l rows → (left : DrainLeft) (es : List ℕ)
      → left ≡ drain_lent s L l → left.refusal.number ≡ 0 → Order (scripts_of s) L l es left.lock left.recs
      → Reached s q m v left.lock left.recs (rows ++ (run (scripts_of s) L l es).rows)

-- with records by value, `count` of them in an array of sixteen: b, r and d are what the contracts of lock's setup, run, run_rest and
-- drain allow, and trace' is what they allow as the trace list afterwards
pub data ReachedByValue (s : Lent) (q : Pred) (m v count : ℕ) : Lock → List Rec → List Row → Type 0 where
  begun : (recs : List Rec) (b : Begun) (L : Lock) → length recs ≡ most_threads → ReturnedBySetup s q m v count recs b → b.start ≡ Ok L
      → ReachedByValue s q m v count L b.recs []
  ran : {L : Lock} {recs : List Rec} {rows : List Row} → ReachedByValue s q m v count L recs rows
      → (schedule : List ℕ) (budget : ℕ) (trace : List ℕ) (r : RunReturn) (trace' : List ℕ)
      → ReturnedByRun s count L recs schedule budget trace r → LeftByRun s count L recs schedule budget trace trace'
      → ReachedByValue s q m v count r.ran.lock r.recs (rows ++ rows_in r.ran.n trace')
  -- a later piece, by run_rest: its rows come after the first `used` ones of the trace list
  ran_on : {L : Lock} {recs : List Rec} {rows : List Row} → ReachedByValue s q m v count L recs rows
      → (schedule : List ℕ) (budget used : ℕ) (trace : List ℕ) (r : RunReturn) (trace' : List ℕ)
      → ReturnedByRest s count L recs schedule budget used trace r → LeftByRest s count L recs schedule budget used trace trace'
      → ReachedByValue s q m v count r.ran.lock r.recs (rows ++ rows_in r.ran.n (drop (row_words * used) trace'))
  drained : {L : Lock} {recs : List Rec} {rows : List Row} → ReachedByValue s q m v count L recs rows → (d : DrainReturn) (es : List ℕ)
      → ReturnedByDrain s count L recs d → d.drained.refusal ≡ None
      → Order (scripts_of s) L (take count recs) es d.drained.lock (take count d.recs)
      → ReachedByValue s q m v count d.drained.lock d.recs (rows ++ (run (scripts_of s) L (take count recs) es).rows)
