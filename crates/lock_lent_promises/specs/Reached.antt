-- What calls of `lock_lent` reach: a setup over a lent list of records that makes a lock, then any runs, later pieces, steps and drains
-- with the same scripts lent; and the rows that they have written, in order, a drain's being those of machine's run of its entries.
use Rattle.std.specs.Prelude.{ℕ, ◌*◌, ◌≡◌, List, [], ◌++◌, length, drop, None}
use Rattle.cell.specs.declared.pred.Pred.{Pred}
use Rattle.machine.specs.Names.{row_words}
use Rattle.machine.specs.Lists.{Lent, scripts_of}
use Rattle.machine.specs.Setup.{setup, setup_recs}
use Rattle.machine.specs.Run.{run, RunLeft, run_lent}
use Rattle.machine.specs.Drain.{Order, drain_lent}
use Rattle.machine.specs.declared.Lock.{Lock}
use Rattle.machine.specs.declared.Rec.{Rec}
use Rattle.machine.specs.declared.Row.{Row}
use Rattle.std.specs.Prelude.{Ok, Result}
use Rattle.machine.specs.declared.Refusal.{Refusal}
use Rattle.lock_lent.specs.Run.{ran_of, ran_told, rest_lent, rest_lent_trace, step_lent}
use Rattle.lock_lent.specs.Drain.{drained_of, drained_told}
use Rattle.lock.specs.declared.run.Ran.{Ran}
use Rattle.lock.specs.declared.drain.Drained.{Drained}
use Rattle.lock_promises.specs.Reached.{rows_in}

-- what the functions give: r is returned, l' and trace' stand in the lent lists of records and of rows afterwards. `Cited` says that these
-- are what their contracts say
abbrev pub Gives : RunLeft → List ℕ → Ran → List Rec → List ℕ → Type 0
Gives left list r l' trace' = (r ≡ ran_told (ran_of left)) × (l' ≡ left.recs) × (trace' ≡ list)

abbrev pub GivenByRun : Lent → Lock → List Rec → List ℕ → ℕ → List ℕ → Ran → List Rec → List ℕ → Type 0
GivenByRun s L l schedule budget trace = let left = run_lent s L l schedule budget trace in Gives left left.trace

abbrev pub GivenByRest : Lent → Lock → List Rec → List ℕ → ℕ → ℕ → List ℕ → Ran → List Rec → List ℕ → Type 0
GivenByRest s L l schedule budget used trace =
    Gives (rest_lent s L l schedule budget used trace) (rest_lent_trace s L l schedule budget used trace)

abbrev pub GivenByStep : Lent → Lock → List Rec → ℕ → List ℕ → Ran → List Rec → List ℕ → Type 0
GivenByStep s L l i trace = let left = step_lent s L l i trace in Gives left left.trace

abbrev pub GivenBySetup : Lent → Pred → ℕ → ℕ → List Rec → Result Lock Refusal → List Rec → Type 0
GivenBySetup s q m v l start l' = (start ≡ setup q m v s (length l)) × (l' ≡ setup_recs q m v s l)

abbrev pub GivenByDrain : Lent → Lock → List Rec → Drained → List Rec → Type 0
GivenByDrain s L l d l' = (d ≡ drained_told (drained_of (drain_lent s L l))) × (l' ≡ (drain_lent s L l).recs)

pub data ReachedLent (s : Lent) (q : Pred) (m v : ℕ) : Lock → List Rec → List Row → Type 0 where
  begun : (l : List Rec) (start : Result Lock Refusal) (l' : List Rec) (L : Lock) → GivenBySetup s q m v l start l' → start ≡ Ok L
      → ReachedLent s q m v L l' []
  ran : {L : Lock} {l : List Rec} {rows : List Row} → ReachedLent s q m v L l rows
      → (schedule : List ℕ) (budget : ℕ) (trace : List ℕ) (r : Ran) (l' : List Rec) (trace' : List ℕ)
      → GivenByRun s L l schedule budget trace r l' trace'
      → ReachedLent s q m v r.lock l' (rows ++ rows_in r.n trace')
  -- a later piece: its rows come after the first `used` ones of the trace list
  ran_on : {L : Lock} {l : List Rec} {rows : List Row} → ReachedLent s q m v L l rows
      → (schedule : List ℕ) (budget used : ℕ) (trace : List ℕ) (r : Ran) (l' : List Rec) (trace' : List ℕ)
      → GivenByRest s L l schedule budget used trace r l' trace'
      → ReachedLent s q m v r.lock l' (rows ++ rows_in r.n (drop (row_words * used) trace'))
  stepped : {L : Lock} {l : List Rec} {rows : List Row} → ReachedLent s q m v L l rows
      → (i : ℕ) (trace : List ℕ) (r : Ran) (l' : List Rec) (trace' : List ℕ)
      → GivenByStep s L l i trace r l' trace'
      → ReachedLent s q m v r.lock l' (rows ++ rows_in r.n trace')
  -- a drain that is not refused; es are its entries
  drained : {L : Lock} {l : List Rec} {rows : List Row} → ReachedLent s q m v L l rows → (d : Drained) (l' : List Rec) (es : List ℕ)
      → GivenByDrain s L l d l' → d.refusal ≡ None
      → Order (scripts_of s) L l es d.lock l'
      → ReachedLent s q m v d.lock l' (rows ++ (run (scripts_of s) L l es).rows)
