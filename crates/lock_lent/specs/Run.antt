-- What run returns over a lent list of records, a later piece of a run, and a run of one entry.
use Rattle.std.specs.Prelude.{ℕ, ◌*◌, List, [], ◌∷◌, ◌++◌, take, drop}
use Rattle.machine.specs.Names.{row_words}
use Rattle.machine.specs.Lists.{Lent, some_refusal}
use Rattle.machine.specs.Run.{RunLeft, run_lent}
use Rattle.machine.specs.declared.Lock.{Lock}
use Rattle.machine.specs.declared.Rec.{Rec}
use Rattle.machine.specs.declared.Refusal.{Refusal}
use Rattle.lock.specs.declared.run.Ran.{Ran}

-- what a run leaves beside the lent lists
pub record RanLeft : Type 0 where
  pub refusal : Refusal
  pub n : ℕ
  pub done : ℕ
  pub lock : Lock

abbrev pub ran_of : RunLeft → RanLeft
ran_of left = record { refusal = left.refusal; n = left.n; done = left.done; lock = left.lock }

-- what is returned of it
abbrev pub ran_told : RanLeft → Ran
ran_told r = record { refusal = some_refusal r.refusal; n = r.n; done = r.done; lock = r.lock }

-- a run over what is left of the trace list after so many rows; past its end that is nothing, and no entry is run
abbrev pub rest_lent : Lent → Lock → List Rec → List ℕ → ℕ → ℕ → List ℕ → RunLeft
rest_lent s L l schedule budget used trace = run_lent s L l schedule budget (drop (row_words * used) trace)

-- the trace list afterwards: the rows before stay
abbrev pub rest_lent_trace : Lent → Lock → List Rec → List ℕ → ℕ → ℕ → List ℕ → List ℕ
rest_lent_trace s L l schedule budget used trace = take (row_words * used) trace ++ (rest_lent s L l schedule budget used trace).trace

-- one entry of the thread i: a run of that entry alone
abbrev pub step_lent : Lent → Lock → List Rec → ℕ → List ℕ → RunLeft
step_lent s L l i trace = run_lent s L l (i ∷ []) 1 trace
