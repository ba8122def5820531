-- What the code of a run returns, and what the entries of a run that is not refused ask.
use Rattle.std.specs.Prelude.{ℕ, ◌*◌, ◌<◌, ◌≤◌, ◌≡◌, List, ◌++◌, length, take, drop}
use Rattle.machine.specs.Names.{most_threads, longest_script, row_words}
use Rattle.machine.specs.Lists.{Lent, total, scripts_of, beside, some_refusal}
use Rattle.machine.specs.Sound.{Sound}
use Rattle.machine.specs.Run.{run, RunLeft, made_run}
use Rattle.machine.specs.declared.Lock.{Lock}
use Rattle.machine.specs.declared.Rec.{Rec}
use Rattle.lock.specs.ByValue.{put_back, run_of}
use Rattle.lock.specs.declared.run.Ran.{Ran}
use Rattle.lock.specs.declared.run.RunReturn.{RunReturn}

-- what is answered beside the lists
abbrev pub run_told : RunLeft → Ran
run_told left = record { refusal = some_refusal left.refusal; n = left.n; done = left.done; lock = left.lock }

-- the array is recs
abbrev pub ran_of : ℕ → List Rec → RunLeft → RunReturn
ran_of count recs left = record { ran = run_told left; recs = put_back count recs left.recs }

-- n entries of the schedule, from a state that is not refused; a record for each length
abbrev pub ready_of : Lent → Lock → List Rec → List ℕ → ℕ → List ℕ → RunLeft
ready_of s L recs schedule n trace = made_run (beside s 0) n trace (run (scripts_of s) L (take (length s.lens) recs) (take n schedule))

-- what is not refused
pub record Ready (s : Lent) (L : Lock) (recs : List Rec) : Type 0 where
  pub threads : length s.lens ≤ most_threads
  pub short : (i : ℕ) → i < length s.lens → (scripts_of s).len i ≤ longest_script
  pub whole : length s.ops ≡ total s.lens
  pub values : length s.vals ≡ length s.ops
  pub sound : Sound (scripts_of s) L (take (length s.lens) recs)

-- ---- a later piece
-- a run over what is left of the trace list after so many rows; past its end that is nothing, and no entry is run
abbrev pub rest_of : Lent → ℕ → Lock → List Rec → List ℕ → ℕ → ℕ → List ℕ → RunLeft
rest_of s count L recs schedule budget used trace = run_of s count L recs schedule budget (drop (row_words * used) trace)

-- the trace list afterwards: the rows before stay
abbrev pub rest_trace : Lent → ℕ → Lock → List Rec → List ℕ → ℕ → ℕ → List ℕ → List ℕ
rest_trace s count L recs schedule budget used trace = take (row_words * used) trace ++ (rest_of s count L recs schedule budget used trace).trace
