-- What is read of a scenario file so far, and what each line adds to it.
use Rattle.std.specs.Prelude.{ℕ, ◌+◌, List, [], ◌∷◌, ◌++◌, get_or, set, replicate}
use Rattle.cell.specs.Pred.{of_kind}
use Rattle.cell.specs.declared.pred.Pred.{Pred}
use Rattle.cell.specs.declared.pred.Pred.TheVariants.{Any, Parity}
use Rattle.std.specs.Prelude.{None, Option, Some}
use Rattle.machine.specs.Lists.{Lent, lists}
use Rattle.scenario_lines.specs.declared.Line.{Line}
use Rattle.scenario_lines.specs.declared.Line.TheVariants.{Broken, Header, BadNumber, Lock, Pred as PredLine, Op, Run, NoKind}
use Rattle.scenario.specs.declared.Stage.{Stage}
use Rattle.scenario.specs.declared.Stage.TheVariants.{Header as AtHeader, Lock as AtLock, Pred as AtPred, Ops as AtOps, Runs as AtRuns}

pub record Scenario : Type 0 where
  -- what may come next
  pub stage : Stage
  -- the lock line: M, the first value, the number of threads
  pub top : ℕ
  pub first : ℕ
  pub threads : ℕ
  -- the pred line
  pub pred : Pred
  -- the op lines, as lists that setup and run are lent, and the thread of the last one
  pub lent : Lent
  pub thread : ℕ
  -- the run lines
  pub schedule : List ℕ

abbrev pub nothing : Scenario
nothing = record { stage = AtHeader; top = 0; first = 0; threads = 0; pred = Any; lent = lists [] [] []; thread = 0; schedule = [] }

-- ---- what each line adds
abbrev pub with_header : Scenario → Scenario
with_header s =
    record {
      stage = AtLock;
      top = s.top;
      first = s.first;
      threads = s.threads;
      pred = s.pred;
      lent = s.lent;
      thread = s.thread;
      schedule = s.schedule;
    }

abbrev pub with_lock : Scenario → ℕ → ℕ → ℕ → Scenario
with_lock s top first threads =
    record {
      stage = AtPred;
      top = top;
      first = first;
      threads = threads;
      pred = s.pred;
      lent = s.lent;
      thread = s.thread;
      schedule = s.schedule;
    }

-- a kind above 2 is refused as a bad parameter is
abbrev pub pred_of : Option Pred → Pred
pred_of (Some q) = q
pred_of None = Parity 2

-- no thread has an operation yet
abbrev pub with_pred : Scenario → Pred → Scenario
with_pred s q =
    record {
      stage = AtOps;
      top = s.top;
      first = s.first;
      threads = s.threads;
      pred = q;
      lent = lists (replicate s.threads 0) [] [];
      thread = s.thread;
      schedule = s.schedule;
    }

-- threads never descend, so that an operation comes after all others
abbrev pub lent_with : Lent → ℕ → ℕ → ℕ → Lent
lent_with l t code value = lists (set l.lens t (get_or l.lens t 0 + 1)) (l.ops ++ (code ∷ [])) (l.vals ++ (value ∷ []))

abbrev pub with_op : Scenario → ℕ → ℕ → ℕ → Scenario
with_op s t code value =
    record {
      stage = s.stage;
      top = s.top;
      first = s.first;
      threads = s.threads;
      pred = s.pred;
      lent = lent_with s.lent t code value;
      thread = t;
      schedule = s.schedule;
    }

abbrev pub with_run : Scenario → ℕ → ℕ → Scenario
with_run s t times =
    record {
      stage = AtRuns;
      top = s.top;
      first = s.first;
      threads = s.threads;
      pred = s.pred;
      lent = s.lent;
      thread = s.thread;
      schedule = s.schedule ++ replicate times t;
    }

-- a line that is not refused
unfoldable pub taken : Scenario → Line → Scenario
taken s Broken = s
taken s Header = with_header s
taken s BadNumber = s
taken s (Lock top first threads) = with_lock s top first threads
taken s (PredLine kind a b) = with_pred s (pred_of (of_kind kind a b))
taken s (Op t code value) = with_op s t code value
taken s (Run t times) = with_run s t times
taken s NoKind = s
