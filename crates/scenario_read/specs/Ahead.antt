-- What reading run lines ahead leaves: the moves that are left lead from there to where they led from before it.
use Rattle.std.specs.Prelude.{◌≡◌, ℕ, ◌+◌, ◌<◌, ◌≤◌, Bool, true, false, List, length, None}
use Rattle.scenario_lines.specs.Held.{unheld}
use Rattle.scenario.specs.Scenario.{with_run}
use Rattle.scenario.specs.declared.Stage.TheVariants.{Runs as AtRuns}
use Rattle.scenario_stages.specs.Kept.{outline, keeping}
use Rattle.scenario_pieces.specs.declared.Standing.{Standing}
use Rattle.scenario_read.specs.declared.State.{State}
use Rattle.scenario_read.specs.declared.run_lines.Runs.{Runs}
use Rattle.scenario_read.specs.Feed.{most_words, state_with, feed}
use Rattle.scenario_read.specs.Code.{world_of}

-- a run line may come, and nothing is held of it
pub record AtLine (s : State) : Type 0 where
  pub held : s.held ≡ unheld
  pub stood : s.stood ≡ true
  pub unclosed : s.closed ≡ false
  pub fine : s.read.refused ≡ None
  pub stage : s.read.stage ≡ AtRuns
  pub left : s.read.run_left ≡ 0

-- where the reading of run lines stands, of a state, a place in the chunk and the turns that are left
abbrev pub runs_here : State → ℕ → ℕ → Runs
runs_here s from turns = record { turns = turns; line = s.read.line; thread = s.read.run_thread; gathered = s.gathered; at = from }

-- a state with this many lines, the last of this thread, and these entries gathered
abbrev pub ran_on : State → Runs → State
ran_on s r =
    state_with s s.held (keeping r.line s.read.refused (outline s.read) s.read.count r.thread s.read.run_left) r.gathered

-- the same, where a run line may come after it
abbrev pub ran_in : State → Runs → State
ran_in s r = state_with s unheld (keeping r.line None (with_run (outline s.read) r.thread 0) s.read.count r.thread 0) r.gathered

-- from a to b, with the 80 places and the schedule at each, whatever the rest of the world is
pub record Ahead (chunk : List ℕ) (a : Runs) (line schedule : List ℕ) (b : Runs) (line' schedule' : List ℕ) : Type 0 where
  pub same :
      (final : Bool) (s : State) (p : Standing) (lens ops vals out : List ℕ) (at : ℕ) → s.stood ≡ true → s.closed ≡ false
      → at + most_words ≤ length out
      → feed chunk final a.turns (world_of (ran_in s a) p line lens ops vals schedule a.at out at)
      ≡ feed chunk final b.turns (world_of (ran_in s b) p line' lens ops vals schedule' b.at out at)
  pub fewer : b.turns ≤ a.turns
  pub some : 0 < a.turns → 0 < b.turns

-- the same of whole states; the list for rows has so much room
pub record Onward (chunk : List ℕ) (room at : ℕ) (turns : ℕ) (s : State) (line schedule : List ℕ) (from : ℕ) (turns' : ℕ) (s' : State) (line' schedule' : List ℕ) (from' : ℕ) : Type 0 where
  pub same :
      (final : Bool) (p : Standing) (lens ops vals out : List ℕ) → length out ≡ room
      → feed chunk final turns (world_of s p line lens ops vals schedule from out at)
      ≡ feed chunk final turns' (world_of s' p line' lens ops vals schedule' from' out at)
  pub fewer : turns' ≤ turns
  pub some : 0 < turns → 0 < turns'
