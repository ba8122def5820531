-- `take_runs` meets its contract. The loop's invariant: the lines so far lead from the start to here. The measure is how many turns are left.
-- Assumes nothing.
use Rattle.std.proofs.Common.{◌≡◌, length}
use Rattle.scenario_lines.specs.Bytes.{longest}
use Rattle.scenario_read.specs.Ahead.{Ahead}
use Rattle.scenario_read.proofs.run_lines.take_runs.Given as goal

abbrev pub invariant-loop-r : goal.invariant-loop-r
invariant-loop-r l = (length l.line ≡ longest) × (length l.schedule ≡ length l.initial.schedule) × Ahead l.chunk l.initial.r l.initial.line l.initial.schedule l.r l.line l.schedule

abbrev pub decreases-loop-r : goal.decreases-loop-r
decreases-loop-r l = l.r.turns
