-- `take_runs` meets its contract. Assumes nothing.
use Rattle.std.proofs.Common.{◌-◌, ◌∙◌, replicate, arith}
use lib.Seq.{slice, length-sets}
use Rattle.scenario_read.proofs.Onward.{one_line, ahead_then}
use Rattle.scenario_read.proofs.run_lines.take_runs.Goals as goal

pub loop-r-preserved : goal.loop-r-preserved
loop-r-preserved c =
    let a = c.args in
    let l = c.loop-r in
    let p = c.in-Some.p in
    let run = c.in-Some.ensures in
    let step = one_line a.chunk.now l.r l.line l.schedule l.invariant.0 p.thread p.times p.at run.1 run.0 (omega arith) (omega arith) (omega arith) in (
      rw c.copy.ensures (length-sets l.line 0 (slice l.r.at (p.at - 2) a.chunk.now) ∙ l.invariant.0),
      rw c.fill.ensures (length-sets l.schedule l.r.gathered (replicate p.times p.thread) ∙ l.invariant.1),
      rw (c.copy.ensures, c.fill.ensures) (ahead_then l.invariant.2 step),
    )
