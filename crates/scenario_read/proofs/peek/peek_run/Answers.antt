-- `peek_run` meets its contract. Assumes nothing.
use Rattle.std.proofs.Common.{◌<◌, arith}
use Rattle.scenario_read.proofs.Stands.{run_stands}
use Rattle.scenario_read.proofs.peek.peek_run.Goals as goal

pub returns : goal.returns
returns c =
    let a = c.args in
    let t = c.in_ok-thread.thread in
    let n = c.in_ok-times.times in
    let few : t.value < 256 = omega (arith, c.if-thread-ge-THREADS.false) in
    let some : 0 < n.value = omega arith in (
      some,
      run_stands a.s.now a.from t.at n.at t.value n.value (c.stands.ensures c.if-not-stands.false)
          (c.in_ok-thread.ensures (omega arith)) (c.stands-else-thread-ge-THREADS.ensures c.if-not-stands-2.false) (c.in_ok-times.ensures c.if-times-ge-TIMES.false)
          (c.stands-else-times-from-gt-LONGEST_START.ensures c.if-not-stands-3.false) few c.if-times-ge-TIMES.false c.if-times-from-gt-LONGEST_START.false some,
    )
