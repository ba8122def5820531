-- `run` meets its contract: refused, nothing is changed; else as many entries as there are, as far as budget and room go.
use mathlib.Core.Path.{◌≡◌}
use lib.ListN.{take}
use Rattle.machine.specs.Lists.{lent}
use Rattle.machine.specs.Run.{entries}
use Rattle.lock.specs.ByValue.{run_refusal_of}
use Rattle.lock.proofs.Told.{none_told}
use Rattle.lock.proofs.Refusing.{none_refused, made, left}
use Rattle.lock.proofs.run.run.Goals as goal

pub returns-in-Err : goal.returns-in-Err
returns-in-Err c =
    let a = c.args in
    let (value, trace) = left (lent a.lists) a.count a.lock a.recs a.schedule.now a.budget a.trace.now _ c.in-Err.ensures in
    record { value = value; trace_after = trace }

pub run_ready-requires-clause-ready : goal.run_ready-requires-clause-ready
run_ready-requires-clause-ready c =
    let a = c.args in
    let s = lent a.lists in
    let none = none_told s (run_refusal_of s a.count a.lock (take a.count a.recs)) c.in_default.ensures in
    (none_refused s a.count a.lock a.recs none).1

pub returns : goal.returns
returns c =
    let a = c.args in
    let s = lent a.lists in
    let none = none_told s (run_refusal_of s a.count a.lock (take a.count a.recs)) c.in_default.ensures in
    let many : c.min-n.result ≡ entries a.budget a.schedule.now a.trace.now = rw (c.min-n.ensures, c.min.ensures) in
    record {
      value = rw (made s a.count a.lock a.recs a.schedule.now a.budget a.trace.now _ none many, (none_refused s a.count a.lock a.recs none).0) c.run_ready.ensures.value;
      trace_after = rw (made s a.count a.lock a.recs a.schedule.now a.budget a.trace.now _ none many) c.run_ready.ensures.trace_after;
    }
