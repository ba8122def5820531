-- `run_ready` meets its contract. The loop's invariant: lock, records, counts and trace list are those after the first k entries.
use Rattle.machine.specs.Lists.{lent}
use Rattle.lock.proofs.Running.{Going}
use Rattle.lock.proofs.run.run_ready.Given as goal

abbrev pub invariant-loop-k : goal.invariant-loop-k
invariant-loop-k l =
    Going (lent l.lists) l.initial.l l.initial.rs l.schedule l.n l.initial.trace l.l l.rs l.busy l.done l.k l.trace
