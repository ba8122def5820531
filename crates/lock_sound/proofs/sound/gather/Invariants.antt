-- `gather` meets its contract. The loop's invariant: what is gathered, and the sums over the records that are left, are the sums over all.
-- Assumes nothing.
use Rattle.lock_sound.specs.Counts.{Among}
use Rattle.lock_sound.proofs.Gather.{Sums}
use Rattle.lock_sound.proofs.sound.gather.Given as goal

abbrev pub invariant-loop-t : goal.invariant-loop-t
invariant-loop-t l = Sums l.fn.lists.lens.now l.fn.lists.ops.now l.fn.recs l.t l.all × Among l.t l.all
