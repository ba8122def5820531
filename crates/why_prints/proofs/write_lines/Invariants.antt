-- The loop's invariant: the lines of the threads so far are stored.
use Rattle.machine.specs.Lists.{lent}
use Rattle.why_code.specs.ByValue.{told_of}
use Rattle.why_prints.proofs.Texts.{Stored}
use Rattle.why_prints.proofs.write_lines.Given as goal

abbrev pub invariant-loop-t : goal.invariant-loop-t
invariant-loop-t l = Stored (told_of (lent l.lists) l.count l.standing.lock l.standing.recs) l.initial.out l.at l.t l.p l.out
