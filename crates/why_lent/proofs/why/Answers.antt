use Rattle.std.proofs.Common.{◌∙◌}
use Rattle.machine.specs.Lists.{lent}
use Rattle.why_lent.proofs.AnyLength.{told_any_length}
use Rattle.why_lent.proofs.why.Goals as goal

pub returns : goal.returns
returns c = c.why.ensures ∙ rw c.taken.ensures (told_any_length (lent c.args.lists) c.args.lock c.args.recs.now c.args.thread)
