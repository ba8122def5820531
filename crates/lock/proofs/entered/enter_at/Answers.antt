-- `enter_at` meets its contract: a finished script is refused whatever stands in the lists, and else its words lie inside them.
use Prim.Native.Nat.{◌-◌}
use lib.ListN.{get_or}
use Rattle.machine.specs.Step.{busy_of}
use Rattle.lock.specs.Entered.{entered_of}
use Rattle.lock.proofs.Turn.{finished}
use Rattle.lock.proofs.entered.enter_at.Goals as goal

pub returns-then-len-rec : goal.returns-then-len-rec
unfolding entered_of
returns-then-len-rec c =
    let a = c.args in
    rw (finished a.lock a.rec a.i (get_or a.lists.lens.now a.i 0) (a.busy - busy_of a.rec) _ _ c.if-len-rec.true) (rw c.from.ensures at c.left_alone.ensures)
