-- `stepped` meets its contract: a run of one entry is the step. Assumes nothing.
use mathlib.Core.Path.{refl}
use Rattle.machine.specs.Lists.{lent}
use Rattle.lock_order.proofs.Writing.{ran_one}
use Rattle.lock_order.proofs.stepped.Goals as goal

pub returns : goal.returns
returns c =
    let first = c in
    let a = first.args in
    let s = lent a.lists in
    let ran = c.run-left in
    ran_one s a.count a.from first.requires.able a.i _ refl ran.result ran.ensures.value
