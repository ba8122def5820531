-- `part` meets its contract. Assumes nothing.
use Rattle.replay.proofs.Scans.{part_in, part_past, part_turned}
use mathlib.Core.Path.{sym}
use Rattle.replay.proofs.lists.part.Goals as goal
use Rattle.replay.proofs.lists.part.Goals.{then-to-list-via-then-to-list, then-to-list-via-else-to-list+then-from-to}

pub returns-then-to-list : goal.returns-then-to-list
returns-then-to-list g c =
    let a = c.args in
    elim c.then-to-list.branch [
      | then-to-list-via-then-to-list w ↦ sym (part_past a.list.now a.from a.to w.if-to-list.true)
      | then-to-list-via-else-to-list+then-from-to w ↦ sym (part_turned a.list.now a.from a.to w.if-to-list.false w.if-from-to.true)
    ]

pub returns : goal.returns
returns g c =
    let a = c.args in
    sym (part_in a.list.now a.from a.to c.if-to-list.false)
