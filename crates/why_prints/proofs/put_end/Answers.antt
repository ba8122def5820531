-- `put_end` meets its contract. Assumes nothing.
use Prim.Native.Nat.{◌+◌}
use mathlib.Core.Path.{sym, ◌∙◌}
use native.Mathlib.Omega.{arith}
use lib.ListN.{length}
use borrow.Author.Tests.{leb-true}
use Rattle.machine.specs.Lists.{lent}
use Rattle.scenario_text.proofs.Stores.{told, untold}
use Rattle.why_prints.specs.Prints.{end_text}
use Rattle.why_prints.proofs.put_end.Goals as goal

pub write_end-requires : goal.write_end-requires
write_end-requires c =
    let a = c.args in
    omega (arith, leb-true (a.at + 1386) (length a.out.now) (sym c.has_room.ensures ∙ c.if-has_room.true))

pub returns-then-has_room-clause-value : goal.returns-then-has_room-clause-value
returns-then-has_room-clause-value c = (told (sym c.has_room.ensures ∙ c.if-has_room.true) c.write_end.ensures).0

pub returns-then-has_room-clause-out_after : goal.returns-then-has_room-clause-out_after
returns-then-has_room-clause-out_after c = (told (sym c.has_room.ensures ∙ c.if-has_room.true) c.write_end.ensures).1

pub returns-else-has_room-clause-value : goal.returns-else-has_room-clause-value
returns-else-has_room-clause-value c =
    let a = c.args in
    let s = lent a.lists in
    (untold a.out.now (end_text a.stop s a.standing) a.at 1386 (sym c.has_room.ensures ∙ c.if-has_room.false)).0

pub returns-else-has_room-clause-out_after : goal.returns-else-has_room-clause-out_after
returns-else-has_room-clause-out_after c =
    let a = c.args in
    let s = lent a.lists in
    (untold a.out.now (end_text a.stop s a.standing) a.at 1386 (sym c.has_room.ensures ∙ c.if-has_room.false)).1
