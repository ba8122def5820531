-- `put_read` meets its contract. Assumes nothing.
use Rattle.std.proofs.Common.{◌+◌, length, sym, ◌∙◌, arith, leb-true}
use Rattle.program_told.specs.Told.{read_text}
use Rattle.scenario_text.proofs.Stores.{told, untold}
use Rattle.program_told.proofs.put_read.Goals as goal

pub write_read-requires : goal.write_read-requires
write_read-requires c =
    let a = c.args in
    omega (arith, leb-true (a.at + 1812) (length a.out.now) (sym c.has_room.ensures ∙ c.if-has_room.true))

pub returns-then-has_room-clause-value : goal.returns-then-has_room-clause-value
returns-then-has_room-clause-value c = (told (sym c.has_room.ensures ∙ c.if-has_room.true) c.write_read.ensures).0

pub returns-then-has_room-clause-out_after : goal.returns-then-has_room-clause-out_after
returns-then-has_room-clause-out_after c = (told (sym c.has_room.ensures ∙ c.if-has_room.true) c.write_read.ensures).1

pub returns-clause-value : goal.returns-clause-value
returns-clause-value c =
    let a = c.args in
    (untold a.out.now (read_text a.read a.len a.line.now) a.at 1812 (sym c.has_room.ensures ∙ c.if-has_room.false)).0

pub returns-clause-out_after : goal.returns-clause-out_after
returns-clause-out_after c =
    let a = c.args in
    (untold a.out.now (read_text a.read a.len a.line.now) a.at 1812 (sym c.has_room.ensures ∙ c.if-has_room.false)).1
