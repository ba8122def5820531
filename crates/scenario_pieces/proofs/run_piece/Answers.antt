-- `run_piece` meets its contract. Assumes nothing.
use Rattle.std.proofs.Common.{◌+◌, ◌*◌, true, false, length, refl, leb-true}
use Rattle.machine.specs.Names.{row_words}
use Rattle.scenario_pieces.specs.Piece.{piece, left_of, stored_of}
use Rattle.scenario_pieces.proofs.Piece.{room_so}
use Rattle.scenario_pieces.proofs.run_piece.Goals as goal

pub run_there-requires : goal.run_there-requires
run_there-requires c =
    let a = c.args in
    let room = room_so a.entries.now a.rows.now a.at _ _ true c.min-n.ensures c.has_room.ensures c.if-has_room.true in
    leb-true (a.at + row_words * length (piece a.entries.now)) (length a.rows.now) room

pub returns-then-has_room : goal.returns-then-has_room
unfolding left_of stored_of
returns-then-has_room c =
    let a = c.args in
    let room = room_so a.entries.now a.rows.now a.at _ _ true c.min-n.ensures c.has_room.ensures c.if-has_room.true in
    record { value = rw room c.run_there.ensures.value; rows_after = rw room c.run_there.ensures.rows_after }

pub returns-else-has_room : goal.returns-else-has_room
unfolding left_of stored_of
returns-else-has_room c =
    let a = c.args in
    let room = room_so a.entries.now a.rows.now a.at _ _ false c.min-n.ensures c.has_room.ensures c.if-has_room.false in
    record { value = rw room refl; rows_after = rw room refl }
