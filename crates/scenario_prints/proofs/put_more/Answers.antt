-- `put_more` meets its contract. Assumes nothing.
use Rattle.std.proofs.Common.{◌+◌, ◌*◌, length, sym, ◌∙◌, leb-true}
use Rattle.scenario_prints.specs.Prints.{stop_text, place_of, stored_of}
use Rattle.scenario_prints.proofs.PutRows.{both_put}
use Rattle.scenario_prints.proofs.put_more.Goals as goal

pub returns-then-has_room-clause-out_after : goal.returns-then-has_room-clause-out_after
unfolding place_of stored_of
returns-then-has_room-clause-out_after c =
    let a = c.args in
    let rows = sym c.has_rows.ensures ∙ c.if-has_rows.true in
    let room = sym c.has_room.ensures ∙ c.if-has_room.true in
    let fits = leb-true (a.at + (148 * a.n + 51)) (length a.out.now) room in
    rw (rows, room) (both_put (stop_text a.stop) c.write_rows-end.ensures (c.put_stop.ensures.value, c.put_stop.ensures.out_after) fits).1
