-- `answer_of` meets its contract. Assumes nothing.
use mathlib.Core.Path.{sym, ap, ◌∙◌}
use mathlib.Core.List.{List}
use Prim.Native.Nat.{ℕ}
use native.Mathlib.Omega.{arith}
use lib.ListN.{length, length-drop}
use Rattle.std.proofs.lemmas.Result.{err_from_is_err_and}
use Rattle.vcd_code.proofs.BlocksOn.{rows_on, read_from, from_first}
use Rattle.vcd_code.proofs.Passes.{some_left, none_left, no_block_at, bad_ends, stays_in, read_on, reads, reads_no_room}
use Rattle.vcd_code.proofs.read.answer_of.Goals as goal

pub loop-left-init : goal.loop-left-init
loop-left-init c =
    let a = c.args in
    from_first a.first (rows_on 0 a.first a.rest.now) a.room

pub returns-in_err-k : goal.returns-in_err-k
returns-in_err-k c =
    let a = c.args in
    let g = c.loop-left in
    let some = some_left g.left.now _ c.is_empty.ensures c.loop-left-test.true in
    let from = err_from_is_err_and c.from_residual.result c.from_residual.ensures.1 in
    let (none, why) = no_block_at _ _ _ c.in_err-k.ensures.value in
    rw (from.1, from.2, why) (sym (g.invariant ∙ bad_ends g.rows g.s g.left.now a.room some (sym c.block_at.ensures ∙ none)))

pub loop-left-smaller : goal.loop-left-smaller
loop-left-smaller c =
    let a = c.args in
    let g = c.loop-left in
    let k = c.in_ok-k in
    let some = some_left g.left.now _ c.is_empty.ensures c.loop-left-test.true in
    omega (arith, ap length c.behind-left.ensures, length-drop k.k.len g.left.now, stays_in g.rows g.s g.left.now a.room k.k some (sym c.block_at.ensures ∙ k.ensures.ok_part))

pub loop-left-preserved : goal.loop-left-preserved
loop-left-preserved c =
    let a = c.args in
    let g = c.loop-left in
    let k = c.in_ok-k in
    let some = some_left g.left.now _ c.is_empty.ensures c.loop-left-test.true in
    g.invariant
    ∙ read_on g.rows g.s g.left.now a.room k.k some (sym c.block_at.ensures ∙ k.ensures.ok_part)
    ∙ ap (λ (l : List ℕ). read_from k.k.time (rows_on k.k.time k.k.signals l) a.room) (sym c.behind-left.ensures)

pub returns-then-rows-room : goal.returns-then-rows-room
returns-then-rows-room c =
    let a = c.args in
    let g = c.loop-left in
    let none = none_left g.left.now _ c.is_empty.ensures c.loop-left-test.false in
    sym (g.invariant ∙ reads g.rows g.s g.left.now none a.room c.if-rows-room.true)

pub returns-else-rows-room : goal.returns-else-rows-room
returns-else-rows-room c =
    let a = c.args in
    let g = c.loop-left in
    let none = none_left g.left.now _ c.is_empty.ensures c.loop-left-test.false in
    sym (g.invariant ∙ reads_no_room g.rows g.s g.left.now none a.room c.if-rows-room.false)
