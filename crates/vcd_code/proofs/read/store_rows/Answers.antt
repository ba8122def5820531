-- `store_rows` meets its contract. Assumes nothing.
use mathlib.Core.Path.{sym, ap, subst, ◌∙◌}
use mathlib.Core.List.{List}
use Prim.Native.Nat.{ℕ}
use native.Mathlib.Omega.{arith}
use lib.ListN.{length, length-drop}
use Rattle.vcd_code.proofs.Passes.{some_left, none_left, Storing, begins, some_block, inside, room_on, one_more, all_done}
use Rattle.vcd_code.proofs.read.store_rows.Goals as goal

pub loop-left-init : goal.loop-left-init
loop-left-init c =
    let start = c in
    let a = start.args in
    begins a.first a.rest.now a.out.now start.requires

pub unwrap-k-requires : goal.unwrap-k-requires
unwrap-k-requires c =
    let start = c in
    let a = start.args in
    let g = c.loop-left in
    let some = some_left g.left.now _ c.is_empty.ensures c.loop-left-test.true in
    rw c.block_at.ensures (some_block a.first a.rest.now a.out.now g.out g.p g.t g.s g.left.now g.invariant some)

pub overflow_sub-k : goal.overflow_sub-k
overflow_sub-k c =
    let start = c in
    let a = start.args in
    let g = c.loop-left in
    let some = some_left g.left.now _ c.is_empty.ensures c.loop-left-test.true in
    let k = c.unwrap-k in
    omega (arith, inside a.first a.rest.now a.out.now g.out g.p g.t g.s g.left.now g.invariant some k.result (sym c.block_at.ensures ∙ k.ensures))

pub overflow_sub-k-in-loop-left : goal.overflow_sub-k-in-loop-left
overflow_sub-k-in-loop-left c =
    let start = c in
    let a = start.args in
    let g = c.loop-left in
    let some = some_left g.left.now _ c.is_empty.ensures c.loop-left-test.true in
    let k = c.unwrap-k in
    omega (arith, inside a.first a.rest.now a.out.now g.out g.p g.t g.s g.left.now g.invariant some k.result (sym c.block_at.ensures ∙ k.ensures))

pub rows_to-p-requires : goal.rows_to-p-requires
rows_to-p-requires c =
    let start = c in
    let a = start.args in
    let g = c.loop-left in
    let some = some_left g.left.now _ c.is_empty.ensures c.loop-left-test.true in
    let k = c.unwrap-k in
    room_on a.first a.rest.now a.out.now g.out g.p g.t g.s g.left.now g.invariant some k.result (sym c.block_at.ensures ∙ k.ensures)

pub loop-left-smaller : goal.loop-left-smaller
loop-left-smaller c =
    let start = c in
    let a = start.args in
    let g = c.loop-left in
    let some = some_left g.left.now _ c.is_empty.ensures c.loop-left-test.true in
    let k = c.unwrap-k in
    omega (arith, ap length c.behind-left.ensures, length-drop k.result.len g.left.now, inside a.first a.rest.now a.out.now g.out g.p g.t g.s g.left.now g.invariant some k.result (sym c.block_at.ensures ∙ k.ensures))

pub loop-left-preserved : goal.loop-left-preserved
loop-left-preserved c =
    let start = c in
    let a = start.args in
    let g = c.loop-left in
    let some = some_left g.left.now _ c.is_empty.ensures c.loop-left-test.true in
    let k = c.unwrap-k in
    subst (λ (l : List ℕ). Storing a.first a.rest.now a.out.now c.rows_to-p.new.out c.rows_to-p.result k.result.time k.result.signals l) (sym c.behind-left.ensures)
    (one_more a.first a.rest.now a.out.now g.out g.p g.t g.s g.left.now g.invariant some k.result (sym c.block_at.ensures ∙ k.ensures) _ _ c.rows_to-p.ensures)

pub returns : goal.returns
returns c =
    let start = c in
    let a = start.args in
    let g = c.loop-left in
    all_done a.first a.rest.now a.out.now g.out g.p g.t g.s g.left.now g.invariant (none_left g.left.now _ c.is_empty.ensures c.loop-left-test.false)
