-- `block_at` meets its contract. Assumes nothing.
use mathlib.Core.Path.{sym, ◌∙◌}
use lib.Seq.{length-take-le}
use Rattle.vcd_code.proofs.Scratch.{block_room, block_is, told_some}
use Rattle.vcd_code.proofs.read.block_at.Goals as goal

pub slice_bounds-text-end : goal.slice_bounds-text-end
slice_bounds-text-end c =
    let a = c.args in
    block_room a.s _ _ _ _ _ _ c.put_time-n.ensures.value c.put_time-n.ensures.out_after c.put_changed-len.ensures.value c.put_changed-len.ensures.out_after

pub slice_bounds-is_good-end : goal.slice_bounds-is_good-end
slice_bounds-is_good-end c =
    let a = c.args in
    sym (length-take-le _ _ (block_room a.s _ _ _ _ _ _ c.put_time-n.ensures.value c.put_time-n.ensures.out_after c.put_changed-len.ensures.value c.put_changed-len.ensures.out_after))

pub returns : goal.returns
returns c =
    let a = c.args in
    c.then_some.ensures
    ∙ told_some _ _
    ∙ block_is a.s _ _ _ _ _ _ c.put_time-n.ensures.value c.put_time-n.ensures.out_after c.put_changed-len.ensures.value c.put_changed-len.ensures.out_after
    a.t a.rest.now _ _ (c.digits_ahead-time.ensures ∙ rw c.behind.ensures) (c.signals_ahead-signals.ensures ∙ rw c.behind-2.ensures) c.eq.ensures c.is_good.ensures
