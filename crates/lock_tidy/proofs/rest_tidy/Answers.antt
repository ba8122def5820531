-- `rest_tidy` meets its contract: a script place past the script's end is not tidy, and else the rest is tested. Assumes nothing.
use Prim.Native.Nat.{◌≤◌, ◌-◌}
use mathlib.Core.Path.{◌∙◌}
use lib.ListN.{get_or}
use borrow.Author.Tests.{le-leb}
use Rattle.machine.specs.Lists.{start}
use Rattle.machine.specs.Tidy.{mode_of}
use Rattle.lock_tidy.proofs.Rests.{rest_cut}
use Rattle.lock_tidy.proofs.rest_tidy.Goals as goal

pub returns : goal.returns
returns c =
    let a = c.args in
    let n = get_or a.lists.lens.now a.i 0 in
    let s = start a.lists.lens.now a.i in
    let h : a.r.at ≤ n = rw c.length_at-len.ensures at c.if-len-r.false in
    let p = rw (c.start_of-op0.ensures, c.start_of-val0.ensures, c.held_at.ensures, c.length_at-len.ensures) at c.rest_holds.ensures in
    rw (le-leb a.r.at n h) (p ∙ rest_cut a.pred a.lists.ops.now a.lists.vals.now s s (mode_of a.r.place) a.r.at (n - a.r.at))
