-- `pass_front` meets its contract. Assumes nothing.
use mathlib.Core.Path.{sym}
use lib.Seq.{length-take-le}
use Rattle.vcd.specs.Blocks.{front, front_bytes}
use Rattle.vcd.proofs.Laws.{short}
use Rattle.vcd_code.proofs.Walk.{made}
use Rattle.vcd_code.proofs.write.pass_front.Goals as goal

pub slice_bounds-piece-end : goal.slice_bounds-piece-end
slice_bounds-piece-end c =
    let a = c.args in
    let put = c.put_front-n in
    (made (front a.s) _ front_bytes _ (short.3 a.s) put.ensures.value put.ensures.out_after).0

pub slice_bounds-pass-end : goal.slice_bounds-pass-end
slice_bounds-pass-end c =
    let a = c.args in
    let put = c.put_front-n in
    sym (length-take-le _ _ (made (front a.s) _ front_bytes _ (short.3 a.s) put.ensures.value put.ensures.out_after).0)

pub returns-clause-value : goal.returns-clause-value
returns-clause-value c =
    let a = c.args in
    let put = c.put_front-n in
    let is = (made (front a.s) _ front_bytes _ (short.3 a.s) put.ensures.value put.ensures.out_after).1 in
    let pass = c.pass in
    rw (← is) pass.ensures.value

pub returns-clause-out_after : goal.returns-clause-out_after
returns-clause-out_after c =
    let a = c.args in
    let put = c.put_front-n in
    let is = (made (front a.s) _ front_bytes _ (short.3 a.s) put.ensures.value put.ensures.out_after).1 in
    let pass = c.pass in
    rw (← is) pass.ensures.out_after
