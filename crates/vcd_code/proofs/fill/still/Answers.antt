-- `still` meets its contract. Assumes nothing.
use Rattle.std.proofs.Common.{◌+◌, ◌-◌, ◌*◌, arith, refl, sym, ◌∙◌, length-set}
use Rattle.vcd_code.proofs.Fills.{one_still, none_still, all_still}
use Rattle.vcd_code.proofs.fill.still.Goals as goal

pub loop-k-preserved : goal.loop-k-preserved
loop-k-preserved c =
    let a = c.args in
    let l = c.loop-k in
    (simp length-set l.invariant.0, l.invariant.1 ∙ one_still a.s l.out (a.at + 2 * l.k) (a.n - l.k) (a.at + 2 * (l.k + 1)) (a.n - (l.k + 1)) (omega arith) (omega arith))

pub returns : goal.returns
returns c =
    let a = c.args in
    let l = c.loop-k in
    all_still a.s a.out.now l.out a.at a.n _ refl (sym (l.invariant.1 ∙ none_still a.s l.out (a.at + 2 * l.k) (a.n - l.k) (omega arith)))
