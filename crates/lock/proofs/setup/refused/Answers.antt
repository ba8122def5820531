-- `refused` meets its contract: setup's own refusal, and where there is none the lists'. Assumes nothing.
use mathlib.Core.Path.{sym}
use Rattle.std.proofs.lemmas.Result.{err_from_is_err_and}
use Rattle.machine.specs.Lists.{lent}
use Rattle.lock.proofs.Begins.{lists_decide, own_told}
use Rattle.lock.proofs.setup.refused.Goals as goal

pub returns-in_err-own_refusal : goal.returns-in_err-own_refusal
returns-in_err-own_refusal c =
    let a = c.args in
    let p = err_from_is_err_and c.from_residual.result c.from_residual.ensures.1 in
    rw (p.1, p.2) (own_told a.pred a.top.0 a.first (lent a.lists) a.count _ c.in_err-own_refusal.ensures)

pub returns : goal.returns
returns c =
    let a = c.args in
    rw (lists_decide a.pred a.top.0 a.first (lent a.lists) a.count (sym c.in_ok-own_refusal.ensures)) c.refused.ensures
