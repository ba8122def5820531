-- `bound_of` meets its contract: the bound where nothing is refused, and else 0. Assumes nothing.
use mathlib.Core.Path.{◌∙◌}
use Rattle.machine.specs.Lists.{lent}
use Rattle.lock.proofs.Draining.{ready, no_bound, bound_told}
use Rattle.lock.proofs.drain.bound_of.Goals as goal

pub bound-requires : goal.bound-requires
bound-requires c =
    let a = c.args in
    let able = ready (lent a.lists) a.count a.lock a.recs c.in-Ok.ensures in
    record { lens_len_bound = able.threads; by_index = able.short }

pub returns-in-Ok : goal.returns-in-Ok
returns-in-Ok c = let a = c.args in c.bound.ensures.value ∙ bound_told (lent a.lists) a.count a.lock a.recs c.in-Ok.ensures

pub returns-in-Err : goal.returns-in-Err
returns-in-Err c = let a = c.args in no_bound (lent a.lists) a.count a.lock a.recs _ c.in-Err.ensures
