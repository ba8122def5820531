-- `is_sound` meets its contract: the tests of the clauses together. The busy that the mover's test is given is the count over the records.
-- Assumes nothing.
use mathlib.Core.Path.{◌∙◌}
use Rattle.std.proofs.Common.{arith}
use Rattle.std.proofs.lemmas.Grind.{common_steps}
use Rattle.machine.specs.Sound.{sound}
use Rattle.lock_sound.proofs.Alone.{mover_by}
use Rattle.lock_sound.proofs.sound.is_sound.Goals as goal

pub returns-then-all_keep : goal.returns-then-all_keep
unfolding sound
returns-then-all_keep c =
    let a = c.args in
    let e = c.gather-all.ensures.result_value in
    let m = c.holds.ensures ∙ mover_by a.lists.lens.now a.lists.ops.now a.lists.vals.now a.recs.now a.lock.mover c.gather-all.result e in
    grind (arith, common_steps, m)
