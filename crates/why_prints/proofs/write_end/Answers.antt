-- `write_end` meets its contract: where the reader stopped, one by one. Assumes nothing.
use mathlib.Core.Logic.{inl, inr}
use Rattle.why_prints.proofs.Texts.{nothing_put, refusal_put}
use Rattle.why_prints.proofs.write_end.Goals as goal

pub returns-in-Wants : goal.returns-in-Wants
returns-in-Wants c =
    let a = c.args in
    elim c.in-Wants.is [
      | inl e ↦ rw e (nothing_put a.out.now a.at 1386)
      | inr e ↦ rw e (nothing_put a.out.now a.at 1386)
    ]

pub returns-in-Over : goal.returns-in-Over
returns-in-Over c = rw c.in-Over.is c.write_answers.ensures

pub returns-in-Refused : goal.returns-in-Refused
returns-in-Refused c =
    let arm = c.in-Refused in
    rw arm.is (refusal_put arm.number arm.line c.requires (c.put_refusal.ensures.value, c.put_refusal.ensures.out_after))
