-- `write_lines` meets its contract: line by line, and there are sixteen threads at most. Assumes nothing.
use Rattle.std.proofs.Common.{◌≡◌, arith}
use Rattle.machine.specs.Lists.{lent}
use Rattle.why_code.specs.ByValue.{told_of}
use Rattle.why_prints.proofs.Texts.{begins, goes_on, all_there}
use Rattle.why_prints.proofs.write_lines.Goals as goal

pub loop-t-init : goal.loop-t-init
loop-t-init c = let a = c.args in begins (told_of (lent a.lists) _ _ _) a.out.now a.at

pub write_line-p-requires : goal.write_line-p-requires
write_line-p-requires c =
    let stored = c.loop-t.invariant in
    omega (arith, c.requires, stored.room, stored.size, c.loop-t-test.true)

pub loop-t-preserved : goal.loop-t-preserved
loop-t-preserved c =
    let l = c.loop-t in
    let a = c.args in
    goes_on (told_of (lent a.lists) _ _ _) a.out.now a.at l.t l.p l.out c.why-told.result _ _ l.invariant c.why-told.ensures c.write_line-p.ensures

pub returns : goal.returns
returns c =
    let a = c.args in
    let l = c.loop-t in
    let all : l.t ≡ c.min-n.result = omega (arith, c.loop-t-test.false) in
    all_there (lent a.lists) a.standing c.min-n.ensures all l.invariant
