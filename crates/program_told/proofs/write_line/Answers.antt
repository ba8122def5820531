-- `write_line` meets its contract. The loop's invariant: the bytes so far are stored. Assumes nothing.
use Rattle.std.proofs.Common.{◌≡◌, ℕ, ◌+◌, ◌*◌, List, length, take, subst, arith, take_all}
use Rattle.program_told.specs.Told.{listed}
use Rattle.scenario_text.specs.Put.{Put}
use Rattle.scenario_text.proofs.Stores.{both}
use Rattle.program_told.proofs.Listed.{nothing_yet, one_more}
use Rattle.program_told.proofs.write_line.Goals as goal

pub loop-b-init : goal.loop-b-init
loop-b-init c = let a = c.args in (omega arith, nothing_yet a.out.now a.line.now a.at)

pub write_byte-p-requires : goal.write_byte-p-requires
write_byte-p-requires c = omega (arith, c.requires, c.loop-b.invariant.1.room, c.loop-b.invariant.1.size, c.loop-b-test.true)

pub loop-b-preserved : goal.loop-b-preserved
loop-b-preserved c =
    let a = c.args in
    let l = c.loop-b in
    let e : 21 * (l.b-index + 1) ≡ 21 * l.b-index + 21 = omega arith in
    (omega (arith, c.loop-b-test.true), rw (one_more a.line.now l.b-index c.loop-b-test.true, e) (both l.invariant.1 c.write_byte-p.ensures))

pub returns : goal.returns
returns c =
    let a = c.args in
    let l = c.loop-b in
    let all : l.b-index ≡ length a.line.now = omega (arith, l.invariant.0, c.loop-b-test.false) in
    let whole : take l.b-index a.line.now ≡ a.line.now = take_all l.b-index a.line.now (omega (arith, all)) in
    subst (λ (n : ℕ). Put a.out.now a.at (listed a.line.now) (21 * n) l.p l.out) all
    (subst (λ (s : List ℕ). Put a.out.now a.at (listed s) (21 * l.b-index) l.p l.out) whole l.invariant.1)
