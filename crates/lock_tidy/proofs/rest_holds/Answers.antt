-- `rest_holds` meets its contract. The loop's invariant: the test from here on, with what is held here, is the whole test. Assumes nothing.
use mathlib.Core.Path.{◌≡◌, sym, ◌∙◌}
use Rattle.std.proofs.Common.{rules}
use mathlib.Core.Bool.{true, false}
use native.Mathlib.Omega.{arith}
use Rattle.lock_tidy.specs.Rests.{mode, goes_on, words_at}
use Rattle.lock_tidy.proofs.Rests.{rest_on, rest_off, rest_over}
use Rattle.lock_tidy.proofs.rest_holds.Goals as goal

pub returns-then-not-goes_on : goal.returns-then-not-goes_on
returns-then-not-goes_on c =
    let a = c.args in
    let l = c.loop-at in
    let o = words_at a.ops.now a.op0 in
    let v = words_at a.vals.now a.val0 in
    let e : goes_on a.pred (mode l.held) (o l.at) (v l.at) ≡ false =
    sym (rw (c.word_at-o.ensures, c.word_at-v.ensures) at c.goes_on.ensures) ∙ c.if-not-goes_on.true in
    rest_off a.pred o v (mode l.held) l.at a.len c.loop-at-test.true e ∙ l.invariant.1

pub loop-at-preserved : goal.loop-at-preserved
loop-at-preserved c =
    let a = c.args in
    let l = c.loop-at in
    let o = words_at a.ops.now a.op0 in
    let v = words_at a.vals.now a.val0 in
    let e : goes_on a.pred (mode l.held) (o l.at) (v l.at) ≡ true =
    sym (rw (c.word_at-o.ensures, c.word_at-v.ensures) at c.goes_on.ensures) ∙ c.if-not-goes_on.false in
    let next = rest_on a.pred o v (mode l.held) l.at a.len c.loop-at-test.true e in
    (omega arith, rw (c.held_after-held.ensures, c.word_at-o.ensures) (next ∙ l.invariant.1))

pub returns : goal.returns
returns c =
    let a = c.args in
    let l = c.loop-at in
    let o = words_at a.ops.now a.op0 in
    let v = words_at a.vals.now a.val0 in
    (search rules) ∙ rest_over a.pred o v (mode l.held) l.at a.len c.loop-at-test.false ∙ l.invariant.1
