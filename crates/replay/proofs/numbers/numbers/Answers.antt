-- `numbers` meets its contract. The loop's invariant: what the fields fill from the start they fill from here on. The measure is what is left
-- of the text. Assumes nothing.
use Rattle.scenario_lines.specs.Number.{number}
use Rattle.replay.proofs.Fields.{fills_broken, fills_last, fills_on}
use mathlib.Core.Path.{ap, ◌∙◌}
use native.Mathlib.Omega.{arith}
use borrow.Author.Rules.{rules}
use Rattle.replay.proofs.numbers.numbers.Goals as goal

pub loop-n-preserved : goal.loop-n-preserved
loop-n-preserved c =
    let a = c.args in
    let l = c.loop-n in
    let e = c.find-end.ensures in (
      omega arith,
      omega (arith, e, l.invariant.1),
      search rules,
      fills_on a.text.now l.at c.find-end.result l.invariant.0 c.find-end.ensures l.words l.n l.invariant.3
          (c.parse_number.ensures ∙ ap number c.part.ensures) (c.put.ensures.value, c.put.ensures.words_after) c.if-not-put.false c.if-end-text.false,
    )

pub returns-then-end-text-clause-value : goal.returns-then-end-text-clause-value
returns-then-end-text-clause-value c =
    let a = c.args in
    let l = c.loop-n in
    (fills_last a.text.now l.at c.find-end.result l.invariant.0 c.find-end.ensures l.words l.n l.invariant.3
    (c.parse_number.ensures ∙ ap number c.part.ensures) (c.put.ensures.value, c.put.ensures.words_after) c.if-not-put.false c.if-end-text.true).0

pub returns-then-end-text-clause-words_after : goal.returns-then-end-text-clause-words_after
returns-then-end-text-clause-words_after c =
    let a = c.args in
    let l = c.loop-n in
    (fills_last a.text.now l.at c.find-end.result l.invariant.0 c.find-end.ensures l.words l.n l.invariant.3
    (c.parse_number.ensures ∙ ap number c.part.ensures) (c.put.ensures.value, c.put.ensures.words_after) c.if-not-put.false c.if-end-text.true).1

pub returns-then-not-put-clause-value : goal.returns-then-not-put-clause-value
returns-then-not-put-clause-value c =
    let a = c.args in
    let l = c.loop-n in
    (fills_broken a.text.now l.at c.find-end.result l.invariant.0 c.find-end.ensures l.words l.n l.invariant.3
    (c.parse_number.ensures ∙ ap number c.part.ensures) (c.put.ensures.value, c.put.ensures.words_after) c.if-not-put.true).0

pub returns-then-not-put-clause-words_after : goal.returns-then-not-put-clause-words_after
returns-then-not-put-clause-words_after c =
    let a = c.args in
    let l = c.loop-n in
    (fills_broken a.text.now l.at c.find-end.result l.invariant.0 c.find-end.ensures l.words l.n l.invariant.3
    (c.parse_number.ensures ∙ ap number c.part.ensures) (c.put.ensures.value, c.put.ensures.words_after) c.if-not-put.true).1
