-- `four_fields` meets its contract: `split` gives the fields in turn. Assumes nothing.
use mathlib.Core.Path.{◌∙◌}
use Rattle.std.proofs.Common.{rules}
use Rattle.scenario_lines.proofs.Parts.{says}
use Rattle.scenario_lines.proofs.judge.four_fields.Goals as goal

pub returns-in_default : goal.returns-in_default
returns-in_default c =
    let p = c.split-parts.ensures in
    let h = says _ _ _ _ _ _ _ c.args.s.now _ _ _ _ _ p.rest p.done p.closure c.next.ensures.steps c.next-2.ensures.steps c.next-3.ensures.steps c.next-4.ensures.steps c.next-5.ensures.steps (λ x b q k. search rules) in
    let d = c.in_default in
    rw (d.is-0, d.is-1, d.is-2, d.is-3, d.is-4) at h

pub returns-in_default-2 : goal.returns-in_default-2
returns-in_default-2 c =
    let p = c.split-parts.ensures in
    let h = says _ _ _ _ _ _ _ c.args.s.now _ _ _ _ _ p.rest p.done p.closure c.next.ensures.steps c.next-2.ensures.steps c.next-3.ensures.steps c.next-4.ensures.steps c.next-5.ensures.steps (λ x b q k. search rules) in
    let d = c.in_default in
    rw (d.is-0, d.is-1, d.is-2, d.is-3) at h

pub returns-in_default-3 : goal.returns-in_default-3
returns-in_default-3 c =
    let p = c.split-parts.ensures in
    let h = says _ _ _ _ _ _ _ c.args.s.now _ _ _ _ _ p.rest p.done p.closure c.next.ensures.steps c.next-2.ensures.steps c.next-3.ensures.steps c.next-4.ensures.steps c.next-5.ensures.steps (λ x b q k. search rules) in
    let d = c.in_default in
    rw (d.is-0, d.is-1, d.is-2) at h

pub returns-in_default-4 : goal.returns-in_default-4
returns-in_default-4 c =
    let p = c.split-parts.ensures in
    let h = says _ _ _ _ _ _ _ c.args.s.now _ _ _ _ _ p.rest p.done p.closure c.next.ensures.steps c.next-2.ensures.steps c.next-3.ensures.steps c.next-4.ensures.steps c.next-5.ensures.steps (λ x b q k. search rules) in
    let d = c.in_default in
    rw (d.is-0, d.is-1) at h

pub returns : goal.returns
returns c =
    let p = c.split-parts.ensures in
    let h = says _ _ _ _ _ _ _ c.args.s.now _ _ _ _ _ p.rest p.done p.closure c.next.ensures.steps c.next-2.ensures.steps c.next-3.ensures.steps c.next-4.ensures.steps c.next-5.ensures.steps (λ x b q k. search rules) in
    let d = c.in-Some-Some-Some-Some-None in
    let g = rw (d.is-0, d.is-1, d.is-2, d.is-3, d.is-4) at h in
    simp (c.parse_number.ensures, c.parse_number-2.ensures, c.parse_number-3.ensures) at c.of_numbers.ensures ∙ g
