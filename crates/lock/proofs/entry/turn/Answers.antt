-- `turn` meets its contract: the table where nothing is refused, and else the refusal. Assumes nothing.
use mathlib.Core.Path.{sym}
use borrow.Author.Tests.{ne_eqb}
use Rattle.std.proofs.lemmas.Result.{err_from_is_err_and}
use Rattle.lock_words.specs.Refused.{number_of}
use Rattle.lock.specs.Turn.{turn_of}
use Rattle.lock.proofs.Told.{some_number}
use Rattle.lock.proofs.Turn.{going_on}
use Rattle.lock.proofs.entry.turn.Goals as goal

pub act-requires : goal.act-requires
act-requires c = let a = c.args in c.requires (going_on a.lock a.rec a.i a.len a.others a.op a.v (sym c.in_ok-refusal.ensures))

pub returns : goal.returns
unfolding turn_of
returns c = simp (← c.in_ok-refusal.ensures, c.act.ensures)

pub returns-in_err-refusal : goal.returns-in_err-refusal
unfolding turn_of
returns-in_err-refusal c =
    let p = err_from_is_err_and c.from_residual.result c.from_residual.ensures.1 in
    let why = c.in_err-refusal.field-0.0 in
    rw (p.1, p.2, ← c.in_err-refusal.ensures, ne_eqb (number_of why) 0 (some_number why))
