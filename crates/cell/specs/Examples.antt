-- The source's own examples of an InvCell, with the values that it leaves open and the refusals that it has no words for.
use Rattle.std.specs.Prelude.{ℕ, ◌%◌, ◌≡◌, [], ◌∷◌}
use Rattle.cell.specs.Access.{answer_of, value_of}
use Rattle.cell.specs.Inv.{holding, new, get, into_inner}
use Rattle.cell.specs.Calls.{sets, replaces, call, after}
use Rattle.cell.specs.declared.Refusal.TheVariants.{NotPermitted}
use Rattle.cell.specs.declared.pred.Pred.TheVariants.{Either, Parity}
use Rattle.cell.specs.declared.inv.InvCell.{InvCell}
use Rattle.std.specs.Prelude.{Err, Ok}

-- a cell that may hold 5 or 13
abbrev pub five_or_thirteen : ℕ → InvCell
five_or_thirteen v = holding (Either 5 13) v

abbrev pub even : ℕ → InvCell
even v = holding (Parity 0) v

abbrev pub odd : ℕ → InvCell
odd v = holding (Parity 1) v

abbrev pub SourceExamples : Type 0
SourceExamples =
    -- example1: made with 5, read, set to 13, read again
    (new 5 (Either 5 13) ≡ Ok (five_or_thirteen 5))
    × (get (five_or_thirteen 5) ≡ 5)
    × (get (after (five_or_thirteen 5) (sets 13 ∷ [])) ≡ 13)
    × (value_of (call (five_or_thirteen 5) (replaces 13)).answer ≡ 5)
    -- 7 is refused by each, and nothing changes
    × (new 7 (Either 5 13) ≡ Err NotPermitted)
    × (answer_of (call (five_or_thirteen 5) (sets 7)).answer ≡ 25)
    × (answer_of (call (five_or_thirteen 5) (replaces 7)).answer ≡ 25)
    × (into_inner (after (five_or_thirteen 5) (sets 7 ∷ replaces 7 ∷ [])) ≡ 5)
    -- example2: a cell for even numbers and one for odd ones
    × (new 20 (Parity 0) ≡ Ok (even 20))
    × (new 23 (Parity 1) ≡ Ok (odd 23))
    × (get (even 20) ≡ 20)
    × (get (even 20) % 2 ≡ 0)
    × (get (odd 23) ≡ 23)
    × (get (odd 23) % 2 ≡ 1)
    × (new 23 (Parity 0) ≡ Err NotPermitted)
    × (new 20 (Parity 1) ≡ Err NotPermitted)
    -- no number has the rest 2 by 2
    × (new 20 (Parity 2) ≡ Err NotPermitted)
