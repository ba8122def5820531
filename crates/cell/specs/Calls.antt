-- Any sequence of set and replace on an InvCell: what the definitions of specs/Inv make of it, and, with no cell in sight, which
-- of its values the predicate lets through.
use Rattle.std.specs.Prelude.{cond, ℕ, List, [], ◌∷◌}
use Rattle.cell.specs.Pred.{permits}
use Rattle.cell.specs.Inv.{set, replace, on_inv}
use Rattle.cell.specs.declared.pred.Pred.{Pred}
use Rattle.cell.specs.declared.inv.InvCell.{InvCell}
use Rattle.cell.specs.declared.inv.Did.{Did}

pub data Call : Type 0 where
  sets : ℕ → Call
  replaces : ℕ → Call

abbrev pub brings : Call → ℕ
brings (sets v) = v
brings (replaces v) = v

-- a call as the contract of set or replace has it
abbrev pub call : InvCell → Call → Did
call c (sets v) = on_inv c (set v)
call c (replaces v) = on_inv c (replace v)

-- the cell after the calls, each made on what the one before it left
unfoldable pub after : InvCell → List Call → InvCell
after c [] = c
after c (k ∷ ks) = after (call c k).cell ks

-- the values that p permits, in the order of the calls
unfoldable pub accepted : Pred → List Call → List ℕ
accepted p [] = []
accepted p (k ∷ ks) = cond (permits p (brings k)) (brings k ∷ accepted p ks) (accepted p ks)

-- the last of the values, or the first one given where there is none
unfoldable pub last : ℕ → List ℕ → ℕ
last v [] = v
last v (w ∷ ws) = last w ws
