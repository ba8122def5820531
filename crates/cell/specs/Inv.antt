-- What each operation of an InvCell leaves and answers, and the same in the types of the code. The value is permitted in every
-- InvCell that `new` makes (specs/InvLaws); of any other, these definitions hold all the same.
use Rattle.std.specs.Prelude.{cond, ℕ}
use Rattle.atomic.specs.Permission.{keeps}
use Rattle.cell.specs.Access.{Access}
use Rattle.cell.specs.Pred.{permits}
use Rattle.cell.specs.declared.Refusal.TheVariants.{NotPermitted}
use Rattle.cell.specs.declared.Answer.{Answer}
use Rattle.cell.specs.declared.Answer.TheVariants.{Value, Stored, Refused}
use Rattle.cell.specs.declared.pred.Pred.{Pred}
use Rattle.cell.specs.declared.inv.InvCell.{InvCell}
use Rattle.std.specs.Prelude.{Err, Ok, Result}
use Rattle.cell.specs.declared.Refusal.{Refusal}
use Rattle.cell.specs.declared.inv.Did.{Did}

abbrev pub holding : Pred → ℕ → InvCell
holding p v = record { pred = p; value = v }

abbrev pub new : ℕ → Pred → Result InvCell Refusal
new v p = cond (permits p v) (Ok (holding p v)) (Err NotPermitted)

-- p is the cell's predicate, and `was` the value in it
abbrev pub replace : ℕ → Pred → ℕ → Access ℕ
replace v p was = cond (permits p v) (record { leaves = v; answers = Value was }) (keeps was (Refused NotPermitted))

abbrev pub without_value : Answer → Answer
without_value (Value v) = Stored
without_value Stored = Stored
without_value (Refused why) = Refused why

-- as replace, and the value before is not given back
abbrev pub set : ℕ → Pred → ℕ → Access ℕ
set v p was = record { leaves = (replace v p was).leaves; answers = without_value (replace v p was).answers }

abbrev pub get : InvCell → ℕ
get c = c.value

abbrev pub into_inner : InvCell → ℕ
into_inner c = c.value

-- the cell keeps its predicate
abbrev pub did : InvCell → Access ℕ → Did
did c a = record { cell = holding c.pred a.leaves; answer = a.answers }

-- an operation on the InvCell c
abbrev pub on_inv : InvCell → (Pred → ℕ → Access ℕ) → Did
on_inv c operation = did c (operation c.pred c.value)
