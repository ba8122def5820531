-- What an operation leaves and answers, and an answer in numbers.
use Rattle.std.specs.Prelude.{ℕ}
use Rattle.atomic.specs.Permission.{Left}
use Rattle.cell.specs.declared.Refusal.{Refusal}
use Rattle.cell.specs.declared.Refusal.TheVariants.{Foreign, IsFull, IsEmpty, NotPermitted}
use Rattle.cell.specs.declared.Answer.{Answer}
use Rattle.cell.specs.declared.Answer.TheVariants.{Value, Stored, Refused}

-- A is what the cell holds: of a value cell its content, of an InvCell a number
abbrev pub Access : Type 0 → Type 0
Access A = Left A Answer

-- the numbers of the table of refusals: the identities of cell and permission differ; a put into a full cell; a take or a borrow
-- from an empty one; the value is not permitted
abbrev pub number_of : Refusal → ℕ
number_of Foreign = 21
number_of IsFull = 23
number_of IsEmpty = 24
number_of NotPermitted = 25

-- the number of an answer, 0 for what was done
abbrev pub answer_of : Answer → ℕ
answer_of (Value v) = 0
answer_of Stored = 0
answer_of (Refused why) = number_of why

-- the value given back, 0 where there is none
abbrev pub value_of : Answer → ℕ
value_of (Value v) = v
value_of Stored = 0
value_of (Refused why) = 0
