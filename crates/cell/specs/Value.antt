-- What each operation of the value cell leaves and answers, by what is in the cell, and the same in the types of the code.
use Rattle.std.specs.Prelude.{ℕ, Bool, true, false}
use Rattle.atomic.specs.Permission.{Permission, Done, keeps, compared}
use Rattle.cell.specs.Access.{Access}
use Rattle.atomic.specs.declared.CellId.{CellId}
use Rattle.cell.specs.declared.Refusal.TheVariants.{Foreign, IsFull, IsEmpty}
use Rattle.cell.specs.declared.Answer.{Answer}
use Rattle.cell.specs.declared.Answer.TheVariants.{Value, Stored, Refused}
use Rattle.std.specs.Prelude.{None, Option, Some}
use Rattle.cell.specs.declared.value.Perm.{Perm}
use Rattle.cell.specs.declared.value.Did.{Did}
use Rattle.cell.specs.declared.value.Op.{Op}
use Rattle.cell.specs.declared.value.Op.TheVariants.{Put, Take, Borrow}

-- an empty cell keeps 0
abbrev pub kept : Option ℕ → ℕ
kept None = 0
kept (Some v) = v

abbrev pub is_full : Option ℕ → Bool
is_full None = false
is_full (Some v) = true

abbrev pub put : ℕ → Option ℕ → Access (Option ℕ)
put v None = record { leaves = Some v; answers = Stored }
put v (Some was) = keeps (Some was) (Refused IsFull)

abbrev pub take : Option ℕ → Access (Option ℕ)
take None = keeps None (Refused IsEmpty)
take (Some was) = record { leaves = None; answers = Value was }

abbrev pub borrow : Option ℕ → Access (Option ℕ)
borrow None = keeps None (Refused IsEmpty)
borrow (Some was) = keeps (Some was) (Value was)

abbrev pub held : Perm → Permission (Option ℕ)
held p = record { id = p.id; value = p.content }

abbrev pub told : Done (Option ℕ) Answer → Did
told d = record { perm = record { id = d.perm.id; content = d.perm.value }; answer = d.answer }

-- the operation, done: the permission keeps its identity
abbrev pub did : Perm → Access (Option ℕ) → Did
did p a = record { perm = record { id = p.id; content = a.leaves }; answer = a.answers }

-- an operation on the cell c with the permission p
abbrev pub on_cell : CellId → Perm → ((Option ℕ) → Access (Option ℕ)) → Did
on_cell c p operation = told (compared (Refused Foreign) c (held p) operation)

abbrev pub asks : Op → Option ℕ → Access (Option ℕ)
asks (Put v) = put v
asks Take = take
asks Borrow = borrow
