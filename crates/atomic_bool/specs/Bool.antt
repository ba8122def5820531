-- The accesses in the types of the bool atomic.
use Rattle.std.specs.Prelude.{Bool}
use Rattle.atomic.specs.Access.{Reply, Access}
use Rattle.atomic.specs.Permission.{Permission, Done}
use Rattle.atomic.specs.declared.CellId.{CellId}
use Rattle.atomic_access.specs.Held as any
use Rattle.atomic_access.specs.declared.Perm.{Perm}
use Rattle.atomic_access.specs.declared.Did.{Did}
use Rattle.atomic_access.specs.declared.Answer.{Answer}

-- true and false are themselves in the types of the code
abbrev pub itself : Bool → Bool
itself b = b

abbrev pub answer : Reply Bool → Answer Bool
answer = any.answer itself itself

abbrev pub held : Perm Bool → Permission Bool
held = any.held itself itself

abbrev pub did : Done Bool (Reply Bool) → Did Bool
did = any.did itself itself

-- an access of the atomic c with the permission p
abbrev pub on_bool : CellId → Perm Bool → (Bool → Access Bool) → Did Bool
on_bool = any.on_held itself itself
