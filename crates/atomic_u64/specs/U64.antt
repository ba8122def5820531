-- The accesses in the types of the 64-bit atomic.
use Rattle.std.specs.Prelude.{ℕ}
use Rattle.atomic.specs.Access.{Reply, Access}
use Rattle.atomic.specs.Permission.{Permission, Done}
use Rattle.atomic.specs.declared.CellId.{CellId}
use Rattle.atomic.specs.declared.Count.{Count}
use Rattle.atomic_access.specs.Count as counts
use Rattle.atomic_access.specs.Held as any
use Rattle.atomic_access.specs.declared.Perm.{Perm}
use Rattle.atomic_access.specs.declared.Did.{Did}
use Rattle.atomic_access.specs.declared.Answer.{Answer}

abbrev pub count : ℕ → Count
count = counts.count

abbrev pub counted : Count → ℕ
counted n = n.0

abbrev pub answer : Reply ℕ → Answer Count
answer = any.answer counted count

abbrev pub held : Perm Count → Permission ℕ
held = any.held counted count

abbrev pub did : Done ℕ (Reply ℕ) → Did Count
did = any.did counted count

-- an access of the atomic c with the permission p
abbrev pub on_u64 : CellId → Perm Count → (ℕ → Access ℕ) → Did Count
on_u64 = any.on_held counted count
