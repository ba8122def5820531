-- The accesses in the types of the code, whatever is held: V is the type of the values in the code, A is what the accesses are about, `plain`
-- what a value of V is there, and `of` the value of V that it is of.
use Rattle.std.specs.Prelude.{Bool, Option, Some, None}
use Rattle.atomic.specs.Access.{Reply, old, failed, nothing, refused, Access, on, fetches}
use Rattle.atomic.specs.Permission.{Permission, Done}
use Rattle.atomic.specs.declared.CellId.{CellId}
use Rattle.atomic.specs.declared.Refusal.TheVariants.{Outside}
use Rattle.atomic_access.specs.declared.Perm.{Perm}
use Rattle.atomic_access.specs.declared.Did.{Did}
use Rattle.atomic_access.specs.declared.Answer.{Answer}
use Rattle.atomic_access.specs.declared.Answer.TheVariants.{Old, Failed, Stored, Refused}

module _ {V A : Type 0} (plain : V → A) (of : A → V) where
  abbrev pub answer : Reply A → Answer V
  answer (old v) = Old (of v)
  answer (failed v) = Failed (of v)
  answer nothing = Stored
  answer (refused why) = Refused why

  abbrev pub held : Perm V → Permission A
  held p = record { id = p.id; value = plain p.value }

  abbrev pub did : Done A (Reply A) → Did V
  did d = record { perm = record { id = d.perm.id; value = of d.perm.value }; answer = answer d.answer }

  -- an access of the atomic c with the permission p
  abbrev pub on_held : CellId → Perm V → (A → Access A) → Did V
  on_held c p access = did (on c (held p) access)

-- and, or and xor of what is held are f of the bits: of a number of w bits `bits` is `bitwise w`, and `fetch_bits` then `fetch_and w` and so
-- on; of true and false it is f itself, and `fetch_bits` then `fetch_bool`
abbrev pub fetch_bits : {A : Type 0} → ((Bool → Bool → Bool) → A → A → A) → (Bool → Bool → Bool) → A → A → Access A
fetch_bits bits f n was = fetches was (bits f was n)

-- what is left and answered of a sum or a difference
abbrev pub within : {V : Type 0} → V → Option V → V × Answer V
within was (Some v) = (v, Old was)
within was None = (was, Refused Outside)
