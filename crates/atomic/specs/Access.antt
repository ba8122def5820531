-- What each access of an atomic leaves in the permission and what it answers, from the published contracts: one definition an
-- operation, for every width. `was` is the value before the access, and w the width in bits.
use Rattle.std.specs.Prelude.{ℕ, ◌+◌, ◌-◌, ◌%◌, ◌^◌, Bool, cond, ltb, leb}
use Rattle.atomic.specs.declared.CellId.{CellId}
use Rattle.atomic.specs.declared.Refusal.{Refusal}
use Rattle.atomic.specs.declared.Refusal.TheVariants.{Foreign, Outside}
use Rattle.atomic.specs.Permission.{Left, Permission, Done, keeps, compared}
use Rattle.atomic.specs.Bits.{bitwise, both, either, differ, not_both}

-- A is what the atomic holds: numbers, or true and false
pub data Reply (A : Type 0) : Type 0 where
  -- the old value; of an exchange: done
  old : A → Reply A
  -- of an exchange that was not done, the old value too
  failed : A → Reply A
  -- a store returns nothing
  nothing : Reply A
  refused : Refusal → Reply A

-- the numbers of the table of refusals: the identities of atomic and permission differ; the sum or the difference would leave
-- the width
abbrev pub number_of : Refusal → ℕ
number_of Foreign = 21
number_of Outside = 22

-- the number of an answer, 0 for what was done
abbrev pub answer_of : {A : Type 0} → Reply A → ℕ
answer_of (old v) = 0
answer_of (failed v) = 0
answer_of nothing = 0
answer_of (refused why) = number_of why

abbrev pub Access : Type 0 → Type 0
Access A = Left A (Reply A)

module _ {A : Type 0} where
  abbrev pub fetches : A → A → Access A
  fetches was now = record { leaves = now; answers = old was }

  abbrev pub load : A → Access A
  load was = fetches was was

  abbrev pub store : A → A → Access A
  store v was = record { leaves = v; answers = nothing }

  abbrev pub swap : A → A → Access A
  swap v was = fetches was v

  -- `same` tells whether two values are equal
  abbrev pub compare_exchange : (A → A → Bool) → A → A → A → Access A
  compare_exchange same from to was = cond (same was from) (fetches was to) (keeps was (failed was))

  -- answers as the strong form
  abbrev pub compare_exchange_weak : (A → A → Bool) → A → A → A → Access A
  compare_exchange_weak same from to was = compare_exchange same from to was

abbrev pub fetch_add : ℕ → ℕ → ℕ → Access ℕ
fetch_add w n was = cond (ltb (was + n) (2 ^ w)) (fetches was (was + n)) (keeps was (refused Outside))

abbrev pub fetch_sub : ℕ → ℕ → Access ℕ
fetch_sub n was = cond (leb n was) (fetches was (was - n)) (keeps was (refused Outside))

abbrev pub fetch_add_wrapping : ℕ → ℕ → ℕ → Access ℕ
fetch_add_wrapping w n was = fetches was ((was + n) % 2 ^ w)

-- n is below 2 ^ w
abbrev pub fetch_sub_wrapping : ℕ → ℕ → ℕ → Access ℕ
fetch_sub_wrapping w n was = fetches was ((was + (2 ^ w - n)) % 2 ^ w)

abbrev pub fetch_and : ℕ → ℕ → ℕ → Access ℕ
fetch_and w n was = fetches was (bitwise w both was n)

abbrev pub fetch_or : ℕ → ℕ → ℕ → Access ℕ
fetch_or w n was = fetches was (bitwise w either was n)

abbrev pub fetch_xor : ℕ → ℕ → ℕ → Access ℕ
fetch_xor w n was = fetches was (bitwise w differ was n)

abbrev pub fetch_nand : ℕ → ℕ → ℕ → Access ℕ
fetch_nand w n was = fetches was (bitwise w not_both was n)

abbrev pub fetch_max : ℕ → ℕ → Access ℕ
fetch_max n was = fetches was (cond (ltb n was) was n)

-- of true and false: and, or and xor are f of the two
abbrev pub fetch_bool : (Bool → Bool → Bool) → Bool → Bool → Access Bool
fetch_bool f n was = fetches was (f was n)

-- an access of the atomic c with the permission p
abbrev pub on : {A : Type 0} → CellId → Permission A → (A → Access A) → Done A (Reply A)
on c p access = compared (refused Foreign) c p access
