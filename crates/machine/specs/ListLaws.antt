-- The lent lists that are made of some scripts read back as those scripts: each length, each operation and each value.
use Rattle.std.specs.Prelude.{ℕ, ◌<◌, ◌≡◌, length, get_or}
use mathlib.Core.List.{List, [], map, flatten}
use Rattle.machine.specs.Lists.{Lent, lists, total, scripts_of}

-- an operation of a script, with its value
pub record Op : Type 0 where
  pub code : ℕ
  pub value : ℕ

-- what is read where there is no operation
abbrev pub none : Op
none = record { code = 0; value = 0 }

-- the lists that are lent for these scripts: a length for each, and the operations and the values one script after the other
abbrev pub lent_for : List (List Op) → Lent
lent_for scripts = lists (map length scripts) (map (λ o. o.code) (flatten scripts)) (map (λ o. o.value) (flatten scripts))

-- the lengths add up to the number of operations, and to that of values
abbrev pub TotalReadsBack : Type 0
TotalReadsBack =
    (scripts : List (List Op))
    → let s = lent_for scripts in
    (total s.lens ≡ length s.ops) × (total s.lens ≡ length s.vals)

-- a thread for which there is no script has the length 0
abbrev pub LengthsReadBack : Type 0
LengthsReadBack = (scripts : List (List Op)) (t : ℕ) → (scripts_of (lent_for scripts)).len t ≡ length (get_or scripts t [])

-- the operation k of script t, and its value
abbrev pub OperationsReadBack : Type 0
OperationsReadBack =
    (scripts : List (List Op)) (t k : ℕ)
    → let S = scripts_of (lent_for scripts) in
    let script = get_or scripts t [] in
    k < length script → (S.op t k ≡ (get_or script k none).code) × (S.val t k ≡ (get_or script k none).value)

abbrev pub ReadsBack : Type 0
ReadsBack = TotalReadsBack × LengthsReadBack × OperationsReadBack
