-- What an access of the lock does, in numbers: whether it was done, the old value, and what it left.
use Rattle.std.specs.Prelude.{ℕ, Bool, true, false}
use Rattle.atomic.specs.declared.Count.{Count}
use Rattle.atomic_access.specs.declared.Did.{Did}
use Rattle.atomic_access.specs.declared.Answer.{Answer}
use Rattle.atomic_access.specs.declared.Answer.TheVariants.{Old, Failed, Stored, Refused}
use Rattle.cell.specs.Access.{value_of}
use Rattle.std.specs.Prelude.{Option}
use Rattle.cell.specs.declared.value.Did.{Did as CellDid}
use Rattle.machine.specs.Words.{count}
use Rattle.lock_access.specs.declared.On.{On}
use Rattle.lock_access.specs.declared.OnCell.{OnCell}

abbrev pub on : {V : Type 0} → Bool → V → V → On V
on done old left = record { done = done; old = old; left = left }

abbrev pub on_count : Bool → ℕ → ℕ → On Count
on_count done old left = on done (count old) (count left)

abbrev pub on_flag : Bool → Bool → Bool → On Bool
on_flag = on

abbrev pub on_cell : ℕ → Option ℕ → OnCell
on_cell got left = record { got = got; left = left }

-- ---- of what an atomic or the cell says; the value is `untold`, 0 or false, where there is none
module _ {V : Type 0} (untold : V) where
  abbrev pub answer_told : Answer V → V → On V
  answer_told (Old v) left = on true v left
  answer_told (Failed v) left = on false v left
  answer_told Stored left = on true untold left
  answer_told (Refused why) left = on false untold left

  abbrev pub told : Did V → On V
  told d = answer_told d.answer d.perm.value

abbrev pub cell_told : CellDid → OnCell
cell_told d = on_cell (value_of d.answer) d.perm.content
