-- What holds of every operation of the value cell.
use Rattle.std.specs.Prelude.{ℕ, cond, ◌≡◌, eqb}
use Rattle.cell.specs.Access.{answer_of}
use Rattle.cell.specs.Value.{is_full, put, take, borrow, did, on_cell, asks}
use Rattle.atomic.specs.declared.CellId.{CellId}
use Rattle.cell.specs.declared.Refusal.{Refusal}
use Rattle.cell.specs.declared.Refusal.TheVariants.{Foreign}
use Rattle.cell.specs.declared.Answer.TheVariants.{Value, Stored, Refused}
use Rattle.std.specs.Prelude.{None}
use Rattle.cell.specs.declared.value.Perm.{Perm}
use Rattle.cell.specs.declared.value.Op.{Op}

-- where the identities agree the operation is done on what is in the cell
abbrev pub OwnIsDone : Type 0
OwnIsDone = (c : CellId) (p : Perm) (op : Op) → c.0 ≡ p.id.0 → on_cell c p (asks op) ≡ did p (asks op p.content)

-- the identity is compared before all else
abbrev pub ForeignFirst : Type 0
ForeignFirst = (c : CellId) (p : Perm) (op : Op) → (c.0 ≡ p.id.0 → ⊥) → on_cell c p (asks op) ≡ record { perm = p; answer = Refused Foreign }

-- the number of each answer: 21 where the identities differ, else 23 or 24 by what is in the cell, and 0 for what is done
abbrev pub NumberedByTable : Type 0
NumberedByTable =
    (c : CellId) (p : Perm) (v : ℕ) →
    let same = eqb c.0 p.id.0 in
    (answer_of (on_cell c p (put v)).answer ≡ cond same (cond (is_full p.content) 23 0) 21)
    × (answer_of (on_cell c p take).answer ≡ cond same (cond (is_full p.content) 0 24) 21)
    × (answer_of (on_cell c p borrow).answer ≡ cond same (cond (is_full p.content) 0 24) 21)

-- a refusal leaves the permission unchanged
abbrev pub RefusedLeavesAll : Type 0
RefusedLeavesAll = (c : CellId) (p : Perm) (op : Op) (why : Refusal) → (on_cell c p (asks op)).answer ≡ Refused why → (on_cell c p (asks op)).perm ≡ p

abbrev pub BorrowLeavesAll : Type 0
BorrowLeavesAll = (c : CellId) (p : Perm) → (on_cell c p borrow).perm ≡ p

-- what is put into an empty cell is borrowed and taken again, and the take leaves the permission as it was before the put
abbrev pub PutThenTake : Type 0
PutThenTake =
    (c : CellId) (p : Perm) (v : ℕ) → c.0 ≡ p.id.0 → p.content ≡ None →
    ((on_cell c p (put v)).answer ≡ Stored)
    × ((on_cell c (on_cell c p (put v)).perm borrow).answer ≡ Value v)
    × (on_cell c (on_cell c p (put v)).perm take ≡ record { perm = p; answer = Value v })
