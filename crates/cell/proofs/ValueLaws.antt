-- The laws of the value cell: by the test of the identities, by what is in the cell and by the operation. Assumes nothing.
use Prim.Native.Nat.{ℕ}
use mathlib.Core.Bool.{Bool, true, false, cond}
use mathlib.Core.Path.{◌≡◌, refl, ap, sym}
use lib.Dec.{eqb}
use package.borrow.Author.Tests.{eq-eqb}
use Rattle.atomic.specs.Permission.{Permission, owned}
use Rattle.atomic.specs.declared.CellId.{CellId}
use Rattle.atomic.proofs.Permission as permission
use Rattle.cell.specs.Access.{answer_of}
use Rattle.cell.specs.Value.{is_full, put, take, borrow, held, asks}
use Rattle.cell.specs.ValueLaws.{OwnIsDone, ForeignFirst, NumberedByTable, RefusedLeavesAll, BorrowLeavesAll, PutThenTake}
use Rattle.cell.specs.declared.Refusal.{Refusal}
use Rattle.cell.specs.declared.Refusal.TheVariants.{Foreign}
use Rattle.cell.specs.declared.Answer.TheVariants.{Value, Refused}
use Rattle.std.specs.Prelude.{None, Option, Some}
use Rattle.cell.specs.declared.value.Did.{Did}
use Rattle.cell.specs.declared.value.Op.{Op}
use Rattle.cell.specs.declared.value.Op.TheVariants.{Put, Take, Borrow}

pub own_is_done : OwnIsDone
own_is_done c p op e = rw ((permission.compares _ _ (Refused Foreign) c (held p) (asks op)).0 e)

pub foreign_first : ForeignFirst
foreign_first c p op ne = rw ((permission.compares _ _ (Refused Foreign) c (held p) (asks op)).1 ne)

-- by the test of the identities, for any permission q
numbered : (agree : Bool) (id : CellId) (was : Option ℕ) (v : ℕ) →
    let q : Permission (Option ℕ) = record { id = id; value = was } in
    (answer_of (owned agree (Refused Foreign) q (put v)).answer ≡ cond agree (cond (is_full was) 23 0) 21)
    × (answer_of (owned agree (Refused Foreign) q take).answer ≡ cond agree (cond (is_full was) 0 24) 21)
    × (answer_of (owned agree (Refused Foreign) q borrow).answer ≡ cond agree (cond (is_full was) 0 24) 21)
numbered true id None v = (refl, refl, refl)
numbered true id (Some w) v = (refl, refl, refl)
numbered false id was v = (refl, refl, refl)

pub numbered_by_table : NumberedByTable
numbered_by_table c p v = numbered (eqb c.0 p.id.0) p.id p.content v

leaves_all : (agree : Bool) (id : CellId) (was : Option ℕ) (op : Op) (why : Refusal) →
    let q : Permission (Option ℕ) = record { id = id; value = was } in
    (owned agree (Refused Foreign) q (asks op)).answer ≡ Refused why → (owned agree (Refused Foreign) q (asks op)).perm ≡ q
leaves_all false id was op why e = refl
leaves_all true id None (Put v) why e = cc
leaves_all true id None Take why e = refl
leaves_all true id None Borrow why e = refl
leaves_all true id (Some w) (Put v) why e = refl
leaves_all true id (Some w) Take why e = cc
leaves_all true id (Some w) Borrow why e = refl

pub refused_leaves_all : RefusedLeavesAll
refused_leaves_all c p op why e = rw (leaves_all (eqb c.0 p.id.0) p.id p.content op why e)

borrow_leaves : (agree : Bool) (id : CellId) (was : Option ℕ) →
    let q : Permission (Option ℕ) = record { id = id; value = was } in
    (owned agree (Refused Foreign) q (asks Borrow)).perm ≡ q
borrow_leaves false id was = refl
borrow_leaves true id None = refl
borrow_leaves true id (Some w) = refl

pub borrow_leaves_all : BorrowLeavesAll
borrow_leaves_all c p = rw (borrow_leaves (eqb c.0 p.id.0) p.id p.content)

pub put_then_take : PutThenTake
put_then_take c p v e f =
    let same = eq-eqb c.0 p.id.0 e in
    let again : Option ℕ → Did = λ x. record { perm = record { id = p.id; content = x }; answer = Value v } in
    (simp (same, f), simp (same, f), simp (same, f) (ap again (sym f)))
