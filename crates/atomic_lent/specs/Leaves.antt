-- What a lent operation leaves in the permission, said of the definitions that the contracts cite: what `p.new` is there, and
-- what the next operation with the same permission then answers.
use Rattle.std.specs.Prelude.{ℕ, Bool, ◌≡◌, eqb}
use Rattle.std.specs.Bool.{beq}
use Rattle.atomic.specs.Bits.{both, either, differ}
use Rattle.atomic.specs.Access.{Access, load, store, swap, compare_exchange, compare_exchange_weak, fetch_add, fetch_sub, fetch_add_wrapping, fetch_sub_wrapping, fetch_and, fetch_or, fetch_xor, fetch_nand, fetch_max, fetch_bool}
use Rattle.atomic.specs.declared.CellId.{CellId}
use Rattle.atomic.specs.declared.Refusal.{Refusal}
use Rattle.atomic.specs.declared.Refusal.TheVariants.{Foreign}
use Rattle.atomic.specs.declared.Count.{Count as Count64}
use Rattle.atomic_access.specs.declared.Perm.{Perm}
use Rattle.atomic_access.specs.declared.Answer.TheVariants.{Old, Refused}
use Rattle.atomic_u64.specs.U64.{count, on_u64}
use Rattle.atomic_u8.specs.U8.{count as count8, on_u8}
use Rattle.atomic_u8.specs.declared.Count.{Count as Count8}
use Rattle.atomic_bool.specs.Bool.{on_bool}
use Rattle.cell.specs.Access.{Access as CellAccess}
use Rattle.cell.specs.Value.{put, take, borrow, on_cell}
use Rattle.cell.specs.declared.Refusal.{Refusal as CellRefusal}
use Rattle.cell.specs.declared.Refusal.TheVariants.{Foreign as CellForeign}
use Rattle.cell.specs.declared.Answer.TheVariants.{Value, Refused as RefusedCell}
use Rattle.std.specs.Prelude.{None, Option}
use Rattle.cell.specs.declared.value.Perm.{Perm as PermCell}

-- ---- what the functions ask for, one each: of `of_atomic` where it holds a number of w bits
pub data OfNumbers (w : ℕ) : (ℕ → Access ℕ) → Type 0 where
  loads : OfNumbers w load
  stores : (v : ℕ) → OfNumbers w (store v)
  swaps : (v : ℕ) → OfNumbers w (swap v)
  exchanges : (from to : ℕ) → OfNumbers w (compare_exchange eqb from to)
  exchanges_weak : (from to : ℕ) → OfNumbers w (compare_exchange_weak eqb from to)
  adds : (n : ℕ) → OfNumbers w (fetch_add w n)
  subs : (n : ℕ) → OfNumbers w (fetch_sub n)
  adds_wrapping : (n : ℕ) → OfNumbers w (fetch_add_wrapping w n)
  subs_wrapping : (n : ℕ) → OfNumbers w (fetch_sub_wrapping w n)
  ands : (n : ℕ) → OfNumbers w (fetch_and w n)
  ors : (n : ℕ) → OfNumbers w (fetch_or w n)
  xors : (n : ℕ) → OfNumbers w (fetch_xor w n)
  nands : (n : ℕ) → OfNumbers w (fetch_nand w n)
  maxes : (n : ℕ) → OfNumbers w (fetch_max n)

-- of `of_atomic` where it holds true or false
pub data OfFlags : (Bool → Access Bool) → Type 0 where
  loads : OfFlags load
  stores : (v : Bool) → OfFlags (store v)
  swaps : (v : Bool) → OfFlags (swap v)
  exchanges : (from to : Bool) → OfFlags (compare_exchange beq from to)
  exchanges_weak : (from to : Bool) → OfFlags (compare_exchange_weak beq from to)
  ands : (n : Bool) → OfFlags (fetch_bool both n)
  ors : (n : Bool) → OfFlags (fetch_bool either n)
  xors : (n : Bool) → OfFlags (fetch_bool differ n)

-- of `of_cell`
pub data OfCells : ((Option ℕ) → CellAccess (Option ℕ)) → Type 0 where
  puts : (v : ℕ) → OfCells (put v)
  takes : OfCells take
  borrows : OfCells borrow

-- ---- whatever the number of the refusal, the permission is as it was
abbrev pub RefusedLeaves : Type 0
RefusedLeaves =
    ((c : CellId) (p : Perm Count64) (access : ℕ → Access ℕ) (why : Refusal) → OfNumbers 64 access → (on_u64 c p access).answer ≡ Refused why → (on_u64 c p access).perm ≡ p)
    × ((c : CellId) (p : Perm Count8) (access : ℕ → Access ℕ) (why : Refusal) → OfNumbers 8 access → (on_u8 c p access).answer ≡ Refused why → (on_u8 c p access).perm ≡ p)
    × ((c : CellId) (p : Perm Bool) (access : Bool → Access Bool) (why : Refusal) → OfFlags access → (on_bool c p access).answer ≡ Refused why → (on_bool c p access).perm ≡ p)
    × ((c : CellId) (p : PermCell) (access : Option ℕ → CellAccess (Option ℕ)) (why : CellRefusal) → OfCells access → (on_cell c p access).answer ≡ RefusedCell why → (on_cell c p access).perm ≡ p)

-- a load and a borrow leave it as it was, refused or not
abbrev pub LoadLeaves : Type 0
LoadLeaves =
    ((c : CellId) (p : Perm Count64) → (on_u64 c p load).perm ≡ p)
    × ((c : CellId) (p : Perm Count8) → (on_u8 c p load).perm ≡ p)
    × ((c : CellId) (p : Perm Bool) → (on_bool c p load).perm ≡ p)
    × ((c : CellId) (p : PermCell) → (on_cell c p borrow).perm ≡ p)

-- the permission of another is 21, whatever is asked, and left as it was
abbrev pub ForeignLeaves : Type 0
ForeignLeaves =
    ((c : CellId) (p : Perm Count64) (access : ℕ → Access ℕ) → (c.0 ≡ p.id.0 → ⊥) → on_u64 c p access ≡ record { perm = p; answer = Refused Foreign })
    × ((c : CellId) (p : Perm Count8) (access : ℕ → Access ℕ) → (c.0 ≡ p.id.0 → ⊥) → on_u8 c p access ≡ record { perm = p; answer = Refused Foreign })
    × ((c : CellId) (p : Perm Bool) (access : Bool → Access Bool) → (c.0 ≡ p.id.0 → ⊥) → on_bool c p access ≡ record { perm = p; answer = Refused Foreign })
    × ((c : CellId) (p : PermCell) (access : Option ℕ → CellAccess (Option ℕ)) → (c.0 ≡ p.id.0 → ⊥) → on_cell c p access ≡ record { perm = p; answer = RefusedCell CellForeign })

-- whatever is asked, the permission stays that of its atomic or cell, so that it serves the next operation too
abbrev pub IdentityStays : Type 0
IdentityStays =
    ((c : CellId) (p : Perm Count64) (access : ℕ → Access ℕ) → (on_u64 c p access).perm.id ≡ p.id)
    × ((c : CellId) (p : Perm Count8) (access : ℕ → Access ℕ) → (on_u8 c p access).perm.id ≡ p.id)
    × ((c : CellId) (p : Perm Bool) (access : Bool → Access Bool) → (on_bool c p access).perm.id ≡ p.id)
    × ((c : CellId) (p : PermCell) (access : Option ℕ → CellAccess (Option ℕ)) → (on_cell c p access).perm.id ≡ p.id)

-- two operations, one after the other, with one permission: what is stored is loaded, and what is put into an empty cell is taken
abbrev pub StoredIsLoaded : Type 0
StoredIsLoaded =
    ((c : CellId) (p : Perm Count64) (v : ℕ) → c.0 ≡ p.id.0 → (on_u64 c (on_u64 c p (store v)).perm load).answer ≡ Old (count v))
    × ((c : CellId) (p : Perm Count8) (v : ℕ) → c.0 ≡ p.id.0 → (on_u8 c (on_u8 c p (store v)).perm load).answer ≡ Old (count8 v))
    × ((c : CellId) (p : Perm Bool) (v : Bool) → c.0 ≡ p.id.0 → (on_bool c (on_bool c p (store v)).perm load).answer ≡ Old v)
    × ((c : CellId) (p : PermCell) (v : ℕ) → c.0 ≡ p.id.0 → p.content ≡ None → on_cell c (on_cell c p (put v)).perm take ≡ record { perm = p; answer = Value v })
