-- What the lent operations leave: by the laws of the operations by value, and for refusals by the cases of what is asked. Assumes nothing.
use Prim.Native.Nat.{ℕ, ◌+◌, ◌^◌}
use mathlib.Core.Bool.{Bool, true, false, cond, beq}
use mathlib.Core.Path.{◌≡◌, refl, ap}
use lib.Dec.{eqb, ltb, leb}
use package.borrow.Author.Tests.{eq-eqb}
use Rattle.atomic.specs.Permission.{Left, Permission, keeps, owned}
use Rattle.atomic.specs.Access.{Reply, old, failed, nothing, refused, Access, fetches, load, store}
use Rattle.atomic.specs.declared.CellId.{CellId}
use Rattle.atomic.specs.declared.Refusal.{Refusal}
use Rattle.atomic.specs.declared.Refusal.TheVariants.{Foreign}
use Rattle.atomic.proofs.Permission as permission
use Rattle.atomic_access.specs.Held.{answer, held, on_held}
use Rattle.atomic_access.specs.declared.Perm.{Perm}
use Rattle.atomic_access.specs.declared.Answer.TheVariants.{Refused}
use Rattle.atomic_u64.specs.U64 as u64
use Rattle.atomic_u64.proofs.Laws as laws64
use Rattle.atomic_u8.specs.U8 as u8
use Rattle.atomic_u8.proofs.Laws as laws8
use Rattle.atomic_bool.specs.Bool as flag
use Rattle.atomic_bool.proofs.Laws as laws_flag
use Rattle.cell.specs.Access.{Access as CellAccess}
use Rattle.cell.specs.Value as cells
use Rattle.cell.specs.declared.Refusal.TheVariants.{Foreign as CellForeign}
use Rattle.cell.specs.declared.Answer.TheVariants.{Refused as RefusedCell}
use Rattle.std.specs.Prelude.{None, Option, Some}
use Rattle.cell.specs.declared.value.Perm.{Perm as PermCell}
use Rattle.cell.proofs.ValueLaws as laws_cell
use Rattle.atomic_lent.specs.Leaves as stated
use Rattle.atomic_lent.specs.Leaves.{OfNumbers, OfFlags, OfCells}

-- ---- what is refused is left, for any A that is held and R that is answered
module _ {A R : Type 0} where
  -- an access that leaves what it refuses, where `refusal` are the answers that refuse
  abbrev Careful : {W : Type 0} → (W → R) → A → Left A R → Type 0
  Careful {W} refusal was done = (why : W) → done.answers ≡ refusal why → done.leaves ≡ was

  leaves_it : {W : Type 0} (refusal : W → R) (foreign : R) (agree : Bool) (p : Permission A) (access : A → Left A R) → Careful refusal p.value (access p.value)
      → (why : W) → (owned agree foreign p access).answer ≡ refusal why → (owned agree foreign p access).perm ≡ p
  leaves_it refusal foreign true p access careful why e = ap (λ (v : A). record { id = p.id; value = v }) (careful why e)
  leaves_it refusal foreign false p access careful why e = refl

-- the reply of a choice refuses only where nothing is changed
module _ {A : Type 0} (was : A) where
  fetched : (next : A) → Careful refused was (fetches was next)
  fetched next why e = cc

  chosen : (t : Bool) (next : A) (other : Reply A) → Careful refused was (cond t (fetches was next) (keeps was other))
  chosen true next other why e = cc
  chosen false next other why e = refl

  stored : (v : A) → Careful refused was (store v was)
  stored v why e = cc

of_numbers : {w : ℕ} {access : ℕ → Access ℕ} → OfNumbers w access → (was : ℕ) → Careful refused was (access was)
of_numbers stated.loads was = fetched was _
of_numbers (stated.stores v) was = stored was v
of_numbers (stated.swaps v) was = fetched was _
of_numbers (stated.exchanges from to) was = chosen was (eqb was from) _ _
of_numbers (stated.exchanges_weak from to) was = chosen was (eqb was from) _ _
of_numbers (stated.adds n) was = chosen was (ltb (was + n) (2 ^ _)) _ _
of_numbers (stated.subs n) was = chosen was (leb n was) _ _
of_numbers (stated.adds_wrapping n) was = fetched was _
of_numbers (stated.subs_wrapping n) was = fetched was _
of_numbers (stated.ands n) was = fetched was _
of_numbers (stated.ors n) was = fetched was _
of_numbers (stated.xors n) was = fetched was _
of_numbers (stated.nands n) was = fetched was _
of_numbers (stated.maxes n) was = fetched was _

of_flags : {access : Bool → Access Bool} → OfFlags access → (was : Bool) → Careful refused was (access was)
of_flags stated.loads was = fetched was _
of_flags (stated.stores v) was = stored was v
of_flags (stated.swaps v) was = fetched was _
of_flags (stated.exchanges from to) was = chosen was (beq was from) _ _
of_flags (stated.exchanges_weak from to) was = chosen was (beq was from) _ _
of_flags (stated.ands n) was = fetched was _
of_flags (stated.ors n) was = fetched was _
of_flags (stated.xors n) was = fetched was _

of_cells : {access : Option ℕ → CellAccess (Option ℕ)} → OfCells access → (was : Option ℕ) → Careful RefusedCell was (access was)
of_cells (stated.puts v) None why e = cc
of_cells (stated.puts v) (Some w) why e = refl
of_cells stated.takes None why e = refl
of_cells stated.takes (Some w) why e = cc
of_cells stated.borrows None why e = refl
of_cells stated.borrows (Some w) why e = refl

module _ {V A : Type 0} (plain : V → A) (of : A → V) where
  -- an answer that refuses is of a reply that does
  says : (r : Reply A) (why : Refusal) → answer plain of r ≡ Refused why → r ≡ refused why
  says (old v) why e = cc
  says (failed v) why e = cc
  says nothing why e = cc
  says (refused y) why e = cc

  -- a permission in the types of the code
  abbrev back : Permission A → Perm V
  back q = record { id = q.id; value = of q.value }

  leaves : (c : CellId) (p : Perm V) (access : A → Access A) (why : Refusal) → Careful refused (plain p.value) (access (plain p.value))
      → (on_held plain of c p access).answer ≡ Refused why → (on_held plain of c p access).perm ≡ back (held plain of p)
  leaves c p access why careful e = ap back (leaves_it refused (refused Foreign) (eqb c.0 p.id.0) (held plain of p) access careful why (says _ why e))

abbrev back_cell : Permission (Option ℕ) → PermCell
back_cell q = record { id = q.id; content = q.value }

pub refused_leaves : stated.RefusedLeaves
refused_leaves = (
  λ c p access why asked. leaves u64.counted u64.count c p access why (of_numbers asked p.value.0),
  λ c p access why asked. leaves u8.counted u8.count c p access why (of_numbers asked p.value.0),
  λ c p access why asked. leaves flag.itself flag.itself c p access why (of_flags asked p.value),
  λ c p access why asked e. ap back_cell (leaves_it RefusedCell (RefusedCell CellForeign) (eqb c.0 p.id.0) (cells.held p) access (of_cells asked p.content) why e),
)

load_stays : {A : Type 0} (agree : Bool) (p : Permission A) → (owned agree (refused Foreign) p load).perm ≡ p
load_stays true p = refl
load_stays false p = refl

pub load_leaves : stated.LoadLeaves
load_leaves = (
  λ c p. ap (back u64.counted u64.count) (load_stays (eqb c.0 p.id.0) (u64.held p)),
  λ c p. ap (back u8.counted u8.count) (load_stays (eqb c.0 p.id.0) (u8.held p)),
  λ c p. ap (back flag.itself flag.itself) (load_stays (eqb c.0 p.id.0) (flag.held p)),
  laws_cell.borrow_leaves_all,
)

pub foreign_leaves : stated.ForeignLeaves
foreign_leaves = (
  λ c p access. (laws64.compares c p access).1,
  λ c p access. (laws8.compares c p access).1,
  λ c p access. (laws_flag.compares c p access).1,
  λ c p access ne. ap cells.told ((permission.compares _ _ (RefusedCell CellForeign) c (cells.held p) access).1 ne),
)

pub identity_stays : stated.IdentityStays
identity_stays = (
  λ c p access. permission.keeps _ _ (refused Foreign) c (u64.held p) access,
  λ c p access. permission.keeps _ _ (refused Foreign) c (u8.held p) access,
  λ c p access. permission.keeps _ _ (refused Foreign) c (flag.held p) access,
  λ c p access. permission.keeps _ _ (RefusedCell CellForeign) c (cells.held p) access,
)

pub stored_is_loaded : stated.StoredIsLoaded
stored_is_loaded = (
  λ c p v e. simp (eq-eqb c.0 p.id.0 e),
  λ c p v e. simp (eq-eqb c.0 p.id.0 e),
  λ c p v e. simp (eq-eqb c.0 p.id.0 e),
  λ c p v e f. (laws_cell.put_then_take c p v e f).2,
)
