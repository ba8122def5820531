-- A lent operation says of its answer and of the permission that it leaves what the operation by value says of what it gives back: each
-- statement cites the contracts of the two functions. So what is promised, and replayed, of the operations by value is promised of these.
use Rattle.std.specs.Prelude.{ℕ, suc, ◌≡◌, List, [], ◌∷◌}
use Rattle.std.specs.declared.clone.Clone.{Ghosts as Clones}
use seplogic.Ra.Ura.{Ura}
use base.Logic.{SProp, ent}
use prog.Memory.{Memory}
use prog.Routine.{Routine}
use types.Logic.{Logic}
use contract.Lifetimes.{Lfts, Outlives}
use contract.Monad.{Fun}
use denote.Builtin as builtin
use denote.Exit.{Kept, yes, no}
use denote.Param.{copied}
use denote.RattleType.{RattleType, Denots}
use denote.Signature.{Slot, plain, mut_ref, types_at}
use denote.Triple.Clauses.{Ended, AtExit}
use denote.Triple.End.{Kepts}
use denote.Triple.Entry.{Args}
use mir.Syntax.{Dict, named}
use Rattle.atomic.specs.contracts.CellId as CellId
use Rattle.atomic.specs.contracts.Count as Count64
use Rattle.atomic_access.specs.contracts as by_value_of
use Rattle.atomic_access.specs.declared.value.Value.{Ghosts as Values}
use Rattle.atomic_access.specs.declared.number.Number.{Ghosts as Numbers}
use Rattle.atomic_access.specs.contracts.value.CountValue.TheImpl as count64
use Rattle.atomic_access.specs.contracts.number.CountNumber.TheImpl as number64
use Rattle.atomic_access.specs.contracts.value.BoolValue.TheImpl as flag
use Rattle.atomic_u8.specs.contracts.Count as Count8
use Rattle.atomic_u8.specs.contracts.CountValue.TheImpl as count8
use Rattle.atomic_u8.specs.contracts.CountNumber.TheImpl as number8
use Rattle.cell.specs.contracts as cells
use Rattle.cell.specs.contracts.value as cell
use Rattle.atomic_lent.specs.contracts.of_atomic as lent_of
use Rattle.atomic_lent.specs.contracts.of_cell as lent_cell
use Rattle.says.specs.Says.{Contract, AsksNothing}

-- ---- the signatures
-- the types of an atomic or of a cell: its identity's, its permission's, an answer's, and that of what an operation by value gives back,
-- in which a permission and an answer are; with the lifetimes of what is held, which the loan of the permission ends before, and whether a
-- clause sees it at exit
pub record Types : Type 1 where
  pub lifetimes : ℕ
  pub outlives : List (Outlives (suc lifetimes))
  pub seen : Kept
  pub cell_id : RattleType
  pub perm : RattleType
  pub answer : RattleType
  pub did : RattleType
  pub perm_of : did.Denot → perm.Denot
  pub answer_of : did.Denot → answer.Denot

-- the operands, of the types Ns, as parameters in a signature of n lifetimes
module _ (n : ℕ) (seen : Kept) where
  abbrev pub slots : List RattleType → List (Slot n)
  slots [] = []
  slots (N ∷ Ns) = plain (λ κs. N) ∷ slots Ns

  abbrev pub kepts : (Ns : List RattleType) → Kepts (slots Ns)
  kepts [] = tt
  kepts (N ∷ Ns) = (seen, kepts Ns)

-- what was passed to the lent operation as operands, passed to the operation by value
abbrev pub pass : (n : ℕ) (seen : Kept) (κs : Lfts (suc n)) (Ns : List RattleType) → Denots (types_at (slots (suc n) seen Ns) κs) → Denots (types_at (slots n seen Ns) κs.1)
pass n seen κs [] a = tt
pass n seen κs (N ∷ Ns) a = (a.0, pass n seen κs Ns a.1)

module _ (T : Types) (Ns : List RattleType) where
  -- the identity, the permission and the operands, and both back
  abbrev pub by_value : Ended
  by_value = record {
    signature = record { lifetimes = T.lifetimes; outlives = []; params = plain (λ κs. T.cell_id) ∷ plain (λ κs. T.perm) ∷ slots T.lifetimes T.seen Ns; result = plain (λ κs. T.did) };
    kept = (yes, (T.seen, kepts T.lifetimes T.seen Ns));
  }

  -- the permission behind a `&mut`, and the answer back
  abbrev pub by_ref : Ended
  by_ref = record {
    signature = record { lifetimes = suc T.lifetimes; outlives = T.outlives; params = plain (λ κs. T.cell_id) ∷ mut_ref 0 tt (λ κs. T.perm) ∷ slots (suc T.lifetimes) T.seen Ns; result = plain (λ κs. T.answer) };
    kept = (yes, (yes, kepts (suc T.lifetimes) T.seen Ns));
  }

  -- ---- the lent one may be called with anything; and whatever its contract allows as the answer and as the permission at exit, the
  -- other's allows as what is given back
  abbrev pub AsByValue : Contract by_ref → Contract by_value → Type 2
  AsByValue lent value =
      AsksNothing by_ref lent
      × ((M : Type 1) (𝓤 : Ura M) (𝓛 : Logic 𝓤) (mem : Memory → SProp 𝓤) (runs : Routine → Fun 𝓤) (κs : Lfts (suc T.lifetimes))
      (a : Args by_ref.signature κs) (r : T.did.Denot) (e : AtExit by_ref κs) (e' : AtExit by_value κs.1)
      → let passed : Args by_value.signature κs.1 = (a.0, (a.1.0.now, pass T.lifetimes T.seen κs Ns a.1.1)) in
      (g : (lent M 𝓤 𝓛 mem runs κs a).ghost) (g' : (value M 𝓤 𝓛 mem runs κs.1 passed).ghost)
      → e.1.0.now ≡ T.perm_of r
      → ent 𝓤 ((lent M 𝓤 𝓛 mem runs κs a).ensures g (T.answer_of r) e) ((value M 𝓤 𝓛 mem runs κs.1 passed).ensures g' r e'))

-- ---- of each operation of what holds a V, with two lifetimes: V's own, and that of its plain type
abbrev pub types_of : RattleType → Types
types_of V = record {
  lifetimes = 2;
  outlives = record { long = 1; long_ok = tt; short = named 0; short_ok = tt } ∷ [];
  seen = no;
  cell_id = CellId.the_row;
  perm = by_value_of.Perm.the_row (copied 0 V);
  answer = by_value_of.Answer.the_row (copied 0 V);
  did = by_value_of.Did.the_row (copied 0 V);
  perm_of = λ d. d.perm;
  answer_of = λ d. d.answer;
}

-- V is the type in the code and P its plain type, of which the impls say `its` and `numbers`, whichever they are
module _ (V P : RattleType) where
  abbrev held : RattleType
  held = copied 0 V

  module _ (Ns : List RattleType) where
    abbrev as_any : Contract (by_ref (types_of V) Ns) → Contract (by_value (types_of V) Ns) → Type 2
    as_any = AsByValue (types_of V) Ns

  module _ (its : Values V.Denot P.Denot) (dict : Dict) (clones : Clones V.Denot) (clone : Dict) where
    -- the operations of any value
    pub record OfValue : Type 2 where
      pub load : as_any [] (λ M 𝓤. lent_of.load.clauses V P its dict clones clone) (λ M 𝓤. by_value_of.load.clauses V P its dict clones clone)
      pub store : as_any (held ∷ []) (λ M 𝓤. lent_of.store.clauses V P its dict clones clone) (λ M 𝓤. by_value_of.store.clauses V P its dict clones clone)
      pub swap : as_any (held ∷ []) (λ M 𝓤. lent_of.swap.clauses V P its dict clones clone) (λ M 𝓤. by_value_of.swap.clauses V P its dict clones clone)
      pub compare_exchange : as_any (held ∷ held ∷ []) (λ M 𝓤. lent_of.compare_exchange.clauses V P its dict clones clone) (λ M 𝓤. by_value_of.compare_exchange.clauses V P its dict clones clone)
      pub compare_exchange_weak : as_any (held ∷ held ∷ []) (λ M 𝓤. lent_of.compare_exchange_weak.clauses V P its dict clones clone) (λ M 𝓤. by_value_of.compare_exchange_weak.clauses V P its dict clones clone)
      pub fetch_and : as_any (held ∷ []) (λ M 𝓤. lent_of.fetch_and.clauses V P its dict clones clone) (λ M 𝓤. by_value_of.fetch_and.clauses V P its dict clones clone)
      pub fetch_or : as_any (held ∷ []) (λ M 𝓤. lent_of.fetch_or.clauses V P its dict clones clone) (λ M 𝓤. by_value_of.fetch_or.clauses V P its dict clones clone)
      pub fetch_xor : as_any (held ∷ []) (λ M 𝓤. lent_of.fetch_xor.clauses V P its dict clones clone) (λ M 𝓤. by_value_of.fetch_xor.clauses V P its dict clones clone)

    -- those of a number
    pub record OfNumber (numbers : Numbers V.Denot P.Denot) (number : Dict) : Type 2 where
      pub fetch_add : as_any (held ∷ []) (λ M 𝓤. lent_of.fetch_add.clauses V P numbers number its dict clones clone) (λ M 𝓤. by_value_of.fetch_add.clauses V P numbers number its dict clones clone)
      pub fetch_sub : as_any (held ∷ []) (λ M 𝓤. lent_of.fetch_sub.clauses V P numbers number its dict clones clone) (λ M 𝓤. by_value_of.fetch_sub.clauses V P numbers number its dict clones clone)
      pub fetch_add_wrapping : as_any (held ∷ []) (λ M 𝓤. lent_of.fetch_add_wrapping.clauses V P numbers number its dict clones clone) (λ M 𝓤. by_value_of.fetch_add_wrapping.clauses V P numbers number its dict clones clone)
      pub fetch_sub_wrapping : as_any (held ∷ []) (λ M 𝓤. lent_of.fetch_sub_wrapping.clauses V P numbers number its dict clones clone) (λ M 𝓤. by_value_of.fetch_sub_wrapping.clauses V P numbers number its dict clones clone)
      pub fetch_nand : as_any (held ∷ []) (λ M 𝓤. lent_of.fetch_nand.clauses V P numbers number its dict clones clone) (λ M 𝓤. by_value_of.fetch_nand.clauses V P numbers number its dict clones clone)
      pub fetch_max : as_any (held ∷ []) (λ M 𝓤. lent_of.fetch_max.clauses V P numbers number its dict clones clone) (λ M 𝓤. by_value_of.fetch_max.clauses V P numbers number its dict clones clone)

-- ---- at the three widths
abbrev pub OfU64 : Type 2
OfU64 =
    (clones : Clones Count64.the_row.Denot) (clone : Dict)
    → OfValue Count64.the_row builtin.u64 count64.ghosts count64.dict clones clone
    × OfNumber Count64.the_row builtin.u64 count64.ghosts count64.dict clones clone number64.ghosts number64.dict

abbrev pub OfU8 : Type 2
OfU8 =
    (clones : Clones Count8.the_row.Denot) (clone : Dict)
    → OfValue Count8.the_row builtin.u8 count8.ghosts count8.dict clones clone
    × OfNumber Count8.the_row builtin.u8 count8.ghosts count8.dict clones clone number8.ghosts number8.dict

abbrev pub OfBool : Type 2
OfBool = (clones : Clones builtin.bool.Denot) (clone : Dict) → OfValue builtin.bool builtin.bool flag.ghosts flag.dict clones clone

-- ---- of each operation of a cell
abbrev pub types_cell : Types
types_cell = record {
  lifetimes = 0;
  outlives = [];
  seen = yes;
  cell_id = CellId.the_row;
  perm = cell.Perm.the_row;
  answer = cells.Answer.the_row;
  did = cell.Did.the_row;
  perm_of = λ d. d.perm;
  answer_of = λ d. d.answer;
}

module _ (Ns : List RattleType) where
  abbrev as_cell : Contract (by_ref types_cell Ns) → Contract (by_value types_cell Ns) → Type 2
  as_cell = AsByValue types_cell Ns

pub record OfCell : Type 2 where
  pub put : as_cell (builtin.u64 ∷ []) (λ M 𝓤. lent_cell.put.clauses) (λ M 𝓤. cell.put.clauses)
  pub take : as_cell [] (λ M 𝓤. lent_cell.take.clauses) (λ M 𝓤. cell.take.clauses)
  pub borrow : as_cell [] (λ M 𝓤. lent_cell.borrow.clauses) (λ M 𝓤. cell.borrow.clauses)
