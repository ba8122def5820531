-- What the operations by value promise at each width. Their contracts are stated once, for whatever an atomic holds: at a count of 64 bits they
-- say what `on_u64` says of the access, at one of 8 bits what `on_u8` says, and at true and false what `on_bool` says.
use Rattle.std.specs.Prelude.{◌≡◌, eqb, List, [], ◌∷◌}
use Rattle.std.specs.Bool.{beq}
use Rattle.std.specs.declared.clone.Clone.{Ghosts as Clones}
use denote.Builtin as builtin
use denote.Param.{copied}
use denote.RattleType.{RattleType}
use mir.Syntax.{Dict}
use Rattle.atomic.specs.Bits.{both, either, differ}
use Rattle.atomic.specs.Access.{load, store, swap, compare_exchange, compare_exchange_weak, fetch_add, fetch_sub, fetch_add_wrapping, fetch_sub_wrapping, fetch_and, fetch_or, fetch_xor, fetch_nand, fetch_max, fetch_bool}
use Rattle.atomic.specs.contracts.Count as Count64
use Rattle.atomic_access.specs.contracts as any
use Rattle.atomic_access.specs.contracts.value.CountValue.TheImpl as count64
use Rattle.atomic_access.specs.contracts.number.CountNumber.TheImpl as number64
use Rattle.atomic_access.specs.contracts.value.BoolValue.TheImpl as flag
use Rattle.atomic_u64.specs.U64.{on_u64}
use Rattle.atomic_u8.specs.U8.{on_u8}
use Rattle.atomic_u8.specs.contracts.Count as Count8
use Rattle.atomic_u8.specs.contracts.CountValue.TheImpl as count8
use Rattle.atomic_u8.specs.contracts.CountNumber.TheImpl as number8
use Rattle.atomic_bool.specs.Bool.{on_bool}
use Rattle.says.specs.Says.{Contract, OfCall, Says}
use Rattle.atomic_promises.specs.AsByValue.{types_of, by_value}

-- an operation of what holds a V, with so many operands
module _ (V : RattleType) (Ns : List RattleType) where
  abbrev pub says : Contract (by_value (types_of V) Ns) → OfCall (by_value (types_of V) Ns) → Type 2
  says = Says (by_value (types_of V) Ns)

pub record SaysU64 (clones : Clones Count64.the_row.Denot) (clone : Dict) : Type 2 where
  pub load : says Count64.the_row [] (λ M 𝓤. any.load.clauses Count64.the_row builtin.u64 count64.ghosts count64.dict clones clone) (λ κs a r e. r ≡ on_u64 a.0 a.1.0 load)
  pub store : says Count64.the_row (copied 0 Count64.the_row ∷ []) (λ M 𝓤. any.store.clauses Count64.the_row builtin.u64 count64.ghosts count64.dict clones clone) (λ κs a r e. r ≡ on_u64 a.0 a.1.0 (store a.1.1.0.0))
  pub swap : says Count64.the_row (copied 0 Count64.the_row ∷ []) (λ M 𝓤. any.swap.clauses Count64.the_row builtin.u64 count64.ghosts count64.dict clones clone) (λ κs a r e. r ≡ on_u64 a.0 a.1.0 (swap a.1.1.0.0))
  pub compare_exchange : says Count64.the_row (copied 0 Count64.the_row ∷ copied 0 Count64.the_row ∷ []) (λ M 𝓤. any.compare_exchange.clauses Count64.the_row builtin.u64 count64.ghosts count64.dict clones clone) (λ κs a r e. r ≡ on_u64 a.0 a.1.0 (compare_exchange eqb a.1.1.0.0 a.1.1.1.0.0))
  pub compare_exchange_weak : says Count64.the_row (copied 0 Count64.the_row ∷ copied 0 Count64.the_row ∷ []) (λ M 𝓤. any.compare_exchange_weak.clauses Count64.the_row builtin.u64 count64.ghosts count64.dict clones clone) (λ κs a r e. r ≡ on_u64 a.0 a.1.0 (compare_exchange_weak eqb a.1.1.0.0 a.1.1.1.0.0))
  pub fetch_and : says Count64.the_row (copied 0 Count64.the_row ∷ []) (λ M 𝓤. any.fetch_and.clauses Count64.the_row builtin.u64 count64.ghosts count64.dict clones clone) (λ κs a r e. r ≡ on_u64 a.0 a.1.0 (fetch_and 64 a.1.1.0.0))
  pub fetch_or : says Count64.the_row (copied 0 Count64.the_row ∷ []) (λ M 𝓤. any.fetch_or.clauses Count64.the_row builtin.u64 count64.ghosts count64.dict clones clone) (λ κs a r e. r ≡ on_u64 a.0 a.1.0 (fetch_or 64 a.1.1.0.0))
  pub fetch_xor : says Count64.the_row (copied 0 Count64.the_row ∷ []) (λ M 𝓤. any.fetch_xor.clauses Count64.the_row builtin.u64 count64.ghosts count64.dict clones clone) (λ κs a r e. r ≡ on_u64 a.0 a.1.0 (fetch_xor 64 a.1.1.0.0))
  pub fetch_add : says Count64.the_row (copied 0 Count64.the_row ∷ []) (λ M 𝓤. any.fetch_add.clauses Count64.the_row builtin.u64 number64.ghosts number64.dict count64.ghosts count64.dict clones clone) (λ κs a r e. r ≡ on_u64 a.0 a.1.0 (fetch_add 64 a.1.1.0.0))
  pub fetch_sub : says Count64.the_row (copied 0 Count64.the_row ∷ []) (λ M 𝓤. any.fetch_sub.clauses Count64.the_row builtin.u64 number64.ghosts number64.dict count64.ghosts count64.dict clones clone) (λ κs a r e. r ≡ on_u64 a.0 a.1.0 (fetch_sub a.1.1.0.0))
  pub fetch_add_wrapping : says Count64.the_row (copied 0 Count64.the_row ∷ []) (λ M 𝓤. any.fetch_add_wrapping.clauses Count64.the_row builtin.u64 number64.ghosts number64.dict count64.ghosts count64.dict clones clone) (λ κs a r e. r ≡ on_u64 a.0 a.1.0 (fetch_add_wrapping 64 a.1.1.0.0))
  pub fetch_sub_wrapping : says Count64.the_row (copied 0 Count64.the_row ∷ []) (λ M 𝓤. any.fetch_sub_wrapping.clauses Count64.the_row builtin.u64 number64.ghosts number64.dict count64.ghosts count64.dict clones clone) (λ κs a r e. r ≡ on_u64 a.0 a.1.0 (fetch_sub_wrapping 64 a.1.1.0.0))
  pub fetch_nand : says Count64.the_row (copied 0 Count64.the_row ∷ []) (λ M 𝓤. any.fetch_nand.clauses Count64.the_row builtin.u64 number64.ghosts number64.dict count64.ghosts count64.dict clones clone) (λ κs a r e. r ≡ on_u64 a.0 a.1.0 (fetch_nand 64 a.1.1.0.0))
  pub fetch_max : says Count64.the_row (copied 0 Count64.the_row ∷ []) (λ M 𝓤. any.fetch_max.clauses Count64.the_row builtin.u64 number64.ghosts number64.dict count64.ghosts count64.dict clones clone) (λ κs a r e. r ≡ on_u64 a.0 a.1.0 (fetch_max a.1.1.0.0))

pub record SaysU8 (clones : Clones Count8.the_row.Denot) (clone : Dict) : Type 2 where
  pub load : says Count8.the_row [] (λ M 𝓤. any.load.clauses Count8.the_row builtin.u8 count8.ghosts count8.dict clones clone) (λ κs a r e. r ≡ on_u8 a.0 a.1.0 load)
  pub store : says Count8.the_row (copied 0 Count8.the_row ∷ []) (λ M 𝓤. any.store.clauses Count8.the_row builtin.u8 count8.ghosts count8.dict clones clone) (λ κs a r e. r ≡ on_u8 a.0 a.1.0 (store a.1.1.0.0))
  pub swap : says Count8.the_row (copied 0 Count8.the_row ∷ []) (λ M 𝓤. any.swap.clauses Count8.the_row builtin.u8 count8.ghosts count8.dict clones clone) (λ κs a r e. r ≡ on_u8 a.0 a.1.0 (swap a.1.1.0.0))
  pub compare_exchange : says Count8.the_row (copied 0 Count8.the_row ∷ copied 0 Count8.the_row ∷ []) (λ M 𝓤. any.compare_exchange.clauses Count8.the_row builtin.u8 count8.ghosts count8.dict clones clone) (λ κs a r e. r ≡ on_u8 a.0 a.1.0 (compare_exchange eqb a.1.1.0.0 a.1.1.1.0.0))
  pub compare_exchange_weak : says Count8.the_row (copied 0 Count8.the_row ∷ copied 0 Count8.the_row ∷ []) (λ M 𝓤. any.compare_exchange_weak.clauses Count8.the_row builtin.u8 count8.ghosts count8.dict clones clone) (λ κs a r e. r ≡ on_u8 a.0 a.1.0 (compare_exchange_weak eqb a.1.1.0.0 a.1.1.1.0.0))
  pub fetch_and : says Count8.the_row (copied 0 Count8.the_row ∷ []) (λ M 𝓤. any.fetch_and.clauses Count8.the_row builtin.u8 count8.ghosts count8.dict clones clone) (λ κs a r e. r ≡ on_u8 a.0 a.1.0 (fetch_and 8 a.1.1.0.0))
  pub fetch_or : says Count8.the_row (copied 0 Count8.the_row ∷ []) (λ M 𝓤. any.fetch_or.clauses Count8.the_row builtin.u8 count8.ghosts count8.dict clones clone) (λ κs a r e. r ≡ on_u8 a.0 a.1.0 (fetch_or 8 a.1.1.0.0))
  pub fetch_xor : says Count8.the_row (copied 0 Count8.the_row ∷ []) (λ M 𝓤. any.fetch_xor.clauses Count8.the_row builtin.u8 count8.ghosts count8.dict clones clone) (λ κs a r e. r ≡ on_u8 a.0 a.1.0 (fetch_xor 8 a.1.1.0.0))
  pub fetch_add : says Count8.the_row (copied 0 Count8.the_row ∷ []) (λ M 𝓤. any.fetch_add.clauses Count8.the_row builtin.u8 number8.ghosts number8.dict count8.ghosts count8.dict clones clone) (λ κs a r e. r ≡ on_u8 a.0 a.1.0 (fetch_add 8 a.1.1.0.0))
  pub fetch_sub : says Count8.the_row (copied 0 Count8.the_row ∷ []) (λ M 𝓤. any.fetch_sub.clauses Count8.the_row builtin.u8 number8.ghosts number8.dict count8.ghosts count8.dict clones clone) (λ κs a r e. r ≡ on_u8 a.0 a.1.0 (fetch_sub a.1.1.0.0))
  pub fetch_add_wrapping : says Count8.the_row (copied 0 Count8.the_row ∷ []) (λ M 𝓤. any.fetch_add_wrapping.clauses Count8.the_row builtin.u8 number8.ghosts number8.dict count8.ghosts count8.dict clones clone) (λ κs a r e. r ≡ on_u8 a.0 a.1.0 (fetch_add_wrapping 8 a.1.1.0.0))
  pub fetch_sub_wrapping : says Count8.the_row (copied 0 Count8.the_row ∷ []) (λ M 𝓤. any.fetch_sub_wrapping.clauses Count8.the_row builtin.u8 number8.ghosts number8.dict count8.ghosts count8.dict clones clone) (λ κs a r e. r ≡ on_u8 a.0 a.1.0 (fetch_sub_wrapping 8 a.1.1.0.0))
  pub fetch_nand : says Count8.the_row (copied 0 Count8.the_row ∷ []) (λ M 𝓤. any.fetch_nand.clauses Count8.the_row builtin.u8 number8.ghosts number8.dict count8.ghosts count8.dict clones clone) (λ κs a r e. r ≡ on_u8 a.0 a.1.0 (fetch_nand 8 a.1.1.0.0))
  pub fetch_max : says Count8.the_row (copied 0 Count8.the_row ∷ []) (λ M 𝓤. any.fetch_max.clauses Count8.the_row builtin.u8 number8.ghosts number8.dict count8.ghosts count8.dict clones clone) (λ κs a r e. r ≡ on_u8 a.0 a.1.0 (fetch_max a.1.1.0.0))

pub record SaysBool (clones : Clones builtin.bool.Denot) (clone : Dict) : Type 2 where
  pub load : says builtin.bool [] (λ M 𝓤. any.load.clauses builtin.bool builtin.bool flag.ghosts flag.dict clones clone) (λ κs a r e. r ≡ on_bool a.0 a.1.0 load)
  pub store : says builtin.bool (copied 0 builtin.bool ∷ []) (λ M 𝓤. any.store.clauses builtin.bool builtin.bool flag.ghosts flag.dict clones clone) (λ κs a r e. r ≡ on_bool a.0 a.1.0 (store a.1.1.0))
  pub swap : says builtin.bool (copied 0 builtin.bool ∷ []) (λ M 𝓤. any.swap.clauses builtin.bool builtin.bool flag.ghosts flag.dict clones clone) (λ κs a r e. r ≡ on_bool a.0 a.1.0 (swap a.1.1.0))
  pub compare_exchange : says builtin.bool (copied 0 builtin.bool ∷ copied 0 builtin.bool ∷ []) (λ M 𝓤. any.compare_exchange.clauses builtin.bool builtin.bool flag.ghosts flag.dict clones clone) (λ κs a r e. r ≡ on_bool a.0 a.1.0 (compare_exchange beq a.1.1.0 a.1.1.1.0))
  pub compare_exchange_weak : says builtin.bool (copied 0 builtin.bool ∷ copied 0 builtin.bool ∷ []) (λ M 𝓤. any.compare_exchange_weak.clauses builtin.bool builtin.bool flag.ghosts flag.dict clones clone) (λ κs a r e. r ≡ on_bool a.0 a.1.0 (compare_exchange_weak beq a.1.1.0 a.1.1.1.0))
  pub fetch_and : says builtin.bool (copied 0 builtin.bool ∷ []) (λ M 𝓤. any.fetch_and.clauses builtin.bool builtin.bool flag.ghosts flag.dict clones clone) (λ κs a r e. r ≡ on_bool a.0 a.1.0 (fetch_bool both a.1.1.0))
  pub fetch_or : says builtin.bool (copied 0 builtin.bool ∷ []) (λ M 𝓤. any.fetch_or.clauses builtin.bool builtin.bool flag.ghosts flag.dict clones clone) (λ κs a r e. r ≡ on_bool a.0 a.1.0 (fetch_bool either a.1.1.0))
  pub fetch_xor : says builtin.bool (copied 0 builtin.bool ∷ []) (λ M 𝓤. any.fetch_xor.clauses builtin.bool builtin.bool flag.ghosts flag.dict clones clone) (λ κs a r e. r ≡ on_bool a.0 a.1.0 (fetch_bool differ a.1.1.0))
