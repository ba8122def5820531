-- What a function's contract says of a call. A statement of this form cites the function: the contract in it is the one in the source, so
-- that no equation of a contract has to be repeated by hand and be believed to be the same.
use seplogic.Ra.Ura.{Ura}
use base.Logic.{SProp, ent, emp}
use prog.Memory.{Memory}
use prog.Routine.{Routine}
use types.Logic.{Logic}
use contract.Lifetimes.{Lfts}
use contract.Monad.{fact, Fun}
use denote.Triple.Clauses.{Ended, Clauses, AtExit}
use denote.Triple.Entry.{Args, Res}

-- the contract of a function with the parameters and the result of T, in every logic that it may be read in
abbrev pub Contract : Ended → Type 2
Contract T = (M : Type 1) (𝓤 : Ura M) → (𝓛 : Logic 𝓤) → (Memory → SProp 𝓤) → (Routine → Fun 𝓤) → Clauses 𝓤 T

-- a property of a call: what was passed, what is returned, and the parameters at exit
abbrev pub OfCall : Ended → Type 1
OfCall T = (κs : Lfts T.signature.lifetimes) → Args T.signature κs → Res T.signature κs → AtExit T κs → Type 0

module _ (T : Ended) (contract : Contract T) where
  -- the function may be called with anything
  abbrev pub AsksNothing : Type 2
  AsksNothing =
      (M : Type 1) (𝓤 : Ura M) (𝓛 : Logic 𝓤) (mem : Memory → SProp 𝓤) (runs : Routine → Fun 𝓤) (κs : Lfts T.signature.lifetimes)
      (a : Args T.signature κs)
      → (g : (contract M 𝓤 𝓛 mem runs κs a).ghost) × ent 𝓤 (emp 𝓤) ((contract M 𝓤 𝓛 mem runs κs a).requires g)

  -- whatever the contract allows has the property
  abbrev pub Allows : OfCall T → Type 2
  Allows Φ =
      (M : Type 1) (𝓤 : Ura M) (𝓛 : Logic 𝓤) (mem : Memory → SProp 𝓤) (runs : Routine → Fun 𝓤) (κs : Lfts T.signature.lifetimes)
      (a : Args T.signature κs) (r : Res T.signature κs) (e : AtExit T κs) (g : (contract M 𝓤 𝓛 mem runs κs a).ghost)
      → ent 𝓤 ((contract M 𝓤 𝓛 mem runs κs a).ensures g r e) (fact 𝓤 (Φ κs a r e))

  abbrev pub Says : OfCall T → Type 2
  Says Φ = AsksNothing × Allows Φ

-- ---- the laws of it
-- a contract of one fact
abbrev pub of_fact : (T : Ended) → OfCall T → Contract T
of_fact T Ψ M 𝓤 𝓛 mem runs κs a = record { ghost = Unit {0}; requires = λ g. emp 𝓤; ensures = λ g r e. fact 𝓤 (Ψ κs a r e) }

-- it says whatever follows from that fact
abbrev pub Follows : Type 2
Follows =
    (T : Ended) (Ψ Φ : OfCall T)
    → ((κs : Lfts T.signature.lifetimes) (a : Args T.signature κs) (r : Res T.signature κs) (e : AtExit T κs) → Ψ κs a r e → Φ κs a r e)
    → Says T (of_fact T Ψ) Φ

-- and nothing else: of a call of which the fact holds, what it says holds
abbrev pub Heard : Type 2
Heard =
    (T : Ended) (Ψ Φ : OfCall T) → Says T (of_fact T Ψ) Φ
    → (M : Type 1) (𝓤 : Ura M) → (𝓛 : Logic 𝓤) → (Memory → SProp 𝓤) → (Routine → Fun 𝓤)
    → (κs : Lfts T.signature.lifetimes) (a : Args T.signature κs) (r : Res T.signature κs) (e : AtExit T κs) → Ψ κs a r e → ∥ Φ κs a r e ∥₁
