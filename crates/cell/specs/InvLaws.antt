-- What an InvCell promises over any sequence of calls after `new`. Of the same calls the source promises an allowed value
-- (Published), which any cell that hands back some other allowed value meets too.
use Rattle.std.specs.Prelude.{ℕ, true, false, cond, ◌≡◌, List, ◌∷◌, ◌++◌}
use Rattle.cell.specs.Access.{answer_of}
use Rattle.cell.specs.Pred.{permits, good}
use Rattle.cell.specs.Inv.{holding, new, get, into_inner}
use Rattle.cell.specs.Calls.{Call, sets, replaces, brings, call, after, accepted, last}
use Rattle.cell.specs.declared.Refusal.TheVariants.{NotPermitted}
use Rattle.cell.specs.declared.Answer.TheVariants.{Value, Stored, Refused}
use Rattle.cell.specs.declared.pred.Pred.{Pred}
use Rattle.cell.specs.declared.inv.InvCell.{InvCell}
use Rattle.std.specs.Prelude.{Err, Ok}

-- a cell is made exactly of a permitted value
abbrev pub NewExact : Type 0
NewExact =
    (p : Pred) (v : ℕ) →
    (permits p v ≡ true → new v p ≡ Ok (holding p v))
    × (permits p v ≡ false → new v p ≡ Err NotPermitted)

-- the number of each answer, on any InvCell
abbrev pub NumberedByPredicate : Type 0
NumberedByPredicate = (c : InvCell) (k : Call) → answer_of (call c k).answer ≡ cond (permits c.pred (brings k)) 0 25

-- after the calls, on a cell c made with the predicate p and the value v
pub record AsLastAccepted (p : Pred) (v : ℕ) (c : InvCell) (calls : List Call) : Type 0 where
  pub gets : get (after c calls) ≡ last v (accepted p calls)
  pub keeps_predicate : (after c calls).pred ≡ p
  -- the source's invariant, at the value that it is
  pub allowed : permits p (last v (accepted p calls)) ≡ true
  pub moves_out : into_inner (after c calls) ≡ last v (accepted p calls)
  pub set_stores : (w : ℕ) → permits p w ≡ true → (call (after c calls) (sets w)).answer ≡ Stored
  -- the value accepted before
  pub replace_returns : (w : ℕ) → permits p w ≡ true → (call (after c calls) (replaces w)).answer ≡ Value (last v (accepted p calls))
  pub refuses : (k : Call) → permits p (brings k) ≡ false → call (after c calls) k ≡ record { cell = after c calls; answer = Refused NotPermitted }
  -- whatever calls come later
  pub forgets_refused : (k : Call) (later : List Call) → permits p (brings k) ≡ false → after c (calls ++ (k ∷ later)) ≡ after c (calls ++ later)

-- every call of every sequence, since each has the calls before it and those after it
abbrev pub HoldsLastAccepted : Type 0
HoldsLastAccepted = (p : Pred) (v : ℕ) (c : InvCell) → new v p ≡ Ok c → (calls : List Call) → AsLastAccepted p v c calls

-- with a bad parameter there is no InvCell
abbrev pub BadMakesNone : Type 0
BadMakesNone = (p : Pred) (v : ℕ) → good p ≡ false → new v p ≡ Err NotPermitted
