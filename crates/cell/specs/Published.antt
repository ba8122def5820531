-- The published contract of the source's InvCell, clause for clause, as statements about the definitions of Inv. The comments give
-- the source's words. What replaces the weaker ones is in InvLaws.
use Rattle.std.specs.Prelude.{ℕ, Bool, true, false, ◌≡◌}
use Rattle.cell.specs.Access.{number_of}
use Rattle.cell.specs.Pred.{permits}
use Rattle.cell.specs.Inv.{new, get, into_inner}
use Rattle.cell.specs.Calls.{Call, sets, replaces, call}
use Rattle.cell.specs.declared.Refusal.TheVariants.{NotPermitted}
use Rattle.cell.specs.declared.Answer.TheVariants.{Value, Stored, Refused}
use Rattle.cell.specs.declared.pred.Pred.{Pred}
use Rattle.cell.specs.declared.inv.InvCell.{InvCell}
use Rattle.std.specs.Prelude.{Err, Ok}

abbrev pub predicate : InvCell → Pred
predicate c = c.pred

-- self.predicate().predicate(val)
abbrev pub inv : InvCell → ℕ → Bool
inv c v = permits (predicate c) v

-- wf and InvCellPred::inv, pred.predicate(*perm.value()). What they say of the identity has no place here: there is no permission
abbrev pub WellFormed : InvCell → Type 0
WellFormed c = inv c c.value ≡ true

-- the type invariant holds of what `new` makes, and every call keeps it
abbrev pub TypeInvariant : Type 0
TypeInvariant =
    ((p : Pred) (v : ℕ) (c : InvCell) → new v p ≡ Ok c → WellFormed c)
    × ((c : InvCell) (k : Call) → WellFormed c → WellFormed (call c k).cell)

-- cell.predicate() is the constant of an invariant: no call changes it
abbrev pub KeepsPredicate : Type 0
KeepsPredicate = (c : InvCell) (k : Call) → predicate (call c k).cell ≡ predicate c

-- requires pred.predicate(val): met, ensures cell.predicate() == pred; else 25, and no cell is made
abbrev pub New : Type 0
New =
    (p : Pred) (v : ℕ) →
    (permits p v ≡ true → (c : InvCell) × (new v p ≡ Ok c) × (predicate c ≡ p))
    × (permits p v ≡ false → new v p ≡ Err NotPermitted)
    × (number_of NotPermitted ≡ 25)

-- requires self.inv(val): met, it returns; else 25, and the cell is as it was
abbrev pub Set : Type 0
Set =
    (c : InvCell) (v : ℕ) →
    (inv c v ≡ true → (call c (sets v)).answer ≡ Stored)
    × (inv c v ≡ false → call c (sets v) ≡ record { cell = c; answer = Refused NotPermitted })

-- requires self.inv(val): met, ensures self.inv(old_val); else 25, and the cell is as it was
abbrev pub Replace : Type 0
Replace =
    (c : InvCell) (v : ℕ) →
    (WellFormed c → inv c v ≡ true → (old : ℕ) × ((call c (replaces v)).answer ≡ Value old) × (inv c old ≡ true))
    × (inv c v ≡ false → call c (replaces v) ≡ record { cell = c; answer = Refused NotPermitted })

-- ensures self.inv(val)
abbrev pub Get : Type 0
Get = (c : InvCell) → WellFormed c → inv c (get c) ≡ true

-- ensures self.inv(val)
abbrev pub IntoInner : Type 0
IntoInner = (c : InvCell) → WellFormed c → inv c (into_inner c) ≡ true
