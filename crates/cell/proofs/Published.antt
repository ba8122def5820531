-- The definitions of Inv keep the source's contract. Assumes nothing.
use Prim.Native.Nat.{ℕ}
use mathlib.Core.Bool.{Bool, true, false, cond}
use mathlib.Core.Path.{◌≡◌, refl}
use Rattle.cell.specs.Pred.{permits}
use Rattle.cell.specs.Inv.{holding}
use Rattle.cell.specs.Calls.{brings}
use Rattle.cell.specs.Published.{TypeInvariant, KeepsPredicate, New, Set, Replace, Get, IntoInner}
use Rattle.cell.specs.declared.pred.Pred.{Pred}
use Rattle.cell.proofs.InvLaws.{made, called}

-- the value that is left, where the test of v was b
left_permitted : (p : Pred) (v was : ℕ) (b : Bool) → permits p v ≡ b → permits p was ≡ true → permits p (cond b v was) ≡ true
left_permitted p v was true e h = e
left_permitted p v was false e h = h

pub type_invariant : TypeInvariant
type_invariant = (
  λ p v c e. rw (made p v c (permits p v) e).0 (made p v c (permits p v) e).1,
  λ c k h. rw (called c.pred c.value k) (left_permitted c.pred (brings k) c.value (permits c.pred (brings k)) refl h),
)

pub keeps_predicate : KeepsPredicate
keeps_predicate c k = rw (called c.pred c.value k)

pub new_published : New
new_published p v = (λ e. (holding p v, rw e, refl), λ e. rw e, refl)

pub set_published : Set
set_published c v = (λ e. rw e, λ e. rw e)

pub replace_published : Replace
replace_published c v = (λ h e. (c.value, rw e, h), λ e. rw e)

pub get_published : Get
get_published c h = h

pub into_inner_published : IntoInner
into_inner_published c h = h
