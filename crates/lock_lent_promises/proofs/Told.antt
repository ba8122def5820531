-- What is told of a machine's refusal: none where its number is 0, and else the refusal itself.
use Prim.Native.Nat.{ℕ}
use mathlib.Core.Path.{◌≡◌, refl, sym, ap, ◌∙◌}
use mathlib.Core.Bool.{Bool, true, false, cond}
use lib.Dec.{eqb}
use package.borrow.Author.Tests.{eqb-false, eq-eqb}
use Rattle.std.specs.Prelude.{None, Some}
use Rattle.machine.specs.Lists.{Lent, beside, some_refusal}
use Rattle.machine.specs.declared.Refusal.{Refusal}
use Rattle.lock_promises.specs.Given.{refusal_in}
use Rattle.lock_promises.proofs.Refusing.{in_some}

pub number_none : (x : Refusal) → x.number ≡ 0 → some_refusal x ≡ None
number_none x e = rw (eq-eqb x.number 0 e) refl

pub in_told : (s : Lent) (x : Refusal) → x ≡ beside s x.number → refusal_in (some_refusal x) ≡ x
in_told s x e = ap (λ (y : Refusal). refusal_in (some_refusal y)) e ∙ in_some s x.number ∙ sym e

pub none_in : (x : Refusal) → (refusal_in (some_refusal x)).number ≡ 0 → some_refusal x ≡ None
none_in x e = go (eqb x.number 0) refl e
  where
    go : (b : Bool) → eqb x.number 0 ≡ b → (refusal_in (cond b None (Some x))).number ≡ 0 → cond b None (Some x) ≡ None
    go true q f = refl
    go false q f = absurd (eqb-false x.number 0 q f)
