-- The published contracts hold of the definitions. Assumes nothing.
use Prim.Native.Nat.{ℕ, ◌+◌, ◌-◌, ◌^◌}
use mathlib.Core.Bool.{Bool, true, false, beq, true≢false, false≢true, cond}
use mathlib.Core.Logic.{inl, inr}
use mathlib.Core.Path.{◌≡◌, refl, sym, ◌∙◌, ap}
use native.Mathlib.Nat.{mod-eq_of_lt}
use native.Mathlib.Omega.{arith}
use lib.Dec.{eqb, ltb, leb}
use borrow.Author.Tests.{lt-ltb, le-ltb, le-leb, lt-leb, eqb-true, eqb-false}
use Rattle.atomic.specs.Permission.{Done}
use Rattle.atomic.specs.Access.{Reply, Access, refused, fetches, compare_exchange, answer_of}
use Rattle.atomic.specs.Published as published
use Rattle.atomic.specs.declared.Refusal.TheVariants.{Foreign}
use Rattle.atomic.proofs.Permission as permission
use Rattle.atomic.proofs.Bits.{word_below, bit_of_word, same_bits}
use Rattle.atomic.proofs.Wrap.{once_past}

pub keeps_identity : published.KeepsIdentity
keeps_identity A c p access = permission.keeps A _ _ c p access

pub identity_asked : published.IdentityAsked
identity_asked A c p access =
    let it = permission.compares A _ (refused Foreign) c p access in
    (λ e. rw (it.0 e) (refl, refl, sym e), it.1)

answered : {A : Type 0} (t : Bool) (x y : Done A (Reply A)) → answer_of (cond t x y).answer ≡ cond t (answer_of x.answer) (answer_of y.answer)
answered true x y = refl
answered false x y = refl

replied : {A : Type 0} (t : Bool) (x y : Access A) → answer_of (cond t x y).answers ≡ cond t (answer_of x.answers) (answer_of y.answers)
replied true x y = refl
replied false x y = refl

never : (t : Bool) → ◌≡◌ {A = ℕ} (cond t 0 0) 0
never true = refl
never false = refl

pub numbered : published.Numbered
numbered = (
  λ A c p access. answered (eqb c.0 p.id.0) _ _,
  λ w n was. replied (ltb (was + n) (2 ^ w)) _ _,
  λ n was. replied (leb n was) _ _,
  λ A same v to was. (refl, refl, refl, replied (same was v) _ _ ∙ never (same was v), replied (same was v) _ _ ∙ never (same was v)),
  λ w n was. (refl, refl, refl, refl, refl, refl, refl),
  λ f n was. refl,
)

pub load : published.Load
load A was = refl

pub store : published.Store
store A v was = refl

pub swap : published.Swap
swap A v was = refl

-- two replies of different kinds are never equal: `cc` says so as this
zero_one : ◌≡◌ {A = ℕ} 0 1 → ⊥
zero_one e = omega arith

-- for any test of equality
module _ {A : Type 0} (same : A → A → Bool) (yes : (x y : A) → same x y ≡ true → x ≡ y) (no : (x y : A) → same x y ≡ false → x ≡ y → ⊥) (current new was : A) where
  arms : (t : Bool) → same was current ≡ t → published.Arms current new was (compare_exchange same current new was)
  arms true e = rw e (λ r a. (sym (yes was current e), refl, cc), λ r a. absurd (zero_one cc), inl refl)
  arms false e = rw e (λ r a. absurd (zero_one cc), λ r a. (λ q. no was current e (sym q), refl, cc), inr refl)

  pub exchanged : published.Arms current new was (compare_exchange same current new was)
  exchanged = arms (same was current) refl

beq_yes : (x y : Bool) → beq x y ≡ true → x ≡ y
beq_yes true true e = refl
beq_yes true false e = cc
beq_yes false true e = cc
beq_yes false false e = refl

beq_no : (x y : Bool) → beq x y ≡ false → x ≡ y → ⊥
beq_no true true e q = true≢false e
beq_no true false e q = true≢false q
beq_no false true e q = false≢true q
beq_no false false e q = true≢false e

pub exchange : published.Exchange
exchange = (exchanged eqb eqb-true eqb-false, exchanged beq beq_yes beq_no)

pub weak_exchange : published.WeakExchange
weak_exchange = exchange

pub add : published.Add
add w n was = (λ h. simp (lt-ltb _ _ h), λ h. simp (le-ltb _ _ h))

pub sub : published.Sub
sub n was = (λ h. simp (le-leb _ _ h), λ h. simp (lt-leb _ _ h))

pub add_wrapping : published.AddWrapping
add_wrapping w n was hn hw =
    (λ h. ap (fetches was) (mod-eq_of_lt h), λ h. ap (fetches was) (once_past (2 ^ w) (was + n) h (omega arith)))

pub sub_wrapping : published.SubWrapping
sub_wrapping w n was hn hw =
    (λ h. ap (fetches was) (once_past (2 ^ w) (was + (2 ^ w - n)) (omega arith) (omega arith) ∙ omega arith), λ h. ap (fetches was) (mod-eq_of_lt (omega arith) ∙ omega arith))

pub and : published.And
and w n was = (refl, word_below w _, bit_of_word w _)

pub or : published.Or
or w n was = (refl, word_below w _, bit_of_word w _)

pub xor : published.Xor
xor w n was = (refl, word_below w _, bit_of_word w _)

pub nand : published.Nand
nand w n was = (refl, word_below w _, bit_of_word w _)

pub bits_decide : published.BitsDecide
bits_decide = same_bits

pub max : published.Max
max n was = (λ h. simp (lt-ltb _ _ h), λ h. simp (le-ltb _ _ h))

pub flag_and : published.FlagAnd
flag_and n was = refl

pub flag_or : published.FlagOr
flag_or n was = refl

pub flag_xor : published.FlagXor
flag_xor n was = refl
