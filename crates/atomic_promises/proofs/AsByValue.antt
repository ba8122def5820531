-- An answer and a permission that are those of what is given back make what is given back: one lemma for each type of that, and each
-- operation cites it. Assumes nothing.
use mathlib.Core.Path.{◌≡◌, sym, ◌∙◌}
use seplogic.Ra.Ura.{Ura}
use base.Fml.{Lft}
use base.Logic.{SProp, ent, emp, sep, id⊢, via, emp∗, mono∗}
use contract.BorrowLft.{◌⊑◌, ⊑_static}
use contract.Monad.{fact, fact_i}
use denote.RattleType.{RattleType}
use mir.Syntax.{Dict}
use Rattle.std.specs.declared.clone.Clone.{Ghosts as Clones}
use Rattle.atomic_access.specs.declared.Did.{Did}
use Rattle.atomic_access.specs.declared.Perm.{Perm}
use Rattle.atomic_access.specs.declared.value.Value.{Ghosts as Values}
use Rattle.atomic_access.specs.declared.number.Number.{Ghosts as Numbers}
use Rattle.cell.specs.declared.value.Did.{Did as DidCell}
use Rattle.cell.specs.declared.value.Perm.{Perm as PermCell}
use Rattle.says.proofs.Facts.{one_one, nothing_asked}
use Rattle.atomic_promises.specs.AsByValue.{OfValue, OfNumber, OfU64, OfU8, OfBool, OfCell}

module _ {M : Type 1} (𝓤 : Ura M) where
  with_any : {V : Type 0} (r d : Did V) (left : Perm V) → left ≡ r.perm → ent 𝓤 (fact 𝓤 ((r.answer ≡ d.answer) × (left ≡ d.perm))) (fact 𝓤 (r ≡ d))
  with_any r d left e = one_one 𝓤 _ _ (λ says. λ i. record { perm = (sym e ∙ says.1) i; answer = says.0 i })

  with_cell : (r d : DidCell) (left : PermCell) → left ≡ r.perm → ent 𝓤 (fact 𝓤 ((r.answer ≡ d.answer) × (left ≡ d.perm))) (fact 𝓤 (r ≡ d))
  with_cell r d left e = one_one 𝓤 _ _ (λ says. λ i. record { perm = (sym e ∙ says.1) i; answer = says.0 i })

  -- what a generic operation asks: that what is held lives as long as its lifetime, which `lives` says of a type that borrows nothing
  also : (φ : Type 0) (Q : SProp 𝓤) → φ → ent 𝓤 (emp 𝓤) Q → ent 𝓤 (emp 𝓤) (sep 𝓤 (fact 𝓤 φ) Q)
  also φ Q x h = via 𝓤 (sep 𝓤 (emp 𝓤) (emp 𝓤)) (emp∗ 𝓤 (emp 𝓤)) (mono∗ 𝓤 (fact_i 𝓤 φ (emp 𝓤) x) h)

  one_lives : (φ : Type 0) → φ → (g : Unit {0}) × ent 𝓤 (emp 𝓤) (sep 𝓤 (fact 𝓤 φ) (emp 𝓤))
  one_lives φ x = (tt, also φ (emp 𝓤) x (id⊢ 𝓤 (emp 𝓤)))

  pub two_live : (φ ψ : Type 0) → φ → ψ → (g : Unit {0}) × ent 𝓤 (emp 𝓤) (sep 𝓤 (fact 𝓤 φ) (sep 𝓤 (fact 𝓤 ψ) (emp 𝓤)))
  two_live φ ψ x y = (tt, also φ (sep 𝓤 (fact 𝓤 ψ) (emp 𝓤)) x (one_lives ψ y).1)

module _ (V P : RattleType) (its : Values V.Denot P.Denot) (dict : Dict) (clones : Clones V.Denot) (clone : Dict) (lives : (κ : Lft) → κ ⊑ V.lives) (plain_lives : (κ : Lft) → κ ⊑ P.lives) where
  of_value : OfValue V P its dict clones clone
  of_value =
      record {
        load = (λ M 𝓤 𝓛 mem runs κs a. two_live 𝓤 _ _ (lives κs.1.0) (plain_lives κs.1.1.0), λ M 𝓤 𝓛 mem runs κs a r e e' g g'. with_any 𝓤 r _ _);
        store = (λ M 𝓤 𝓛 mem runs κs a. two_live 𝓤 _ _ (lives κs.1.0) (plain_lives κs.1.1.0), λ M 𝓤 𝓛 mem runs κs a r e e' g g'. with_any 𝓤 r _ _);
        swap = (λ M 𝓤 𝓛 mem runs κs a. two_live 𝓤 _ _ (lives κs.1.0) (plain_lives κs.1.1.0), λ M 𝓤 𝓛 mem runs κs a r e e' g g'. with_any 𝓤 r _ _);
        compare_exchange = (λ M 𝓤 𝓛 mem runs κs a. two_live 𝓤 _ _ (lives κs.1.0) (plain_lives κs.1.1.0), λ M 𝓤 𝓛 mem runs κs a r e e' g g'. with_any 𝓤 r _ _);
        compare_exchange_weak = (λ M 𝓤 𝓛 mem runs κs a. two_live 𝓤 _ _ (lives κs.1.0) (plain_lives κs.1.1.0), λ M 𝓤 𝓛 mem runs κs a r e e' g g'. with_any 𝓤 r _ _);
        fetch_and = (λ M 𝓤 𝓛 mem runs κs a. two_live 𝓤 _ _ (lives κs.1.0) (plain_lives κs.1.1.0), λ M 𝓤 𝓛 mem runs κs a r e e' g g'. with_any 𝓤 r _ _);
        fetch_or = (λ M 𝓤 𝓛 mem runs κs a. two_live 𝓤 _ _ (lives κs.1.0) (plain_lives κs.1.1.0), λ M 𝓤 𝓛 mem runs κs a r e e' g g'. with_any 𝓤 r _ _);
        fetch_xor = (λ M 𝓤 𝓛 mem runs κs a. two_live 𝓤 _ _ (lives κs.1.0) (plain_lives κs.1.1.0), λ M 𝓤 𝓛 mem runs κs a r e e' g g'. with_any 𝓤 r _ _);
      }

  of_number : (numbers : Numbers V.Denot P.Denot) (number : Dict) → OfNumber V P its dict clones clone numbers number
  of_number numbers number =
      record {
        fetch_add = (λ M 𝓤 𝓛 mem runs κs a. two_live 𝓤 _ _ (lives κs.1.0) (plain_lives κs.1.1.0), λ M 𝓤 𝓛 mem runs κs a r e e' g g'. with_any 𝓤 r _ _);
        fetch_sub = (λ M 𝓤 𝓛 mem runs κs a. two_live 𝓤 _ _ (lives κs.1.0) (plain_lives κs.1.1.0), λ M 𝓤 𝓛 mem runs κs a r e e' g g'. with_any 𝓤 r _ _);
        fetch_add_wrapping = (λ M 𝓤 𝓛 mem runs κs a. two_live 𝓤 _ _ (lives κs.1.0) (plain_lives κs.1.1.0), λ M 𝓤 𝓛 mem runs κs a r e e' g g'. with_any 𝓤 r _ _);
        fetch_sub_wrapping = (λ M 𝓤 𝓛 mem runs κs a. two_live 𝓤 _ _ (lives κs.1.0) (plain_lives κs.1.1.0), λ M 𝓤 𝓛 mem runs κs a r e e' g g'. with_any 𝓤 r _ _);
        fetch_nand = (λ M 𝓤 𝓛 mem runs κs a. two_live 𝓤 _ _ (lives κs.1.0) (plain_lives κs.1.1.0), λ M 𝓤 𝓛 mem runs κs a r e e' g g'. with_any 𝓤 r _ _);
        fetch_max = (λ M 𝓤 𝓛 mem runs κs a. two_live 𝓤 _ _ (lives κs.1.0) (plain_lives κs.1.1.0), λ M 𝓤 𝓛 mem runs κs a r e e' g g'. with_any 𝓤 r _ _);
      }

pub of_u64 : OfU64
of_u64 clones clone = (of_value _ _ _ _ clones clone ⊑_static ⊑_static, of_number _ _ _ _ clones clone ⊑_static ⊑_static _ _)

pub of_u8 : OfU8
of_u8 clones clone = (of_value _ _ _ _ clones clone ⊑_static ⊑_static, of_number _ _ _ _ clones clone ⊑_static ⊑_static _ _)

pub of_bool : OfBool
of_bool clones clone = of_value _ _ _ _ clones clone ⊑_static ⊑_static

pub of_cell : OfCell
of_cell =
    record {
      put = (λ M 𝓤 𝓛 mem runs κs a. nothing_asked 𝓤, λ M 𝓤 𝓛 mem runs κs a r e e' g g'. with_cell 𝓤 r _ _);
      take = (λ M 𝓤 𝓛 mem runs κs a. nothing_asked 𝓤, λ M 𝓤 𝓛 mem runs κs a r e e' g g'. with_cell 𝓤 r _ _);
      borrow = (λ M 𝓤 𝓛 mem runs κs a. nothing_asked 𝓤, λ M 𝓤 𝓛 mem runs κs a r e e' g g'. with_cell 𝓤 r _ _);
    }
