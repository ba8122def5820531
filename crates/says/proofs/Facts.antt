-- A contract of several `ensures` is a star of facts: what follows from one such star is a fact, or is said by another. Assumes nothing.
use seplogic.Ra.Ura.{Ura}
use base.Logic.{SProp, ent, sep, emp, id⊢, via, emp∗, mono∗, fst∗, snd∗}
use contract.Monad.{fact, fact_i, fact_use}

module _ {M : Type 1} (𝓤 : Ura M) where
  -- ---- what is said: whatever is had, facts that are known
  show_more : (φ : Type 0) (Q : SProp 𝓤) → φ → ((P : SProp 𝓤) → ent 𝓤 P Q) → (P : SProp 𝓤) → ent 𝓤 P (sep 𝓤 (fact 𝓤 φ) Q)
  show_more φ Q x h P = via 𝓤 (sep 𝓤 (emp 𝓤) P) (emp∗ 𝓤 P) (mono∗ 𝓤 (fact_i 𝓤 φ (emp 𝓤) x) (h P))

  show_2 : (α β : Type 0) → α × β → (P : SProp 𝓤) → ent 𝓤 P (sep 𝓤 (fact 𝓤 α) (fact 𝓤 β))
  show_2 α β x = show_more α (fact 𝓤 β) x.0 (λ P. fact_i 𝓤 β P x.1)

  show_3 : (α β γ : Type 0) → α × β × γ → (P : SProp 𝓤) → ent 𝓤 P (sep 𝓤 (fact 𝓤 α) (sep 𝓤 (fact 𝓤 β) (fact 𝓤 γ)))
  show_3 α β γ x = show_more α (sep 𝓤 (fact 𝓤 β) (fact 𝓤 γ)) x.0 (show_2 β γ (x.1, x.2))

  -- ---- what is heard: Q follows from one, two or three facts
  hear_1 : (φ : Type 0) (Q : SProp 𝓤) → (φ → (P : SProp 𝓤) → ent 𝓤 P Q) → ent 𝓤 (fact 𝓤 φ) Q
  hear_1 φ Q k = fact_use 𝓤 φ (id⊢ 𝓤 (fact 𝓤 φ)) (λ x. k x (fact 𝓤 φ))

  -- the first fact, beside the rest
  pub hear_more : (φ : Type 0) (R Q : SProp 𝓤) → (φ → ent 𝓤 R Q) → ent 𝓤 (sep 𝓤 (fact 𝓤 φ) R) Q
  hear_more φ R Q k = fact_use 𝓤 φ (fst∗ 𝓤 (fact 𝓤 φ) R) (λ x. via 𝓤 R (snd∗ 𝓤 (fact 𝓤 φ) R) (k x))

  hear_2 : (φ ψ : Type 0) (Q : SProp 𝓤) → (φ → ψ → (P : SProp 𝓤) → ent 𝓤 P Q) → ent 𝓤 (sep 𝓤 (fact 𝓤 φ) (fact 𝓤 ψ)) Q
  hear_2 φ ψ Q k = hear_more φ (fact 𝓤 ψ) Q (λ x. hear_1 ψ Q (k x))

  hear_3 : (φ ψ χ : Type 0) (Q : SProp 𝓤) → (φ → ψ → χ → (P : SProp 𝓤) → ent 𝓤 P Q) → ent 𝓤 (sep 𝓤 (fact 𝓤 φ) (sep 𝓤 (fact 𝓤 ψ) (fact 𝓤 χ))) Q
  hear_3 φ ψ χ Q k = hear_more φ (sep 𝓤 (fact 𝓤 ψ) (fact 𝓤 χ)) Q (λ x. hear_2 ψ χ Q (k x))

  -- ---- from so many facts so many
  pub one_one : (φ α : Type 0) → (φ → α) → ent 𝓤 (fact 𝓤 φ) (fact 𝓤 α)
  one_one φ α f = hear_1 φ (fact 𝓤 α) (λ x P. fact_i 𝓤 α P (f x))

  pub one_two : (φ α β : Type 0) → (φ → α × β) → ent 𝓤 (fact 𝓤 φ) (sep 𝓤 (fact 𝓤 α) (fact 𝓤 β))
  one_two φ α β f = hear_1 φ (sep 𝓤 (fact 𝓤 α) (fact 𝓤 β)) (λ x. show_2 α β (f x))

  pub two_one : (φ ψ α : Type 0) → (φ → ψ → α) → ent 𝓤 (sep 𝓤 (fact 𝓤 φ) (fact 𝓤 ψ)) (fact 𝓤 α)
  two_one φ ψ α f = hear_2 φ ψ (fact 𝓤 α) (λ x y P. fact_i 𝓤 α P (f x y))

  pub two_three : (φ ψ α β γ : Type 0) → (φ → ψ → α × β × γ) → ent 𝓤 (sep 𝓤 (fact 𝓤 φ) (fact 𝓤 ψ)) (sep 𝓤 (fact 𝓤 α) (sep 𝓤 (fact 𝓤 β) (fact 𝓤 γ)))
  two_three φ ψ α β γ f = hear_2 φ ψ (sep 𝓤 (fact 𝓤 α) (sep 𝓤 (fact 𝓤 β) (fact 𝓤 γ))) (λ x y. show_3 α β γ (f x y))

  pub three_one : (φ ψ χ α : Type 0) → (φ → ψ → χ → α) → ent 𝓤 (sep 𝓤 (fact 𝓤 φ) (sep 𝓤 (fact 𝓤 ψ) (fact 𝓤 χ))) (fact 𝓤 α)
  three_one φ ψ χ α f = hear_3 φ ψ χ (fact 𝓤 α) (λ x y z P. fact_i 𝓤 α P (f x y z))

  pub three_two : (φ ψ χ α β : Type 0) → (φ → ψ → χ → α × β) → ent 𝓤 (sep 𝓤 (fact 𝓤 φ) (sep 𝓤 (fact 𝓤 ψ) (fact 𝓤 χ))) (sep 𝓤 (fact 𝓤 α) (fact 𝓤 β))
  three_two φ ψ χ α β f = hear_3 φ ψ χ (sep 𝓤 (fact 𝓤 α) (fact 𝓤 β)) (λ x y z. show_2 α β (f x y z))

  -- ---- a contract with no `requires`
  pub nothing_asked : (g : Unit {0}) × ent 𝓤 (emp 𝓤) (emp 𝓤)
  nothing_asked = (tt, id⊢ 𝓤 (emp 𝓤))
