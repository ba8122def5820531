-- A contract of one fact says whatever follows from it, and nothing else.
use mathlib.Core.Logic.{∥∥₁_map}
use Rattle.says.specs.Says.{Follows, Heard}
use Rattle.says.proofs.Facts.{one_one, nothing_asked}

pub follows : Follows
follows T Ψ Φ then = (
  λ M 𝓤 𝓛 mem runs κs a. nothing_asked 𝓤,
  λ M 𝓤 𝓛 mem runs κs a r e g. one_one 𝓤 (Ψ κs a r e) (Φ κs a r e) (then κs a r e),
)

-- read at the unit
pub heard : Heard
heard T Ψ Φ says M 𝓤 𝓛 mem runs κs a r e holds = ∥∥₁_map ((says.1 M 𝓤 𝓛 mem runs κs a r e tt).apply 𝓤.one ∣ (holds, tt) ∣₁) (λ t. t.0)
