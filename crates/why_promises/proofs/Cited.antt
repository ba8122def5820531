-- The contracts say what the promises take for given: each has one equation.
use Rattle.says.proofs.Facts.{one_one, nothing_asked}
use Rattle.why_promises.specs.Cited.{WhyCited, WhyLentCited, NumbersCited}

pub why_cited : WhyCited
why_cited = (λ M 𝓤 𝓛 mem runs κs a. nothing_asked 𝓤, λ M 𝓤 𝓛 mem runs κs a r e g. one_one 𝓤 _ _ (λ returned. returned))

pub why_lent_cited : WhyLentCited
why_lent_cited = (λ M 𝓤 𝓛 mem runs κs a. nothing_asked 𝓤, λ M 𝓤 𝓛 mem runs κs a r e g. one_one 𝓤 _ _ (λ returned. returned))

pub numbers_cited : NumbersCited
numbers_cited = (λ M 𝓤 𝓛 mem runs κs a. nothing_asked 𝓤, λ M 𝓤 𝓛 mem runs κs a r e g. one_one 𝓤 _ _ (λ returned. returned))
