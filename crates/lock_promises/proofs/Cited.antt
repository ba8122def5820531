-- The contracts of `lock` say what the promises take for given: each clause is one of its equations.
use Rattle.says.proofs.Facts.{one_one, two_one, nothing_asked}
use Rattle.lock_promises.specs.Cited.{SetupCited, RunCited, RestCited, DrainCited}

pub setup_cited : SetupCited
setup_cited = (λ M 𝓤 𝓛 mem runs κs a. nothing_asked 𝓤, λ M 𝓤 𝓛 mem runs κs a r e g. one_one 𝓤 _ _ (λ returned. returned))

pub run_cited : RunCited
run_cited = (λ M 𝓤 𝓛 mem runs κs a. nothing_asked 𝓤, λ M 𝓤 𝓛 mem runs κs a r e g. two_one 𝓤 _ _ _ (λ returned trace. (returned, trace)))

pub rest_cited : RestCited
rest_cited = (λ M 𝓤 𝓛 mem runs κs a. nothing_asked 𝓤, λ M 𝓤 𝓛 mem runs κs a r e g. two_one 𝓤 _ _ _ (λ returned trace. (returned, trace)))

pub drain_cited : DrainCited
drain_cited = (λ M 𝓤 𝓛 mem runs κs a. nothing_asked 𝓤, λ M 𝓤 𝓛 mem runs κs a r e g. one_one 𝓤 _ _ (λ returned. returned))
