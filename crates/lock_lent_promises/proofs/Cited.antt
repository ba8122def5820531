-- The contracts of `lock_lent` and `lock_held` say what the promises take for given: each clause is one of its equations.
use Rattle.says.proofs.Facts.{one_one, two_one, three_one, nothing_asked}
use Rattle.lock_lent_promises.specs.Cited.{SetupCited, RunCited, RestCited, StepCited, DrainCited, HeldCited}

pub setup_cited : SetupCited
setup_cited = (λ M 𝓤 𝓛 mem runs κs a. nothing_asked 𝓤, λ M 𝓤 𝓛 mem runs κs a r e g. two_one 𝓤 _ _ _ (λ returned recs. (returned, recs)))

pub run_cited : RunCited
run_cited = (λ M 𝓤 𝓛 mem runs κs a. nothing_asked 𝓤, λ M 𝓤 𝓛 mem runs κs a r e g. three_one 𝓤 _ _ _ _ (λ returned recs trace. (returned, recs, trace)))

pub rest_cited : RestCited
rest_cited = (λ M 𝓤 𝓛 mem runs κs a. nothing_asked 𝓤, λ M 𝓤 𝓛 mem runs κs a r e g. three_one 𝓤 _ _ _ _ (λ returned recs trace. (returned, recs, trace)))

pub step_cited : StepCited
step_cited = (λ M 𝓤 𝓛 mem runs κs a. nothing_asked 𝓤, λ M 𝓤 𝓛 mem runs κs a r e g. three_one 𝓤 _ _ _ _ (λ returned recs trace. (returned, recs, trace)))

pub drain_cited : DrainCited
drain_cited = (λ M 𝓤 𝓛 mem runs κs a. nothing_asked 𝓤, λ M 𝓤 𝓛 mem runs κs a r e g. two_one 𝓤 _ _ _ (λ returned recs. (returned, recs)))

pub held_cited : HeldCited
held_cited =
    record {
      setup = (λ M 𝓤 𝓛 mem runs κs a. nothing_asked 𝓤, λ M 𝓤 𝓛 mem runs κs a r e g. one_one 𝓤 _ _ (λ returned. returned));
      run = (λ M 𝓤 𝓛 mem runs κs a. nothing_asked 𝓤, λ M 𝓤 𝓛 mem runs κs a r e g. two_one 𝓤 _ _ _ (λ returned trace. (returned, trace)));
      run_rest = (λ M 𝓤 𝓛 mem runs κs a. nothing_asked 𝓤, λ M 𝓤 𝓛 mem runs κs a r e g. two_one 𝓤 _ _ _ (λ returned trace. (returned, trace)));
      drain = (λ M 𝓤 𝓛 mem runs κs a. nothing_asked 𝓤, λ M 𝓤 𝓛 mem runs κs a r e g. one_one 𝓤 _ _ (λ returned. returned));
    }
