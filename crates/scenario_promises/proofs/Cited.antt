-- The contracts of the code say what is claimed of calls. Assumes nothing.
use Prim.Native.Nat.{ℕ}
use mathlib.Core.Bool.{Bool}
use mathlib.Core.Path.{◌≡◌, sym, ap, subst, ◌∙◌}
use mathlib.Core.List.{List}
use Rattle.scenario_read.proofs.Worlds.{as_one}
use Rattle.says.proofs.Facts.{hear_more, one_one, two_one, nothing_asked}
use Rattle.scenario_read.specs.Feed.{World, feed}
use Rattle.scenario_promises.specs.Session.{handed, wrote, Session}
use Rattle.scenario_promises.specs.Whole.{all_turns}
use Rattle.scenario_promises.specs.Chunks.{HandedOver}
use Rattle.scenario_promises.specs.Piped.{ComesTo, KeepsRefusal}
use Rattle.scenario_promises.specs.Cited.{
  FeedSays,
  Called,
  FeedIsCall,
  GoesOnSession,
  TakesAnother,
  TakesAgain,
  FeedSteps,
  ReadsWhole,
  WholeFile,
  ChangesNothing,
  AfterRefusal,
  StaysRefused,
  RefusalKept,
  FreshCited,
  StoppedCited,
  TakeLineCited,
  FinishCited,
}
use Rattle.scenario_promises.proofs.Piped.{at_once_lem, nothing_changes, refusal_stays}

-- what follows from the call as it is defined
feed_says : (P : List ℕ → Bool → World → World → Type 0)
    → ((chunk : List ℕ) (final : Bool) (w after : World) → after ≡ feed chunk final all_turns w → P chunk final w after)
    → FeedSays P
feed_says P follows = (
  λ M 𝓤 𝓛 mem runs κs a. nothing_asked 𝓤,
  λ M 𝓤 𝓛 mem runs κs a r e g. hear_more 𝓤 _ _ _ (λ is. hear_more 𝓤 _ _ _ (λ line. hear_more 𝓤 _ _ _ (λ lens. hear_more 𝓤 _ _ _ (λ ops.
      hear_more 𝓤 _ _ _ (λ vals. hear_more 𝓤 _ _ _ (λ schedule. one_one 𝓤 _ _ (λ rows.
      follows _ _ _ _ (as_one _ _ _ _ _ _ _ (is, (line, (lens, (ops, (vals, (schedule, rows)))))))))))))),
)

pub feed_is_call : FeedIsCall
feed_is_call = feed_says Called (λ chunk final w after is. is)

pub feed_steps : FeedSteps
feed_steps =
    record {
      session =
          feed_says GoesOnSession (λ chunk final w after is bytes words v s follows.
          Session.calls s chunk final all_turns w.from w.out w.at after (is ∙ ap (feed chunk final all_turns) follows));
      another =
          feed_says TakesAnother (λ next final w after is chunks chunk n words v f all follows short room.
          HandedOver.another f all next final w.out w.at after short room (is ∙ ap (feed next final all_turns) follows));
      again =
          feed_says TakesAgain (λ chunk final w after is chunks n words v f stopped follows room.
          HandedOver.again f stopped w.out w.at after room (is ∙ ap (feed chunk final all_turns) follows));
    }

-- the world is what is handed over from place 0 to place 0
at_start : (w : World) → w.from ≡ 0 → w.at ≡ 0 → w ≡ handed w 0 w.out 0
at_start w from at = λ i. handed w (from i) w.out (at i)

pub whole_file : WholeFile
whole_file =
    feed_says ReadsWhole (λ chunk final w after is fresh roomy from at last short room.
    subst (λ (v : World). ComesTo chunk (wrote 0 v) v)
    (sym (is ∙ λ i. feed chunk (last i) all_turns (at_start w from at i)))
    (at_once_lem chunk w w.out fresh roomy room short))

pub after_refusal : AfterRefusal
after_refusal = feed_says ChangesNothing (λ chunk final w after is all. is ∙ nothing_changes chunk final all_turns w all)

pub refusal_kept : RefusalKept
refusal_kept =
    feed_says StaysRefused (λ chunk final w after is refused. subst (KeepsRefusal w) (sym is) (refusal_stays chunk final all_turns w refused))

pub fresh_cited : FreshCited
fresh_cited = (λ M 𝓤 𝓛 mem runs κs a. nothing_asked 𝓤, λ M 𝓤 𝓛 mem runs κs a r e g. one_one 𝓤 _ _ (λ is. is))

pub stopped_cited : StoppedCited
stopped_cited = (λ M 𝓤 𝓛 mem runs κs a. nothing_asked 𝓤, λ M 𝓤 𝓛 mem runs κs a r e g. one_one 𝓤 _ _ (λ is. is))

pub take_line_cited : TakeLineCited
take_line_cited = (λ M 𝓤 𝓛 mem runs κs a. nothing_asked 𝓤, λ M 𝓤 𝓛 mem runs κs a r e g. two_one 𝓤 _ _ _ (λ returned line. (returned, line)))

pub finish_cited : FinishCited
finish_cited = (λ M 𝓤 𝓛 mem runs κs a. nothing_asked 𝓤, λ M 𝓤 𝓛 mem runs κs a r e g. two_one 𝓤 _ _ _ (λ returned line. (returned, line)))
