-- What is claimed of calls is so of the code: each statement cites a function's own contract, so that a change of the contract is a change here.
use Rattle.std.specs.Prelude.{ℕ, suc, ◌+◌, ◌≤◌, ◌≡◌, ◌≢◌, Bool, true, false, List, [], ◌∷◌, ◌++◌, length, drop, None}
use Rattle.scenario_lines.specs.Held.{took as took_line, taken_from, held_end, line_end}
use Rattle.scenario_lines.specs.contracts.bytes.take_line as take
use Rattle.scenario_lines.specs.contracts.bytes.finish as finish
use Rattle.says.specs.Says.{OfCall, Says}
use Rattle.scenario_read.specs.Feed.{World, fresh, most_words, feed, over, stop_of}
use Rattle.scenario_read.specs.Code.{world_of}
use Rattle.scenario_read.specs.contracts as code
use Rattle.scenario_promises.specs.Session.{Roomy, handed, took, wrote, Session}
use Rattle.scenario_promises.specs.Whole.{all_turns, most_bytes, RoomFor}
use Rattle.scenario_promises.specs.Chunks.{Stopped, HandedOver}
use Rattle.scenario_promises.specs.Piped.{ComesTo, KeepsRefusal}

-- ---- a call of `feed`
-- a property of the chunk, whether it is said to be the last, the world that is handed over, and the one that is returned and left
abbrev pub OfFeed : (List ℕ → Bool → World → World → Type 0) → OfCall code.feed.ended
OfFeed P κs a r e =
    let (state, (standing, (line, (lens, (ops, (vals, (schedule, (chunk, (from, (final, (rows, (at, end)))))))))))) = a in
    let (state', (standing', (line', (lens', (ops', (vals', (schedule', (chunk', (from', (final', (rows', (at', end')))))))))))) = e in
    P chunk.now final (world_of state standing line.now lens.now ops.now vals.now schedule.now from rows.now at)
    (world_of r.state r.standing line'.now lens'.now ops'.now vals'.now schedule'.now r.from rows'.now r.at)

abbrev pub FeedSays : (List ℕ → Bool → World → World → Type 0) → Type 2
FeedSays P = Says code.feed.ended (λ M 𝓤. code.feed.clauses) (OfFeed P)

-- it is a call as it is defined
abbrev pub Called : List ℕ → Bool → World → World → Type 0
Called chunk final w after = after ≡ feed chunk final all_turns w

abbrev pub FeedIsCall : Type 2
FeedIsCall = FeedSays Called

-- so it is the next step of a session, and of a file chunk after chunk, where it is handed what the call before left
abbrev pub Follows : World → World → ℕ → Type 0
Follows v w from = w ≡ handed v from w.out w.at

abbrev pub GoesOnSession : List ℕ → Bool → World → World → Type 0
GoesOnSession chunk final w after =
    (bytes words : List ℕ) (v : World) → Session bytes words v → Follows v w w.from
    → Session (bytes ++ took chunk w.from after) (words ++ wrote w.at after) after

abbrev pub TakesAnother : List ℕ → Bool → World → World → Type 0
TakesAnother next final w after =
    (chunks : List (List ℕ)) (chunk : List ℕ) (n : ℕ) (words : List ℕ) (v : World) → HandedOver chunks chunk false n words v → length chunk ≤ v.from
    → Follows v w 0 → length next ≤ most_bytes → w.at + most_words ≤ length w.out
    → HandedOver (chunks ++ (next ∷ [])) next final (suc n) (words ++ wrote w.at after) after

abbrev pub TakesAgain : List ℕ → Bool → World → World → Type 0
TakesAgain chunk final w after =
    (chunks : List (List ℕ)) (n : ℕ) (words : List ℕ) (v : World) → HandedOver chunks chunk final (suc n) words v → Stopped v
    → Follows v w v.from → w.at + most_words ≤ length w.out
    → HandedOver chunks chunk final (suc (suc n)) (words ++ wrote w.at after) after

pub record FeedSteps : Type 2 where
  pub session : FeedSays GoesOnSession
  pub another : FeedSays TakesAnother
  pub again : FeedSays TakesAgain

-- a whole file in one call: from a fresh state, all of it, with room for its rows, and said to be the last
abbrev pub ReadsWhole : List ℕ → Bool → World → World → Type 0
ReadsWhole chunk final w after =
    w.state ≡ fresh → Roomy w → w.from ≡ 0 → w.at ≡ 0 → final ≡ true → length chunk ≤ most_bytes → RoomFor chunk w.out
    → ComesTo chunk (wrote 0 after) after

abbrev pub WholeFile : Type 2
WholeFile = FeedSays ReadsWhole

-- where all is out, all that is returned and all that is lent is as it was
abbrev pub ChangesNothing : List ℕ → Bool → World → World → Type 0
ChangesNothing chunk final w after = over w.state ≡ true → after ≡ w

abbrev pub AfterRefusal : Type 2
AfterRefusal = FeedSays ChangesNothing

-- and after every refusal it, its line, the scenario so far, what is held and the scripts stay, and nothing of the input is taken
abbrev pub StaysRefused : List ℕ → Bool → World → World → Type 0
StaysRefused chunk final w after = w.state.read.refused ≢ None → KeepsRefusal w after

abbrev pub RefusalKept : Type 2
RefusalKept = FeedSays StaysRefused

-- ---- before the first call, and why one rests
abbrev pub FreshCited : Type 2
FreshCited = Says code.fresh.ended (λ M 𝓤. code.fresh.clauses) (λ κs a r e. r ≡ fresh)

abbrev pub StoppedCited : Type 2
StoppedCited =
    Says code.stopped.ended (λ M 𝓤. code.stopped.clauses) (λ κs a r e. let (state, (room, (at, end))) = a in r ≡ stop_of state room at)

-- ---- the lines of chunks
abbrev pub TakeLineCited : Type 2
TakeLineCited =
    Says take.ended (λ M 𝓤. take.clauses) (λ κs a r e.
    let (line, (held, (chunk, (from, end)))) = a in
    let (line', (held', (chunk', (from', end')))) = e in
    let t = took_line (drop from chunk.now) line.now held in
    (r ≡ taken_from from t) × (line'.now ≡ t.line))

abbrev pub FinishCited : Type 2
FinishCited =
    Says finish.ended (λ M 𝓤. finish.clauses) (λ κs a r e.
    let (line, (held, end)) = a in
    let (line', (held', end')) = e in
    (r ≡ held_end held) × (line'.now ≡ line_end line.now held))
