-- A file chunk after chunk: once the last is said and taken, all is out, and the words of all calls are those of the chunks as one file.
use Rattle.std.specs.Prelude.{ℕ, suc, ◌+◌, ◌<◌, ◌≤◌, ◌≡◌, ◌⊎◌, Bool, true, false, length}
use mathlib.Core.List.{List, [], ◌∷◌, ◌++◌, flatten}
use Rattle.scenario_read.specs.Feed.{World, fresh, most_words, feed, over}
use Rattle.scenario_promises.specs.Session.{Roomy, handed, wrote, file_words, Session}
use Rattle.scenario_promises.specs.Whole.{all_turns, most_bytes}

-- there is room for what a move may store, or there is not: then the call stopped for want of it
abbrev pub RoomLeft : World → Type 0
RoomLeft w = w.at + most_words ≤ length w.out

abbrev pub Stopped : World → Type 0
Stopped w = length w.out < w.at + most_words

-- the chunks so far; the last of them, which is in hand, and whether it is said to be the last of all; how many calls were made; the words of all of them; and
-- what the last of them left. Each call has any list for its words, from any place on, with room for what a move may store
pub data HandedOver : List (List ℕ) → List ℕ → Bool → ℕ → List ℕ → World → Type 0 where
  begins : (w : World) → w.state ≡ fresh → Roomy w → HandedOver [] [] false 0 [] w
  -- a chunk is handed over where the one before it is all taken, and was not said to be the last
  another : {chunks : List (List ℕ)} {chunk : List ℕ} {n : ℕ} {words : List ℕ} {w : World} → HandedOver chunks chunk false n words w → length chunk ≤ w.from
      → (next : List ℕ) (final : Bool) (out : List ℕ) (at : ℕ) (after : World) → length next ≤ most_bytes → at + most_words ≤ length out
      → after ≡ feed next final all_turns (handed w 0 out at)
      → HandedOver (chunks ++ (next ∷ [])) next final (suc n) (words ++ wrote at after) after
  -- after a call that stopped for want of room, the same chunk again from where it left it
  again : {chunks : List (List ℕ)} {chunk : List ℕ} {final : Bool} {n : ℕ} {words : List ℕ} {w : World} → HandedOver chunks chunk final (suc n) words w → Stopped w
      → (out : List ℕ) (at : ℕ) (after : World) → at + most_words ≤ length out → after ≡ feed chunk final all_turns (handed w w.from out at)
      → HandedOver chunks chunk final (suc (suc n)) (words ++ wrote at after) after

-- what may come after the chunks so far: after the last nothing
abbrev pub MayFollow : Bool → List (List ℕ) → Type 0
MayFollow final later = final ≡ true → later ≡ []

-- ---- what is claimed
-- the whole file: a call that was told of the last chunk and leaves room has all out, and the words are those of the chunks as one file
abbrev pub ChunkByChunk : Type 0
ChunkByChunk =
    (chunks : List (List ℕ)) (chunk : List ℕ) (n : ℕ) (words : List ℕ) (w : World) → HandedOver chunks chunk true n words w → RoomLeft w
    → (over w.state ≡ true) × (words ≡ file_words (flatten chunks))

-- a call that leaves room has all out, or has taken its chunk, and another may come: so until all is out a caller can go on, with another chunk or with
-- the same again
abbrev pub ChunkTaken : Type 0
ChunkTaken =
    (chunks : List (List ℕ)) (chunk : List ℕ) (final : Bool) (n : ℕ) (words : List ℕ) (w : World) → HandedOver chunks chunk final n words w → RoomLeft w
    → (over w.state ≡ true) ⊎ ((length chunk ≤ w.from) × (final ≡ false))

-- once all is out, by a refusal perhaps, the words are those of the chunks, whatever chunks come after them: these need not be handed over
abbrev pub ChunksAll : Type 0
ChunksAll =
    (chunks : List (List ℕ)) (chunk : List ℕ) (final : Bool) (n : ℕ) (words : List ℕ) (w : World) → HandedOver chunks chunk final n words w → over w.state ≡ true
    → (later : List (List ℕ)) → MayFollow final later
    → words ≡ file_words (flatten (chunks ++ later))

-- at any time the words are the beginning of those
abbrev pub ChunksOn : Type 0
ChunksOn =
    (chunks : List (List ℕ)) (chunk : List ℕ) (final : Bool) (n : ℕ) (words : List ℕ) (w : World) → HandedOver chunks chunk final n words w
    → (later : List (List ℕ)) → MayFollow final later
    → (rest : List ℕ) × (file_words (flatten (chunks ++ later)) ≡ words ++ rest)

-- and there are no more calls than chunks and words: so a caller who goes on has all out in the end
abbrev pub FewCalls : Type 0
FewCalls =
    (chunks : List (List ℕ)) (chunk : List ℕ) (final : Bool) (n : ℕ) (words : List ℕ) (w : World) → HandedOver chunks chunk final n words w
    → n ≤ length chunks + length words

-- these calls are a session: what is claimed of sessions is so of them
abbrev pub HandedOverIsSession : Type 0
HandedOverIsSession =
    (chunks : List (List ℕ)) (chunk : List ℕ) (final : Bool) (n : ℕ) (words : List ℕ) (w : World) → HandedOver chunks chunk final n words w
    → (bytes : List ℕ) × Session bytes words w
