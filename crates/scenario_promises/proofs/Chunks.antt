-- What is claimed of a file chunk after chunk. Assumes nothing.
use Prim.Native.Nat.{ℕ, suc, ◌+◌, ◌-◌, ◌<◌, ◌≤◌}
use mathlib.Core.Bool.{Bool, true, false, false≢true}
use mathlib.Core.Path.{◌≡◌, refl, sym, ap, subst, ◌∙◌}
use mathlib.Core.Logic.{◌⊎◌, inr}
use mathlib.Core.List.{List, [], ◌∷◌, ◌++◌, append_assoc, append-nil, flatten}
use native.Mathlib.Omega.{arith}
use lib.ListN.{length, drop, length-append, length-drop, drop_of_length-le}
use lib.Seq.{length-take-le}
use Rattle.scenario_read.specs.Feed.{World, most_words, feed, next_of, over}
use Rattle.scenario_read.specs.declared.Move.TheVariants.{Rest}
use Rattle.scenario_promises.specs.Session.{handed, took, wrote, file_words, Session, MayCome}
use Rattle.scenario_promises.specs.Whole.{all_turns, most_bytes}
use Rattle.scenario_promises.specs.Chunks.{RoomLeft, Stopped, HandedOver, MayFollow, ChunkByChunk, ChunkTaken, ChunksAll, ChunksOn, FewCalls, HandedOverIsSession}
use Rattle.scenario_promises.proofs.Spans.{span_rest}
use Rattle.scenario_promises.proofs.Rests.{call_keeps}
use Rattle.scenario_promises.proofs.Session.{last_out, rests_late, goes_on, rows_all, rows_on}
use Rattle.scenario_promises.proofs.Whole.{AllTaken, move_all_taken, calls_rest}

flatten_then : (a b : List (List ℕ)) → flatten (a ++ b) ≡ flatten a ++ flatten b
unfolding flatten
flatten_then [] b = refl
flatten_then (l ∷ a) b = ap (λ (x : List ℕ). l ++ x) (flatten_then a b) ∙ sym (append_assoc l (flatten a) (flatten b))

-- ---- what is known after each call
pub record Known (chunks : List (List ℕ)) (chunk : List ℕ) (final : Bool) (n : ℕ) (words : List ℕ) (w : World) : Type 0 where
  pub bytes : List ℕ
  pub session : Session bytes words w
  pub short : length chunk ≤ most_bytes
  pub whole : bytes ++ drop w.from chunk ≡ flatten chunks
  pub closes : AllTaken chunk final w
  pub taken : RoomLeft w → (over w.state ≡ true) ⊎ ((length chunk ≤ w.from) × (final ≡ false))
  pub few : n ≤ length chunks + length words
  -- one more may be made
  pub fewer : 0 < n → Stopped w → n < length chunks + length words

-- a call from a place in a chunk, which is the next of the file
module _
    (chunks : List (List ℕ)) (chunk : List ℕ) (final : Bool) (n : ℕ) (bytes words : List ℕ) (w : World) (s : Session bytes words w) (from : ℕ)
    (out : List ℕ) (at : ℕ) (after : World) (short : length chunk ≤ most_bytes) (room : at + most_words ≤ length out)
    (is : after ≡ feed chunk final all_turns (handed w from out at)) where
  -- one that stopped for want of room has written
  wrote_some : Stopped after → 1 ≤ length (wrote at after)
  wrote_some stopped =
      let g = goes_on chunk final all_turns (handed w from out at) after is in
      let size : length (wrote at after) ≡ after.at - at =
      length-take-le (after.at - at) (drop at after.out) (omega (arith, g.5 (omega arith), length-drop at after.out)) in
      omega (arith, size, g.2)

  called : bytes ++ drop from chunk ≡ flatten chunks → AllTaken chunk final (handed w from out at) → n ≤ length chunks + length words
      → Known chunks chunk final n (words ++ wrote at after) after
  called whole closes few = record {
    bytes = bytes ++ took chunk from after;
    session = Session.calls s chunk final all_turns from out at after is;
    short = short;
    whole =
        append_assoc bytes (took chunk from after) (drop after.from chunk)
        ∙ ap (λ (x : List ℕ). bytes ++ x) (span_rest chunk from after.from (goes_on chunk final all_turns (handed w from out at) after is).0)
        ∙ whole;
    closes =
        subst (AllTaken chunk final) (sym is)
        (call_keeps chunk final (AllTaken chunk final) (move_all_taken chunk final) all_turns (handed w from out at) closes);
    taken =
        rests_late chunk final after
        (subst (λ (v : World). next_of chunk final v ≡ Rest) (sym is) (calls_rest bytes words w s chunk final from out at short));
    few = omega (arith, length-append words (wrote at after));
    fewer = λ some stopped. omega (arith, length-append words (wrote at after), wrote_some stopped);
  }

-- where the chunk before is all taken, the bytes so far are those of the chunks so far
next_whole : (chunks : List (List ℕ)) (chunk next bytes : List ℕ) (from : ℕ) → bytes ++ drop from chunk ≡ flatten chunks → length chunk ≤ from
    → bytes ++ drop 0 next ≡ flatten (chunks ++ (next ∷ []))
unfolding flatten
next_whole chunks chunk next bytes from e all =
    let none : drop from chunk ≡ [] = drop_of_length-le chunk all in
    let so : bytes ≡ flatten chunks = sym (append-nil bytes) ∙ ap (λ (x : List ℕ). bytes ++ x) (sym none) ∙ e in
    ap (λ (x : List ℕ). x ++ next) so
    ∙ ap (λ (x : List ℕ). flatten chunks ++ x) (sym (append-nil next))
    ∙ sym (flatten_then chunks (next ∷ []))

pub known : {chunks : List (List ℕ)} {chunk : List ℕ} {final : Bool} {n : ℕ} {words : List ℕ} {w : World} → HandedOver chunks chunk final n words w
    → Known chunks chunk final n words w
unfolding flatten
known (HandedOver.begins w e roomy) = record {
  bytes = [];
  session = Session.begins w e roomy;
  short = omega arith;
  whole = drop_of_length-le [] {i = w.from} (omega arith);
  closes = λ c. absurd (false≢true (rw e at c));
  taken = λ h. inr (omega arith, refl);
  few = omega arith;
  fewer = λ some. absurd (omega arith);
}
known (HandedOver.another {chunks} {chunk} {n} {words} {w} f all next final out at after short room is) =
    let k = known f in
    called (chunks ++ (next ∷ [])) next final (suc n) k.bytes words w k.session 0 out at after short room is
    (next_whole chunks chunk next k.bytes w.from k.whole all) (λ c. absurd (false≢true (k.closes c).1))
    (omega (arith, length-append chunks (next ∷ []), k.few))
known (HandedOver.again {chunks} {chunk} {final} {n} {words} {w} f stopped out at after room is) =
    let k = known f in
    called chunks chunk final (suc (suc n)) k.bytes words w k.session w.from out at after k.short room is k.whole k.closes
    (k.fewer (omega arith) stopped)

-- ---- what is claimed
module _ (chunks : List (List ℕ)) (chunk : List ℕ) (final : Bool) (n : ℕ) (words : List ℕ) (w : World) (k : Known chunks chunk final n words w)
    (later : List (List ℕ)) (none : MayFollow final later) where
  -- what is left of the file
  abbrev pub others : List ℕ
  others = drop w.from chunk ++ flatten later

  pub no_others : MayCome w others
  unfolding flatten
  no_others c =
      let (all, last) = k.closes c in
      (λ i. drop_of_length-le chunk {i = w.from} all i ++ flatten (none last i))

  pub file : k.bytes ++ others ≡ flatten (chunks ++ later)
  file =
      sym (append_assoc k.bytes (drop w.from chunk) (flatten later))
      ∙ ap (λ (x : List ℕ). x ++ flatten later) k.whole
      ∙ sym (flatten_then chunks later)

  all_words : over w.state ≡ true → words ≡ file_words (flatten (chunks ++ later))
  all_words all = rows_all k.bytes words w k.session all others no_others ∙ ap file_words file

  begin : (rest : List ℕ) × (file_words (flatten (chunks ++ later)) ≡ words ++ rest)
  begin =
      let (rest, is) = rows_on k.bytes words w k.session others no_others in
      (rest, ap file_words (sym file) ∙ is)

pub chunk_taken : ChunkTaken
chunk_taken chunks chunk final n words w f = (known f).taken

pub chunks_all : ChunksAll
chunks_all chunks chunk final n words w f all later none = all_words chunks chunk final n words w (known f) later none all

pub chunks_on : ChunksOn
chunks_on chunks chunk final n words w f later none = begin chunks chunk final n words w (known f) later none

pub few_calls : FewCalls
few_calls chunks chunk final n words w f = (known f).few

pub handed_over_is_session : HandedOverIsSession
handed_over_is_session chunks chunk final n words w f = let k = known f in (k.bytes, k.session)

pub chunks : ChunkByChunk
chunks cs chunk n words w f roomed =
    let all = last_out _ _ (chunk_taken cs chunk true n words w f roomed) in
    (all, chunks_all cs chunk true n words w f all [] (λ e. refl) ∙ ap (λ (x : List (List ℕ)). file_words (flatten x)) (append-nil cs))
