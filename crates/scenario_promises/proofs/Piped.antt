-- What is claimed of a scenario that arrives through a pipe. Assumes nothing.
use Rattle.std.specs.Prelude.{None, unwrap_or}
use Rattle.std.specs.Option.{is_none}
use Rattle.scenario_stages.proofs.Noted.{none_is}
use Prim.Native.Nat.{ℕ, zero, suc, ◌+◌, ◌%◌, ◌≤◌}
use mathlib.Core.Bool.{Bool, true, false, ◌||◌, ◌&&◌, not, cond, true≢false, false≢true}
use mathlib.Core.Path.{◌≡◌, refl, sym, ap, subst, ◌∙◌}
use mathlib.Core.Logic.{◌≢◌, ◌⊎◌, inl, inr}
use mathlib.Core.List.{List, [], ◌++◌, append-nil, flatten}
use native.Mathlib.Omega.{arith}
use borrow.Author.Tests.{eqb-true, eqb-false, leb-true, leb-false}
use lib.Dec.{eqb, ltb, leb}
use lib.ListN.{length}
use Rattle.scenario_lines.specs.Bytes.{feed as feed_bytes}
use Rattle.scenario_lines.specs.Laws.{means}
use Rattle.scenario.specs.Printed.{Reading, next, reading_of}
use Rattle.scenario.specs.ByBytes.{unread}
use Rattle.scenario.specs.Names.{counted_to}
use Rattle.scenario_stages.specs.Kept.{outline}
use Rattle.scenario_read.specs.Feed.{World, most_words, ready, roomy_move, what, next_of, rests, moved, feed, over, stop_of, is_end, is_full}
use Rattle.scenario_read.specs.declared.State.{State}
use Rattle.scenario_read.specs.declared.Move.{Move}
use Rattle.scenario_read.specs.declared.Move.TheVariants.{Stand, Piece, Gather, Line as ALine, Close, Rest}
use Rattle.scenario_read.specs.declared.Stop.{Stop}
use Rattle.scenario_read.specs.declared.Stop.TheVariants.{Wants, Full, Refused, Over}
use Rattle.scenario_promises.specs.Session.{handed, wrote, file_words}
use Rattle.scenario_promises.specs.Whole.{enough, all_turns}
use Rattle.scenario_promises.specs.Chunks.{Stopped, MayFollow}
use Rattle.scenario_promises.specs.Piped.{
  end_of_file,
  ComesTo,
  ByChunks,
  LastChunk,
  AtOnce,
  Alike,
  AnyCutting,
  EmptyChunk,
  CarriesLine,
  CountsOn,
  NothingChanges,
  KeepsRefusal,
  RefusalStays,
  SameRefusal,
  EndsWhenOver,
  FullWithoutRoom,
  told,
  WhyItRests,
}
use Rattle.scenario_promises.proofs.Chose.{Chose}
use Rattle.scenario_promises.proofs.Rests.{call_keeps}
use Rattle.scenario_promises.proofs.Holds.{Bytes}
use Rattle.scenario_promises.proofs.Calls.{session_kept}
use Rattle.scenario_promises.proofs.Carried.{counted}
use Rattle.scenario_promises.proofs.Ends.{both, over_so}
use Rattle.scenario_promises.proofs.Session.{last_out, refused_is}
use Rattle.scenario_promises.proofs.Whole.{session as at_once, others as left_over, no_others as none_left, whole as all_of_it, one}
use Rattle.scenario_promises.proofs.Chunks.{Known, known, others, no_others, file, chunk_taken}
use Rattle.scenario_promises.proofs.Comes.{comes_to}

-- ---- any cutting
-- the chunks so far, and whatever comes after them
comes_later : (chunks : List (List ℕ)) (chunk : List ℕ) (final : Bool) (n : ℕ) (words : List ℕ) (w : World) → Known chunks chunk final n words w
    → over w.state ≡ true → (later : List (List ℕ)) → MayFollow final later → ComesTo (flatten (chunks ++ later)) words w
comes_later chunks chunk final n words w k all later none =
    subst (λ (f : List ℕ). ComesTo f words w) (file chunks chunk final n words w k later none)
    (comes_to k.bytes words w k.session all (others chunks chunk final n words w k later none) (no_others chunks chunk final n words w k later none))

comes_so : (chunks : List (List ℕ)) (chunk : List ℕ) (final : Bool) (n : ℕ) (words : List ℕ) (w : World) → Known chunks chunk final n words w
    → over w.state ≡ true → ComesTo (flatten chunks) words w
comes_so chunks chunk final n words w k all =
    subst (λ (cs : List (List ℕ)). ComesTo (flatten cs) words w) (append-nil chunks) (comes_later chunks chunk final n words w k all [] (λ e. refl))

pub by_chunks : ByChunks
by_chunks chunks chunk final n words w f all later none = comes_later chunks chunk final n words w (known f) all later none

pub last_chunk : LastChunk
last_chunk chunks chunk n words w f roomed =
    let all = last_out _ _ (chunk_taken chunks chunk true n words w f roomed) in
    (all, comes_so chunks chunk true n words w (known f) all)

pub at_once_lem : AtOnce
at_once_lem bytes w out e roomy room short =
    let none : w.state.read.run_left ≡ 0 = rw e refl in
    let after = feed bytes true all_turns (handed w 0 out 0) in
    let long : enough bytes (handed w 0 out 0) ≤ all_turns = omega arith in
    subst (λ (f : List ℕ). ComesTo f (wrote 0 after) after) (all_of_it bytes all_turns w out e roomy room long)
    (comes_to _ _ after (at_once bytes all_turns w out e roomy room long) (one bytes all_turns w out e roomy room long).0
    (left_over bytes all_turns w out e roomy room long) (none_left bytes all_turns w out e roomy room long))

alike : (bytes words words' : List ℕ) (w w' : World) → ComesTo bytes words w → ComesTo bytes words' w' → Alike bytes words words' w w'
alike bytes words words' w w' c c' = record {
  rows = c.rows ∙ sym c'.rows;
  end = λ room at. c.end room at ∙ sym (c'.end room at);
  scripts = λ late. c.scripts late ∙ sym (c'.scripts late);
  stood = c.stood ∙ sym c'.stood;
  left = λ there. c.left there ∙ sym (c'.left (c'.stood ∙ sym c.stood ∙ there));
  stands = λ late. c.stands late ∙ sym (c'.stands late);
}

pub any_cutting : AnyCutting
any_cutting chunks chunks' chunk chunk' final final' n n' words words' w w' f f' all all' later later' none none' e =
    alike (flatten (chunks ++ later)) words words' w w' (by_chunks chunks chunk final n words w f all later none)
    (subst (λ (b : List ℕ). ComesTo b words' w') (sym e) (by_chunks chunks' chunk' final' n' words' w' f' all' later' none'))

-- ---- where nothing comes next
-- a call does nothing
rests_still : (chunk : List ℕ) (final : Bool) (turns : ℕ) (w : World) → next_of chunk final w ≡ Rest → feed chunk final turns w ≡ w
unfolding feed
rests_still chunk final zero w e = refl
rests_still chunk final (suc turns) w e = rw (ap rests e)

-- the tests in turn: whether the chunk has a byte left is the last but one
rests_alone : (a b c d e f : Bool)
    → cond a Stand (cond b Piece (cond c Gather (cond d Rest (cond e Rest (cond f ALine Rest))))) ≡ Rest
    → cond a Stand (cond b Piece (cond c Gather (cond d Rest (cond e Rest Rest)))) ≡ Rest
rests_alone true b c d e f h = absurd (false≢true (ap rests h))
rests_alone false true c d e f h = absurd (false≢true (ap rests h))
rests_alone false false true d e f h = absurd (false≢true (ap rests h))
rests_alone false false false true e f h = refl
rests_alone false false false false true f h = refl
rests_alone false false false false false f h = refl

no_chunk : (s : State) (len from : ℕ) → roomy_move s len from false ≡ Rest → roomy_move s 0 0 false ≡ Rest
unfolding roomy_move
no_chunk s len from h =
    rests_alone (not s.stood && ltb 0 s.read.run_left) (ready s) (ltb 0 s.read.run_left) (not (is_none s.read.refused)) s.closed
    (ltb from len) h

with_room : (s : State) (len from room at : ℕ) (final : Bool) → at + most_words ≤ room → what s len from final room at ≡ Rest → roomy_move s len from final ≡ Rest
unfolding what
with_room s len from room at final roomed h = go (leb (at + most_words) room) refl h
  where
    go : (b : Bool) → leb (at + most_words) room ≡ b → cond b (roomy_move s len from final) Rest ≡ Rest → roomy_move s len from final ≡ Rest
    go true e h = h
    go false e h = absurd (let less = leb-false (at + most_words) room e in omega arith)

any_room : (s : State) (len from room at : ℕ) (final : Bool) → roomy_move s len from final ≡ Rest → what s len from final room at ≡ Rest
unfolding what
any_room s len from room at final h = go (leb (at + most_words) room)
  where
    go : (b : Bool) → cond b (roomy_move s len from final) Rest ≡ Rest
    go true = h
    go false = refl

pub empty_chunk : EmptyChunk
empty_chunk chunk w turns out at e roomed =
    let s = w.state in
    rests_still [] false turns (handed w 0 out at)
    (any_room s 0 0 (length out) at false
    (no_chunk s (length chunk) w.from (with_room s (length chunk) w.from (length w.out) w.at false roomed e)))

-- ---- between chunks
held_so : (c : Bool) (bytes line : List ℕ) (w : World) (q : Reading) → Bytes c bytes line w.state.held q → c ≡ false
    → feed_bytes next unread bytes ≡ means line w.state.held q
held_so true bytes line w q e f = absurd (true≢false f)
held_so false bytes line w q e f = e

pub carries_line : CarriesLine
carries_line bytes words w session =
    let k = session_kept session in
    (k.line_size, counted session, λ closed. (k.reading, held_so w.state.closed bytes w.line w k.reading k.read_so closed))

pub counts_on : CountsOn
counts_on chunks chunk final n words w f all later none =
    let k = known f in
    (refused_is k.bytes words w k.session all (others chunks chunk final n words w k later none) (no_others chunks chunk final n words w k later none)).1
    ∙ ap (λ (b : List ℕ). (reading_of b).line % counted_to) (file chunks chunk final n words w k later none)

-- ---- after a refusal
-- the tests after those of entries
refused_or_closed : (a b : Bool) (m : Move) → (a || b) ≡ true → cond a Rest (cond b Rest m) ≡ Rest
refused_or_closed true b m e = refl
refused_or_closed false true m e = refl
refused_or_closed false false m e = absurd (false≢true e)

over_rests : (w : World) (len from : ℕ) (final : Bool) → over w.state ≡ true → roomy_move w.state len from final ≡ Rest
unfolding over roomy_move
over_rests w len from final e =
    let s = w.state in
    let (none, f) = both (eqb s.gathered 0) _ e in
    let (left, why) = both (eqb s.read.run_left 0) _ f in
    rw (eqb-true s.gathered 0 none, eqb-true s.read.run_left 0 left, none_comes s.stood)
    (refused_or_closed (not (is_none s.read.refused)) s.closed _ why)
  where
    none_comes : (b : Bool) → (not b && false) ≡ false
    none_comes true = refl
    none_comes false = refl

pub nothing_changes : NothingChanges
nothing_changes chunk final turns w all =
    rests_still chunk final turns w
    (any_room w.state (length chunk) w.from (length w.out) w.at final (over_rests w (length chunk) w.from final all))

-- what a move leaves as it was
kept_on : (w v u : World) → KeepsRefusal w v → u.state.read.refused ≡ v.state.read.refused → u.state.read.line ≡ v.state.read.line
    → outline u.state.read ≡ outline v.state.read → u.state.read.count ≡ v.state.read.count → u.from ≡ v.from → u.state.held ≡ v.state.held → u.state.closed ≡ v.state.closed → u.line ≡ v.line → u.lens ≡ v.lens
    → u.ops ≡ v.ops → u.vals ≡ v.vals → KeepsRefusal w u
kept_on w v u k number line scenario count from held closed places lens ops vals = record {
  number = number ∙ k.number;
  at_line = line ∙ k.at_line;
  scenario = scenario ∙ k.scenario;
  count = count ∙ k.count;
  from = from ∙ k.from;
  held = held ∙ k.held;
  closed = closed ∙ k.closed;
  line = places ∙ k.line;
  lens = lens ∙ k.lens;
  ops = ops ∙ k.ops;
  vals = vals ∙ k.vals;
}

module _ (chunk : List ℕ) (final : Bool) (w : World) (refused : w.state.read.refused ≢ None) where
  move_keeps : (v : World) (m : Move) → Chose chunk final v m → KeepsRefusal w v → KeepsRefusal w (moved chunk v m)
  move_keeps v Stand c k = kept_on w v _ k refl refl refl refl refl refl refl refl refl refl refl
  move_keeps v Piece c k = kept_on w v _ k refl refl refl refl refl refl refl refl refl refl refl
  move_keeps v Gather c k = kept_on w v _ k refl refl refl refl refl refl refl refl refl refl refl
  move_keeps v ALine (Chose.line o _) k = absurd (refused (sym k.number ∙ o.refused))
  move_keeps v Close (Chose.close o _ _) k = absurd (refused (sym k.number ∙ o.refused))
  move_keeps v Rest c k = k

pub refusal_stays : RefusalStays
refusal_stays chunk final turns w refused =
    call_keeps chunk final (KeepsRefusal w) (move_keeps chunk final w refused) turns w (record {
      number = refl;
      at_line = refl;
      scenario = refl;
      count = refl;
      from = refl;
      held = refl;
      closed = refl;
      line = refl;
      lens = refl;
      ops = refl;
      vals = refl;
    })

pub same_refusal : SameRefusal
unfolding stop_of
same_refusal chunk final turns w refused all room at =
    let k = refusal_stays chunk final turns w refused in
    rw (all, k.number, k.at_line) (told_so (is_none w.state.read.refused) refl)
  where
    told_so : (b : Bool) → is_none w.state.read.refused ≡ b
        → cond b Over (Refused (unwrap_or w.state.read.refused 0) w.state.read.line) ≡ Refused (unwrap_or w.state.read.refused 0) w.state.read.line
    told_so true e = absurd (refused (none_is w.state.read.refused e))
    told_so false e = refl

-- ---- what a call tells
abbrev which : Stop → ℕ
which Wants = 0
which Full = 1
which (Refused number line) = 2
which Over = 3

abbrev number_in : Stop → ℕ
number_in Wants = 0
number_in Full = 0
number_in (Refused number line) = number
number_in Over = 0

-- told from the three tests: all is out, there is room, and nothing is refused
abbrev stop : Bool → Bool → Bool → ℕ → ℕ → Stop
stop out room fine number line = cond out (cond fine Over (Refused number line)) (cond room Wants Full)

wants_by : (o r f : Bool) (n l : ℕ) → stop o r f n l ≡ Wants → (o ≡ false) × (r ≡ true)
wants_by true r true n l e = let no = ap which e in absurd (omega arith)
wants_by true r false n l e = let no = ap which e in absurd (omega arith)
wants_by false true f n l e = (refl, refl)
wants_by false false f n l e = let no = ap which e in absurd (omega arith)

full_by : (o r f : Bool) (n l : ℕ) → stop o r f n l ≡ Full → r ≡ false
full_by true r true n l e = let no = ap which e in absurd (omega arith)
full_by true r false n l e = let no = ap which e in absurd (omega arith)
full_by false true f n l e = let no = ap which e in absurd (omega arith)
full_by false false f n l e = refl

refused_by : (o r f : Bool) (n l number line : ℕ) → stop o r f n l ≡ Refused number line → (o ≡ true) × (f ≡ false) × (n ≡ number)
refused_by true r true n l number line e = let no = ap which e in absurd (omega arith)
refused_by true r false n l number line e = (refl, refl, ap number_in e)
refused_by false true f n l number line e = let no = ap which e in absurd (omega arith)
refused_by false false f n l number line e = let no = ap which e in absurd (omega arith)

not_none : (n l number line : ℕ) (b : Bool) → eqb n 0 ≡ b → Refused number line ≡ cond b Over (Refused n l) → number ≢ 0
not_none n l number line true f e z = let no = ap which e in absurd (omega arith)
not_none n l number line false f e z = eqb-false n 0 f (sym (ap number_in e) ∙ z)

over_by : (o r f : Bool) (n l : ℕ) → stop o r f n l ≡ Over → (o ≡ true) × (f ≡ true)
over_by true r true n l e = (refl, refl)
over_by true r false n l e = let no = ap which e in absurd (omega arith)
over_by false true f n l e = let no = ap which e in absurd (omega arith)
over_by false false f n l e = let no = ap which e in absurd (omega arith)

told_by : (w : World)
    → told w ≡ stop (over w.state) (leb (w.at + most_words) (length w.out)) (is_none w.state.read.refused) (unwrap_or w.state.read.refused 0) w.state.read.line
unfolding stop_of
told_by w = refl

end_by : (o r f : Bool) (n l : ℕ) → is_end (stop o r f n l) ≡ o
end_by true r true n l = refl
end_by true r false n l = refl
end_by false true f n l = refl
end_by false false f n l = refl

pub ends_when_over : EndsWhenOver
unfolding stop_of
ends_when_over s room at = end_by (over s) (leb (at + most_words) room) (is_none s.read.refused) (unwrap_or s.read.refused 0) s.read.line

no_room_by : (o r f : Bool) (n l : ℕ) → is_full (stop o r f n l) ≡ (not o && not r)
no_room_by true r true n l = refl
no_room_by true r false n l = refl
no_room_by false true f n l = refl
no_room_by false false f n l = refl

pub full_without_room : FullWithoutRoom
unfolding stop_of
full_without_room s room at = no_room_by (over s) (leb (at + most_words) room) (is_none s.read.refused) (unwrap_or s.read.refused 0) s.read.line

right : (a b : Type 0) → a ⊎ b → (a → b) → b
right a b (inl h) f = f h
right a b (inr h) f = h

module _ (chunks : List (List ℕ)) (chunk : List ℕ) (final : Bool) (n : ℕ) (words : List ℕ) (w : World) (k : Known chunks chunk final n words w) where
  abbrev s : State
  s = w.state

  wants_so : told w ≡ Wants → (length chunk ≤ w.from) × (final ≡ false)
  wants_so e =
      let (on, room) = wants_by (over s) (leb (w.at + most_words) (length w.out)) (is_none s.read.refused) _ _ (sym (told_by w) ∙ e) in
      right _ _ (k.taken (leb-true (w.at + most_words) (length w.out) room)) (λ all. absurd (true≢false (sym all ∙ on)))

  full_so : told w ≡ Full → Stopped w
  full_so e =
      leb-false (w.at + most_words) (length w.out)
      (full_by (over s) (leb (w.at + most_words) (length w.out)) (is_none s.read.refused) _ _ (sym (told_by w) ∙ e))

  refused_so : (number line : ℕ) → told w ≡ Refused number line → (later : List (List ℕ)) → MayFollow final later
      → (words ≡ file_words (flatten (chunks ++ later))) × (Refused number line ≡ end_of_file (flatten (chunks ++ later))) × (number ≢ 0)
  refused_so number line e later none =
      let (all, _, _) = refused_by (over s) (leb (w.at + most_words) (length w.out)) (is_none s.read.refused) _ _ number line (sym (told_by w) ∙ e) in
      let c = comes_later chunks chunk final n words w k all later none in
      let same = sym e ∙ c.end (length w.out) w.at in
      let file = reading_of (flatten (chunks ++ later)) in
      (c.rows, same, not_none file.refused (file.line % counted_to) number line (eqb file.refused 0) refl same)

  ended_so : told w ≡ Over → (words ≡ file_words (flatten chunks)) × (end_of_file (flatten chunks) ≡ Over) × (final ≡ true)
  ended_so e =
      let (all, fine) = over_by (over s) (leb (w.at + most_words) (length w.out)) (is_none s.read.refused) _ _ (sym (told_by w) ∙ e) in
      let c = comes_so chunks chunk final n words w k all in
      let closed = unopened s.closed (λ un. (over_so s all).2 un (none_is s.read.refused fine)) in
      (c.rows, sym (c.end (length w.out) w.at) ∙ e, (k.closes closed).1)
    where
      unopened : (b : Bool) → (b ≡ false → ⊥) → b ≡ true
      unopened true h = refl
      unopened false h = absurd (h refl)

pub why_it_rests : WhyItRests
why_it_rests chunks chunk final n words w f =
    let k = known f in
    record {
      wants = wants_so chunks chunk final n words w k;
      full = full_so chunks chunk final n words w k;
      refused = refused_so chunks chunk final n words w k;
      over = ended_so chunks chunk final n words w k;
    }
