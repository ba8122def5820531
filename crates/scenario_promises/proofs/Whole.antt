-- What is claimed of turns, and of a whole file. Assumes nothing.
use Prim.Native.Nat.{ℕ, ◌+◌, ◌-◌, ◌≤◌}
use mathlib.Core.Bool.{Bool, true, false, false≢true}
use mathlib.Core.Path.{◌≡◌, refl, sym, ap, subst, ◌∙◌}
use mathlib.Core.List.{List, ◌++◌}
use native.Mathlib.Omega.{arith}
use lib.ListN.{length, take, drop, length-append, length-take, take-append-drop, drop_of_length-le}
use Rattle.scenario_lines.specs.Held.{held_end}
use Rattle.scenario_read.specs.Feed.{World, fresh, takes, moved, feed}
use Rattle.scenario_read.specs.declared.State.{State}
use Rattle.scenario_read.specs.declared.Move.{Move}
use Rattle.scenario_read.specs.declared.Move.TheVariants.{Stand, Piece, Gather, Line as ALine, Close, Rest}
use Rattle.scenario_promises.specs.Session.{Roomy, handed, took, wrote, file_words, Session, MayCome}
use Rattle.scenario_promises.specs.Whole.{most_times, enough, all_turns, ComesToRest, FewLeft, CallsRest, RoomFor, Whole, OneCall, OneCallInCode}
use Rattle.scenario_promises.proofs.Chose.{Wide, Chose}
use Rattle.scenario_promises.proofs.Goes.{call_goes}
use Rattle.scenario_promises.proofs.Times.{line_few, end_few}
use Rattle.scenario_promises.proofs.Rests.{call_keeps, line_or_on, rests_in}
use Rattle.scenario_promises.proofs.Session.{last_out, rests_late, rows_all, rows_on}

pub comes_to_rest : ComesToRest
comes_to_rest chunk final turns w h = rests_in chunk final turns w h

-- ---- few entries are left
abbrev Few : World → Type 0
Few w = w.state.read.run_left ≤ most_times

move_few : (chunk : List ℕ) (final : Bool) (w : World) (m : Move) → Chose chunk final w m → Few w → Few (moved chunk w m)
move_few chunk final w Stand c h = h
move_few chunk final w Piece c h = h
move_few chunk final w Gather c h = omega arith
move_few chunk final w ALine c h =
    line_or_on chunk w (λ (s : State). s.read.run_left ≤ most_times) (λ l. line_few w.state.read l w.lens h) (λ g. h)
move_few chunk final w Close c h = end_few (held_end w.state.held).done w.state.read _ w.lens h
move_few chunk final w Rest c h = h

session_few : {bytes words : List ℕ} {w : World} → Session bytes words w → Few w
session_few (Session.begins w e roomy) = rw e (omega arith)
session_few (Session.calls {bytes} {words} {w} s chunk final turns from out at after e) =
    subst Few (sym e) (call_keeps chunk final Few (move_few chunk final) turns (handed w from out at) (session_few s))

pub few_left : FewLeft
few_left bytes words w s = session_few s

pub calls_rest : CallsRest
calls_rest bytes words w s chunk final from out at h =
    let few = session_few s in
    comes_to_rest chunk final all_turns (handed w from out at) (omega arith)

-- ---- after the end of the input no byte is left, and it was said
abbrev pub AllTaken : List ℕ → Bool → World → Type 0
AllTaken chunk final w = w.state.closed ≡ true → (length chunk ≤ w.from) × (final ≡ true)

pub move_all_taken : (chunk : List ℕ) (final : Bool) (w : World) (m : Move) → Chose chunk final w m → AllTaken chunk final w
    → AllTaken chunk final (moved chunk w m)
move_all_taken chunk final w Stand c h = h
move_all_taken chunk final w Piece c h = h
move_all_taken chunk final w Gather c h = h
move_all_taken chunk final w ALine (Chose.line o _) h =
    let unclosed : (takes chunk w).state.closed ≡ false = line_or_on chunk w (λ (s : State). s.closed ≡ false) (λ l. o.closed) (λ g. o.closed) in
    λ e. absurd (false≢true (sym unclosed ∙ e))
move_all_taken chunk final w Close (Chose.close o all last) h = λ e. (all, last)
move_all_taken chunk final w Rest c h = h

-- ---- a whole file
module _
    (file : List ℕ) (turns : ℕ) (w : World) (out : List ℕ) (e : w.state ≡ fresh) (roomy : Roomy w) (room : RoomFor file out)
    (long : enough file (handed w 0 out 0) ≤ turns) where
  abbrev pub after : World
  after = feed file true turns (handed w 0 out 0)

  abbrev pub others : List ℕ
  others = drop after.from file

  pub session : Session (took file 0 after) (wrote 0 after) after
  session = Session.calls (Session.begins w e roomy) file true turns 0 out 0 after refl

  pub no_others : MayCome after others
  no_others closed =
      drop_of_length-le file
      (call_keeps file true (AllTaken file true) (move_all_taken file true) turns (handed w 0 out 0) (λ c. absurd (false≢true (rw e at c))) closed).0

  pub whole : took file 0 after ++ others ≡ file
  whole = let n : after.from - 0 ≡ after.from = omega arith in rw n (take-append-drop after.from file)

  words : wrote 0 after ≡ take after.at after.out
  words = let n : after.at - 0 ≡ after.at = omega arith in rw n

  -- the words so far begin those of the file, so their place does not pass the end of these
  wide : Wide after
  wide =
      let (rest, is) = rows_on _ _ after session others no_others in
      let size : length (file_words file) ≡ length (take after.at after.out) + length rest =
      ap (λ (l : List ℕ). length (file_words l)) (sym whole) ∙ ap length is ∙ length-append (wrote 0 after) rest ∙ ap (λ (l : List ℕ). length l + length rest) words in
      omega (arith, size, length-take after.at after.out, (call_goes file true turns (handed w 0 out 0)).size)

  pub one : Whole file after
  one =
      let all = last_out _ _ (rests_late file true after (comes_to_rest file true turns (handed w 0 out 0) long) wide) in
      let is = sym words ∙ rows_all _ _ after session all others no_others ∙ ap file_words whole in
      let size : length (file_words file) ≡ length (take after.at after.out) = ap length (sym is) in
      (all, omega (arith, size, wide, length-take after.at after.out), is)

pub one_call : OneCall
one_call file turns w out e roomy room long = one file turns w out e roomy room long

pub one_call_in_code : OneCallInCode
one_call_in_code file w out e roomy room short =
    let none : w.state.read.run_left ≡ 0 = rw e refl in
    one_call file all_turns w out e roomy room (omega arith)
