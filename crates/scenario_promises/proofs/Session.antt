-- What is claimed of the calls. Assumes nothing.
use Prim.Native.Nat.{ℕ, ◌≤◌}
use mathlib.Core.Bool.{Bool, true, false, true≢false, false≢true}
use mathlib.Core.Path.{◌≡◌, refl, sym, ap, ◌∙◌}
use mathlib.Core.Logic.{◌⊎◌, inl, inr}
use mathlib.Core.List.{List}
use native.Mathlib.Omega.{arith}
use lib.ListN.{length, drop, length-drop}
use Rattle.scenario_read.specs.Feed.{World, moved, next_of, rests, over}
use Rattle.scenario_read.specs.declared.State.{State}
use Rattle.scenario_read.specs.declared.Move.{Move}
use Rattle.scenario_read.specs.declared.Move.TheVariants.{Stand, Piece, Gather, Line as ALine, Close, Rest}
use Rattle.scenario_promises.specs.Session.{file_words, RowsAll, RefusedSo, StandsSo, CutAlike, RowsOn, RestsLate, ClosesLast, StaysOpen, GoesOn}
use Rattle.scenario_promises.proofs.Chose.{Wide, Chose, chose}
use Rattle.scenario_promises.proofs.Goes.{call_goes}
use Rattle.scenario_promises.proofs.Rests.{call_keeps, used_most, line_or_on}
use Rattle.scenario_promises.proofs.Ends.{all_rows, refused_so, stands_so}
use Rattle.scenario_promises.proofs.Begins.{rows_on as begins_so}
use Rattle.scenario_promises.proofs.Calls.{session_kept}

-- the move that takes the end
abbrev closing : Move → Bool
closing Stand = false
closing Piece = false
closing Gather = false
closing ALine = false
closing Close = true
closing Rest = false

module _ (chunk : List ℕ) (final : Bool) (w : World) (wide : Wide w) where
  rests_by : (m : Move) → Chose chunk final w m → m ≡ Rest → (over w.state ≡ true) ⊎ ((length chunk ≤ w.from) × (final ≡ false))
  rests_by Stand (Chose.stand _ _) e = absurd (false≢true (ap rests e))
  rests_by Piece (Chose.piece _ _) e = absurd (false≢true (ap rests e))
  rests_by Gather (Chose.gather _ _ _) e = absurd (false≢true (ap rests e))
  rests_by ALine (Chose.line _ _) e = absurd (false≢true (ap rests e))
  rests_by Close (Chose.close _ _ _) e = absurd (false≢true (ap rests e))
  rests_by Rest (Chose.unroomy h) e = absurd (omega arith)
  rests_by Rest (Chose.done h) e = inl h
  rests_by Rest (Chose.later h f) e = inr (h, f)

-- where `final` is said, there is one way
pub last_out : (a b : Type 0) → a ⊎ (b × (true ≡ false)) → a
last_out a b (inl h) = h
last_out a b (inr h) = absurd (true≢false h.1)

pub rests_late : RestsLate
rests_late chunk final w e wide = rests_by chunk final w wide (next_of chunk final w) (chose chunk final w) e

closes_by : (chunk : List ℕ) (final : Bool) (w : World) (m : Move) → Chose chunk final w m → m ≡ Close → (length chunk ≤ w.from) × (final ≡ true)
closes_by chunk final w Stand c e = absurd (false≢true (ap closing e))
closes_by chunk final w Piece c e = absurd (false≢true (ap closing e))
closes_by chunk final w Gather c e = absurd (false≢true (ap closing e))
closes_by chunk final w ALine c e = absurd (false≢true (ap closing e))
closes_by chunk final w Close (Chose.close _ all last) e = (all, last)
closes_by chunk final w Rest c e = absurd (false≢true (ap closing e))

pub closes_last : ClosesLast
closes_last chunk final w e = closes_by chunk final w (next_of chunk final w) (chose chunk final w) e

-- the end is taken or not, as before
module _ (chunk : List ℕ) (c : Bool) where
  abbrev Still : World → Type 0
  Still w = w.state.closed ≡ c

  move_still : (w : World) (m : Move) → Chose chunk false w m → Still w → Still (moved chunk w m)
  move_still w Stand _ h = h
  move_still w Piece _ h = h
  move_still w Gather _ h = h
  move_still w ALine _ h = line_or_on chunk w (λ (s : State). s.closed ≡ c) (λ l. h) (λ g. h)
  move_still w Close (Chose.close _ _ last) h = absurd (false≢true last)
  move_still w Rest _ h = h

pub stays_open : StaysOpen
stays_open chunk turns w after e =
    let c = w.state.closed in
    rw e (call_keeps chunk false (Still chunk c) (move_still chunk c) turns w refl)

-- within the chunk
abbrev Inside : List ℕ → World → Type 0
Inside chunk w = w.from ≤ length chunk

move_inside : (chunk : List ℕ) (final : Bool) (w : World) (m : Move) → Chose chunk final w m → Inside chunk w → Inside chunk (moved chunk w m)
move_inside chunk final w Stand c h = h
move_inside chunk final w Piece c h = h
move_inside chunk final w Gather c h = h
move_inside chunk final w ALine c h =
    let bs = drop w.from chunk in
    omega (arith, used_most bs w.line w.state.held, length-drop w.from chunk)
move_inside chunk final w Close c h = h
move_inside chunk final w Rest c h = h

pub goes_on : GoesOn
goes_on chunk final turns w after e =
    let g = call_goes chunk final turns w in
    rw e (g.from, g.at, g.size, g.front, call_keeps chunk final (Inside chunk) (move_inside chunk final) turns w, g.room, g.behind)

pub rows_all : RowsAll
rows_all bytes words w s all others none = all_rows bytes words w (session_kept s) all others none

pub cut_alike : CutAlike
cut_alike bytes bytes' words words' w w' s s' all all' others others' none none' e =
    rows_all bytes words w s all others none ∙ ap file_words e ∙ sym (rows_all bytes' words' w' s' all' others' none')

pub rows_on : RowsOn
rows_on bytes words w s others none = begins_so bytes words w (session_kept s) others none

pub refused_is : RefusedSo
refused_is bytes words w s all others none = refused_so bytes words w (session_kept s) all others none

pub stands_is : StandsSo
stands_is bytes words w s all others none there = stands_so bytes words w (session_kept s) all others none there
