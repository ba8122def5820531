-- What comes next, with what is known of the state where it does. Assumes nothing.
use Rattle.std.specs.Prelude.{None}
use Rattle.std.specs.Option.{is_none}
use Rattle.scenario_stages.proofs.Noted.{none_is}
use Prim.Native.Nat.{ℕ, ◌+◌, ◌<◌, ◌≤◌}
use mathlib.Core.Bool.{Bool, true, false, ◌||◌, ◌&&◌, not, cond, true≢false, false≢true}
use mathlib.Core.Path.{◌≡◌, refl, sym, ◌∙◌}
use mathlib.Core.List.{List}
use native.Mathlib.Omega.{arith}
use borrow.Author.Tests.{ltb-true, ltb-false, leb-true, leb-false, eqb-true, eq-eqb}
use lib.Dec.{eqb, ltb, leb}
use lib.ListN.{length}
use Rattle.scenario.specs.Refused.{stage_no}
use Rattle.scenario.specs.declared.Stage.{Stage}
use Rattle.scenario.specs.declared.Stage.TheVariants.{Header as AtHeader, Lock as AtLock, Pred as AtPred, Ops as AtOps, Runs as AtRuns}
use Rattle.scenario_pieces.specs.Piece.{most_entries}
use Rattle.scenario_read.specs.Feed.{World, most_words, ready, roomy_move, what, next_of, over}
use Rattle.scenario_read.specs.declared.State.{State}
use Rattle.scenario_read.specs.declared.Move.{Move}
use Rattle.scenario_read.specs.declared.Move.TheVariants.{Stand, Piece, Gather, Line as ALine, Close, Rest}

-- there is room for what a move may write
abbrev pub Wide : World → Type 0
Wide w = w.at + most_words ≤ length w.out

-- a line, or the end of the input, may be taken
pub record Open (s : State) : Type 0 where
  pub left : s.read.run_left ≡ 0
  pub refused : s.read.refused ≡ None
  pub closed : s.closed ≡ false

pub data Chose (chunk : List ℕ) (final : Bool) (w : World) : Move → Type 0 where
  stand : w.state.stood ≡ false → 0 < w.state.read.run_left → Chose chunk final w Stand
  piece : Wide w → 0 < w.state.gathered → Chose chunk final w Piece
  gather : 0 < w.state.read.run_left → w.state.gathered < most_entries → w.state.stood ≡ true → Chose chunk final w Gather
  line : Open w.state → w.from < length chunk → Chose chunk final w ALine
  close : Open w.state → length chunk ≤ w.from → final ≡ true → Chose chunk final w Close
  unroomy : length w.out < w.at + most_words → Chose chunk final w Rest
  done : over w.state ≡ true → Chose chunk final w Rest
  later : length chunk ≤ w.from → final ≡ false → Chose chunk final w Rest

-- ---- tests
pub last_stage : (p : Stage) → stage_no p ≡ 4 → p ≡ AtRuns
last_stage AtHeader e = absurd (omega arith)
last_stage AtLock e = absurd (omega arith)
last_stage AtPred e = absurd (omega arith)
last_stage AtOps e = absurd (omega arith)
last_stage AtRuns e = refl

unstood : (b c : Bool) → (not b && c) ≡ true → (b ≡ false) × (c ≡ true)
unstood true c e = absurd (false≢true e)
unstood false c e = (refl, e)

stood_there : (b c : Bool) → (not b && c) ≡ false → c ≡ true → b ≡ true
stood_there true c e f = refl
stood_there false c e f = absurd (true≢false (sym f ∙ e))

some : (a b : Bool) (g : ℕ) (c : Bool) → leb most_entries g ≡ a → ltb 0 g ≡ b → (a || (b && c)) ≡ true → 0 < g
some true b g c e f h = omega (arith, leb-true most_entries g e)
some false true g c e f h = ltb-true 0 g f
some false false g c e f h = absurd (false≢true h)

none : (a b c d : Bool) → (a || (b && (c && d))) ≡ false → c ≡ true → d ≡ true → b ≡ false
none true b c d h e f = absurd (true≢false h)
none false false c d h e f = refl
none false true c d h e f = absurd (true≢false (sym (rw e f) ∙ h))

or_left : (b c : Bool) → (b || c) ≡ false → b ≡ false
or_left true c e = absurd (true≢false e)
or_left false c e = refl

or_right : (b c : Bool) → c ≡ true → (b || c) ≡ true
or_right true c e = refl
or_right false c e = e

module _ (chunk : List ℕ) (final : Bool) (w : World) (wide : Wide w) where
  abbrev s : State
  s = w.state

  -- nothing waits, where all that was gathered would be run
  nothing_waits : ready s ≡ false → s.read.run_left ≡ 0 → (not (is_none s.read.refused) || s.closed) ≡ true → s.gathered ≡ 0
  nothing_waits e left why =
      let b = none (leb most_entries s.gathered) (ltb 0 s.gathered) (eqb s.read.run_left 0) (not (is_none s.read.refused) || s.closed) e
      (eq-eqb s.read.run_left 0 left) why in
      omega (arith, ltb-false 0 s.gathered b)

  all_out : (not (is_none s.read.refused) || s.closed) ≡ true → s.gathered ≡ 0 → s.read.run_left ≡ 0 → over s ≡ true
  unfolding over
  all_out why g l = rw (g, l) why

  -- the tests one by one, each with what those before it said
  at_end : (b : Bool) → final ≡ b → Open s → length chunk ≤ w.from → Chose chunk final w (cond b Close Rest)
  at_end true e o h = Chose.close o h e
  at_end false e o h = Chose.later h e

  at_line : (b : Bool) → ltb w.from (length chunk) ≡ b → Open s → Chose chunk final w (cond b ALine (cond final Close Rest))
  at_line true e o = Chose.line o (ltb-true w.from (length chunk) e)
  at_line false e o = at_end final refl o (ltb-false w.from (length chunk) e)

  abbrev next_line : Move
  next_line = cond s.closed Rest (cond (ltb w.from (length chunk)) ALine (cond final Close Rest))

  abbrev next_refusal : Move
  next_refusal = cond (not (is_none s.read.refused)) Rest next_line

  abbrev next_entries : Move
  next_entries = cond (ready s) Piece (cond (ltb 0 s.read.run_left) Gather next_refusal)

  at_closed : (b : Bool) → s.closed ≡ b → ready s ≡ false → s.read.run_left ≡ 0 → s.read.refused ≡ None
      → Chose chunk final w (cond b Rest (cond (ltb w.from (length chunk)) ALine (cond final Close Rest)))
  at_closed true e unready left fine =
      let why = or_right (not (is_none s.read.refused)) s.closed e in
      Chose.done (all_out why (nothing_waits unready left why) left)
  at_closed false e unready left fine = at_line (ltb w.from (length chunk)) refl (record { left = left; refused = fine; closed = e })

  at_refused : (b : Bool) → is_none s.read.refused ≡ b → ready s ≡ false → s.read.run_left ≡ 0
      → Chose chunk final w (cond (not b) Rest next_line)
  at_refused true e unready left = at_closed s.closed refl unready left (none_is s.read.refused e)
  at_refused false e unready left = let why : (not (is_none s.read.refused) || s.closed) ≡ true = rw e refl in Chose.done (all_out why (nothing_waits unready left why) left)

  at_gather : (b : Bool) → ltb 0 s.read.run_left ≡ b → ready s ≡ false → (ltb 0 s.read.run_left ≡ true → s.stood ≡ true)
      → Chose chunk final w (cond b Gather next_refusal)
  at_gather true e unready there =
      Chose.gather (ltb-true 0 s.read.run_left e) (leb-false most_entries s.gathered (or_left (leb most_entries s.gathered) _ unready)) (there e)
  at_gather false e unready there =
      at_refused (is_none s.read.refused) refl unready (omega (arith, ltb-false 0 s.read.run_left e))

  at_piece : (b : Bool) → ready s ≡ b → (ltb 0 s.read.run_left ≡ true → s.stood ≡ true)
      → Chose chunk final w (cond b Piece (cond (ltb 0 s.read.run_left) Gather next_refusal))
  at_piece true e there = Chose.piece wide (some (leb most_entries s.gathered) (ltb 0 s.gathered) s.gathered _ refl refl e)
  at_piece false e there = at_gather (ltb 0 s.read.run_left) refl e there

  abbrev coming : Bool
  coming = ltb 0 s.read.run_left

  at_stand : (b : Bool) → (not s.stood && coming) ≡ b → Chose chunk final w (cond b Stand next_entries)
  at_stand true e = let (fresh, there) = unstood s.stood coming e in Chose.stand fresh (ltb-true 0 s.read.run_left there)
  at_stand false e = at_piece (ready s) refl (stood_there s.stood coming e)

  chose_wide : Chose chunk final w (roomy_move s (length chunk) w.from final)
  unfolding roomy_move
  chose_wide = at_stand (not s.stood && coming) refl

pub chose : (chunk : List ℕ) (final : Bool) (w : World) → Chose chunk final w (next_of chunk final w)
unfolding what
chose chunk final w = go (leb (w.at + most_words) (length w.out)) refl
  where
    go : (b : Bool) → leb (w.at + most_words) (length w.out) ≡ b → Chose chunk final w (cond b (roomy_move w.state (length chunk) w.from final) Rest)
    go true e = chose_wide chunk final w (leb-true (w.at + most_words) (length w.out) e)
    go false e = Chose.unroomy (leb-false (w.at + most_words) (length w.out) e)
