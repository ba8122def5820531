-- What every move keeps a call keeps, and each move lowers a number: so a call with turns enough comes to rest. Assumes nothing.
use Prim.Native.Nat.{ℕ, zero, suc, ◌+◌, ◌-◌, ◌*◌, ◌<◌, ◌≤◌}
use mathlib.Core.Bool.{Bool, true, false, cond, true≢false, false≢true}
use mathlib.Core.Path.{◌≡◌, refl, sym, ap, ◌∙◌}
use mathlib.Core.List.{List, [], ◌∷◌}
use native.Mathlib.Omega.{arith}
use lib.ListN.{length, drop, length-drop}
use Rattle.scenario_lines.specs.Held.{unheld, held_after, line_after, taking, one_byte_more, Took, took, view, held_end, line_end}
use Rattle.scenario_lines.specs.Judge.{judge}
use Rattle.scenario_lines.specs.declared.bytes.Held.{Held}
use Rattle.scenario_stages.specs.Kept.{on_line}
use Rattle.scenario_stages.specs.Means.{with_entries}
use Rattle.scenario_pieces.specs.Piece.{most_entries}
use Rattle.scenario_read.specs.Feed.{World, state_with, more, moved, takes, next_of, rests, feed}
use Rattle.scenario_read.specs.declared.State.{State}
use Rattle.scenario_read.specs.declared.Move.{Move}
use Rattle.scenario_read.specs.declared.Move.TheVariants.{Stand, Piece, Gather, Line as ALine, Close, Rest}
use Rattle.scenario_promises.specs.Whole.{line_moves, enough}
use Rattle.scenario_promises.proofs.Chose.{Open, Chose, chose}
use Rattle.scenario_promises.proofs.Times.{line_few, end_few}

-- ---- what every move keeps
module _ (chunk : List ℕ) (final : Bool) (P : World → Type 0) (keeps : (w : World) (m : Move) → Chose chunk final w m → P w → P (moved chunk w m)) where
  pub call_keeps : (turns : ℕ) (w : World) → P w → P (feed chunk final turns w)
  unfolding feed
  call_keeps zero w h = h
  call_keeps (suc turns) w h =
      let m = next_of chunk final w in
      go (rests m) (call_keeps turns (moved chunk w m) (keeps w m (chose chunk final w) h))
    where
      go : (b : Bool) → P (feed chunk final turns (moved chunk w (next_of chunk final w)))
          → P (cond b w (feed chunk final turns (moved chunk w (next_of chunk final w))))
      go true g = h
      go false g = g

-- ---- a line takes a byte or more
used_by : (d : Bool) (g : Held) (m : List ℕ) (t : Took) → 1 ≤ (cond d (taking g m 1) (one_byte_more t)).used
used_by true g m t = omega arith
used_by false g m t = omega arith

used_some : (bs l : List ℕ) (h : Held) → 0 < length bs → 1 ≤ (took bs l h).used
unfolding took
used_some [] l h some = absurd (omega arith)
used_some (b ∷ bs) l h some = let g = held_after h b in let m = line_after l h b in used_by g.done g m (took bs m g)

-- and no more than there are
most_by : (d : Bool) (g : Held) (m : List ℕ) (t : Took) (n : ℕ) → t.used ≤ n → (cond d (taking g m 1) (one_byte_more t)).used ≤ suc n
most_by true g m t n h = omega arith
most_by false g m t n h = omega arith

pub used_most : (bs l : List ℕ) (h : Held) → (took bs l h).used ≤ length bs
unfolding took
used_most [] l h = omega arith
used_most (b ∷ bs) l h =
    let g = held_after h b in
    let m = line_after l h b in
    most_by g.done g m (took bs m g) (length bs) (used_most bs m g)

-- ---- the number that each move lowers
-- a move that comes once is still to come
abbrev unless : Bool → ℕ
unless true = 0
unless false = 1

-- entries wait to be run
abbrev waiting : ℕ → ℕ
waiting zero = 0
waiting (suc n) = 1

-- with so many bytes left
abbrev weight : ℕ → State → ℕ
weight left s =
    (left + unless s.closed) * line_moves
    + 2 * s.read.run_left
    + waiting s.gathered
    + unless s.stood

unless_most : (b : Bool) → unless b ≤ 1
unless_most true = omega arith
unless_most false = omega arith

waiting_most : (n : ℕ) → waiting n ≤ 1
waiting_most zero = omega arith
waiting_most (suc n) = omega arith

waiting_some : (n : ℕ) → 0 < n → waiting n ≡ 1
waiting_some zero h = absurd (omega arith)
waiting_some (suc n) h = refl

module _ (chunk : List ℕ) (w : World) where
  abbrev s : State
  s = w.state

  abbrev left : ℕ
  left = length chunk - w.from

  abbrev Lower : World → Type 0
  Lower v = weight (length chunk - v.from) v.state < weight left s

  gather_lowers : 0 < s.read.run_left → s.gathered < most_entries → Lower (moved chunk w Gather)
  gather_lowers some few =
      let n = more s in
      let one : 1 ≤ n = omega arith in
      let most : n ≤ s.read.run_left = omega arith in
      lowers n one most
    where
      lowers : (n : ℕ) → 1 ≤ n → n ≤ s.read.run_left
          → weight left (state_with s s.held (with_entries s.read s.read.run_thread (s.read.run_left - n)) (s.gathered + n)) < weight left s
      lowers n one most = omega (arith, waiting_most (s.gathered + n))

  -- a line is completed, or goes on
  pub line_or_on : (P : State → Type 0)
      → ((l : List ℕ) → P (state_with s unheld (on_line s.read (judge l) w.lens) s.gathered))
      → ((h : Held) → P (state_with s h s.read s.gathered))
      → P (takes chunk w).state
  line_or_on P completed on =
      let t = took (drop w.from chunk) w.line s.held in
      go t.held.done t.held (view t.line t.held.len)
    where
      go : (d : Bool) (h : Held) (l : List ℕ)
          → P (cond d (state_with s unheld (on_line s.read (judge l) w.lens) s.gathered) (state_with s h s.read s.gathered))
      go true h l = completed l
      go false h l = on h

  line_lowers : Open s → w.from < length chunk → Lower (takes chunk w)
  line_lowers o there =
      let bs = drop w.from chunk in
      let t = took bs w.line s.held in
      let used = used_some bs w.line s.held (omega (arith, length-drop w.from chunk)) in
      let rest = length chunk - (w.from + t.used) in
      let less : rest < left = omega arith in
      line_or_on (λ (v : State). weight rest v < weight left s)
      (λ l. let few = line_few s.read l w.lens (omega (arith, o.left)) in omega arith)
      (λ h. omega (arith, o.left))

  close_lowers : Open s → Lower (moved chunk w Close)
  close_lowers o =
      let h = held_end s.held in
      let few = end_few h.done s.read (view (line_end w.line s.held) h.len) w.lens (omega (arith, o.left)) in
      let closed = ap unless o.closed in
      omega arith

  lowers : (final : Bool) (m : Move) → Chose chunk final w m → rests m ≡ false → Lower (moved chunk w m)
  lowers final Stand (Chose.stand e _) _ = let stood = ap unless e in omega arith
  lowers final Piece (Chose.piece _ some) _ = let waits = waiting_some s.gathered some in omega arith
  lowers final Gather (Chose.gather some few _) _ = gather_lowers some few
  lowers final ALine (Chose.line o there) _ = line_lowers o there
  lowers final Close (Chose.close o _ _) _ = close_lowers o
  lowers final Rest c e = absurd (true≢false e)

-- ---- so a call comes to rest
only_rest : (m : Move) → rests m ≡ true → m ≡ Rest
only_rest Stand e = absurd (false≢true e)
only_rest Piece e = absurd (false≢true e)
only_rest Gather e = absurd (false≢true e)
only_rest ALine e = absurd (false≢true e)
only_rest Close e = absurd (false≢true e)
only_rest Rest e = refl

module _ (chunk : List ℕ) (final : Bool) where
  abbrev then : World → World
  then w = moved chunk w (next_of chunk final w)

  abbrev Within : ℕ → World → Type 0
  Within turns w = weight (length chunk - w.from) w.state ≤ turns

  -- nothing comes next, or what is so after the next move
  rests_or : (w after : World) (b : Bool) → rests (next_of chunk final w) ≡ b → (Lower chunk w (then w) → next_of chunk final after ≡ Rest)
      → next_of chunk final (cond b w after) ≡ Rest
  rests_or w after true e later = only_rest (next_of chunk final w) e
  rests_or w after false e later = later (lowers chunk w final (next_of chunk final w) (chose chunk final w) e)

  either_way : (b : Bool) (w : World) → next_of chunk final (cond b w w) ≡ next_of chunk final w
  either_way true w = refl
  either_way false w = refl

  rests_within : (turns : ℕ) (w : World) → Within turns w → next_of chunk final (feed chunk final turns w) ≡ Rest
  unfolding feed
  rests_within zero w h =
      let b = rests (next_of chunk final w) in
      sym (either_way b w) ∙ rests_or w w b refl (λ less. absurd (omega arith))
  rests_within (suc turns) w h =
      rests_or w (feed chunk final turns (then w)) (rests (next_of chunk final w)) refl (λ less. rests_within turns (then w) (omega arith))

  pub rests_in : (turns : ℕ) (w : World) → enough chunk w ≤ turns → next_of chunk final (feed chunk final turns w) ≡ Rest
  rests_in turns w h =
      let s = w.state in
      rests_within turns w
      (omega (arith, unless_most s.closed, unless_most s.stood, waiting_most s.gathered))
