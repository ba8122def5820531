-- A turn of the loop is one move, and the moves are the same whichever part of the world they are shown. Assumes nothing.
use Rattle.std.proofs.Common.{◌≡◌, ℕ, zero, suc, ◌-◌, ◌<◌, ◌≤◌, Bool, true, false, List, sym, refl, ap, ◌∙◌, true≢false, arith}
use mathlib.Core.Bool.{false≢true}
use Rattle.scenario_pieces.specs.declared.Standing.{Standing}
use Rattle.scenario_read.specs.declared.State.{State}
use Rattle.scenario_read.specs.declared.Fed.{Fed}
use Rattle.scenario_read.specs.declared.Move.{Move}
use Rattle.scenario_read.specs.declared.Move.TheVariants.{Stand, Piece, Gather, Line, Close, Rest}
use Rattle.scenario_read.specs.Feed.{World, moved, rests, next_of, feed}
use Rattle.scenario_read.specs.Code.{world_of, lock_world, other_world, fed_of, of_lock, lock_moved, other_moved}

-- ---- feed, a turn at a time
module _ (chunk : List ℕ) (final : Bool) where
  stops : (turns : ℕ) (w : World) → 0 < turns → rests (next_of chunk final w) ≡ true → feed chunk final turns w ≡ w
  unfolding feed
  stops zero w h e = absurd (omega arith)
  stops (suc turns) w h e = rw e refl

  goes_on : (turns : ℕ) (w : World) → 0 < turns → rests (next_of chunk final w) ≡ false
      → feed chunk final turns w ≡ feed chunk final (turns - 1) (moved chunk w (next_of chunk final w))
  unfolding feed
  goes_on zero w h e = absurd (omega arith)
  goes_on (suc turns) w h e =
      let one : suc turns - 1 ≡ turns = omega arith in
      rw (e, one) refl

  -- no turns are left
  pub turned_out : (turns : ℕ) (w : World) → turns ≤ 0 → feed chunk final turns w ≡ w
  unfolding feed
  turned_out zero w h = refl
  turned_out (suc turns) w h = absurd (omega arith)

  -- the world here, with so many turns left, comes to the world v; m is what comes next
  module _ (turns : ℕ) (w : World) {v : World} (here : feed chunk final turns w ≡ v) (some : 0 < turns) {m : Move} (next : m ≡ next_of chunk final w) {b : Bool} (asked : b ≡ rests m) where
    pub turn_rests : b ≡ true → w ≡ v
    turn_rests e = sym (stops turns w some (rw (← next) (sym asked ∙ e))) ∙ here

    pub turn_moves : b ≡ false → {u : World} → u ≡ moved chunk w m → feed chunk final (turns - 1) u ≡ v
    turn_moves e {u} made = rw (made, next) (sym (goes_on turns w some (rw (← next) (sym asked ∙ e))) ∙ here)

-- ---- a move of each kind is made in its own part of the world
module _ (chunk : List ℕ) (s : State) (p : Standing) (line lens ops vals schedule : List ℕ) (from : ℕ) (out : List ℕ) (at : ℕ) where
  abbrev whole : World
  whole = world_of s p line lens ops vals schedule from out at

  abbrev of_the_lock : World
  of_the_lock = lock_world s p lens ops vals schedule from out at

  abbrev of_others : World
  of_others = other_world s line lens ops vals schedule from

  -- what a move of the lock leaves, with the line
  abbrev lined : Fed → List ℕ → World
  lined r text = world_of r.state r.standing line lens ops vals schedule from text r.at

  -- what another move leaves, with the standing and the rows
  abbrev stood : World → World
  stood w = world_of w.state p w.line w.lens w.ops w.vals w.schedule w.from out at

  lock_made : (m : Move) → of_lock m ≡ true → lined (fed_of (lock_moved of_the_lock m)) (lock_moved of_the_lock m).out ≡ moved chunk whole m
  lock_made Stand e = refl
  lock_made Piece e = refl
  lock_made Gather e = absurd (false≢true e)
  lock_made Line e = absurd (false≢true e)
  lock_made Close e = absurd (false≢true e)
  lock_made Rest e = absurd (false≢true e)

  other_made : (m : Move) → of_lock m ≡ false → stood (other_moved chunk of_others m) ≡ moved chunk whole m
  other_made Stand e = absurd (true≢false e)
  other_made Piece e = absurd (true≢false e)
  other_made Gather e = refl
  other_made Line e = refl
  other_made Close e = refl
  other_made Rest e = refl

  pub lock_moves : (m : Move) {b : Bool} → b ≡ of_lock m → b ≡ true
      → {r : Fed} {text : List ℕ} → (r ≡ fed_of (lock_moved of_the_lock m)) × (text ≡ (lock_moved of_the_lock m).out) → lined r text ≡ moved chunk whole m
  lock_moves m asked e made = rw (made.0, made.1) (lock_made m (sym asked ∙ e))

  pub other_moves : (m : Move) {b : Bool} → b ≡ of_lock m → b ≡ false → {w : World} → w ≡ other_moved chunk of_others m → stood w ≡ moved chunk whole m
  other_moves m asked e made = ap stood made ∙ other_made m (sym asked ∙ e)
