-- No more than 81 bytes of a line are counted, at any time: 81 stands for a line that is too long. Assumes nothing.
use Prim.Native.Nat.{ℕ, ◌≤◌}
use mathlib.Core.Bool.{Bool, true, false, cond}
use mathlib.Core.Path.{sym, subst}
use mathlib.Core.List.{List, [], ◌∷◌}
use native.Mathlib.Omega.{arith}
use lib.ListN.{drop}
use Rattle.scenario_lines.specs.Held.{held_after, line_after, taking, one_byte_more, Took, took}
use Rattle.scenario_lines.proofs.Chunks.{after_most}
use Rattle.scenario_lines.specs.declared.bytes.Held.{Held}
use Rattle.scenario_read.specs.Feed.{World, moved}
use Rattle.scenario_read.specs.declared.State.{State}
use Rattle.scenario_read.specs.declared.Move.{Move}
use Rattle.scenario_read.specs.declared.Move.TheVariants.{Stand, Piece, Gather, Line as ALine, Close, Rest}
use Rattle.scenario_promises.specs.Session.{handed, Session}
use Rattle.scenario_promises.proofs.Chose.{Chose}
use Rattle.scenario_promises.proofs.Rests.{call_keeps}

-- ---- the bytes of a call
either_most : (d : Bool) (g : Held) (m : List ℕ) (t : Took) → g.len ≤ 81 → t.held.len ≤ 81 → (cond d (taking g m 1) (one_byte_more t)).held.len ≤ 81
either_most true g m t here on = here
either_most false g m t here on = on

took_most : (bs l : List ℕ) (h : Held) → h.len ≤ 81 → (took bs l h).held.len ≤ 81
unfolding took
took_most [] l h e = e
took_most (b ∷ bs) l h e =
    let g = held_after h b in
    let m = line_after l h b in
    either_most g.done g m (took bs m g) (after_most h b e) (took_most bs m g (after_most h b e))

-- ---- every move, every call, every session
abbrev Counted : World → Type 0
Counted w = w.state.held.len ≤ 81

-- a line that is completed is held no more
line_most : (d : Bool) (s u : State) → s.held.len ≤ 81 → u.held.len ≤ 81 → (cond d s u).held.len ≤ 81
line_most true s u e f = e
line_most false s u e f = f

move_most : (chunk : List ℕ) (final : Bool) (w : World) (m : Move) → Chose chunk final w m → Counted w → Counted (moved chunk w m)
move_most chunk final w Stand c h = h
move_most chunk final w Piece c h = h
move_most chunk final w Gather c h = h
move_most chunk final w ALine c h =
    let t = took (drop w.from chunk) w.line w.state.held in
    line_most t.held.done _ _ (omega arith) (took_most (drop w.from chunk) w.line w.state.held h)
move_most chunk final w Close c h = omega arith
move_most chunk final w Rest c h = h

pub counted : {bytes words : List ℕ} {w : World} → Session bytes words w → Counted w
counted (Session.begins w e roomy) = rw e (omega arith)
counted (Session.calls {bytes} {words} {w} s chunk final turns from out at after is) =
    subst Counted (sym is) (call_keeps chunk final Counted (move_most chunk final) turns (handed w from out at) (counted s))
