-- A move, and a call, goes on in the chunk and in the words, and leaves what stands before its words and behind it. Assumes nothing.
use Prim.Native.Nat.{ℕ, zero, suc, ◌+◌, ◌*◌, ◌≤◌}
use mathlib.Core.Bool.{Bool, true, false, cond}
use mathlib.Core.Path.{◌≡◌, refl, sym, ap, ◌∙◌}
use mathlib.Core.Logic.{inr}
use mathlib.Core.List.{List, ◌++◌}
use native.Mathlib.Omega.{arith}
use borrow.Author.Tests.{eqb-true, eqb-false}
use lib.Dec.{eqb}
use lib.ListN.{length, take, drop, length-take}
use lib.Seq.{take-take, sets}
use Rattle.machine.specs.Names.{row_words}
use Rattle.machine.specs.Lists.{Lent}
use Rattle.scenario_pieces.specs.Piece.{most_entries, piece, refusal_of}
use Rattle.scenario_pieces.specs.Stands.{listed, piece_words}
use Rattle.scenario_pieces.specs.declared.Left.{Left}
use Rattle.scenario_pieces.proofs.Piece.{six_each}
use Rattle.scenario_pieces.proofs.Stands.{there, all_stays}
use Rattle.scenario_read.specs.Feed.{World, lent_in, runs, moved, next_of, rests, feed}
use Rattle.scenario_read.specs.declared.Move.{Move}
use Rattle.scenario_read.specs.declared.Move.TheVariants.{Stand, Piece, Gather, Line as ALine, Close, Rest}
use Rattle.scenario_promises.specs.Session.{took, wrote}
use Rattle.scenario_promises.proofs.Chose.{Wide, Chose, chose}
use Rattle.scenario_promises.proofs.Spans.{span, span_same, drop_later, stored_size, stored_front, stored_text, stored_behind}

pub record Goes (w after : World) : Type 0 where
  pub from : w.from ≤ after.from
  pub at : w.at ≤ after.at
  pub size : length after.out ≡ length w.out
  pub front : take w.at after.out ≡ take w.at w.out
  pub room : w.at ≤ length w.out → after.at ≤ length after.out
  pub behind : drop after.at after.out ≡ drop after.at w.out

-- nothing is written
pub still : (w after : World) → w.from ≤ after.from → after.at ≡ w.at → after.out ≡ w.out → Goes w after
still w after from at out = record {
  from = from;
  at = omega arith;
  size = ap length out;
  front = ap (take w.at) out;
  room = λ h. omega (arith, ap length out);
  behind = ap (drop after.at) out;
}

-- bytes are stored from the place on
stored_goes : (w after : World) (t : List ℕ) → w.from ≤ after.from → after.out ≡ sets w.out w.at t → after.at ≡ w.at + length t
    → after.at ≤ length w.out → Goes w after
stored_goes w after t from is place room =
    let size = stored_size w.out w.at t after.at after.out is place room in
    record {
      from = from;
      at = omega arith;
      size = size;
      front = stored_front w.out w.at t after.at after.out is place room;
      room = λ h. omega (arith, size, room);
      behind = stored_behind w.out w.at t after.at after.out is place room;
    }

-- ---- one after the other
module _ {w v u : World} (a : Goes w v) (b : Goes v u) where
  pub goes_then : Goes w u
  goes_then = record {
    from = omega (arith, a.from, b.from);
    at = omega (arith, a.at, b.at);
    size = b.size ∙ a.size;
    front =
        sym (take-take w.at v.at u.out a.at)
        ∙ ap (take w.at) b.front
        ∙ take-take w.at v.at v.out a.at
        ∙ a.front;
    room = λ h. b.room (a.room h);
    behind = b.behind ∙ drop_later v.out w.out v.at u.at b.at a.behind;
  }

  pub took_then : (chunk : List ℕ) → took chunk w.from u ≡ took chunk w.from v ++ took chunk v.from u
  took_then chunk = span chunk w.from v.from u.from a.from b.from

  pub wrote_then : wrote w.at u ≡ wrote w.at v ++ wrote v.at u
  wrote_then =
      span u.out w.at v.at u.at a.at b.at
      ∙ ap (λ (l : List ℕ). l ++ wrote v.at u) (span_same u.out v.out w.at v.at a.at b.front)

-- ---- a piece
module _ (w : World) (wide : Wide w) where
  abbrev scripts : Lent
  scripts = lent_in w

  abbrev entries : List ℕ
  entries = take w.state.gathered w.schedule

  pub piece_room : w.at + row_words * length (piece entries) ≤ length w.out
  piece_room = omega (arith, length-take most_entries entries)

  -- its words, where the run is not refused
  module _ (fine : refusal_of scripts w.standing ≡ 0) where
    abbrev rows : List ℕ
    rows = piece_words scripts (listed scripts w.standing) (piece entries)

    is : (runs w).out ≡ sets w.out w.at rows
    is = (there scripts w.standing entries w.out w.at piece_room fine).1

    place : (runs w).at ≡ w.at + length rows
    place = ap (λ (r : Left). r.at) (there scripts w.standing entries w.out w.at piece_room fine).0

    room : (runs w).at ≤ length w.out
    room = omega (arith, place, six_each scripts w.standing entries, piece_room)

    piece_goes : Goes w (runs w)
    piece_goes = stored_goes w (runs w) rows (omega arith) is place room

    pub piece_wrote : wrote w.at (runs w) ≡ rows
    piece_wrote = stored_text w.out w.at rows _ _ is place room

  pub runs_goes : Goes w (runs w)
  runs_goes = go (eqb (refusal_of scripts w.standing) 0) refl
    where
      go : (b : Bool) → eqb (refusal_of scripts w.standing) 0 ≡ b → Goes w (runs w)
      go true e = piece_goes (eqb-true _ 0 e)
      go false e =
          let (standing, at, out) =
          all_stays scripts w.standing entries w.out w.at _ _ refl refl (inr (eqb-false _ 0 e)) in
          still w (runs w) (omega arith) at out

-- ---- all moves
pub move_goes : (chunk : List ℕ) (final : Bool) (w : World) (m : Move) → Chose chunk final w m → Goes w (moved chunk w m)
move_goes chunk final w Stand (Chose.stand _ _) = still w _ (omega arith) refl refl
move_goes chunk final w Piece (Chose.piece wide _) = runs_goes w wide
move_goes chunk final w Gather (Chose.gather _ _ _) = still w _ (omega arith) refl refl
move_goes chunk final w ALine (Chose.line _ _) = still w _ (omega arith) refl refl
move_goes chunk final w Close (Chose.close _ _ _) = still w _ (omega arith) refl refl
move_goes chunk final w Rest _ = still w w (omega arith) refl refl

-- ---- a call
pub call_goes : (chunk : List ℕ) (final : Bool) (turns : ℕ) (w : World) → Goes w (feed chunk final turns w)
unfolding feed
call_goes chunk final zero w = still w w (omega arith) refl refl
call_goes chunk final (suc turns) w =
    let m = next_of chunk final w in
    go (rests m) (goes_then (move_goes chunk final w m (chose chunk final w)) (call_goes chunk final turns (moved chunk w m)))
  where
    go : (b : Bool) → Goes w (feed chunk final turns (moved chunk w (next_of chunk final w)))
        → Goes w (cond b w (feed chunk final turns (moved chunk w (next_of chunk final w))))
    go true g = still w w (omega arith) refl refl
    go false g = g
