-- Every move keeps what is kept, so every call does, and every session. Assumes nothing.
use Prim.Native.Nat.{ℕ, zero, suc}
use mathlib.Core.Bool.{Bool, true, false, cond}
use mathlib.Core.Path.{◌≡◌, refl, sym, ap, subst, ◌∙◌}
use mathlib.Core.List.{List, [], ◌++◌, append_assoc, append-nil}
use native.Mathlib.Omega.{arith}
use lib.ListN.{drop}
use Rattle.scenario_lines.specs.Bytes.{feed as feed_bytes}
use Rattle.scenario_lines.specs.Held.{view}
use Rattle.scenario.specs.Printed.{start}
use Rattle.scenario_stages.proofs.Means.{begin_means}
use Rattle.scenario_read.specs.Feed.{World, fresh, moved, next_of, rests, feed}
use Rattle.scenario_read.specs.declared.Move.{Move}
use Rattle.scenario_read.specs.declared.Move.TheVariants.{Stand, Piece, Gather, Line as ALine, Close, Rest}
use Rattle.scenario_promises.specs.Session.{Roomy, handed, took, wrote, Session}
use Rattle.scenario_promises.proofs.Chose.{Chose, chose}
use Rattle.scenario_promises.proofs.Spans.{span_none}
use Rattle.scenario_promises.proofs.Goes.{Goes, took_then, wrote_then, move_goes, call_goes}
use Rattle.scenario_promises.proofs.Holds.{Kept}
use Rattle.scenario_promises.proofs.Writes.{stand_kept}
use Rattle.scenario_promises.proofs.Entered.{gather_kept, piece_kept}
use Rattle.scenario_promises.proofs.Taken.{line_kept, close_kept}

-- what is kept, with the bytes taken and the words written from a world to another
abbrev KeptSince : List ℕ → List ℕ → List ℕ → World → World → Type 0
KeptSince chunk bytes words w v = Kept (bytes ++ took chunk w.from v) (words ++ wrote w.at v) v

-- ---- one move
module _ (chunk bytes words : List ℕ) (w v : World) where
  none_taken : v.from ≡ w.from → bytes ++ took chunk w.from v ≡ bytes
  none_taken e = rw (span_none (drop w.from chunk) w.from v.from (sym e)) (append-nil bytes)

  none_written : v.at ≡ w.at → words ++ wrote w.at v ≡ words
  none_written e = rw (span_none (drop w.at v.out) w.at v.at (sym e)) (append-nil words)

  only_wrote : v.from ≡ w.from → (t : List ℕ) → wrote w.at v ≡ t → Kept bytes (words ++ t) v → KeptSince chunk bytes words w v
  only_wrote e t f k = rw (none_taken e, f) k

  only_took : v.at ≡ w.at → Kept (bytes ++ took chunk w.from v) words v → KeptSince chunk bytes words w v
  only_took e k = rw (none_written e) k

  neither : v.from ≡ w.from → v.at ≡ w.at → Kept bytes words v → KeptSince chunk bytes words w v
  neither e f k = rw (none_taken e, none_written f) k

move_kept : (chunk bytes words : List ℕ) (final : Bool) (w : World) (m : Move) → Chose chunk final w m → Kept bytes words w
    → KeptSince chunk bytes words w (moved chunk w m)
move_kept chunk bytes words final w Stand (Chose.stand e f) k = neither chunk bytes words w _ refl refl (stand_kept bytes words w k e (k.holds.coming f))
move_kept chunk bytes words final w Piece (Chose.piece wide some) k =
    only_wrote chunk bytes words w _ refl _ refl (piece_kept bytes words w k wide some)
move_kept chunk bytes words final w Gather (Chose.gather left few there) k =
    neither chunk bytes words w _ refl refl (gather_kept bytes words w k left (λ h. there))
move_kept chunk bytes words final w ALine (Chose.line o there) k = only_took chunk bytes words w _ refl (line_kept bytes words w k o chunk)
move_kept chunk bytes words final w Close (Chose.close o _ _) k = neither chunk bytes words w _ refl refl (close_kept bytes words w k o)
move_kept chunk bytes words final w Rest c k = neither chunk bytes words w w refl refl k

-- ---- a call
-- the bytes and the words from w to v, then from v to u
since_then : (chunk bytes words : List ℕ) (w v u : World) → Goes w v → Goes v u
    → KeptSince chunk (bytes ++ took chunk w.from v) (words ++ wrote w.at v) v u → KeptSince chunk bytes words w u
since_then chunk bytes words w v u a b k =
    let e : (bytes ++ took chunk w.from v) ++ took chunk v.from u ≡ bytes ++ took chunk w.from u =
    append_assoc bytes (took chunk w.from v) (took chunk v.from u) ∙ ap (λ (x : List ℕ). bytes ++ x) (sym (took_then a b chunk)) in
    let f : (words ++ wrote w.at v) ++ wrote v.at u ≡ words ++ wrote w.at u =
    append_assoc words (wrote w.at v) (wrote v.at u) ∙ ap (λ (x : List ℕ). words ++ x) (sym (wrote_then a b)) in
    rw (e, f) at k

call_kept : (chunk : List ℕ) (final : Bool) (turns : ℕ) (bytes words : List ℕ) (w : World) → Kept bytes words w
    → KeptSince chunk bytes words w (feed chunk final turns w)
unfolding feed
call_kept chunk final zero bytes words w k = neither chunk bytes words w w refl refl k
call_kept chunk final (suc turns) bytes words w k =
    let m = next_of chunk final w in
    let c = chose chunk final w in
    let v = moved chunk w m in
    go (rests m)
    (since_then chunk bytes words w v _ (move_goes chunk final w m c) (call_goes chunk final turns v)
    (call_kept chunk final turns _ _ v (move_kept chunk bytes words final w m c k)))
  where
    go : (b : Bool) → KeptSince chunk bytes words w (feed chunk final turns (moved chunk w (next_of chunk final w)))
        → KeptSince chunk bytes words w (cond b w (feed chunk final turns (moved chunk w (next_of chunk final w))))
    go true h = neither chunk bytes words w w refl refl k
    go false h = h

-- ---- a session
first_kept : (w : World) → w.state ≡ fresh → Roomy w → Kept [] [] w
unfolding feed_bytes view
first_kept w e roomy =
    rw e (record {
      reading = start;
      past = [];
      line_size = roomy.line;
      read_so = refl;
      holds =
          record {
            is = begin_means w.lens w.ops w.vals roomy.lists;
            few = omega arith;
            places = roomy.schedule;
            split = refl;
            entries = (refl, refl, refl);
            coming = λ z. absurd (omega arith);
          };
    })

called : (chunk : List ℕ) (final : Bool) (turns from : ℕ) (out : List ℕ) (at : ℕ) (after : World) (bytes words : List ℕ) (w : World)
    → after ≡ feed chunk final turns (handed w from out at) → Kept bytes words w → Kept (bytes ++ took chunk from after) (words ++ wrote at after) after
called chunk final turns from out at after bytes words w e k =
    subst (λ (v : World). Kept (bytes ++ took chunk from v) (words ++ wrote at v) v) (sym e) (call_kept chunk final turns bytes words (handed w from out at) k)

pub session_kept : {bytes words : List ℕ} {w : World} → Session bytes words w → Kept bytes words w
session_kept (Session.begins w e roomy) = first_kept w e roomy
session_kept (Session.calls {bytes} {words} {w} s chunk final turns from out at after e) =
    called chunk final turns from out at after bytes words w e (session_kept s)
