-- A piece does what scenario's definitions say, and the standings that pieces hand on are those of one schedule from setup. Assumes nothing.
use Prim.Native.Nat.{ℕ, ◌+◌, ◌-◌, ◌*◌, ◌<◌, ◌≤◌}
use mathlib.Core.Path.{◌≡◌, refl, sym, ap, ◌∙◌}
use mathlib.Core.Bool.{Bool, true, false, cond}
use mathlib.Core.List.{List, [], ◌++◌, append-nil}
use mathlib.Core.Logic.{◌≢◌, ◌⊎◌, inl, inr}
use native.Mathlib.Omega.{arith}
use lib.ListN.{length, take, drop, length-replicate, replicate-append-replicate}
use lib.Seq.{length-take-le, length_front, take_at, sets}
use lib.Dec.{eqb}
use borrow.Author.Tests.{le-leb, lt-leb, ne_eqb, leb-true, eqb-true, eqb-false}
use Rattle.cell.specs.declared.pred.Pred.{Pred}
use Rattle.machine.specs.Names.{wrong_lengths, most_threads, row_words}
use Rattle.machine.specs.Words.{unbegun}
use Rattle.machine.specs.Lists.{Lent, scripts_of}
use Rattle.machine.specs.Setup.{fresh, setup_refusal}
use Rattle.machine.specs.Run.{run, words_of}
use Rattle.machine.specs.When.{OfLists, AtSetup}
use Rattle.machine.proofs.Exact.{setup_exact}
use Rattle.machine.proofs.RunRule.{run_length}
use Rattle.machine.proofs.Words.{words_append}
use Rattle.lock.proofs.Begins.{count_most}
use Rattle.lock.proofs.ByValue.{same_refusal}
use Rattle.lock.proofs.Refusing.{none_refused}
use Rattle.lock_promises.proofs.Reached.{ran_as, Comes, runs_on}
use Rattle.scenario.specs.Pieces.{Standing as Listed, at_first, ran_from, piece_rows, after_piece}
use Rattle.scenario.proofs.Pieces.{two_pieces}
use Rattle.scenario_pieces.specs.Piece.{piece, recs_of, refusal_of, piece_ran, words_in, standing_of, ran_left, ran_stored, has_room, left_of, stored_of}
use Rattle.scenario_pieces.specs.Stands.{piece_words, PieceIsRun, AllStays, first_listed, Stands, FirstStands, ScenarioStands, PieceStands, NeverRefused, RowsNext}
use Rattle.scenario_pieces.specs.declared.Standing.{Standing}
use Rattle.scenario_pieces.specs.declared.Left.{Left}
use Rattle.scenario_pieces.proofs.Piece.{six_each}

-- ---- one piece
module _ (s : Lent) (p : Standing) (entries out : List ℕ) (at : ℕ) where
  abbrev made : Left
  made = record { standing = standing_of s p entries; at = at + length (words_in s p entries) }

  abbrev same : Left
  same = record { standing = p; at = at }

  pub there : at + row_words * length (piece entries) ≤ length out → refusal_of s p ≡ 0
      → (left_of s p entries out at ≡ made) × (stored_of s p entries out at ≡ sets out at (words_in s p entries))
  unfolding left_of stored_of ran_left ran_stored
  there room none = rw (le-leb (at + row_words * length (piece entries)) (length out) room, none) (refl, refl)

  no_room_lem : has_room entries out at ≡ false → (left_of s p entries out at ≡ same) × (stored_of s p entries out at ≡ out)
  unfolding left_of stored_of
  no_room_lem none = rw none (refl, refl)

  refused : refusal_of s p ≢ 0 → (left_of s p entries out at ≡ same) × (stored_of s p entries out at ≡ out)
  unfolding left_of stored_of ran_left ran_stored
  refused some = rw (ne_eqb (refusal_of s p) 0 some) (go (has_room entries out at))
    where
      go : (b : Bool) → (cond b same same ≡ same) × (cond b out out ≡ out)
      go true = (refl, refl)
      go false = (refl, refl)

  stays : ((length out < at + row_words * length (piece entries)) ⊎ (refusal_of s p ≢ 0))
      → (left_of s p entries out at ≡ same) × (stored_of s p entries out at ≡ out)
  stays (inl none) = no_room_lem (lt-leb (at + row_words * length (piece entries)) (length out) none)
  stays (inr some) = refused some

pub piece_is_run : PieceIsRun
piece_is_run s p entries out at r out' is out_is wide room none =
    let (left, stored) = there s p entries out at room none in
    let n = length s.lens in
    let (e, ready) = none_refused s n p.lock p.recs none in
    let w = piece_ran s p entries in
    let size : length w.recs ≡ length (recs_of s p) = run_length (scripts_of s) p.lock (recs_of s p) (piece entries) in
    let many : length (recs_of s p) ≡ n = length-take-le n p.recs (omega (arith, ready.threads)) in
    let recs : take n (w.recs ++ drop n p.recs) ≡ w.recs = take_at w.recs (drop n p.recs) n (size ∙ many) in
    rw (is ∙ left) (
      out_is ∙ stored,
      refl,
      ap (λ (k : ℕ). at + k) (six_each s p entries),
      λ j. record { lock = w.lock; recs = recs j },
      length_front p.recs w.recs n size ∙ wide,
    )

pub all_stays : AllStays
all_stays s p entries out at r out' is out_is why =
    let (left, stored) = stays s p entries out at why in
    (ap (λ (x : Left). x.standing) (is ∙ left), ap (λ (x : Left). x.at) (is ∙ left), out_is ∙ stored)

-- ---- piece after piece
take_fresh : (n m : ℕ) → n ≤ m → take n (fresh m) ≡ fresh n
take_fresh n m h =
    let e : n + (m - n) ≡ m = omega arith in
    let split : fresh n ++ fresh (m - n) ≡ fresh m = replicate-append-replicate n (m - n) unbegun ∙ ap fresh e in
    rw (← split) (take_at (fresh n) (fresh (m - n)) n (length-replicate n unbegun))

pub first_stands : FirstStands
unfolding run
first_stands s q m v p is accepted =
    let n = length s.lens in
    let recs = take_fresh n most_threads (count_most q m v s n accepted) in
    rw is (record {
      accepted = accepted;
      wide = length-replicate most_threads unbegun;
      is = λ j. record { lock = (first_listed s q m v).lock; recs = recs j };
    })

-- setup asks for a record for each script
threads : (s : Lent) (q : Pred) (m v n : ℕ) → setup_refusal q m v s n ≡ 0 → n ≡ length s.lens
threads s q m v n accepted = go (eqb n (length s.lens)) refl
  where
    go : (b : Bool) → eqb n (length s.lens) ≡ b → n ≡ length s.lens
    go true e = eqb-true n (length s.lens) e
    go false e = absurd ((setup_exact q m v s n).1.0 accepted wrong_lengths (AtSetup.lists (OfLists.records (eqb-false n (length s.lens) e))))

pub scenario_stands : ScenarioStands
scenario_stands file p accepted is =
    let same = threads file.lent file.pred file.top file.first file.threads accepted in (
      first_stands file.lent file.pred file.top file.first p is (rw same at accepted),
      λ j. record { lock = (at_first file).lock; recs = fresh (sym same j) },
    )

-- one schedule makes it of one setup
comes : (s : Lent) (q : Pred) (m v : ℕ) (before : List ℕ) (p : Standing) → Stands s q m v before p
    → Comes s q m v (ran_as p.lock (recs_of s p) (ran_from s (first_listed s q m v) before).rows)
comes s q m v before p st =
    let lock = ap (λ (x : Listed). x.lock) (sym st.is) in
    let recs = ap (λ (x : Listed). x.recs) (sym st.is) in
    record {
      records = length s.lens;
      schedule = before;
      accepted = st.accepted;
      is = λ j. ran_as (lock j) (recs j) (ran_from s (first_listed s q m v) before).rows;
    }

pub never_refused : NeverRefused
never_refused s q m v before p st =
    let n = length s.lens in
    same_refusal s n p.lock p.recs (count_most q m v s n st.accepted) st.wide ∙ runs_on s q m v (comes s q m v before p st)

pub piece_stands : PieceStands
piece_stands s q m v before p st entries out at r is = go (has_room entries out at) refl
  where
    go : (b : Bool) → has_room entries out at ≡ b → Stands s q m v (before ++ cond b (piece entries) []) r.standing
    go true e =
        let room = leb-true (at + row_words * length (piece entries)) (length out) e in
        let told = piece_is_run s p entries out at r _ is refl st.wide room (never_refused s q m v before p st) in
        record {
          accepted = st.accepted;
          wide = told.4;
          is =
              told.3
              ∙ ap (λ (x : Listed). after_piece s x (piece entries)) st.is
              ∙ sym (two_pieces s (first_listed s q m v) before (piece entries)).1;
        }
    go false e =
        let same = ap (λ (x : Left). x.standing) (is ∙ (no_room_lem s p entries out at e).0) in
        rw (append-nil before, same) st

pub rows_next : RowsNext
rows_next s q m v before p st entries =
    let first = first_listed s q m v in
    ap words_of (two_pieces s first before entries).0
    ∙ words_append (piece_rows s first before) (piece_rows s (after_piece s first before) entries)
    ∙ ap (λ (x : Listed). piece_words s first before ++ piece_words s x entries) (sym st.is)
