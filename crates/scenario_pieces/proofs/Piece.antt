-- What the code makes of a run, refused or not, is what the definition of a piece says. Assumes nothing.
use Prim.Native.Nat.{ℕ, ◌+◌, ◌*◌, ◌≤◌, min}
use mathlib.Core.Path.{◌≡◌, refl, sym, ap, ◌∙◌}
use mathlib.Core.Bool.{Bool, true, false, cond}
use mathlib.Core.List.{List, ◌++◌, append_assoc}
use native.Mathlib.Omega.{arith}
use lib.Dec.{eqb, leb}
use lib.ListN.{length, take, drop, length-take, length-drop, take-append-drop}
use lib.Seq.{sets, sets-eq, take-length, take_all, drop-drop}
use borrow.Author.Tests.{eqb-true, leb-true, leb-false}
use Rattle.machine.specs.Names.{row_words}
use Rattle.machine.specs.Lists.{Lent, scripts_of, beside}
use Rattle.machine.specs.Run.{entries, RunLeft, made_run, refused_run}
use Rattle.machine.proofs.RunRule.{rows_length}
use Rattle.machine.proofs.Words.{words_length}
use Rattle.lock.specs.ByValue.{run_of}
use Rattle.lock.specs.Run.{ran_of}
use Rattle.lock.specs.declared.run.RunReturn.{RunReturn}
use Rattle.scenario_pieces.specs.Piece.{most_entries, piece, recs_of, refusal_of, piece_ran, words_in, standing_of, ran_left, ran_stored, has_room}
use Rattle.scenario_pieces.specs.declared.Standing.{Standing}
use Rattle.scenario_pieces.specs.declared.Left.{Left}

-- the words of a piece's rows
pub six_each : (s : Lent) (p : Standing) (es : List ℕ) → length (words_in s p es) ≡ row_words * length (piece es)
six_each s p es = words_length (piece_ran s p es).rows (length (piece es)) (rows_length (scripts_of s) p.lock (recs_of s p) (piece es))

-- the test of the room, made of the least of the most entries and the entries
pub room_so : (es out : List ℕ) (at n : ℕ) (b t : Bool) → n ≡ min (length es) most_entries → b ≡ leb (at + row_words * n) (length out) → b ≡ t
    → has_room es out at ≡ t
room_so es out at n b t least test is =
    let same : length (piece es) ≡ n = omega (arith, length-take most_entries es, least) in
    rw same (sym test ∙ is)

-- the list of rows, and the place from which on it is lent
module _ (s : Lent) (p : Standing) (es out : List ℕ) (at : ℕ) (room : at + row_words * length (piece es) ≤ length out) where
  abbrev trace : List ℕ
  trace = drop at out

  abbrev n : ℕ
  n = entries most_entries es trace

  many : n ≡ length (piece es)
  many = omega (arith, length-take most_entries es, length-drop at out)

  -- the entries that a run handles are those of the piece
  handles : take n es ≡ piece es
  handles = go (leb (length es) most_entries) refl
    where
      go : (b : Bool) → leb (length es) most_entries ≡ b → take n es ≡ piece es
      go true e =
          let short = leb-true (length es) most_entries e in
          let all : n ≡ length es = omega (arith, many, length-take most_entries es) in
          rw all (take-length es ∙ sym (take_all most_entries es short))
      go false e =
          let long = leb-false (length es) most_entries e in
          let most : n ≡ most_entries = omega (arith, many, length-take most_entries es) in
          rw most refl

  abbrev left : RunLeft
  left = run_of s (length s.lens) p.lock p.recs es most_entries trace

  run_made : refusal_of s p ≡ 0 → left ≡ made_run (beside s 0) n trace (piece_ran s p es)
  unfolding run_of
  run_made none = rw (none, handles) refl

  run_refused : eqb (refusal_of s p) 0 ≡ false → left ≡ refused_run (beside s (refusal_of s p)) p.lock (take (length s.lens) p.recs) trace
  unfolding run_of
  run_refused some = rw some refl

  pub few : (r : RunReturn) → r ≡ ran_of (length s.lens) p.recs left → r.ran.n ≤ length (piece es)
  few r is = go (eqb (refusal_of s p) 0) refl
    where
      count : r.ran.n ≡ left.n
      count = ap (λ (x : RunReturn). x.ran.n) is

      go : (b : Bool) → eqb (refusal_of s p) 0 ≡ b → r.ran.n ≤ length (piece es)
      go true e =
          let all = count ∙ ap (λ (x : RunLeft). x.n) (run_made (eqb-true _ 0 e)) in
          omega (arith, many)
      go false e =
          let none = count ∙ ap (λ (x : RunLeft). x.n) (run_refused e) in
          omega arith

  -- the rows, put in their place
  rows_put : take at out ++ (words_in s p es ++ drop (row_words * n) trace) ≡ sets out at (words_in s p es)
  rows_put =
      let words = words_in s p es in
      let size = six_each s p es in
      let place : at + row_words * n ≡ at + length words = omega (arith, many, size) in
      rw (drop-drop (row_words * n) at out, place)
      (sym (append_assoc (take at out) words (drop (at + length words) out)) ∙ sym (sets-eq words out at (omega (arith, size))))

  -- r and trace' are what the run leaves, end and out' the place and the list afterwards
  module _
      (r : RunReturn) (trace' : List ℕ) (is : r ≡ ran_of (length s.lens) p.recs left) (trace_is : trace' ≡ left.trace)
      (end : ℕ) (end_is : end ≡ at + row_words * r.ran.n) (out' : List ℕ) (out_is : out' ≡ take at out ++ trace') where
    abbrev told : Left
    told = record { standing = record { lock = r.ran.lock; recs = r.recs }; at = end }

    pub piece_told : (told ≡ ran_left s p es at) × (out' ≡ ran_stored s p es out at)
    unfolding ran_left ran_stored
    piece_told = go (eqb (refusal_of s p) 0) refl
      where
        go : (b : Bool) → eqb (refusal_of s p) 0 ≡ b
            → (told ≡ cond b (record { standing = standing_of s p es; at = at + length (words_in s p es) }) (record { standing = p; at = at }))
            × (out' ≡ cond b (sets out at (words_in s p es)) out)
        go true e =
            let made = run_made (eqb-true _ 0 e) in
            let all = is ∙ ap (ran_of (length s.lens) p.recs) made in
            let count : r.ran.n ≡ n = ap (λ (x : RunReturn). x.ran.n) all in
            let lock = ap (λ (x : RunReturn). x.ran.lock) all in
            let recs = ap (λ (x : RunReturn). x.recs) all in
            let place : end ≡ at + length (words_in s p es) = omega (arith, end_is, count, many, six_each s p es) in (
              λ j. record { standing = record { lock = lock j; recs = recs j }; at = place j },
              out_is ∙ ap (λ (l : List ℕ). take at out ++ l) (trace_is ∙ ap (λ (x : RunLeft). x.trace) made) ∙ rows_put,
            )
        go false e =
            let refused = run_refused e in
            let all = is ∙ ap (ran_of (length s.lens) p.recs) refused in
            let count : r.ran.n ≡ 0 = ap (λ (x : RunReturn). x.ran.n) all in
            let lock = ap (λ (x : RunReturn). x.ran.lock) all in
            let recs = ap (λ (x : RunReturn). x.recs) all ∙ take-append-drop (length s.lens) p.recs in
            let place : end ≡ at = omega (arith, end_is, count) in (
              λ j. record { standing = record { lock = lock j; recs = recs j }; at = place j },
              out_is
                  ∙ ap (λ (l : List ℕ). take at out ++ l) (trace_is ∙ ap (λ (x : RunLeft). x.trace) refused)
                  ∙ take-append-drop at out,
            )
