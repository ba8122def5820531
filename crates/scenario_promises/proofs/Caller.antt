-- What is claimed of a caller. Assumes nothing.
use Prim.Native.Nat.{ℕ, zero, suc, ◌+◌, ◌<◌, ◌≤◌}
use mathlib.Core.Bool.{Bool, true, false, cond, true≢false, false≢true}
use mathlib.Core.Path.{◌≡◌, refl, sym, ap, subst, ◌∙◌}
use mathlib.Core.Logic.{◌⊎◌, inl, inr}
use mathlib.Core.List.{List, [], ◌∷◌, ◌++◌, append_assoc, flatten}
use native.Mathlib.Omega.{arith}
use borrow.Author.Tests.{leb-true, leb-false}
use lib.Dec.{leb}
use lib.ListN.{length, length-append}
use Rattle.scenario_read.specs.Feed.{most_words, over}
use Rattle.scenario_promises.specs.Session.{file_words}
use Rattle.scenario_promises.specs.Chunks.{HandedOver, MayFollow}
use Rattle.scenario_promises.specs.Piped.{ComesTo}
use Rattle.scenario_promises.specs.Caller.{Caller, is_last, called, next, turn, turns, Short, Ended, CallerEnds}
use Rattle.scenario_promises.proofs.Chunks.{chunk_taken, chunks_on, few_calls}
use Rattle.scenario_promises.proofs.Piped.{by_chunks}

follows : (later : List (List ℕ)) → MayFollow (is_last later) later
follows [] e = refl
follows (chunk ∷ later) e = absurd (false≢true e)

module _ (file : List (List ℕ)) (out : List ℕ) (wide : most_words ≤ length out) where
  -- what was handed over in so many calls after the first is the beginning of the file
  pub record Doing (n : ℕ) (c : Caller) : Type 0 where
    pub chunks : List (List ℕ)
    pub fed : HandedOver chunks c.chunk (is_last c.later) (suc n) c.words c.left
    pub is : chunks ++ c.later ≡ file
    pub short : Short c.later

  module _ (n : ℕ) (c : Caller) (d : Doing n c) where
    -- no caller makes more calls than there are chunks and words
    few : n < length file + length (file_words (flatten file))
    few =
        let last = is_last c.later in
        let (rest, begins) = chunks_on d.chunks c.chunk last (suc n) c.words c.left d.fed c.later (follows c.later) in
        let size : length (file_words (flatten file)) ≡ length c.words + length rest =
        ap (λ (x : List (List ℕ)). length (file_words (flatten x))) (sym d.is) ∙ ap length begins ∙ length-append c.words rest in
        let places : length file ≡ length d.chunks + length c.later = ap length (sym d.is) ∙ length-append d.chunks c.later in
        omega (arith, few_calls d.chunks c.chunk last (suc n) c.words c.left d.fed, size, places)

    ended : over c.left.state ≡ true → Ended file c
    ended all = (
      all,
      subst (λ (x : List (List ℕ)). ComesTo (flatten x) c.words c.left) d.is
          (by_chunks d.chunks c.chunk (is_last c.later) (suc n) c.words c.left d.fed all c.later (follows c.later)),
    )

    to_next : (later : List (List ℕ)) → c.later ≡ later → length c.chunk ≤ c.left.from → is_last c.later ≡ false
        → Doing (suc n) (next out c later)
    unfolding Short
    to_next [] e taken more = absurd (true≢false (ap is_last (sym e) ∙ more))
    to_next (chunk ∷ later) e taken more =
        let short = subst Short e d.short in
        record {
          chunks = d.chunks ++ (chunk ∷ []);
          fed =
              HandedOver.another
              (subst (λ (b : Bool). HandedOver d.chunks c.chunk b (suc n) c.words c.left) more d.fed)
              taken chunk (is_last later) out 0 _ short.0 (omega arith) refl;
          is = append_assoc d.chunks (chunk ∷ []) later ∙ ap (λ (x : List (List ℕ)). d.chunks ++ x) (sym e) ∙ d.is;
          short = short.1;
        }

    -- a turn is one more call, until all is out
    turn_does : over c.left.state ≡ false → Doing (suc n) (turn out c)
    turn_does unover = rw unover (by_room (leb (c.left.at + most_words) (length c.left.out)) refl)
      where
        by_taken : (over c.left.state ≡ true) ⊎ ((length c.chunk ≤ c.left.from) × (is_last c.later ≡ false))
            → Doing (suc n) (next out c c.later)
        by_taken (inl all) = absurd (true≢false (sym all ∙ unover))
        by_taken (inr (taken, more)) = to_next c.later refl taken more

        by_room : (b : Bool) → leb (c.left.at + most_words) (length c.left.out) ≡ b
            → Doing (suc n) (cond b (next out c c.later) (called out c.chunk c.later c.words c.left c.left.from))
        by_room true e =
            by_taken
            (chunk_taken d.chunks c.chunk (is_last c.later) (suc n) c.words c.left d.fed
            (leb-true (c.left.at + most_words) (length c.left.out) e))
        by_room false e = record {
          chunks = d.chunks;
          fed = HandedOver.again d.fed (leb-false (c.left.at + most_words) (length c.left.out) e) out 0 _ (omega arith) refl;
          is = d.is;
          short = d.short;
        }

  -- all is out, and stays so
  turns_stay : (more : ℕ) (c : Caller) → Ended file c → Ended file (turns more out c)
  unfolding turns
  turns_stay zero c e = e
  turns_stay (suc more) c e = turns_stay more (turn out c) (rw e.0 e)

  turns_end : (more n : ℕ) (c : Caller) → Doing n c → length file + length (file_words (flatten file)) ≤ n + more → Ended file (turns more out c)
  unfolding turns
  turns_end zero n c d enough = absurd (omega (arith, few n c d))
  turns_end (suc more) n c d enough =
      go (over c.left.state) refl (λ e. turns_end more (suc n) (turn out c) (turn_does n c d e) (omega arith))
    where
      go : (b : Bool) → over c.left.state ≡ b → (over c.left.state ≡ false → Ended file (turns more out (turn out c)))
          → Ended file (turns more out (turn out c))
      go true e on = turns_stay (suc more) c (ended n c d e)
      go false e on = on e

pub caller_ends : CallerEnds
unfolding Short
caller_ends w chunk later out n e roomy short wide enough =
    turns_end (chunk ∷ later) out wide n 0 (called out chunk later [] w 0)
    (record {
      chunks = chunk ∷ [];
      fed = HandedOver.another (HandedOver.begins w e roomy) (omega arith) chunk (is_last later) out 0 _ short.0 (omega arith) refl;
      is = refl;
      short = short.1;
    })
    (omega arith)
