-- What is answered of a refusal's number: nothing where that is 0, and else the refusal with what stands beside it. And what is answered
-- where checks come after others.
use Prim.Native.Nat.{ℕ}
use mathlib.Core.Path.{◌≡◌, refl}
use mathlib.Core.Logic.{◌≢◌}
use mathlib.Core.Bool.{Bool, true, false, cond}
use mathlib.Core.List.{List, [], ◌∷◌, ◌++◌}
use native.Mathlib.Omega.{arith}
use lib.Dec.{eqb}
use package.borrow.Author.Tests.{eqb-true, eqb-false, eq-eqb, ne_eqb}
use Rattle.std.specs.Prelude.{Result, Ok, Err, None, Some}
use Rattle.machine.specs.Refusals.{Check, gives, lowest}
use Rattle.machine.specs.Lists.{Lent, beside, answered, some_refusal}
use Rattle.machine.specs.declared.Refusal.{Refusal}
use Rattle.machine.proofs.Refusals.{Passed}
use Rattle.lock_words.specs.Refused.{number_of, alone}
use Rattle.lock_words.specs.declared.names.Refused.{Refused}
use Rattle.lock_words.specs.declared.names.Refused.TheVariants.{ThreadCount, TopIsZero, BadPredicate, FirstValue, ScriptTooLong, WrongLengths, WrongCode, Unsound, NoThread, ScriptFinished, LockGone, DoesNotFit, OthersBusy, NotPermitted, Untidy}

abbrev pub Told : Type 0
Told = Result (Unit {0}) Refusal

pub number_beside : (s : Lent) (k : ℕ) → (beside s k).number ≡ k
unfolding beside
number_beside s k = refl

module _ (s : Lent) (k : ℕ) where
  pub none_told : ◌≡◌ {A = Told} (Ok tt) (answered s k) → k ≡ 0
  none_told e = go (eqb k 0) refl e
    where
      go : (b : Bool) → eqb k 0 ≡ b → ◌≡◌ {A = Told} (Ok tt) (cond b (Ok tt) (Err (beside s k))) → k ≡ 0
      go true q f = eqb-true k 0 q
      go false q f = absurd (cc f)

  pub some_told : (why : Refusal) → ◌≡◌ {A = Told} (Err why) (answered s k) → (k ≢ 0) × (why ≡ beside s k)
  some_told why e = go (eqb k 0) refl e
    where
      go : (b : Bool) → eqb k 0 ≡ b → ◌≡◌ {A = Told} (Err why) (cond b (Ok tt) (Err (beside s k))) → (k ≢ 0) × (why ≡ beside s k)
      go true q f = absurd (cc f)
      go false q f = (eqb-false k 0 q, cc f)

  pub told_none : k ≡ 0 → ◌≡◌ {A = Told} (Ok tt) (answered s k)
  told_none e = rw (eq-eqb k 0 e) refl

  pub told_some : k ≢ 0 → ◌≡◌ {A = Told} (Err (beside s k)) (answered s k)
  told_some some = rw (ne_eqb k 0 some) refl

  pub is_none : k ≡ 0 → some_refusal (beside s k) ≡ None
  unfolding beside
  is_none e = rw (eq-eqb k 0 e) refl

  pub is_some : k ≢ 0 → some_refusal (beside s k) ≡ Some (beside s k)
  unfolding beside
  is_some some = rw (ne_eqb k 0 some) refl

  pub none_some : some_refusal (beside s k) ≡ None → k ≡ 0
  unfolding beside
  none_some e = go (eqb k 0) refl e
    where
      go : (b : Bool) → eqb k 0 ≡ b → cond b None (Some (beside s k)) ≡ None → k ≡ 0
      go true q f = eqb-true k 0 q
      go false q f = absurd (cc f)

  pub some_some : (why : Refusal) → some_refusal (beside s k) ≡ Some why → (k ≢ 0) × (beside s k ≡ why)
  unfolding beside
  some_some why e = go (eqb k 0) refl e
    where
      go : (b : Bool) → eqb k 0 ≡ b → cond b None (Some (beside s k)) ≡ Some why → (k ≢ 0) × (beside s k ≡ why)
      go true q f = absurd (cc f)
      go false q f = (eqb-false k 0 q, cc f)

-- ---- checks with more checks after them
pub earlier : (cs ds : List Check) → (lowest cs ≡ 0 → ⊥) → lowest (cs ++ ds) ≡ lowest cs
unfolding lowest
earlier [] ds h = absurd (h refl)
earlier (c ∷ cs) ds h = go c.applies h (earlier cs ds)
  where
    go : (b : Bool) → (cond b c.number (lowest cs) ≡ 0 → ⊥) → ((lowest cs ≡ 0 → ⊥) → lowest (cs ++ ds) ≡ lowest cs)
        → cond b c.number (lowest (cs ++ ds)) ≡ cond b c.number (lowest cs)
    go true some more = refl
    go false some more = more some

pub later : (cs ds : List Check) → Passed cs → lowest (cs ++ ds) ≡ lowest ds
unfolding lowest
later [] ds p = refl
later (c ∷ cs) ds p = rw p.0 (later cs ds p.1)

module _ (s : Lent) (cs : List Check) where
  -- what is refused by the first checks is refused so by all
  pub still : (ds : List Check) (why : Refusal) → ◌≡◌ {A = Told} (Err why) (answered s (lowest cs)) → ◌≡◌ {A = Told} (Err why) (answered s (lowest (cs ++ ds)))
  still ds why e = rw (earlier cs ds (some_told s (lowest cs) why e).0) e

  -- one check more, where the first are passed
  module _ (pass : Passed cs) (n : ℕ) (b : Bool) where
    pub fine : b ≡ false → ◌≡◌ {A = Told} (Ok tt) (answered s (lowest (cs ++ (gives n b ∷ []))))
    unfolding lowest
    fine e = rw (later cs (gives n b ∷ []) pass, e)

    pub applies : b ≡ true → n ≢ 0 → beside s n ≡ alone n → ◌≡◌ {A = Told} (Err (alone n)) (answered s (lowest (cs ++ (gives n b ∷ []))))
    unfolding lowest
    applies e some is = rw (later cs (gives n b ∷ []) pass, e, ne_eqb n 0 some, is)

pub some_number : (why : Refused) → number_of why ≢ 0
some_number ThreadCount z = absurd (omega arith)
some_number TopIsZero z = absurd (omega arith)
some_number BadPredicate z = absurd (omega arith)
some_number FirstValue z = absurd (omega arith)
some_number ScriptTooLong z = absurd (omega arith)
some_number WrongLengths z = absurd (omega arith)
some_number WrongCode z = absurd (omega arith)
some_number Unsound z = absurd (omega arith)
some_number NoThread z = absurd (omega arith)
some_number ScriptFinished z = absurd (omega arith)
some_number LockGone z = absurd (omega arith)
some_number DoesNotFit z = absurd (omega arith)
some_number OthersBusy z = absurd (omega arith)
some_number NotPermitted z = absurd (omega arith)
some_number Untidy z = absurd (omega arith)
