-- The laws of an InvCell. The heart is `after_is`: after any calls the cell holds the last value accepted. The predicate is never
-- opened: all goes by the test of what it permits. Assumes nothing.
use Prim.Native.Nat.{ℕ}
use mathlib.Core.Bool.{Bool, true, false, cond}
use mathlib.Core.Path.{◌≡◌, refl}
use mathlib.Core.List.{List, [], ◌∷◌, ◌++◌}
use Rattle.atomic.specs.Permission.{keeps}
use Rattle.cell.specs.Access.{answer_of}
use Rattle.cell.specs.Pred.{permits}
use Rattle.cell.specs.Inv.{holding, without_value}
use Rattle.cell.specs.Calls.{Call, sets, replaces, brings, call, after, accepted, last}
use Rattle.cell.specs.InvLaws.{NewExact, NumberedByPredicate, AsLastAccepted, HoldsLastAccepted, BadMakesNone}
use Rattle.cell.specs.declared.Answer.{Answer}
use Rattle.cell.specs.declared.Answer.TheVariants.{Value, Refused}
use Rattle.cell.specs.declared.Refusal.TheVariants.{NotPermitted}
use Rattle.cell.specs.declared.pred.Pred.{Pred}
use Rattle.cell.specs.declared.inv.InvCell.{InvCell}
use Rattle.std.specs.Prelude.{Err, Ok}
use Rattle.cell.proofs.PredLaws.{bad_permits_none}

pub new_exact : NewExact
new_exact p v = (λ e. rw e, λ e. rw e)

numbered : (b : Bool) (w v : ℕ) →
    (answer_of (cond b (record { leaves = w; answers = Value v }) (keeps v (Refused NotPermitted))).answers ≡ cond b 0 25)
    × (answer_of (without_value (cond b (record { leaves = w; answers = Value v }) (keeps v (Refused NotPermitted))).answers) ≡ cond b 0 25)
numbered true w v = (refl, refl)
numbered false w v = (refl, refl)

pub numbered_by_predicate : NumberedByPredicate
numbered_by_predicate c (sets w) = (numbered (permits c.pred w) w c.value).1
numbered_by_predicate c (replaces w) = (numbered (permits c.pred w) w c.value).0

pub bad_makes_none : BadMakesNone
bad_makes_none p v bad = rw (bad_permits_none p v bad)

-- what `new` has made
pub made : (p : Pred) (v : ℕ) (c : InvCell) (b : Bool) → cond b (Ok (holding p v)) (Err NotPermitted) ≡ Ok c → (c ≡ holding p v) × (b ≡ true)
made p v c true e = (cc, refl)
made p v c false e = (cc, cc)

leaves : (b : Bool) (w v : ℕ) (said kept : Answer) → (cond b (record { leaves = w; answers = said }) (keeps v kept)).leaves ≡ cond b w v
leaves true w v said kept = refl
leaves false w v said kept = refl

pub called : (p : Pred) (v : ℕ) (k : Call) → (call (holding p v) k).cell ≡ holding p (cond (permits p (brings k)) (brings k) v)
called p v (sets w) = rw (leaves (permits p w) w v (Value v) (Refused NotPermitted))
called p v (replaces w) = rw (leaves (permits p w) w v (Value v) (Refused NotPermitted))

last_cond : (b : Bool) (w v : ℕ) (ws : List ℕ) → last (cond b w v) ws ≡ last v (cond b (w ∷ ws) ws)
unfolding last
last_cond true w v ws = refl
last_cond false w v ws = refl

after_is : (p : Pred) (v : ℕ) (ks : List Call) → after (holding p v) ks ≡ holding p (last v (accepted p ks))
unfolding after accepted last
after_is p v [] = refl
after_is p v (k ∷ ks) = rw (called p v k, after_is p (cond (permits p (brings k)) (brings k) v) ks, last_cond (permits p (brings k)) (brings k) v (accepted p ks))

accepted_skip : (p : Pred) (ks : List Call) (k : Call) (later : List Call) → permits p (brings k) ≡ false → accepted p (ks ++ (k ∷ later)) ≡ accepted p (ks ++ later)
unfolding accepted
accepted_skip p [] k later e = rw e
accepted_skip p (j ∷ ks) k later e = rw (accepted_skip p ks k later e)

refuses : (p : Pred) (v : ℕ) (k : Call) → permits p (brings k) ≡ false → call (holding p v) k ≡ record { cell = holding p v; answer = Refused NotPermitted }
refuses p v (sets w) e = rw e
refuses p v (replaces w) e = rw e

-- what is accepted is permitted, and so is the last of it
last_allowed : (p : Pred) (v : ℕ) (ks : List Call) → permits p v ≡ true → permits p (last v (accepted p ks)) ≡ true
unfolding accepted last
last_allowed p v [] ok = ok
last_allowed p v (k ∷ ks) ok = by_test (permits p (brings k)) refl (last_allowed p (brings k) ks) (last_allowed p v ks ok)
  where
    by_test : (b : Bool) → permits p (brings k) ≡ b → (permits p (brings k) ≡ true → permits p (last (brings k) (accepted p ks)) ≡ true)
        → permits p (last v (accepted p ks)) ≡ true → permits p (last v (cond b (brings k ∷ accepted p ks) (accepted p ks))) ≡ true
    by_test true e taken left = taken e
    by_test false e taken left = left

as_last : (p : Pred) (v : ℕ) (calls : List Call) → permits p v ≡ true → AsLastAccepted p v (holding p v) calls
as_last p v calls ok =
    record {
      gets = rw (after_is p v calls);
      keeps_predicate = rw (after_is p v calls);
      allowed = last_allowed p v calls ok;
      moves_out = rw (after_is p v calls);
      set_stores = λ w e. rw (after_is p v calls, e);
      replace_returns = λ w e. rw (after_is p v calls, e);
      refuses = λ k e. rw (after_is p v calls) (refuses p (last v (accepted p calls)) k e);
      forgets_refused = λ k later e. rw (after_is p v (calls ++ (k ∷ later)), after_is p v (calls ++ later), accepted_skip p calls k later e);
    }

pub holds_last_accepted : HoldsLastAccepted
holds_last_accepted p v c e calls = rw (made p v c (permits p v) e).0 (as_last p v calls (made p v c (permits p v) e).1)
