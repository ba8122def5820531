-- A run may be cut anywhere; a refused entry changes nothing; what a row says of its entry; and what every step from a sound state
-- keeps holds after every schedule.
use Prim.Native.Nat.{ℕ, zero, suc}
use native.Mathlib.Nat.{not-suc-le-zero, le_of_suc-le-suc}
use mathlib.Core.Path.{◌≡◌, refl, ap, sym}
use mathlib.Core.Bool.{Bool, true, false, cond}
use mathlib.Core.List.{List, [], ◌∷◌, reverse_aux}
use lib.Dec.{eqb}
use package.borrow.Author.Tests.{eqb-true, ne_eqb}
use Rattle.machine.specs.Words.{bit}
use Rattle.machine.specs.Step.{Scripts, act, here, op_of, val_of, entry_refusal, answer, settle, step}
use Rattle.machine.specs.Sound.{Sound}
use Rattle.machine.specs.Run.{run}
use Rattle.machine.specs.RunLaws.{Cutting, RunOne, EachRow, RefusedEntry, RowSays, Induction}
use Rattle.machine.specs.declared.Did.{Did}
use Rattle.std.specs.Prelude.{Err, Ok}
use Rattle.machine.specs.declared.Lock.{Lock}
use Rattle.machine.specs.declared.Rec.{Rec}
use Rattle.machine.specs.declared.Row.{Row}
use Rattle.machine.proofs.Steps.{step_sound}

pub cutting : Cutting
unfolding run
cutting S L l [] t = (refl, refl, refl)
cutting S L l (i ∷ s) t =
    let c = cutting S (step S L l i).lock (step S L l i).recs s t in
    (c.0, c.1, ap (λ (rows : List Row). (step S L l i).row ∷ rows) c.2)

pub run_one : RunOne
unfolding run
run_one S L l i = (refl, refl, refl)

pub each_row : EachRow
unfolding run
each_row S L l [] k d h = absurd (not-suc-le-zero h)
each_row S L l (i ∷ more) zero d h = refl
each_row S L l (i ∷ more) (suc k) d h = each_row S (step S L l i).lock (step S L l i).recs more k d (le_of_suc-le-suc h)

pub refused_entry : RefusedEntry
unfolding step answer
refused_entry S L l i refused = rw (ne_eqb (entry_refusal S L l i) 0 refused) (refl, refl, refl)

-- the row of an entry whose refusal is k: an accepted one, k being 0, does d
row_of : (L : Lock) (l : List Rec) (i k : ℕ) (d : Did) (accepts : Bool) → eqb k 0 ≡ accepts
    → let left = settle L l i (cond accepts (Ok d) (Err k)) in
    (left.row.answer ≡ k) × (left.row.thread ≡ i) × (left.row.exc ≡ bit left.lock.exc) × (left.row.rc ≡ left.lock.rc.0)
row_of L l i k d true e = (sym (eqb-true k 0 e), refl, refl, refl)
row_of L l i k d false e = (refl, refl, refl, refl)

pub row_says : RowSays
unfolding step answer
row_says S L l i = row_of L l i (entry_refusal S L l i) (act i L (here l i) (here l i).place (op_of S l i) (val_of S l i)) (eqb (entry_refusal S L l i) 0) refl

-- from rows that are there already, the latest first
from_past : (S : Scripts) (P : Lock → List Rec → List Row → Type 0)
    → ((L : Lock) (l : List Rec) (past : List Row) (i : ℕ) → Sound S L l → P L l past → P (step S L l i).lock (step S L l i).recs ((step S L l i).row ∷ past))
    → (schedule : List ℕ) (L : Lock) (l : List Rec) (past : List Row) → Sound S L l → P L l past
    → P (run S L l schedule).lock (run S L l schedule).recs (reverse_aux (run S L l schedule).rows past)
unfolding run
from_past S P keeps [] L l past ok p = p
from_past S P keeps (i ∷ more) L l past ok p =
    let left = step S L l i in
    from_past S P keeps more left.lock left.recs (left.row ∷ past) (step_sound S L l i ok) (keeps L l past i ok p)

pub induction : Induction
induction S P keeps L l ok p schedule = from_past S P keeps schedule L l [] ok p
