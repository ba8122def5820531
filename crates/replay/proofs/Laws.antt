-- The laws of the replays' library. Assumes nothing.
use Prim.Native.Nat.{ℕ, zero, suc, ◌+◌, ◌-◌, ◌≤◌}
use mathlib.Core.Bool.{Bool, true, false, ◌&&◌, not, cond, false≢true}
use mathlib.Core.Path.{◌≡◌, refl, sym, ap, ◌∙◌}
use mathlib.Core.List.{List, [], ◌∷◌, ◌++◌, map}
use native.Mathlib.Nat.{sub-zero, suc-sub-suc}
use native.Mathlib.Numerals.{add-one}
use native.Mathlib.Omega.{arith}
use borrow.Author.Tests.{eq-eqb, eqb-true, lt-ltb}
use lib.Dec.{eqb}
use lib.ListN.{length, set, replicate, length-set}
use lib.Seq.{sets, sets-eq}
use Rattle.scenario_lines.specs.Judge.{equal, fields}
use Rattle.scenario_lines.specs.Number.{number}
use Rattle.replay.specs.Lists.{front_then}
use Rattle.replay.specs.Numbers.{filled, fill}
use Rattle.replay.specs.Reading.{Took, took, taking, byte_before, grown}
use Rattle.replay.specs.Laws.{SameList, FrontAndRest, NumbersInPlace, without_break, LineGathered, behind, CutAnywhere}
use Rattle.std.specs.declared.option.Option.TheVariants.{Some}

both : (t u : Bool) → (t && u) ≡ true → (t ≡ true) × (u ≡ true)
both true u e = (refl, e)
both false u e = absurd (false≢true e)

-- ---- lists compared
alike : (s t : List ℕ) → equal s t ≡ true → s ≡ t
unfolding equal
alike [] [] e = refl
alike [] (y ∷ t) e = absurd (false≢true e)
alike (x ∷ s) [] e = absurd (false≢true e)
alike (x ∷ s) (y ∷ t) e =
    let h = both (eqb x y) (equal s t) e in
    ap (λ (n : ℕ). n ∷ s) (eqb-true x y h.0) ∙ ap (λ (l : List ℕ). y ∷ l) (alike s t h.1)

itself : (s : List ℕ) → equal s s ≡ true
unfolding equal
itself [] = refl
itself (x ∷ s) = rw (eq-eqb x x refl) (itself s)

pub same_list : SameList
same_list s t = (alike s t, λ e. rw e (itself t))

-- ---- a front and a rest
only_other : (x : ℕ) (l : List ℕ) → front_then x l [] ≡ true → l ≡ replicate (length l) x
unfolding front_then
only_other x [] e = refl
only_other x (a ∷ l) e =
    let h = both (eqb a x) (front_then x l []) e in
    ap (λ (n : ℕ). n ∷ l) (eqb-true a x h.0) ∙ ap (λ (m : List ℕ). x ∷ m) (only_other x l h.1)

front_is : (x : ℕ) (l front : List ℕ) → front_then x l front ≡ true → l ≡ front ++ replicate (length l - length front) x
unfolding front_then
front_is x [] [] e = refl
front_is x [] (b ∷ front) e = absurd (false≢true e)
front_is x (a ∷ l) [] e = only_other x (a ∷ l) e ∙ ap (λ (n : ℕ). replicate n x) (sym (sub-zero (length (a ∷ l))))
front_is x (a ∷ l) (b ∷ front) e =
    let h = both (eqb a b) (front_then x l front) e in
    ap (λ (n : ℕ). n ∷ l) (eqb-true a b h.0)
    ∙ ap (λ (m : List ℕ). b ∷ m) (front_is x l front h.1 ∙ ap (λ (n : ℕ). front ++ replicate n x) (sym (suc-sub-suc (length l) (length front))))

is_front : (x : ℕ) (front : List ℕ) (n : ℕ) → front_then x (front ++ replicate n x) front ≡ true
unfolding front_then
is_front x [] zero = refl
is_front x [] (suc n) = rw (eq-eqb x x refl) (is_front x [] n)
is_front x (b ∷ front) n = rw (eq-eqb b b refl) (is_front x front n)

pub front_and_rest : FrontAndRest
front_and_rest x l front = (front_is x l front, is_front x front)

-- ---- numbers in their places
put_all : (fs : List (List ℕ)) (w vs : List ℕ) (n : ℕ) → map number fs ≡ map Some vs → n + length vs ≤ length w → fill fs w n ≡ filled (Some (n + length vs)) (sets w n vs)
unfolding fill
put_all [] w [] n e h = let z : n + 0 ≡ n = omega arith in rw z
put_all [] w (v ∷ vs) n e h = let z : ◌≡◌ {A = ℕ} 0 1 = cc in absurd (omega arith)
put_all (f ∷ fs) w [] n e h = let z : ◌≡◌ {A = ℕ} 0 1 = cc in absurd (omega arith)
put_all (f ∷ fs) w (v ∷ vs) n e h =
    let first : number f ≡ Some v = cc in
    let later : map number fs ≡ map Some vs = cc in
    let width : n + suc (length vs) ≡ suc n + length vs = omega arith in
    let room : suc n + length vs ≤ length (set w n v) = omega (arith, length-set w n v) in
    rw (first, lt-ltb n (length w) (omega arith), width) (put_all fs (set w n v) vs (suc n) later room)

pub numbers_in_place : NumbersInPlace
numbers_in_place text w vs e h =
    let z : 0 + length vs ≡ length vs = omega arith in
    put_all (fields text) w vs 0 e (omega arith) ∙ rw (sets-eq vs w 0 (omega arith), z)

-- ---- a line gathered
no_break : (t u : Bool) → (not t && u) ≡ true → (t ≡ false) × (u ≡ true)
no_break true u e = absurd (false≢true e)
no_break false u e = (refl, e)

gathered : (l more room : List ℕ) (n : ℕ) → without_break l ≡ true → n + length l ≤ length room
    → took (l ++ (10 ∷ more)) room n ≡ taking (sets room n l) (n + length l) (length l + 1) true
unfolding took
gathered [] more room n e h = let z : n + 0 ≡ n = omega arith in let o : 0 + 1 ≡ 1 = omega arith in rw (z, o)
gathered (b ∷ l) more room n e h =
    let f = no_break (eqb b 10) (without_break l) e in
    let width : n + suc (length l) ≡ n + 1 + length l = omega arith in
    let used : suc (length l) + 1 ≡ suc (length l + 1) = omega arith in
    rw (f.0, lt-ltb n (length room) (omega arith), width, used, add-one n)
    (ap byte_before (gathered l more (set room n b) (suc n) f.1 (omega (arith, length-set room n b))))

pub line_gathered : LineGathered
line_gathered l more room e h =
    let z : 0 + length l ≡ length l = omega arith in
    gathered l more room 0 e (omega arith) ∙ rw (sets-eq l room 0 (omega arith), z)

-- ---- bytes in two chunks
cut_by : (t : Bool) (k : ℕ) (b room : List ℕ) (n : ℕ) (x y : Took) → (x.done ≡ false → y ≡ behind k (took b x.line x.held))
    → let before = cond t (taking room n 1 true) (byte_before x) in
    before.done ≡ false → cond t (taking room n 1 true) (byte_before y) ≡ behind (suc k) (took b before.line before.held)
cut_by true k b room n x y later e = absurd (false≢true (sym e))
cut_by false k b room n x y later e =
    let after = took b x.line x.held in
    let used : suc (k + after.used) ≡ suc k + after.used = omega arith in
    ap byte_before (later e) ∙ ap (λ (m : ℕ). taking after.line after.held m after.done) used

pub cut_anywhere : CutAnywhere
unfolding took
cut_anywhere [] b room n e =
    let after = took b room n in
    let used : after.used ≡ 0 + after.used = omega arith in
    ap (λ (m : ℕ). taking after.line after.held m after.done) used
cut_anywhere (c ∷ a) b room n e =
    let l = set room n c in
    let m = grown (length room) n in
    cut_by (eqb c 10) (length a) b room n (took a l m) (took (a ++ b) l m) (cut_anywhere a b l m) e
