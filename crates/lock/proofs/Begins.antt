-- Setup as code: its own checks before those of the lists, the records that it writes one after the other, and that with a count of at
-- most 16 it is machine's setup of the first records of the array.
use Prim.Native.Nat.{ℕ, zero, suc, ◌+◌, ◌<◌, ◌≤◌}
use mathlib.Core.Path.{◌≡◌, refl, ap, sym, ◌∙◌}
use mathlib.Core.Logic.{◌≢◌}
use mathlib.Core.Bool.{Bool, true, false, ◌||◌, ◌&&◌, cond, true≢false, and-eq-true_iff}
use mathlib.Core.List.{List, [], ◌∷◌, ◌++◌, append_assoc}
use native.Mathlib.Numerals.{add-one}
use native.Mathlib.Omega.{arith}
use lib.Dec.{eqb, ltb}
use lib.ListN.{length, take, drop, set, length-replicate}
use lib.Seq.{drop-cons, set_at, take_at, drop_at, length-take-le}
use package.borrow.Author.Tests.{ltb-false, eqb-true, ne_eqb, not-false}
use Rattle.cell.specs.declared.pred.Pred.{Pred}
use Rattle.machine.specs.Names.{script_too_long, wrong_code, most_threads}
use Rattle.machine.specs.Words.{unbegun, unused}
use Rattle.machine.specs.Refusals.{Check, lowest}
use Rattle.machine.specs.Lists.{Lent, total, list_checks, beside, answered}
use Rattle.machine.specs.Setup.{fresh, setup_checks, setup_refusal, setup, setup_recs}
use Rattle.machine.specs.declared.Rec.{Rec}
use Rattle.machine.specs.declared.Refusal.{Refusal}
use Rattle.std.specs.Prelude.{Err, Ok}
use Rattle.machine.proofs.Refusals.{passed}
use Rattle.lock_scripts.specs.Checks.{fit}
use Rattle.lock.specs.ByValue.{put_back, setup_of}
use Rattle.lock.specs.Setup.{own_checks, begun_of}
use Rattle.lock_words.specs.Refused.{number_of, alone}
use Rattle.lock_words.specs.declared.names.Refused.{Refused}
use Rattle.lock.proofs.Told.{Told, none_told, some_told, told_some, earlier, later, some_number}

-- ---- the refusals
-- the numbers are at most m
abbrev Within : ℕ → List Check → Type 0
Within m [] = Unit {0}
Within m (c ∷ cs) = (c.number ≤ m) × Within m cs

cond_most : (b : Bool) (m x y : ℕ) → x ≤ m → y ≤ m → cond b x y ≤ m
cond_most true m x y h k = h
cond_most false m x y h k = k

within : (m : ℕ) (cs : List Check) → Within m cs → lowest cs ≤ m
unfolding lowest
within m [] w = omega arith
within m (c ∷ cs) w = cond_most c.applies m c.number (lowest cs) w.0 (within m cs w.1)

neither : (a b : Bool) → (a || b) ≡ false → b ≡ false
neither true b e = absurd (true≢false e)
neither false b e = e

beside_nothing : (s : Lent) (k : ℕ) → k ≢ script_too_long → k ≢ wrong_code → beside s k ≡ alone k
unfolding beside
beside_nothing s k f g = rw (ne_eqb k script_too_long f, ne_eqb k wrong_code g) refl

module _ (q : Pred) (m v : ℕ) (s : Lent) (records : ℕ) where
  pub lists_decide : lowest (own_checks q m v (length s.lens)) ≡ 0 → setup_refusal q m v s records ≡ lowest (list_checks s records)
  unfolding setup_refusal
  lists_decide e =
      let cs = own_checks q m v (length s.lens) in
      later cs (list_checks s records) (passed 0 cs (omega arith) e)

  pub own_decide : (k : ℕ) → k ≡ lowest (own_checks q m v (length s.lens)) → k ≢ 0 → beside s (setup_refusal q m v s records) ≡ alone k
  unfolding setup_refusal
  own_decide k e some =
      let most : k ≤ 4 = omega (arith, e, within 4 (own_checks q m v (length s.lens)) (omega arith)) in
      rw (earlier (own_checks q m v (length s.lens)) (list_checks s records) (λ z. some (e ∙ z)), ← e)
      (beside_nothing s k (λ f. omega arith) (λ f. omega arith))

  pub own_told : (why : Refused) → number_of why ≡ lowest (own_checks q m v (length s.lens)) → ◌≡◌ {A = Told} (Err (alone (number_of why))) (answered s (setup_refusal q m v s records))
  unfolding setup_refusal
  own_told why e =
      let some = some_number why in
      let same : setup_refusal q m v s records ≡ number_of why =
      earlier (own_checks q m v (length s.lens)) (list_checks s records) (λ z. some (e ∙ z)) ∙ sym e
      in
      rw (← own_decide (number_of why) e some) (told_some s (setup_refusal q m v s records) (λ z. some (sym same ∙ z)))

  -- where nothing is refused there are as many records as threads, 16 at most
  pub count_most : setup_refusal q m v s records ≡ 0 → records ≤ 16
  unfolding setup_refusal
  count_most e =
      let p = passed 0 (setup_checks q m v s records) (omega arith) e in
      let few = neither (eqb (length s.lens) 0) (ltb most_threads (length s.lens)) p.0 in
      let fits = not-false (fit s records) p.1.1.1.1.1.0 in
      let n = total s.lens in
      let evenly = ((and-eq-true_iff (eqb (length s.ops) n) (eqb (length s.vals) n && eqb records (length s.lens))).0 fits).1 in
      let same = ((and-eq-true_iff (eqb (length s.vals) n) (eqb records (length s.lens))).0 evenly).1 in
      omega (arith, ltb-false most_threads (length s.lens) few, eqb-true records (length s.lens) same)

-- ---- what setup leaves, by what was answered
module _ (q : Pred) (m v : ℕ) (s : Lent) (count : ℕ) (recs : List Rec) where
  module _ (none : ◌≡◌ {A = Told} (Ok tt) (answered s (setup_refusal q m v s count))) where
    zero_is : setup_refusal q m v s count ≡ 0
    zero_is = none_told s (setup_refusal q m v s count) none

    pub records_most : count ≤ 16
    records_most = count_most q m v s count zero_is

    pub made : begun_of q m v s count recs ≡ record { start = Ok (unused q m v); recs = put_back count recs (fresh count) }
    unfolding setup setup_of
    made = rw zero_is refl

  pub kept : (why : Refusal) → ◌≡◌ {A = Told} (Err why) (answered s (setup_refusal q m v s count)) → begun_of q m v s count recs ≡ record { start = Err why; recs = recs }
  unfolding setup setup_of
  kept why told =
      let (some, is) = some_told s (setup_refusal q m v s count) why told in
      rw (ne_eqb (setup_refusal q m v s count) 0 some, is) refl

-- ---- the records
one_more : (k : ℕ) → fresh k ++ (unbegun ∷ []) ≡ fresh (suc k)
one_more zero = refl
one_more (suc k) = ap (λ (l : List Rec). unbegun ∷ l) (one_more k)

-- one more record
pub fresh_more : (recs : List Rec) (k : ℕ) → k < length recs → set (put_back k recs (fresh k)) k unbegun ≡ put_back (k + 1) recs (fresh (k + 1))
fresh_more recs k h =
    rw (drop-cons recs k unbegun h, set_at (fresh k) _ (drop (suc k) recs) unbegun k (length-replicate k unbegun), add-one)
    (sym (append_assoc (fresh k) (unbegun ∷ []) (drop (suc k) recs)) ∙ ap (λ (l : List Rec). l ++ drop (suc k) recs) (one_more k))

-- ---- with a count of at most 16
module _ (q : Pred) (m v : ℕ) (s : Lent) (count : ℕ) (recs : List Rec) (h : count ≤ length recs) where
  -- the first records are those that machine's setup leaves of them
  pub setup_first : take count (setup_of q m v s count recs) ≡ setup_recs q m v s (take count recs)
  unfolding setup_of setup_recs
  setup_first = rw (length-take-le count recs h) (go (eqb (setup_refusal q m v s count) 0))
    where
      go : (b : Bool) → take count (cond b (put_back count recs (fresh count)) recs) ≡ cond b (fresh count) (take count recs)
      go true = take_at (fresh count) (drop count recs) count (length-replicate count unbegun)
      go false = refl

  -- the others stay
  pub setup_others : drop count (setup_of q m v s count recs) ≡ drop count recs
  unfolding setup_of
  setup_others = go (eqb (setup_refusal q m v s count) 0)
    where
      go : (b : Bool) → drop count (cond b (put_back count recs (fresh count)) recs) ≡ drop count recs
      go true = drop_at (fresh count) (drop count recs) count (length-replicate count unbegun)
      go false = refl
