-- Whatever is found, the file is the waveform of the signals that are found, and these can be lent. Assumes nothing.
use Prim.Native.Nat.{ℕ, zero, suc, ◌+◌, ◌-◌, ◌<◌, ◌≤◌}
use mathlib.Core.Bool.{Bool, true, false, ◌||◌, ◌&&◌, not, cond, false≢true}
use mathlib.Core.Path.{◌≡◌, refl, sym, ap, subst, ◌∙◌}
use mathlib.Core.List.{List, [], ◌∷◌, ◌++◌}
use native.Mathlib.Omega.{arith}
use borrow.Author.Tests.{ltb-true, leb-true, eq-eqb}
use lib.Dec.{ltb, leb}
use lib.ListN.{length, drop, drop_of_length-le}
use Rattle.vcd.specs.Blocks.{time_line, front, same, changed}
use Rattle.vcd.specs.Wave.{after, changes, close, waveform}
use Rattle.vcd.specs.Trace.{most_rows, Wired, Lendable}
use Rattle.std.specs.Prelude.{Option, None, Some, option_and_then}
use Rattle.std.proofs.lemmas.Option.{cond_some}
use Rattle.std.proofs.lemmas.Bool.{and_parts}
use Rattle.vcd.specs.Read.{starts, time_ahead, signals_ahead, block_at, behind, rows_found, dump_at, first_ahead, found}
use Rattle.vcd.specs.Exact.{FindsOnly}
use Rattle.vcd.specs.declared.Signals.{Signals}
use Rattle.vcd.specs.declared.Block.{Block}
use Rattle.vcd.proofs.WiredAhead.{wired_ahead}
use Rattle.vcd.proofs.Taken.{starts_with, Rows, rows_to, taken}

-- ---- something is found
found_if : (t : Bool) (o : Option (List Signals)) (xs : List Signals) → cond t o None ≡ Some xs → (t ≡ true) × (o ≡ Some xs)
found_if true o xs h = (refl, h)
found_if false o xs h = cc

and_then_some : {A B : Type 0} (f : A → Option B) (o : Option A) (y : B) → option_and_then f o ≡ Some y → (x : A) × (o ≡ Some x) × (f x ≡ Some y)
and_then_some f None y h = cc
and_then_some f (Some x) y h = (x, refl, h)

behind_some : (xs : List Signals) (f : Option (List Signals)) (all : List Signals) → behind xs f ≡ Some all → (ys : List Signals) × (f ≡ Some ys) × (all ≡ xs ++ ys)
behind_some xs None all h = cc
behind_some xs (Some ys) all h = (ys, refl, cc)

-- ---- what the test of a block says
module _ (t : ℕ) (s : Signals) (l : List ℕ) where
  pub record Good (u : ℕ) (x : Signals) : Type 0 where
    pub begins : starts (time_line u ++ changed s x) l ≡ true
    pub early : t < u
    pub high : u ≤ most_rows
    pub last : same s x ≡ true → length l ≤ length (time_line u ++ changed s x)

  last_by : (b : Bool) (m n : ℕ) → (not b || leb m n) ≡ true → b ≡ true → m ≤ n
  last_by true m n h e = leb-true m n h
  last_by false m n h e = absurd (false≢true e)

  good_by : (u : ℕ) (x : Signals) → let block = time_line u ++ changed s x in
      (starts block l && (ltb t u && (leb u most_rows && (not (same s x) || leb (length l) (length block))))) ≡ true → Good u x
  good_by u x h =
      let block = time_line u ++ changed s x in
      let c = not (same s x) || leb (length l) (length block) in
      let (begins, h₁) = and_parts (starts block l) (ltb t u && (leb u most_rows && c)) h in
      let (early, h₂) = and_parts (ltb t u) (leb u most_rows && c) h₁ in
      let (high, last) = and_parts (leb u most_rows) c h₂ in
      record {
        begins = begins;
        early = ltb-true t u early;
        high = leb-true u most_rows high;
        last = last_by (same s x) (length l) (length block) last;
      }

  -- what is known of a block that stands there
  pub record Stands (k : Block) : Type 0 where
    pub good : Good k.time k.signals
    pub long : k.len ≡ length (time_line k.time ++ changed s k.signals)
    pub wired : Wired s → Wired k.signals

  pub stands : (k : Block) → block_at t s l ≡ Some k → Stands k
  unfolding block_at
  stands k h =
      let u = time_ahead l in
      let x = signals_ahead s (drop (length (time_line u)) l) in
      let c = cond_some _ _ k h in
      subst Stands c.1 (record { good = good_by u x c.0; long = refl; wired = wired_ahead s _ })

-- ---- all blocks
-- no text, no rows
empty_found : (most t : ℕ) (s : Signals) (l : List ℕ) (xs : List Signals) → l ≡ [] → rows_found most t s l ≡ Some xs → xs ≡ []
unfolding rows_found
empty_found zero t s l xs e h = cc
empty_found (suc most) t s [] xs e h = cc
empty_found (suc most) t s (b ∷ l) xs e h = absurd (omega (arith, ap length e))

no_rows : (t : ℕ) (s : Signals) → t ≤ most_rows → Rows t s [] []
unfolding changes after close
no_rows t s f = record { text = rw (eq-eqb t t refl); wired = tt; few = omega arith }

next_rows : (most t : ℕ) (s : Signals) (b : ℕ) (l : List ℕ) (k : Block) (ys : List Signals) → block_at t s (b ∷ l) ≡ Some k
    → rows_found most k.time k.signals (drop k.len (b ∷ l)) ≡ Some ys → Wired s
    → (Wired k.signals → k.time ≤ most_rows → Rows k.time k.signals (drop k.len (b ∷ l)) ys)
    → Rows t s (b ∷ l) (rows_to (k.time - (t + 1)) s k.signals ++ ys)
next_rows most t s b l k ys h e w ih =
    let there = stands t s (b ∷ l) k h in
    let g = there.good in
    let n = there.long in
    let v = there.wired w in
    taken t (k.time - (t + 1)) s k.signals (b ∷ l) ys k.time (omega (arith, g.early)) w v record {
      begins = g.begins;
      then = rw n at (ih v g.high);
      last = λ same. (g.last same, empty_found most k.time k.signals (drop k.len (b ∷ l)) ys (rw n (drop_of_length-le (b ∷ l) (g.last same))) e);
    }

rows_only : (most t : ℕ) (s : Signals) (l : List ℕ) (xs : List Signals) → rows_found most t s l ≡ Some xs → Wired s → t ≤ most_rows → Rows t s l xs
unfolding rows_found
rows_only zero t s l xs h w f = cc
rows_only (suc most) t s [] xs h w f = let e : [] ≡ xs = cc in subst (Rows t s []) e (no_rows t s f)
rows_only (suc most) t s (b ∷ l) xs h w f =
    let (k, is, on) = and_then_some _ (block_at t s (b ∷ l)) xs h in
    let r = behind_some (rows_to (k.time - (t + 1)) s k.signals) (rows_found most k.time k.signals (drop k.len (b ∷ l))) xs on in
    subst (Rows t s (b ∷ l)) (sym r.2)
    (next_rows most t s b l k r.0 is r.1 w (λ v g. rows_only most k.time k.signals (drop k.len (b ∷ l)) r.0 r.1 v g))

-- ---- the whole file
module _ (file : List ℕ) (s : Signals) (xs : List Signals) where
  file_by : starts (front s) file ≡ true → Rows 0 s (drop (length (front s)) file) xs → file ≡ waveform s xs
  unfolding waveform
  file_by h r = starts_with (front s) file h ∙ ap (λ (l : List ℕ). front s ++ l) r.text

  lendable_by : Wired s → Rows 0 s (drop (length (front s)) file) xs → Lendable s xs
  lendable_by w r = record { first = w; rows = r.wired; few = omega (arith, r.few) }

-- the file begins with the writer's opening, and rows were found behind it
opens : (file : List ℕ) (all : List Signals) → found file ≡ Some all → let s = first_ahead file in
    (starts (front s) file ≡ true) × (behind (s ∷ []) (rows_found (length file) 0 s (drop (length (front s)) file)) ≡ Some all)
unfolding found
opens file all h = found_if _ _ all h

pub finds_only : FindsOnly
finds_only file all h =
    let s = first_ahead file in
    let rest = drop (length (front s)) file in
    let w : Wired s = wired_ahead (record { exc = 0; rc = 0 }) (drop dump_at file) (record { one = omega arith; wide = omega arith }) in
    let c = opens file all h in
    let r = behind_some (s ∷ []) (rows_found (length file) 0 s rest) all c.1 in
    let rows = rows_only (length file) 0 s rest r.0 r.1 w (omega arith) in
    (s, r.0, r.2, lendable_by file s r.0 w rows, file_by file s r.0 c.0 rows)
