-- The rows of a file, a block at a time: how many blocks are allowed does not matter as long as they are more than the bytes, and what is read is
-- that of the first block and of what is behind it. Assumes nothing.
use Prim.Native.Nat.{ℕ, zero, suc, ◌+◌, ◌-◌, ◌*◌, ◌/◌, ◌<◌, ◌≤◌}
use mathlib.Core.Bool.{Bool, true, false, cond, false≢true}
use mathlib.Core.Path.{◌≡◌, refl, ap}
use mathlib.Core.List.{List, [], ◌∷◌, ◌++◌}
use native.Mathlib.Omega.{arith}
use borrow.Author.Tests.{leb-true, le-leb, lt-leb}
use lib.Dec.{eqb, leb}
use lib.ListN.{length, drop, replicate, length-append, length-replicate, length-drop}
use Rattle.std.specs.Prelude.{Option, None, Some, option_and_then, Result, Ok, Err, IsOk}
use Rattle.std.proofs.lemmas.Bool.{and_parts}
use Rattle.vcd.specs.Blocks.{time_line}
use Rattle.vcd.specs.Read.{starts, block_at, behind, rows_found, read_as}
use Rattle.vcd.specs.declared.Signals.{Signals}
use Rattle.vcd.specs.declared.Block.{Block}
use Rattle.vcd.specs.declared.Refusal.{Refusal}
use Rattle.vcd.specs.declared.Refusal.TheVariants.{NoRoom, NoWave}
use Rattle.vcd.proofs.FindsOnly.{stands}

-- ---- a block that stands there
pub starts_long : (s l : List ℕ) → starts s l ≡ true → length s ≤ length l
unfolding starts
starts_long [] l h = omega arith
starts_long (a ∷ s) [] h = absurd (false≢true h)
starts_long (a ∷ s) (b ∷ l) h = omega (arith, starts_long s l (and_parts (eqb a b) (starts s l) h).1)

module _ (t : ℕ) (s : Signals) (l : List ℕ) (k : Block) (is : block_at t s l ≡ Some k) where
  pub some_bytes : 1 ≤ k.len
  unfolding time_line
  some_bytes = omega (arith, (stands t s l k is).long)

  pub fits : k.len ≤ length l
  fits =
      let there = stands t s l k is in
      omega (arith, there.long, starts_long _ l there.good.begins)

  pub later : t < k.time
  later = (stands t s l k is).good.early

-- ---- as many blocks as there may be
-- the rest of a list, behind a byte at least
shorter : (k : ℕ) (b : ℕ) (l : List ℕ) (n : ℕ) → 1 ≤ k → suc (length l) < suc n → length (drop k (b ∷ l)) < n
shorter k b l n h e = omega (arith, length-drop k (b ∷ l))

alike : (o : Option Block) (f g : Block → Option (List Signals)) → ((k : Block) → o ≡ Some k → f k ≡ g k) → option_and_then f o ≡ option_and_then g o
alike None f g h = refl
alike (Some k) f g h = h k refl

enough : (n m t : ℕ) (s : Signals) (l : List ℕ) → length l < n → length l < m → rows_found n t s l ≡ rows_found m t s l
unfolding rows_found
enough zero m t s l h g = absurd (omega arith)
enough (suc n) zero t s l h g = absurd (omega arith)
enough (suc n) (suc m) t s [] h g = refl
enough (suc n) (suc m) t s (b ∷ l) h g =
    alike (block_at t s (b ∷ l)) _ _
    (λ k is. ap (behind (replicate (k.time - (t + 1)) s ++ (k.signals ∷ [])))
    (enough n m k.time k.signals (drop k.len (b ∷ l)) (shorter k.len b l n (some_bytes t s (b ∷ l) k is) h) (shorter k.len b l m (some_bytes t s (b ∷ l) k is) g)))

-- the rows behind time t
abbrev pub rows_on : ℕ → Signals → List ℕ → Option (List Signals)
rows_on t s l = rows_found (suc (length l)) t s l

pub rows_with : (n t : ℕ) (s : Signals) (l : List ℕ) → length l < n → rows_found n t s l ≡ rows_on t s l
rows_with n t s l h = enough n (suc (length l)) t s l h (omega arith)

-- ---- a block, and what is behind it
pub bad_block : (t : ℕ) (s : Signals) (l : List ℕ) → 0 < length l → block_at t s l ≡ None → rows_on t s l ≡ None
unfolding rows_found
bad_block t s [] h e = absurd (omega arith)
bad_block t s (b ∷ l) h e = rw e

pub no_block : (t : ℕ) (s : Signals) (l : List ℕ) → length l ≡ 0 → rows_on t s l ≡ Some []
unfolding rows_found
no_block t s [] h = refl
no_block t s (b ∷ l) h = absurd (omega arith)

pub good_block : (t : ℕ) (s : Signals) (l : List ℕ) (k : Block) → 0 < length l → block_at t s l ≡ Some k
    → rows_on t s l ≡ behind (replicate (k.time - (t + 1)) s ++ (k.signals ∷ [])) (rows_on k.time k.signals (drop k.len l))
unfolding rows_found
good_block t s [] k h e = absurd (omega arith)
good_block t s (b ∷ l) k h e =
    let less = shorter k.len b l (suc (length l)) (some_bytes t s (b ∷ l) k e) (omega arith) in
    rw e (ap (behind _) (rows_with (suc (length l)) k.time k.signals (drop k.len (b ∷ l)) less))

-- ---- the answer, where t rows are read already
abbrev pub read_from : ℕ → Option (List Signals) → ℕ → Result ℕ Refusal
read_from t None room = Err NoWave
read_from t (Some xs) room = cond (leb (2 * (1 + t + length xs)) room) (Ok (t + length xs)) (Err NoRoom)

pub from_first : (s : Signals) (f : Option (List Signals)) (room : ℕ) → read_as (behind (s ∷ []) f) room ≡ read_from 0 f room
from_first s None room = refl
from_first s (Some xs) room =
    let e : suc (length xs) - 1 ≡ 0 + length xs = omega arith in
    let d : 2 * suc (length xs) ≡ 2 * (1 + 0 + length xs) = omega arith in
    rw (e, d)

pub from_on : (t time : ℕ) (s x : Signals) (f : Option (List Signals)) (room : ℕ) → t < time
    → read_from t (behind (replicate (time - (t + 1)) s ++ (x ∷ [])) f) room ≡ read_from time f room
from_on t time s x None room h = refl
from_on t time s x (Some xs) room h =
    let rows = replicate (time - (t + 1)) s ++ (x ∷ []) in
    let n = length-append rows xs in
    let m = length-append (replicate (time - (t + 1)) s) (x ∷ []) in
    let r = length-replicate (time - (t + 1)) s in
    let e : t + length (rows ++ xs) ≡ time + length xs = omega (arith, n, m, r) in
    let d : 2 * (1 + t + length (rows ++ xs)) ≡ 2 * (1 + time + length xs) = omega (arith, e) in
    rw (e, d)

-- at the end
pub from_room : (t room : ℕ) → t < room / 2 → read_from t (Some []) room ≡ Ok t
from_room t room h =
    let e : t + 0 ≡ t = omega arith in
    rw (le-leb (2 * (1 + t + 0)) room (omega arith), e)

pub from_no_room : (t room : ℕ) → room / 2 ≤ t → read_from t (Some []) room ≡ Err NoRoom
from_no_room t room h = rw (lt-leb (2 * (1 + t + 0)) room (omega arith))

-- where nothing is refused there is room for what is read already
room_by : (b : Bool) (t n room : ℕ) → leb (2 * (1 + t + n)) room ≡ b → IsOk (cond b (Ok (t + n)) (Err NoRoom)) → 2 * (1 + t) ≤ room
room_by true t n room e h = omega (arith, leb-true (2 * (1 + t + n)) room e)
room_by false t n room e h = absurd (false≢true h)

pub taken_room : (t : ℕ) (f : Option (List Signals)) (room : ℕ) → IsOk (read_from t f room) → 2 * (1 + t) ≤ room
taken_room t None room h = absurd (false≢true h)
taken_room t (Some xs) room h = room_by (leb (2 * (1 + t + length xs)) room) t (length xs) room refl h
