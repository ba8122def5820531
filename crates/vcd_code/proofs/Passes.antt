-- Both passes over the blocks: what was read so far and what is ahead are the whole. Assumes nothing.
use Prim.Native.Nat.{ℕ, ◌+◌, ◌-◌, ◌*◌, ◌/◌, ◌<◌, ◌≤◌}
use mathlib.Core.Bool.{Bool, true, false, cond, false≢true}
use mathlib.Core.Path.{◌≡◌, refl, sym, ap, ◌∙◌}
use mathlib.Core.List.{List, [], ◌∷◌, ◌++◌}
use native.Mathlib.Omega.{arith}
use borrow.Author.Tests.{eqb-true, eqb-false}
use lib.Dec.{eqb}
use lib.ListN.{length, drop, replicate, length-drop, length-append, length-replicate}
use lib.Seq.{sets}
use Rattle.std.specs.Prelude.{Option, None, Some, IsSome, ok_or, Result, Ok, Err, IsOk, is_ok}
use Rattle.scenario_text.specs.Put.{Put}
use Rattle.scenario_text.proofs.Stores.{sets_append}
use Rattle.vcd.specs.Blocks.{front, opening}
use Rattle.vcd.specs.Trace.{words}
use Rattle.vcd.specs.Read.{starts, block_at, behind, read_as, words_of, first_ahead, found, read, read_in}
use Rattle.vcd.specs.declared.Signals.{Signals}
use Rattle.vcd.specs.declared.Refusal.{Refusal}
use Rattle.vcd.specs.declared.Refusal.TheVariants.{NoRoom, NoWave}
use Rattle.vcd.specs.declared.Block.{Block}
use Rattle.vcd.proofs.Exact.{words_length}
use Rattle.vcd_code.proofs.Fills.{words_append}
use Rattle.vcd_code.proofs.BlocksOn.{starts_long, fits, later, some_bytes, rows_on, rows_with, bad_block, no_block, good_block, read_from, from_first, from_on, from_room, from_no_room, taken_room}

-- ---- whether something is left
pub some_left : (l : List ℕ) (empty : Bool) → empty ≡ eqb (length l) 0 → empty ≡ false → 0 < length l
some_left l empty e f =
    let some : length l ≡ 0 → ⊥ = eqb-false (length l) 0 (sym e ∙ f) in
    omega arith

pub none_left : (l : List ℕ) (empty : Bool) → empty ≡ eqb (length l) 0 → empty ≡ true → length l ≡ 0
none_left l empty e f = eqb-true (length l) 0 (sym e ∙ f)

-- ---- a block at the start of what is left
-- none, where that is an error
pub no_block_at : (o : Option Block) (e d : Refusal) → Err e ≡ ok_or o d → (o ≡ None) × (e ≡ d)
no_block_at None e d h = (refl, cc)
no_block_at (Some k) e d h = cc

pub bad_ends : (t : ℕ) (s : Signals) (l : List ℕ) (room : ℕ) → 0 < length l → block_at t s l ≡ None → read_from t (rows_on t s l) room ≡ Err NoWave
bad_ends t s l room some is = ap (λ (f : Option (List Signals)). read_from t f room) (bad_block t s l some is)

module _ (t : ℕ) (s : Signals) (l : List ℕ) (room : ℕ) (k : Block) (some : 0 < length l) (is : block_at t s l ≡ Some k) where
  pub stays_in : (t < k.time) × (1 ≤ k.len) × (k.len ≤ length l)
  stays_in = (later t s l k is, some_bytes t s l k is, fits t s l k is)

  pub read_on : read_from t (rows_on t s l) room ≡ read_from k.time (rows_on k.time k.signals (drop k.len l)) room
  read_on =
      ap (λ (f : Option (List Signals)). read_from t f room) (good_block t s l k some is)
      ∙ from_on t k.time s k.signals (rows_on k.time k.signals (drop k.len l)) room stays_in.0

-- nothing is left
module _ (t : ℕ) (s : Signals) (l : List ℕ) (over : length l ≡ 0) where
  pub reads : (room : ℕ) → t < room / 2 → read_from t (rows_on t s l) room ≡ Ok t
  reads room h = ap (λ (f : Option (List Signals)). read_from t f room) (no_block t s l over) ∙ from_room t room h

  pub reads_no_room : (room : ℕ) → room / 2 ≤ t → read_from t (rows_on t s l) room ≡ Err NoRoom
  reads_no_room room h = ap (λ (f : Option (List Signals)). read_from t f room) (no_block t s l over) ∙ from_no_room t room h

-- ---- the pass that stores
-- the signals of all rows, and those of time 0
abbrev pub all_of : Signals → List ℕ → Option (List Signals)
all_of s rest = behind (s ∷ []) (rows_on 0 s rest)

-- words in front of what is found, where nothing is refused
stored_front : (t room : ℕ) (xs : List Signals) (f : Option (List Signals)) (out : List ℕ) (p : ℕ) → IsOk (read_from t f room)
    → sets out p (words_of (behind xs f)) ≡ sets (sets out p (words xs)) (p + length (words xs)) (words_of f)
stored_front t room xs None out p h = absurd (false≢true h)
stored_front t room xs (Some ys) out p h = ap (sets out p) (words_append xs ys) ∙ sets_append (words xs) (words ys) out p

-- with l left, storing it here is storing all behind the signals of time 0
pub record Storing (first : Signals) (rest before out : List ℕ) (p t : ℕ) (s : Signals) (l : List ℕ) : Type 0 where
  pub size : length out ≡ length before
  pub place : p ≡ 2 * (t + 1)
  pub fits : IsOk (read_from t (rows_on t s l) (length before))
  pub same : sets before 2 (words_of (rows_on 0 first rest)) ≡ sets out p (words_of (rows_on t s l))

module _ (first : Signals) (rest before : List ℕ) (taken : IsOk (read_as (all_of first rest) (length before))) where
  fits_first : IsOk (read_from 0 (rows_on 0 first rest) (length before))
  fits_first = rw (← from_first first (rows_on 0 first rest) (length before)) taken

  pub room_first : 0 + 2 * (0 + 1) ≤ length before
  room_first = omega (arith, taken_room 0 (rows_on 0 first rest) (length before) fits_first)

  pub begins : Storing first rest before before 2 0 first rest
  begins = record { size = refl; place = omega arith; fits = fits_first; same = refl }

  -- behind the signals of time 0
  pub stored_all : (between after : List ℕ) (p : ℕ) → Put before 0 (words (replicate 0 first ++ (first ∷ []))) (2 * (0 + 1)) p between
      → after ≡ sets between 2 (words_of (rows_on 0 first rest)) → after ≡ sets before 0 (words_of (all_of first rest))
  stored_all between after p put e =
      let two : 2 ≡ 0 + length (words (first ∷ [])) = omega (arith, words_length (first ∷ [])) in
      let left : between ≡ sets before 0 (words (first ∷ [])) = put.left in
      e ∙ rw (two, left) (sym (stored_front 0 (length before) (first ∷ []) (rows_on 0 first rest) before 0 fits_first))

-- a block
module _ (first : Signals) (rest before out : List ℕ) (p t : ℕ) (s : Signals) (l : List ℕ) (g : Storing first rest before out p t s l)
    (some : 0 < length l) where
  some_by : (o : Option Block) → block_at t s l ≡ o → IsSome o
  some_by (Some k) e = refl
  some_by None e =
      let bad : false ≡ true = rw (bad_ends t s l (length before) some e) at g.fits in
      absurd (false≢true bad)

  pub some_block : IsSome (block_at t s l)
  some_block = some_by (block_at t s l) refl

  module _ (k : Block) (is : block_at t s l ≡ Some k) where
    fits_on : IsOk (read_from k.time (rows_on k.time k.signals (drop k.len l)) (length before))
    fits_on = rw (← read_on t s l (length before) k some is) g.fits

    pub inside : (t < k.time) × (1 ≤ k.len) × (k.len ≤ length l)
    inside = stays_in t s l (length before) k some is

    pub room_on : p + 2 * (k.time - t - 1 + 1) ≤ length out
    room_on = omega (arith, inside, g.place, g.size, taken_room k.time (rows_on k.time k.signals (drop k.len l)) (length before) fits_on)

    -- the rows of the block
    abbrev rows : List Signals
    rows = replicate (k.time - (t + 1)) s ++ (k.signals ∷ [])

    rows_length : length (words rows) ≡ 2 * (k.time - t)
    rows_length =
        omega (arith, inside.0, words_length rows, length-append (replicate (k.time - (t + 1)) s) (k.signals ∷ []), length-replicate (k.time - (t + 1)) s)

    pub one_more : (out2 : List ℕ) (p2 : ℕ) → Put out p (words (replicate (k.time - t - 1) s ++ (k.signals ∷ []))) (2 * (k.time - t - 1 + 1)) p2 out2
        → Storing first rest before out2 p2 k.time k.signals (drop k.len l)
    one_more out2 p2 put =
        let few : k.time - t - 1 ≡ k.time - (t + 1) = omega arith in
        let next : p2 ≡ p + length (words rows) = rw few at put.next in
        let left : out2 ≡ sets out p (words rows) = rw few at put.left in
        record {
          size = put.size ∙ g.size;
          place = omega (arith, next, rows_length, g.place, inside.0);
          fits = fits_on;
          same =
              g.same
              ∙ ap (λ (f : Option (List Signals)). sets out p (words_of f)) (good_block t s l k some is)
              ∙ rw (next, left) (stored_front k.time (length before) rows (rows_on k.time k.signals (drop k.len l)) out p fits_on);
        }

pub all_done : (first : Signals) (rest before out : List ℕ) (p t : ℕ) (s : Signals) (l : List ℕ) → Storing first rest before out p t s l → length l ≡ 0
    → out ≡ sets before 2 (words_of (rows_on 0 first rest))
unfolding words
all_done first rest before out p t s l g h = sym (g.same ∙ ap (λ (f : Option (List Signals)). sets out p (words_of f)) (no_block t s l h))

-- ---- the whole file
front_some : (s : Signals) → 1 ≤ length (front s)
unfolding front opening
front_some s = omega arith

module _ (file : List ℕ) (s : Signals) (is : s ≡ first_ahead file) where
  pub not_opened : starts (front s) file ≡ false → (out : List ℕ) → (Err NoWave ≡ read file (length out)) × (out ≡ read_in file out)
  unfolding read read_in found
  not_opened e out = rw (← is, e) (refl, refl)

  all_there : starts (front s) file ≡ true → found file ≡ all_of s (drop (length (front s)) file)
  unfolding found
  all_there e =
      let long = starts_long (front s) file e in
      let less : length (drop (length (front s)) file) < length file = omega (arith, front_some s, long, length-drop (length (front s)) file) in
      rw (← is, e) (ap (behind (s ∷ [])) (rows_with (length file) 0 s (drop (length (front s)) file) less))

  pub opened : starts (front s) file ≡ true → (rest : List ℕ) → rest ≡ drop (length (front s)) file
      → (out out2 : List ℕ) (r : Result ℕ Refusal) → r ≡ read_as (all_of s rest) (length out)
      → out2 ≡ cond (is_ok r) (sets out 0 (words_of (all_of s rest))) out → (r ≡ read file (length out)) × (out2 ≡ read_in file out)
  unfolding read read_in
  opened e rest there out out2 r f g =
      let all : found file ≡ all_of s rest = rw there (all_there e) in
      rw (all, ← f) (refl, g)
