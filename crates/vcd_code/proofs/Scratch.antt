-- The text of a block or of the opening, stored in a list of its own, is the start of that list. Assumes nothing.
use Prim.Native.Nat.{ℕ, ◌+◌, ◌≤◌}
use mathlib.Core.Bool.{Bool, true, false, cond, not, ◌&&◌, ◌||◌}
use mathlib.Core.Path.{◌≡◌, refl}
use mathlib.Core.List.{List, ◌++◌}
use native.Mathlib.Omega.{arith}
use lib.Dec.{ltb, leb}
use lib.ListN.{length, take, drop, replicate}
use lib.Seq.{sets-eq, take-append_seam}
use Rattle.scenario_text.specs.Put.{Put, stored, place_after}
use Rattle.scenario_text.proofs.Stores.{both}
use Rattle.vcd.specs.Blocks.{time_line, front, same, changed, time_bytes, changed_bytes, front_bytes}
use Rattle.vcd.specs.Trace.{most_rows}
use Rattle.std.specs.Prelude.{Some, None}
use Rattle.std.specs.Bool.{then_some}
use Rattle.vcd.specs.declared.Block.{Block}
use Rattle.vcd.specs.Read.{digits_ahead, signals_ahead, starts, block_at}
use Rattle.vcd.specs.declared.Signals.{Signals}
use Rattle.vcd.proofs.Laws.{short}
use Rattle.vcd_text.proofs.Puts.{placed}

-- ---- what is stored at the start
text_there : {l x after : List ℕ} {most k : ℕ} → Put l 0 x most k after → length x ≤ length l → take k after ≡ x
text_there {l} {x} {after} {most} {k} p h =
    let e : k ≡ length x = omega (arith, p.next) in
    let start : 0 + length x ≡ length x = omega arith in
    rw (p.left, e, sets-eq x l 0 (rw start h), start) (take-append_seam x (drop (length x) l))

-- ---- a block
module _ (s x : Signals) (time n len : ℕ) (between after : List ℕ)
    (next : n ≡ place_after time_bytes (replicate 93 0) 0 (time_line time)) (left : between ≡ stored time_bytes (replicate 93 0) 0 (time_line time))
    (next2 : len ≡ place_after changed_bytes between n (changed s x)) (left2 : after ≡ stored changed_bytes between n (changed s x)) where
  abbrev block : List ℕ
  block = time_line time ++ changed s x

  one : Put (replicate 93 0) 0 (time_line time) time_bytes n between
  one = placed (replicate 93 0) between (time_line time) 0 n time_bytes (omega arith) (short.0 time) next left

  two : Put (replicate 93 0) 0 block (time_bytes + changed_bytes) len after
  two = both one (placed between after (changed s x) n len changed_bytes (omega (arith, one.size, one.room)) (short.1 s x) next2 left2)

  time_place : n ≡ length (time_line time)
  time_place = omega (arith, one.next)

  block_place : len ≡ length block
  block_place = omega (arith, two.next)

  pub block_room : len ≤ length after
  block_room = omega (arith, two.room, two.size)

  block_there : take len after ≡ block
  block_there = text_there two (omega (arith, two.room, two.next))

  -- where the bytes ahead say that time and those signals, it is the block there
  pub block_is : (t : ℕ) (l : List ℕ) (still good : Bool) → time ≡ digits_ahead 0 (drop 1 l) → x ≡ signals_ahead s (drop n l) → still ≡ same s x
      → good ≡ (starts (take len after) l && (ltb t time && (leb time most_rows && (not still || leb (length l) (length (take len after))))))
      → cond good (Some (record { time = time; signals = x; len = len })) None ≡ block_at t s l
  unfolding block_at
  block_is t l still good e f g h = rw (h, block_there, g, block_place, f, time_place, e)

pub told_some : (good : Bool) (k : Block) → then_some good k ≡ cond good (Some k) None
told_some true k = refl
told_some false k = refl

-- ---- the opening
module _ (s : Signals) (n : ℕ) (after : List ℕ)
    (next : n ≡ place_after front_bytes (replicate 215 0) 0 (front s)) (left : after ≡ stored front_bytes (replicate 215 0) 0 (front s)) where
  opens : Put (replicate 215 0) 0 (front s) front_bytes n after
  opens = placed (replicate 215 0) after (front s) 0 n front_bytes (omega arith) (short.3 s) next left

  front_place : n ≡ length (front s)
  front_place = omega (arith, opens.next)

  pub front_room : n ≤ length after
  front_room = omega (arith, opens.room, opens.size)

  pub front_there : take n after ≡ front s
  front_there = text_there opens (omega (arith, opens.room, opens.next))
