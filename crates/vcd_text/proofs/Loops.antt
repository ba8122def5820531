-- How many digits a number has in binary, and one turn of the loop that stores them. Assumes nothing.
use Rattle.std.proofs.Common.{Bool, true, false, leb, leb-true, leb-false, ◌≡◌, ℕ, zero, suc, ◌*◌, arith, ◌+◌, ◌/◌, ◌%◌, ◌^◌, ◌<◌, ◌≤◌, List, length, set, ap}
use Rattle.std.proofs.Math.Nat.{pow-succ'}
use Rattle.std.proofs.Math.Pow.{pow_pos}
use lib.Seq.{sets}
use Rattle.scenario_text.proofs.Digits.{length_last}
use Rattle.scenario_text.proofs.Stores.{last_stored}
use Rattle.vcd.specs.Binary.{binary}
use Rattle.vcd.proofs.Bits.{bits_one, bits_more, bits_some}

pub length_more : (v : ℕ) → 2 ≤ v → v < 2 ^ 64 → length (binary v) ≡ length (binary (v / 2)) + 1
length_more v h g = length_last (binary (v / 2)) (48 + v % 2) (bits_more v h g)

pub length_one : (v : ℕ) → v < 2 → length (binary v) ≡ 1
length_one v h = ap length (bits_one v h)

-- one digit more than the power of two that it reaches
pub length_at : (j v : ℕ) → 2 ^ j ≤ v → v < 2 * 2 ^ j → v < 2 ^ 64 → length (binary v) ≡ j + 1
length_at zero v h g f = length_one v (omega arith)
length_at (suc j) v h g f =
    let more : 2 ^ suc j ≡ 2 * 2 ^ j = pow-succ' 2 j in
    let some : 1 ≤ 2 ^ j = pow_pos j in
    omega (arith, length_more v (omega arith) f, length_at j (v / 2) (omega arith) (omega arith) (omega arith))

-- a digit, and the digits before it
pub bit_stored : (l : List ℕ) (at p w d : ℕ) → 2 ≤ w → w < 2 ^ 64 → p ≡ at + length (binary (w / 2)) → d ≡ 48 + w % 2
    → sets l at (binary w) ≡ sets (set l p d) at (binary (w / 2))
bit_stored l at p w d h g e f = last_stored (binary (w / 2)) l at p (48 + w % 2) d (bits_more w h g) e f

pub first_stored : (l : List ℕ) (at p w d : ℕ) → w < 2 → p ≡ at → d ≡ 48 + w % 2 → sets l at (binary w) ≡ set l p d
first_stored l at p w d h e f =
    let only : d ≡ 48 + w = omega (arith, f) in
    rw (bits_one w h, e, only)

-- more digits than one, and one
pub two_by : (w : ℕ) (t : Bool) → leb 2 w ≡ t → 2 ≤ length (binary w) → 2 ≤ w
two_by w true e h = leb-true 2 w e
two_by w false e h = absurd (omega (arith, length_one w (leb-false 2 w e)))

pub one_by : (w : ℕ) (t : Bool) → leb 2 w ≡ t → w < 2 ^ 64 → length (binary w) ≡ 1 → w < 2
one_by w true e f h = absurd (omega (arith, length_more w (leb-true 2 w e) f, bits_some (w / 2)))
one_by w false e f h = leb-false 2 w e
