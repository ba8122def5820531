-- A number in binary: one digit, or the digits of half of it and one more; from 1 to 64 digits. Assumes nothing.
use Prim.Native.Nat.{ℕ, ◌+◌, ◌/◌, ◌%◌, ◌^◌, ◌<◌, ◌≤◌}
use mathlib.Core.Path.{◌≡◌}
use mathlib.Core.List.{[], ◌∷◌, ◌++◌}
use native.Mathlib.Omega.{arith}
use lib.ListN.{length}
use Rattle.scenario_text.proofs.Digits.{one_digit, more_digits, short, some}
use Rattle.vcd.specs.Binary.{binary}

pub bits_one : (v : ℕ) → v < 2 → binary v ≡ (48 + v) ∷ []
unfolding binary
bits_one v h = one_digit 2 63 v h

pub bits_more : (v : ℕ) → 2 ≤ v → v < 2 ^ 64 → binary v ≡ binary (v / 2) ++ ((48 + v % 2) ∷ [])
unfolding binary
bits_more v h g = more_digits 2 (omega arith) 62 v h g

pub bits_short : (v : ℕ) → length (binary v) ≤ 64
unfolding binary
bits_short v = short 2 64 v

pub bits_some : (v : ℕ) → 1 ≤ length (binary v)
unfolding binary
bits_some v = some 2 63 v
