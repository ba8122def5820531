-- What is gathered ahead is one bit and 64 bits, whatever stands there. Assumes nothing.
use Prim.Native.Nat.{ℕ, ◌+◌, ◌*◌, ◌-◌, ◌^◌, ◌<◌, ◌≤◌}
use mathlib.Core.Bool.{Bool, true, false, ◌||◌, ◌&&◌, cond}
use mathlib.Core.Path.{◌≡◌, refl}
use mathlib.Core.List.{List, [], ◌∷◌}
use native.Mathlib.Omega.{arith}
use borrow.Author.Tests.{eqb-true, ltb-true}
use lib.Dec.{eqb, ltb}
use lib.ListN.{get_or, drop}
use Rattle.std.proofs.lemmas.Bool.{and_parts}
use Rattle.vcd.specs.Binary.{is_bit}
use Rattle.vcd.specs.Trace.{Wired}
use Rattle.vcd.specs.Read.{bits_ahead, behind_exc, signals_ahead}
use Rattle.vcd.specs.declared.Signals.{Signals}

-- ---- one bit
bit_by : (t : Bool) (b : ℕ) → eqb b 48 ≡ t → (t || eqb b 49) ≡ true → b - 48 ≤ 1
bit_by true b e h = omega (arith, eqb-true b 48 e)
bit_by false b e h = omega (arith, eqb-true b 49 h)

bit_value : (b : ℕ) → is_bit b ≡ true → b - 48 ≤ 1
bit_value b h = bit_by (eqb b 48) b refl h

exc_by : (t : Bool) (was b : ℕ) → is_bit b ≡ t → was ≤ 1 → cond t (b - 48) was ≤ 1
exc_by true was b e h = bit_value b e
exc_by false was b e h = h

-- ---- 64 bits
bits_by : (t : Bool) (v b x : ℕ) → (is_bit b && ltb v (2 ^ 63)) ≡ t → v < 2 ^ 64 → (v * 2 + (b - 48) < 2 ^ 64 → x < 2 ^ 64) → cond t x v < 2 ^ 64
bits_by true v b x e h k =
    let one : b - 48 ≤ 1 = bit_value b (and_parts (is_bit b) (ltb v (2 ^ 63)) e).0 in
    k (omega (arith, ltb-true v (2 ^ 63) (and_parts (is_bit b) (ltb v (2 ^ 63)) e).1, one))
bits_by false v b x e h k = h

bits_wide : (v : ℕ) (l : List ℕ) → v < 2 ^ 64 → bits_ahead v l < 2 ^ 64
unfolding bits_ahead
bits_wide v [] h = h
bits_wide v (b ∷ l) h = bits_by (is_bit b && ltb v (2 ^ 63)) v b (bits_ahead (v * 2 + (b - 48)) l) refl h (λ g. bits_wide (v * 2 + (b - 48)) l g)

rc_by : (t : Bool) (was x : ℕ) → was < 2 ^ 64 → x < 2 ^ 64 → cond t x was < 2 ^ 64
rc_by true was x h g = g
rc_by false was x h g = h

-- ---- both signals
pub wired_ahead : (s : Signals) (l : List ℕ) → Wired s → Wired (signals_ahead s l)
unfolding signals_ahead
wired_ahead s l w = record {
  one = exc_by (is_bit (get_or l 0 0)) s.exc (get_or l 0 0) refl w.one;
  wide = rc_by (eqb (get_or (behind_exc l) 0 0) 98) s.rc (bits_ahead 0 (drop 1 (behind_exc l))) w.wide (bits_wide 0 (drop 1 (behind_exc l)) (omega arith));
}
