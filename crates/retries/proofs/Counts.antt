-- Counts of rows piece after piece. Assumes nothing.
use Prim.Native.Nat.{ℕ, zero, suc, ◌+◌, ◌%◌, ◌^◌, ◌<◌}
use mathlib.Core.Path.{◌≡◌, refl, ap, ◌∙◌}
use mathlib.Core.Bool.{Bool, ◌&&◌}
use mathlib.Core.List.{List, [], ◌∷◌, ◌++◌}
use native.Mathlib.Omega.{arith}
use lib.ListN.{get_or, replicate}
use Rattle.retries.specs.Rows.{counted}
use Rattle.machine.specs.declared.Row.{Row}
use Rattle.retries.proofs.Rows.{counted_append}
use Rattle.retries.specs.Retries.{by}
use Rattle.retries.specs.Counts.{up_by, with_rows, CutAnywhere, UpIsSum, FromNothing}

up_sum : (a b c : ℕ) → up_by (a + b) c ≡ up_by b (up_by a c)
unfolding up_by
up_sum zero b c = let e : 0 + b ≡ b = omega arith in rw e refl
up_sum (suc a) b c = let e : suc a + b ≡ suc (a + b) = omega arith in rw e (up_sum a b ((c + 1) % 2 ^ 64))

pub up_is_sum : UpIsSum
unfolding up_by
up_is_sum zero c h = omega arith
up_is_sum (suc k) c h = omega (arith, up_is_sum k ((c + 1) % 2 ^ 64) (omega arith))

pub cut_anywhere : CutAnywhere
unfolding with_rows
cut_anywhere test t [] rows more = refl
cut_anywhere test t (c ∷ cs) rows more =
    let own : Row → Bool = λ r. test r && by t r in
    let head : up_by (counted own (rows ++ more)) c ≡ up_by (counted own more) (up_by (counted own rows) c) =
    ap (λ (k : ℕ). up_by k c) (counted_append own rows more) ∙ up_sum (counted own rows) (counted own more) c
    in
    λ j. head j ∷ cut_anywhere test (t + 1) cs rows more j

at_thread : (test : Row → Bool) (k n : ℕ) (rows : List Row) (t : ℕ) → t < n
    → get_or (with_rows test k (replicate n 0) rows) t 0 ≡ counted (λ r. test r && by (k + t) r) rows % 2 ^ 64
unfolding with_rows
at_thread test k zero rows t h = absurd (omega arith)
at_thread test k (suc n) rows zero h =
    let e : k + 0 ≡ k = omega arith in
    rw e (omega (arith, up_is_sum (counted (λ r. test r && by k r) rows) 0 (omega arith)))
at_thread test k (suc n) rows (suc t) h =
    let e : k + suc t ≡ k + 1 + t = omega arith in
    rw e (at_thread test (k + 1) n rows t (omega arith))

pub from_nothing : FromNothing
from_nothing test n rows t h = let e : 0 + t ≡ t = omega arith in rw e at (at_thread test 0 n rows t h)
