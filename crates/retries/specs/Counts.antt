-- Counting piece after piece, in lists with a number for each thread: numbers of 64 bits, as code has them.
use Rattle.std.specs.Prelude.{ℕ, zero, suc, ◌+◌, ◌%◌, ◌^◌, ◌<◌, ◌≡◌, Bool, ◌&&◌, List, [], ◌∷◌, ◌++◌, get_or, replicate}
use Rattle.retries.specs.Rows.{counted}
use Rattle.machine.specs.declared.Row.{Row}
use Rattle.retries.specs.Retries.{by}

-- k times one more, modulo 2^64
unfoldable pub up_by : ℕ → ℕ → ℕ
up_by zero c = c
up_by (suc k) c = up_by k ((c + 1) % 2 ^ 64)

-- the numbers of the threads from t on, each with its thread's rows of which a test holds
unfoldable pub with_rows : (Row → Bool) → ℕ → List ℕ → List Row → List ℕ
with_rows test t [] rows = []
with_rows test t (c ∷ cs) rows = up_by (counted (λ r. test r && by t r) rows) c ∷ with_rows test (t + 1) cs rows

-- ---- what is claimed
-- rows may be cut anywhere: the second part is counted on from what the first leaves
abbrev pub CutAnywhere : Type 0
CutAnywhere =
    (test : Row → Bool) (t : ℕ) (cs : List ℕ) (rows more : List Row) → with_rows test t cs (rows ++ more) ≡ with_rows test t (with_rows test t cs rows) more

-- a number of 64 bits with k ones more
abbrev pub UpIsSum : Type 0
UpIsSum = (k c : ℕ) → c < 2 ^ 64 → up_by k c ≡ (c + k) % 2 ^ 64

-- from nothing, each thread's number is that of its rows, modulo 2^64
abbrev pub FromNothing : Type 0
FromNothing =
    (test : Row → Bool) (n : ℕ) (rows : List Row) (t : ℕ) → t < n
    → get_or (with_rows test 0 (replicate n 0) rows) t 0 ≡ counted (λ r. test r && by t r) rows % 2 ^ 64
