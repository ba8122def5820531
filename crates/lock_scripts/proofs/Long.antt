-- The first long thread, searched for by a thread's number, is where the list's first long length stands.
use Prim.Native.Nat.{ℕ, zero, suc, ◌+◌, ◌<◌, ◌≤◌}
use mathlib.Core.Path.{◌≡◌, refl, sym, ◌∙◌}
use mathlib.Core.Bool.{Bool, true, false, cond}
use mathlib.Core.List.{List}
use native.Mathlib.Omega.{arith}
use lib.Dec.{ltb}
use lib.ListN.{length, get_or}
use Rattle.std.specs.List.{position_or_len}
use Rattle.std.specs.Prelude.{position, None, Some}
use Rattle.std.proofs.lemmas.List.Sums.{position_or_len_is}
use Rattle.machine.specs.Names.{longest_script}
use Rattle.machine.specs.Lists.{find, long_thread}
use Rattle.machine.proofs.Find.{found, first}
use Rattle.lock_scripts.proofs.Finds.{below_some, below_none}

-- a search doesn't leave its numbers
within : (test : ℕ → Bool) (at left : ℕ) → find test at left ≤ at + left
unfolding find
within test at zero = omega arith
within test at (suc left) = go (test at) (within test (at + 1) left)
  where
    go : (b : Bool) → find test (at + 1) left ≤ at + 1 + left → cond b at (find test (at + 1) left) ≤ at + suc left
    go true h = omega arith
    go false h = omega arith

module _ (lens : List ℕ) where
  abbrev long : ℕ → Bool
  long n = ltb longest_script n

  in_list : long_thread lens ≤ length lens
  in_list = omega (arith, within (λ t. long (get_or lens t 0)) 0 (length lens))

  before : (k : ℕ) → k < long_thread lens → long (get_or lens k 0) ≡ false
  before k h = go (long (get_or lens k 0)) refl
    where
      go : (b : Bool) → long (get_or lens k 0) ≡ b → b ≡ false
      go true e = absurd (omega (arith, in_list, first (λ t. long (get_or lens t 0)) (length lens) k (omega (arith, in_list)) e))
      go false e = refl

  same : position_or_len long lens ≡ long_thread lens
  same = position_or_len_is long lens (long_thread lens) 0 in_list before (found (λ t. long (get_or lens t 0)) (length lens))

  pub long_there : (t : ℕ) → position long lens ≡ Some t → (long_thread lens ≡ t) × (t < length lens)
  long_there t e =
      let f = below_some (length lens) (position_or_len long lens) t e in (sym same ∙ f.1, rw f.1 at f.0)

  pub none_long : position long lens ≡ None → length lens ≤ long_thread lens
  none_long e = rw same at (below_none (length lens) (position_or_len long lens) e)
