-- What the functions beside `count_rows` do with one row.
use Rattle.std.specs.Prelude.{ℕ, ◌+◌, ◌%◌, ◌^◌, Bool, cond, ◌&&◌, ◌||◌, List, length, ◌==◌, nat_lt, slice_index, slice_set}
use Rattle.machine.specs.Names.{exchanges_rc, gives_back, releases_rc}
use Rattle.machine.specs.declared.Row.{Row}

abbrev pub is_change : ℕ → Bool
is_change access = access == exchanges_rc || (access == gives_back || access == releases_rc)

-- one more for a thread, modulo 2^64, where it is asked and the list has a number for it
abbrev pub one_more : Bool → ℕ → List ℕ → List ℕ
one_more asked t cs = cond (asked && nat_lt t (length cs)) (slice_set cs t ((slice_index cs t + 1) % 2 ^ 64)) cs

abbrev pub with_row : (Row → Bool) → Row → List ℕ → List ℕ
with_row test r cs = one_more (test r) r.thread cs
