-- A multiset of values is how many it has of each. Two with the same counts are equal, as the source's are.
use Rattle.std.specs.Prelude.{ℕ, ◌+◌, ◌-◌, cond, eqb}

abbrev pub Multiset : Type 0
Multiset = ℕ → ℕ

abbrev pub none : Multiset
none y = 0

-- += {x}
abbrev pub adding : ℕ → Multiset → Multiset
adding x m y = cond (eqb y x) (m y + 1) (m y)

-- -= {x}, of a multiset that has x
abbrev pub removing : ℕ → Multiset → Multiset
removing x m y = cond (eqb y x) (m y - 1) (m y)
