-- What two lists of records are once they have exchanged their first ones: the lent list, and an array of sixteen.
use Rattle.std.specs.Prelude.{ℕ, min, List, ◌++◌, length, take, drop}
use Rattle.machine.specs.Names.{most_threads}
use Rattle.machine.specs.declared.Rec.{Rec}

-- the first n of xs, before the rest of ys
abbrev pub front : ℕ → List Rec → List Rec → List Rec
front n xs ys = take n xs ++ drop n ys

-- how many records a lent list shares with an array of sixteen
abbrev pub shared : List Rec → ℕ
shared l = min (length l) most_threads
