-- What the functions give, in the words of the promises. `Cited` says that this is what their contracts say.
use Rattle.std.specs.Prelude.{ℕ, ◌≡◌, List, Result}
use Rattle.machine.specs.Lists.{Lent}
use Rattle.machine.specs.declared.Lock.{Lock}
use Rattle.machine.specs.declared.Rec.{Rec}
use Rattle.why.specs.Told.{told_lent, numbers_of}
use Rattle.why.specs.declared.Reason.{Reason}
use Rattle.machine.specs.declared.Refusal.{Refusal}
use Rattle.why.specs.declared.Numbers.{Numbers}
use Rattle.why_code.specs.ByValue.{told_of}

-- with the records by value: the first `count` of an array
abbrev pub ToldByValue : Lent → ℕ → Lock → List Rec → ℕ → Result Reason Refusal → Type 0
ToldByValue s count L recs i r = r ≡ told_of s count L recs i

-- over a lent list of records
abbrev pub ToldOfList : Lent → Lock → List Rec → ℕ → Result Reason Refusal → Type 0
ToldOfList s L l i r = r ≡ told_lent s L l i

-- the numbers of an answer
abbrev pub NumbersGiven : Result Reason Refusal → Numbers → Type 0
NumbersGiven told n = n ≡ numbers_of told
