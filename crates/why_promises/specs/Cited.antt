-- The premises of the promises are what the functions say: each statement cites a function's own contract, so that a change of the contract is a
-- change here. The lists are lent to be read only, so that none of them can change.
use Rattle.machine.specs.Lists.{lent}
use Rattle.says.specs.Says.{Says}
use Rattle.why_code.specs.contracts.why as by_value
use Rattle.why_code.specs.contracts.numbers_of as numbers
use Rattle.why_lent.specs.contracts.why as lent
use Rattle.why_promises.specs.Given.{ToldByValue, ToldOfList, NumbersGiven}

abbrev pub WhyCited : Type 2
WhyCited =
    Says by_value.ended (λ M 𝓤. by_value.clauses) (λ κs a r e.
    let (lists, (lock, (recs, (count, (thread, end))))) = a in
    ToldByValue (lent lists) count lock recs thread r)

abbrev pub WhyLentCited : Type 2
WhyLentCited =
    Says lent.ended (λ M 𝓤. lent.clauses) (λ κs a r e.
    let (lists, (lock, (recs, (thread, end)))) = a in
    ToldOfList (lent lists) lock recs.now thread r)

abbrev pub NumbersCited : Type 2
NumbersCited = Says numbers.ended (λ M 𝓤. numbers.clauses) (λ κs a r e. let (told, end) = a in NumbersGiven told r)
