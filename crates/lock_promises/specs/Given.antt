-- What the functions of `lock` give, in the words of the promises: what is returned, and what stands in the trace list afterwards. `Cited`
-- says that these are what the functions' contracts say.
use Rattle.std.specs.Prelude.{ℕ, ◌≡◌, List, Option, None, Some}
use Rattle.cell.specs.declared.pred.Pred.{Pred}
use Rattle.machine.specs.Lists.{Lent}
use Rattle.machine.specs.declared.Lock.{Lock}
use Rattle.machine.specs.declared.Rec.{Rec}
use Rattle.machine.specs.declared.Refusal.{Refusal}
use Rattle.lock.specs.ByValue.{run_of, drain_of}
use Rattle.lock.specs.Run.{ran_of, rest_of, rest_trace}
use Rattle.lock.specs.Setup.{begun_of}
use Rattle.lock.specs.Drain.{drained_of}
use Rattle.lock.specs.declared.run.RunReturn.{RunReturn}
use Rattle.lock.specs.declared.setup.Begun.{Begun}
use Rattle.lock.specs.declared.drain.DrainReturn.{DrainReturn}

-- the refusal that is told; where none is, the one of the number 0
abbrev pub refusal_in : Option Refusal → Refusal
refusal_in None = record { number = 0; thread = 0; place = 0 }
refusal_in (Some why) = why

module _ (s : Lent) where
  abbrev pub ReturnedBySetup : Pred → ℕ → ℕ → ℕ → List Rec → Begun → Type 0
  ReturnedBySetup q m v count recs b = b ≡ begun_of q m v s count recs

  abbrev pub ReturnedByRun : ℕ → Lock → List Rec → List ℕ → ℕ → List ℕ → RunReturn → Type 0
  ReturnedByRun count L recs schedule budget trace r = r ≡ ran_of count recs (run_of s count L recs schedule budget trace)

  abbrev pub LeftByRun : ℕ → Lock → List Rec → List ℕ → ℕ → List ℕ → List ℕ → Type 0
  LeftByRun count L recs schedule budget trace trace' = trace' ≡ (run_of s count L recs schedule budget trace).trace

  abbrev pub ReturnedByRest : ℕ → Lock → List Rec → List ℕ → ℕ → ℕ → List ℕ → RunReturn → Type 0
  ReturnedByRest count L recs schedule budget used trace r = r ≡ ran_of count recs (rest_of s count L recs schedule budget used trace)

  abbrev pub LeftByRest : ℕ → Lock → List Rec → List ℕ → ℕ → ℕ → List ℕ → List ℕ → Type 0
  LeftByRest count L recs schedule budget used trace trace' = trace' ≡ rest_trace s count L recs schedule budget used trace

  abbrev pub ReturnedByDrain : ℕ → Lock → List Rec → DrainReturn → Type 0
  ReturnedByDrain count L recs d = d ≡ drained_of count recs (drain_of s count L recs)
