-- Setup, run and drain with records by value: the records are the first `count` of an array of sixteen, and check 6 compares the count
-- itself. With a count of at most 16 this is machine's setup, run and drain of those records: proofs/Begins, ByValue and Draining.
use Rattle.std.specs.Prelude.{ℕ, ◌||◌, not, cond, List, [], ◌∷◌, ◌++◌, eqb, ltb, length, take, drop}
use Rattle.cell.specs.declared.pred.Pred.{Pred}
use Rattle.machine.specs.Names.{unsound, untidy, most_threads}
use Rattle.machine.specs.Refusals.{Check, gives, lowest}
use Rattle.machine.specs.Lists.{Lent, scripts_of, list_checks, beside}
use Rattle.machine.specs.Sound.{sound}
use Rattle.machine.specs.Setup.{fresh, setup_refusal}
use Rattle.machine.specs.Run.{entries, run, RunLeft, made_run, refused_run}
use Rattle.machine.specs.Tidy.{tidy, bound}
use Rattle.machine.specs.Drain.{DrainLeft, drain}
use Rattle.machine.specs.declared.Lock.{Lock}
use Rattle.machine.specs.declared.Rec.{Rec}

-- records put back into the array: elements past the count stay
abbrev pub put_back : ℕ → List Rec → List Rec → List Rec
put_back count recs l = l ++ drop count recs

-- ---- setup: the records afterwards
unfoldable pub setup_of : Pred → ℕ → ℕ → Lent → ℕ → List Rec → List Rec
setup_of q m v s count recs = cond (eqb (setup_refusal q m v s count) 0) (put_back count recs (fresh count)) recs

-- ---- run
abbrev pub run_checks_of : Lent → ℕ → Lock → List Rec → List Check
run_checks_of s count L l =
    list_checks s count
    ++ (gives unsound (eqb (length s.lens) 0 || (ltb most_threads (length s.lens) || not (sound (scripts_of s) L l))) ∷ [])

unfoldable pub run_refusal_of : Lent → ℕ → Lock → List Rec → ℕ
run_refusal_of s count L l = lowest (run_checks_of s count L l)

-- the array is recs
unfoldable pub run_of : Lent → ℕ → Lock → List Rec → List ℕ → ℕ → List ℕ → RunLeft
run_of s count L recs schedule budget trace =
    let l = take count recs in
    let k = run_refusal_of s count L l in
    let n = entries budget schedule trace in
    cond (eqb k 0) (made_run (beside s 0) n trace (run (scripts_of s) L l (take n schedule))) (refused_run (beside s k) L l trace)

-- ---- drain
abbrev pub drain_checks_of : Lent → ℕ → Lock → List Rec → List Check
drain_checks_of s count L l = run_checks_of s count L l ++ (gives untidy (not (tidy (scripts_of s) L l)) ∷ [])

unfoldable pub drain_refusal_of : Lent → ℕ → Lock → List Rec → ℕ
drain_refusal_of s count L l = lowest (drain_checks_of s count L l)

unfoldable pub drain_of : Lent → ℕ → Lock → List Rec → DrainLeft
drain_of s count L recs =
    let l = take count recs in
    let k = drain_refusal_of s count L l in
    let w = drain (scripts_of s) L l in
    cond (eqb k 0)
    (record { refusal = beside s 0; n = length w.made; lock = w.lock; recs = w.recs })
    (record { refusal = beside s k; n = 0; lock = L; recs = l })

-- the entries that drain takes at most: the plain cost and three a thread; 0 where it is refused
unfoldable pub bound_of : Lent → ℕ → Lock → List Rec → ℕ
bound_of s count L recs =
    let l = take count recs in
    cond (eqb (drain_refusal_of s count L l) 0) (bound (scripts_of s) l) 0
