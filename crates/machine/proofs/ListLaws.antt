-- The lent lists that are made of some scripts read back, by induction on the scripts.
use Prim.Native.Nat.{ℕ, zero, suc, ◌+◌, ◌<◌}
use native.Mathlib.Nat.{zero-add, add_assoc, not-suc-le-zero}
use mathlib.Core.Path.{◌≡◌, refl, sym, ap, ◌∙◌}
use mathlib.Core.List.{List, [], ◌∷◌, ◌++◌, map, flatten}
use lib.ListN.{length, get_or, length-append, length-map, get_or-map, get_or-append}
use lib.Seq.{get_or-append-add}
use Rattle.machine.specs.Lists.{total, start}
use Rattle.machine.specs.ListLaws.{Op, none, TotalReadsBack, LengthsReadBack, OperationsReadBack, ReadsBack}

total_flatten : (scripts : List (List Op)) → total (map length scripts) ≡ length (flatten scripts)
unfolding total flatten
total_flatten [] = refl
total_flatten (s ∷ more) = ap (λ (n : ℕ). length s + n) (total_flatten more) ∙ sym (length-append s (flatten more))

total_reads_back : TotalReadsBack
total_reads_back scripts = (
  total_flatten scripts ∙ sym (length-map (flatten scripts) (λ o. o.code)),
  total_flatten scripts ∙ sym (length-map (flatten scripts) (λ o. o.value)),
)

lengths_read_back : LengthsReadBack
lengths_read_back scripts t = get_or-map length scripts t []

-- where script t starts in the list of all operations
at_start : (scripts : List (List Op)) (t k : ℕ) → k < length (get_or scripts t [])
    → get_or (flatten scripts) (start (map length scripts) t + k) none ≡ get_or (get_or scripts t []) k none
unfolding total flatten
at_start [] t k h = absurd (not-suc-le-zero h)
at_start (s ∷ more) zero k h = ap (λ (n : ℕ). get_or (s ++ flatten more) n none) (zero-add k) ∙ get_or-append s (flatten more) none k h
at_start (s ∷ more) (suc t) k h =
    ap (λ (n : ℕ). get_or (s ++ flatten more) n none) (add_assoc (length s) (start (map length more) t) k)
    ∙ get_or-append-add s (flatten more) (start (map length more) t + k) none
    ∙ at_start more t k h

operations_read_back : OperationsReadBack
operations_read_back scripts t k h =
    let at = start (map length scripts) t + k in
    let same = at_start scripts t k h in (
      get_or-map (λ (o : Op). o.code) (flatten scripts) at none ∙ ap (λ (o : Op). o.code) same,
      get_or-map (λ (o : Op). o.value) (flatten scripts) at none ∙ ap (λ (o : Op). o.value) same,
    )

pub reads_back : ReadsBack
reads_back = (total_reads_back, lengths_read_back, operations_read_back)
