-- `run_there` meets its contract: the rows are lent on from a place, and come back with what the run made of them there. Assumes nothing.
use Rattle.std.proofs.Common.{ℕ, List, length, refl, ap, ◌∙◌, arith}
use Rattle.machine.specs.Lists.{lent}
use Rattle.lock.specs.ByValue.{run_of}
use Rattle.lock.specs.Run.{ran_of}
use Rattle.lock.proofs.Tail.{tail_is, tail_put}
use Rattle.scenario_pieces.specs.Piece.{most_entries}
use Rattle.scenario_pieces.proofs.Piece.{few, piece_told}
use Rattle.scenario_pieces.proofs.run_there.Goals as goal

pub overflow_mul-result : goal.overflow_mul-result
overflow_mul-result c =
    let a = c.args in
    let s = lent a.lists in
    let run = λ (l : List ℕ). ran_of (length s.lens) a.s.recs (run_of s (length s.lens) a.s.lock a.s.recs a.entries.now most_entries l) in
    omega (arith, few s a.s a.entries.now a.rows.now a.at c.requires _ (c.run-done.ensures.value ∙ ap run (tail_is a.at a.rows.now)), c.requires, c.well_formed)

pub overflow_add-result : goal.overflow_add-result
overflow_add-result c =
    let a = c.args in
    let s = lent a.lists in
    let run = λ (l : List ℕ). ran_of (length s.lens) a.s.recs (run_of s (length s.lens) a.s.lock a.s.recs a.entries.now most_entries l) in
    omega (arith, few s a.s a.entries.now a.rows.now a.at c.requires _ (c.run-done.ensures.value ∙ ap run (tail_is a.at a.rows.now)), c.requires, c.well_formed)

pub returns : goal.returns
returns c =
    let a = c.args in
    let s = lent a.lists in
    let ran = c.run-done.ensures in
    let part = tail_is a.at a.rows.now in
    let left = λ (l : List ℕ). run_of s (length s.lens) a.s.lock a.s.recs a.entries.now most_entries l in
    let is = ran.value ∙ ap (λ (l : List ℕ). ran_of (length s.lens) a.s.recs (left l)) part in
    let trace_is = ran.trace_after ∙ ap (λ (l : List ℕ). (left l).trace) part in
    let told = piece_told s a.s a.entries.now a.rows.now a.at c.requires _ _ is trace_is _ refl _ (tail_put a.at a.rows.now _) in
    record { value = told.0; rows_after = told.1 }
