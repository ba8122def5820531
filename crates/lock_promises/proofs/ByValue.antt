-- With records by value, the first `count` records of the array are reached as a list of records; the array keeps its length.
use Rattle.lock_promises.proofs.Refusing.{none_number}
use Prim.Native.Nat.{ℕ, ◌*◌, ◌≤◌}
use mathlib.Core.Path.{◌≡◌, refl, sym, ap, ◌∙◌}
use mathlib.Core.List.{List, [], ◌++◌}
use native.Mathlib.Omega.{arith}
use lib.ListN.{length, take, drop, length-replicate}
use lib.Seq.{length-take-le, length_front, take_at}
use Rattle.cell.specs.declared.pred.Pred.{Pred}
use Rattle.machine.specs.Names.{most_threads, row_words}
use Rattle.machine.specs.Words.{unbegun}
use Rattle.machine.specs.Lists.{Lent, scripts_of}
use Rattle.machine.specs.Setup.{fresh, setup, setup_refusal}
use Rattle.machine.specs.Run.{run, run_lent}
use Rattle.machine.specs.Drain.{Order, drain_lent}
use Rattle.machine.specs.declared.Lock.{Lock}
use Rattle.machine.specs.declared.Rec.{Rec}
use Rattle.machine.specs.declared.Row.{Row}
use Rattle.std.specs.Prelude.{Ok, None}
use Rattle.lock.specs.ByValue.{put_back, setup_of, run_of, drain_of}
use Rattle.lock.specs.Run.{ran_of, rest_of, rest_trace}
use Rattle.lock.specs.Setup.{begun_of}
use Rattle.lock.specs.Drain.{drained_of}
use Rattle.lock.specs.declared.run.RunReturn.{RunReturn}
use Rattle.lock.specs.declared.setup.Begun.{Begun}
use Rattle.lock.specs.declared.drain.DrainReturn.{DrainReturn}
use Rattle.lock.proofs.Begins.{count_most, setup_first}
use Rattle.lock.proofs.ByValue.{run_by_value, no_room_lem}
use Rattle.lock.proofs.Draining.{drain_by_value}
use Rattle.lock_promises.specs.Reached.{rows_in, Reached, ReachedByValue}
use Rattle.lock_promises.proofs.Rows.{later_rows}
use Rattle.lock_promises.proofs.Drains.{accepted_drain}
use Rattle.lock_promises.proofs.Reached.{made_none, same_size, comes}

-- records put back into the array: as many as were taken out
pub put_back_length : (count : ℕ) (recs l : List Rec) → count ≤ length recs → length l ≡ count → length (put_back count recs l) ≡ length recs
put_back_length count recs l few size = length_front recs l count (size ∙ sym (length-take-le count recs few))

-- the first records of the array, as a list of records
pub record FirstRecords (s : Lent) (q : Pred) (m v count : ℕ) (L : Lock) (recs : List Rec) (rows : List Row) : Type 0 where
  pub wide : length recs ≡ most_threads
  pub few : count ≤ most_threads
  pub reached : Reached s q m v L (take count recs) rows

module _ (s : Lent) (q : Pred) (m v count : ℕ) where
  at_setup : (recs : List Rec) (b : Begun) (L : Lock) → length recs ≡ most_threads → b ≡ begun_of q m v s count recs → b.start ≡ Ok L
      → FirstRecords s q m v count L b.recs []
  unfolding setup_of
  at_setup recs b L wide is made =
      let start : setup q m v s count ≡ Ok L = rw is at made in
      let none : setup_refusal q m v s count ≡ 0 = (made_none s q m v count L start).0 in
      let few : count ≤ most_threads = count_most q m v s count none in
      let enough : count ≤ length recs = omega arith in
      let size : length (take count recs) ≡ count = length-take-le count recs enough in
      record {
        wide = rw (is, none) (put_back_length count recs (fresh count) enough (length-replicate count unbegun) ∙ wide);
        few = few;
        reached = rw (is, setup_first q m v s count recs enough) (Reached.begun (take count recs) L (rw size start));
      }

  one_more : {L : Lock} {recs : List Rec} {rows : List Row} → FirstRecords s q m v count L recs rows
      → (schedule : List ℕ) (budget : ℕ) (trace : List ℕ) (r : RunReturn) (trace' : List ℕ)
      → r ≡ ran_of count recs (run_of s count L recs schedule budget trace) → trace' ≡ (run_of s count L recs schedule budget trace).trace
      → FirstRecords s q m v count r.ran.lock r.recs (rows ++ rows_in r.ran.n trace')
  one_more {L} {recs} {rows} f schedule budget trace r trace' is trace_is =
      let left = run_lent s L (take count recs) schedule budget trace in
      let enough : count ≤ length recs = omega (arith, f.wide, f.few) in
      let size : length left.recs ≡ count = same_size s q m v (comes f.reached) schedule budget trace ∙ length-take-le count recs enough in
      let same = run_by_value s count L recs schedule budget trace f.few f.wide in
      record {
        wide = rw (is, same) (put_back_length count recs left.recs enough size ∙ f.wide);
        few = f.few;
        reached = rw (is, trace_is, same, take_at left.recs (drop count recs) count size) (Reached.ran f.reached schedule budget trace left refl);
      }

  drain_more : {L : Lock} {recs : List Rec} {rows : List Row} → FirstRecords s q m v count L recs rows
      → (d : DrainReturn) (es : List ℕ) → d ≡ drained_of count recs (drain_of s count L recs) → d.drained.refusal ≡ None
      → Order (scripts_of s) L (take count recs) es d.drained.lock (take count d.recs)
      → FirstRecords s q m v count d.drained.lock d.recs (rows ++ (run (scripts_of s) L (take count recs) es).rows)
  drain_more {L} {recs} {rows} f d es is none order =
      let l = take count recs in
      let left = drain_lent s L l in
      let enough : count ≤ length recs = omega (arith, f.wide, f.few) in
      let all = is ∙ ap (drained_of count recs) (drain_by_value s count L recs enough) in
      let no_number : left.refusal.number ≡ 0 = none_number left.refusal (sym (ap (λ (x : DrainReturn). x.drained.refusal) all) ∙ none) in
      let size : length left.recs ≡ count = (accepted_drain s L l left refl no_number).size ∙ length-take-le count recs enough in
      let first = take_at left.recs (drop count recs) count size in
      record {
        wide = rw all (put_back_length count recs left.recs enough size ∙ f.wide);
        few = f.few;
        reached = rw (all, first) (Reached.drained f.reached left es refl no_number (rw (all, first) at order));
      }

-- the rows of a later piece are those of the run into the rest of the trace list
rest_rows : (s : Lent) (count : ℕ) (L : Lock) (recs : List Rec) (schedule : List ℕ) (budget used : ℕ) (trace : List ℕ) (r : RunReturn) (trace' : List ℕ)
    → r ≡ ran_of count recs (rest_of s count L recs schedule budget used trace) → trace' ≡ rest_trace s count L recs schedule budget used trace
    → rows_in r.ran.n (drop (row_words * used) trace') ≡ rows_in r.ran.n (rest_of s count L recs schedule budget used trace).trace
rest_rows s count L recs schedule budget used trace r trace' is trace_is =
    let left = rest_of s count L recs schedule budget used trace in
    rw trace_is
    (later_rows r.ran.n (row_words * used) trace left.trace
    (λ past. ap (λ (x : RunReturn). x.ran.n) is ∙ (no_room_lem s count L recs schedule budget used trace (omega (arith, past))).0))

pub first_records : {s : Lent} {q : Pred} {m v count : ℕ} {L : Lock} {recs : List Rec} {rows : List Row} → ReachedByValue s q m v count L recs rows
    → FirstRecords s q m v count L recs rows
first_records {s} {q} {m} {v} {count} (ReachedByValue.begun recs b L wide is made) = at_setup s q m v count recs b L wide is made
first_records {s} {q} {m} {v} {count} (ReachedByValue.ran before schedule budget trace r trace' is trace_is) =
    one_more s q m v count (first_records before) schedule budget trace r trace' is trace_is
first_records {s} {q} {m} {v} {count} (ReachedByValue.ran_on {L} {recs} {rows} before schedule budget used trace r trace' is trace_is) =
    rw (rest_rows s count L recs schedule budget used trace r trace' is trace_is)
    (one_more s q m v count (first_records before) schedule budget (drop (row_words * used) trace) r
    (rest_of s count L recs schedule budget used trace).trace is refl)
first_records {s} {q} {m} {v} {count} (ReachedByValue.drained before d es is none order) =
    drain_more s q m v count (first_records before) d es is none order
