-- What the calls reach is what one schedule makes of one setup that refuses nothing; from there no run is refused, nor a drain of tidy
-- scripts.
use Prim.Native.Nat.{ℕ, ◌≤◌}
use mathlib.Core.Path.{◌≡◌, refl, ◌∙◌}
use mathlib.Core.Bool.{Bool, true, false, cond}
use mathlib.Core.List.{List, [], ◌++◌}
use native.Mathlib.Omega.{arith}
use lib.Dec.{eqb}
use lib.ListN.{length, length-replicate}
use package.borrow.Author.Tests.{eqb-true}
use Rattle.cell.specs.Pred.{permits}
use Rattle.cell.specs.declared.pred.Pred.{Pred}
use Rattle.machine.specs.Words.{unbegun, unused}
use Rattle.machine.specs.Refusals.{Nothing}
use Rattle.machine.specs.Lists.{Lent, scripts_of, beside}
use Rattle.machine.specs.Sound.{Sound}
use Rattle.machine.specs.Setup.{fresh, setup, setup_refusal, setup_recs}
use Rattle.machine.specs.Run.{Ran, run, entries, run_refusal, RunLeft, made_run, run_lent}
use Rattle.machine.specs.Tidy.{Tidy}
use Rattle.machine.specs.Drain.{Order, drain_refusal, DrainLeft, drain_lent}
use Rattle.machine.specs.When.{AtSetup, AtRun, AtDrain}
use Rattle.machine.specs.declared.Lock.{Lock}
use Rattle.machine.specs.declared.Rec.{Rec}
use Rattle.machine.specs.declared.Row.{Row}
use Rattle.std.specs.Prelude.{Err, Ok}
use Rattle.machine.proofs.Exact.{setup_exact, run_exact, drain_exact}
use Rattle.machine.proofs.RunLaws.{cutting}
use Rattle.machine.proofs.RunRule.{run_length, made as run_made}
use Rattle.machine.proofs.Runs.{always_sound}
use Rattle.machine.proofs.Setup.{admits as setup_admits, setup_is_sound}
use Rattle.lock_promises.specs.Reached.{rows_in, Reached}
use Rattle.lock_promises.proofs.Rows.{handled, rows_told}
use Rattle.lock_promises.proofs.Drains.{order_run}

-- a state with the rows so far
abbrev pub ran_as : Lock → List Rec → List Row → Ran
ran_as L l rows = record { lock = L; recs = l; rows = rows }

-- one schedule makes it of one setup that refuses nothing
pub record Comes (s : Lent) (q : Pred) (m v : ℕ) (w : Ran) : Type 0 where
  pub records : ℕ
  pub schedule : List ℕ
  pub accepted : setup_refusal q m v s records ≡ 0
  pub is : run (scripts_of s) (unused q m v) (fresh records) schedule ≡ w

-- ---- a setup that refuses nothing
module _ (s : Lent) (q : Pred) (m v : ℕ) where
  -- a setup that makes a lock refuses nothing, and the lock is the unused one
  pub made_none : (n : ℕ) (L : Lock) → setup q m v s n ≡ Ok L → (setup_refusal q m v s n ≡ 0) × (unused q m v ≡ L)
  unfolding setup
  made_none n L made = go (eqb k 0) refl made
    where
      k : ℕ
      k = setup_refusal q m v s n

      go : (b : Bool) → eqb k 0 ≡ b → cond b (Ok (unused q m v)) (Err (beside s k)) ≡ Ok L → (k ≡ 0) × (unused q m v ≡ L)
      go true e is = (eqb-true k 0 e, cc)
      go false e is = let clash : ◌≡◌ {A = ℕ} 0 1 = cc in absurd (omega arith)

  module _ {w : Ran} (c : Comes s q m v w) where
    nothing : Nothing (AtSetup q m v s c.records)
    nothing = (setup_exact q m v s c.records).1.0 c.accepted

    -- the top is not 0, and the first value is permitted
    pub admits : (1 ≤ m) × (permits q v ≡ true)
    admits = setup_admits q m v s c.records c.accepted

    pub sound_there : Sound (scripts_of s) w.lock w.recs
    sound_there = rw (← c.is) (always_sound (scripts_of s) q m v c.records admits.0 admits.1 c.schedule)

    many : length w.recs ≡ c.records
    many = rw (← c.is) (run_length (scripts_of s) (unused q m v) (fresh c.records) c.schedule ∙ length-replicate c.records unbegun)

    -- the lists are those that setup took, and the state is sound
    no_refusal : Nothing (AtRun s w.lock w.recs)
    no_refusal k (AtRun.lists of) = nothing k (AtSetup.lists (rw many at of))
    no_refusal k (AtRun.no_threads e) = nothing _ (AtSetup.no_threads e)
    no_refusal k (AtRun.many_threads h) = nothing _ (AtSetup.many_threads h)
    no_refusal k (AtRun.for_not_sound n) = n sound_there

    pub runs_on : run_refusal s w.lock w.recs ≡ 0
    runs_on = (run_exact s w.lock w.recs).1.1 no_refusal

    pub drains : Tidy (scripts_of s) w.lock w.recs → drain_refusal s w.lock w.recs ≡ 0
    drains tidy = (drain_exact s w.lock w.recs).1.1 none
      where
        none : Nothing (AtDrain s w.lock w.recs)
        none k (AtDrain.as_run a) = no_refusal k a
        none k (AtDrain.for_not_tidy n) = n tidy

    -- entries more, and their rows
    joined : (es : List ℕ) → let after = run (scripts_of s) w.lock w.recs es in Comes s q m v (ran_as after.lock after.recs (w.rows ++ after.rows))
    joined es =
        let (lock, recs, rows) = rw c.is at (cutting (scripts_of s) (unused q m v) (fresh c.records) c.schedule es) in
        record { records = c.records; schedule = c.schedule ++ es; accepted = c.accepted; is = λ j. ran_as (lock j) (recs j) (rows j) }

    -- one drain more
    pub drain_more : (left : DrainLeft) (es : List ℕ) → left ≡ drain_lent s w.lock w.recs → left.refusal.number ≡ 0
        → Order (scripts_of s) w.lock w.recs es left.lock left.recs
        → Comes s q m v (ran_as left.lock left.recs (w.rows ++ (run (scripts_of s) w.lock w.recs es).rows))
    drain_more left es e none order =
        let (lock, recs) = order_run s w.lock w.recs left es e none order in
        rw (← lock, ← recs) (joined es)

    -- one run more: its rows are those in the trace list
    module _ (schedule : List ℕ) (budget : ℕ) (trace : List ℕ) where
      abbrev n : ℕ
      n = entries budget schedule trace

      abbrev es : List ℕ
      es = handled schedule budget trace

      abbrev after : Ran
      after = run (scripts_of s) w.lock w.recs es

      made : run_lent s w.lock w.recs schedule budget trace ≡ made_run (beside s 0) n trace after
      made = run_made s w.lock w.recs schedule budget trace runs_on

      pub same_size : length (run_lent s w.lock w.recs schedule budget trace).recs ≡ length w.recs
      same_size = rw made (run_length (scripts_of s) w.lock w.recs es)

      pub one_more : (left : RunLeft) → left ≡ run_lent s w.lock w.recs schedule budget trace
          → Comes s q m v (ran_as left.lock left.recs (w.rows ++ rows_in left.n left.trace))
      one_more left e =
          rw (e, made, rows_told (scripts_of s) w.lock w.recs schedule budget trace) (joined es)

  at_setup : (l : List Rec) (L : Lock) → setup q m v s (length l) ≡ Ok L → Comes s q m v (ran_as L (setup_recs q m v s l) [])
  unfolding run
  at_setup l L made =
      let (none, same) = made_none (length l) L made in
      record { records = length l; schedule = []; accepted = none; is = rw (← same, (setup_is_sound q m v s l none).1) refl }

pub comes : {s : Lent} {q : Pred} {m v : ℕ} {L : Lock} {l : List Rec} {rows : List Row} → Reached s q m v L l rows → Comes s q m v (ran_as L l rows)
comes {s} {q} {m} {v} (Reached.begun l L made) = at_setup s q m v l L made
comes {s} {q} {m} {v} (Reached.ran before schedule budget trace left e) = one_more s q m v (comes before) schedule budget trace left e
comes {s} {q} {m} {v} (Reached.drained before left es e none order) = drain_more s q m v (comes before) left es e none order
