-- The counts as the code has them, for those of the definition; and the clauses on counts, in the four parts in which the code tests them.
use Rattle.std.specs.Prelude.{ℕ, ◌+◌, ◌<◌, ◌≤◌, ◌^◌, Bool, ◌||◌, ◌&&◌, not, List, [], eqb, leb}
use Rattle.cell.specs.Value.{kept, is_full}
use Rattle.cell.specs.Pred.{permits}
use Rattle.machine.specs.Lists.{lists, scripts_of}
use Rattle.machine.specs.Words.{bit, is_at, moving}
use Rattle.machine.specs.Step.{Scripts, busy_of}
use Rattle.machine.specs.Sound.{Tally, inside_of, handles, away, writers}
use Rattle.machine.specs.declared.Lock.{Lock}
use Rattle.machine.specs.declared.Rec.{Rec}
use Rattle.machine.specs.declared.Place.TheVariants.{ReadCheck, ReadBack, Reading, WriteWait, WriteTake, Writing, WritePut}
use Rattle.lock_sound.specs.declared.sound.Counted.{Counted}

-- the counts, as the definition has them
abbrev pub as_tally : Counted → Tally
as_tally n =
    record {
      check = n.check;
      back = n.back;
      reading = n.reading;
      wait = n.wait;
      take = n.take;
      writing = n.writing;
      put = n.put;
      busy = n.busy;
      inside = n.inside;
    }

-- the scripts with no values: the clauses of soundness look at none
abbrev pub unvalued : List ℕ → List ℕ → Scripts
unvalued lens ops = scripts_of (lists lens ops [])

-- with the record r, whose operation is o
abbrev pub weighed : Counted → Rec → ℕ → Counted
weighed n r o =
    record {
      check = n.check + is_at ReadCheck r;
      back = n.back + is_at ReadBack r;
      reading = n.reading + is_at Reading r;
      wait = n.wait + is_at WriteWait r;
      take = n.take + is_at WriteTake r;
      writing = n.writing + is_at Writing r;
      put = n.put + is_at WritePut r;
      busy = n.busy + busy_of r;
      inside = n.inside + inside_of (λ k. o) r;
    }

-- of so many records: each that is not Idle stands at one place, and no other is inside operation 7
abbrev pub Among : ℕ → Counted → Type 0
Among k n = (n.check + n.back + n.reading + n.wait + n.take + n.writing + n.put ≤ n.busy) × (n.inside ≤ n.busy) × (n.busy ≤ k)

-- no more than a slice holds
abbrev pub Few : Counted → Type 0
Few n = (k : ℕ) × (k < 2 ^ 63) × Among k n

-- ---- the clauses on counts: `test_counts` is these four together
abbrev pub test_readers : Lock → Tally → Bool
test_readers L N = leb L.rc.0 L.top.0 && eqb L.rc.0 (N.check + N.back + handles L N)

abbrev pub test_writers : Lock → Tally → Bool
test_writers L N =
    eqb (bit L.exc) (N.wait + writers L N)
    && ((eqb (writers L N) 0 || eqb (handles L N) 0)
    && eqb (bit (is_full L.cell) + away L N) 1)

abbrev pub test_value : Lock → Bool
test_value L = leb (bit (is_full L.cell)) (bit (permits L.pred (kept L.cell)))

abbrev pub test_ending : Lock → Tally → Bool
test_ending L N = leb N.inside (moving L.mover) && (not L.finished || (eqb N.busy 0 && eqb (moving L.mover) 0))
