-- The clauses of soundness on one record, with the length of its script and its operation given; and those on the mover, where it is
-- given how many records are not Idle.
use Rattle.std.specs.Prelude.{ℕ, Bool, true, ◌&&◌, List, eqb, ltb, length}
use Rattle.cell.specs.declared.pred.Pred.{Pred}
use Rattle.machine.specs.Names.{into_inner}
use Rattle.machine.specs.Step.{Scripts, busy_of, here}
use Rattle.machine.specs.Sound.{in_range, has_its, keeps_seen, keeps_taken, test_rec}
use Rattle.machine.specs.declared.Rec.{Rec}
use Rattle.std.specs.Prelude.{None, Option, Some}
use Rattle.lock_sound.specs.Counts.{unvalued}

abbrev pub keeps_at : Pred → ℕ → ℕ → ℕ → Rec → Bool
keeps_at q top n o r = in_range n r r.place && (has_its o r.place && (keeps_seen top r r.place && keeps_taken q r r.place))

-- thread j's
abbrev pub sound_at : List ℕ → List ℕ → Pred → ℕ → ℕ → Rec → Bool
sound_at lens ops q top j r = test_rec q top ((unvalued lens ops).len j) ((unvalued lens ops).op j) r

-- the mover's: of so many records that are not Idle its own is the only one
abbrev pub alone : ℕ → ℕ → Rec → ℕ → Bool
alone n o r busy = ltb r.at n && (eqb o into_inner && eqb busy (busy_of r))

-- `test_mover` is this where busy is the count over the records
abbrev pub mover_at : Scripts → List Rec → ℕ → Option ℕ → Bool
mover_at S l busy None = true
mover_at S l busy (Some t) = ltb t (length l) && alone (S.len t) (S.op t (here l t).at) (here l t) busy
