-- The turn of a thread, by its own record alone, is machine's answer to the entry.
use Prim.Native.Nat.{ℕ, ◌<◌, ◌≤◌}
use mathlib.Core.Path.{◌≡◌, refl}
use mathlib.Core.Bool.{Bool, true, false, cond}
use mathlib.Core.List.{List}
use native.Mathlib.Omega.{arith}
use lib.Dec.{leb}
use lib.ListN.{length}
use package.borrow.Author.Tests.{leb-false, le-leb, lt-leb}
use Rattle.machine.specs.Names.{no_thread, script_finished}
use Rattle.machine.specs.Refusals.{lowest}
use Rattle.machine.specs.Step.{Scripts, here, others, op_of, val_of, entry_refusal, answer}
use Rattle.machine.specs.declared.Lock.{Lock}
use Rattle.machine.specs.declared.Rec.{Rec}
use Rattle.std.specs.Prelude.{Err}
use Rattle.lock.specs.Turn.{turn_refusal, turn_of}

-- a first check that would give a number is passed where the answer is 0
missed : (b : Bool) (k m : ℕ) → 0 < k → cond b k m ≡ 0 → b ≡ false
missed true k m h e = absurd (omega arith)
missed false k m h e = refl

-- a thread that is not refused has an operation left
pub going_on : (L : Lock) (r : Rec) (i n others o v : ℕ) → turn_refusal L r i n others o v ≡ 0 → r.at < n
unfolding turn_refusal lowest
going_on L r i n others o v e = leb-false n r.at (missed (leb n r.at) script_finished _ (omega arith) e)

-- a finished script is refused whatever the lists have after it
pub finished : (L : Lock) (r : Rec) (i n others o v : ℕ) → n ≤ r.at → turn_of L r i n others o v ≡ Err script_finished
unfolding turn_of turn_refusal lowest
finished L r i n others o v h = rw (le-leb n r.at h)

module _ (S : Scripts) (L : Lock) (l : List Rec) (i : ℕ) where
  pub answer_turn : i < length l → answer S L l i ≡ turn_of L (here l i) i (S.len i) (others l i) (op_of S l i) (val_of S l i)
  unfolding answer entry_refusal lowest turn_of turn_refusal
  answer_turn h = rw (lt-leb (length l) i h)

  pub answer_none : length l ≤ i → answer S L l i ≡ Err no_thread
  unfolding answer entry_refusal lowest
  answer_none h = rw (le-leb (length l) i h)
