-- RwLockToks: the fields of the source's token machine, its initial state and its seven transitions, under the source's names.
-- What it stores is a number. `inv k x` is the source's `Pred::inv(k, x)`.
use Rattle.std.specs.Prelude.{ℕ, ◌+◌, ◌-◌, ◌≤◌, Bool, true, false, ◌≡◌}
use Rattle.toks.specs.Multiset.{Multiset, none, adding, removing}

-- Option<V>
pub data Storage : Type 0 where
  empty : Storage
  holds : ℕ → Storage

-- `storage->0`. The source leaves open what that is of an empty one; here it is 0
abbrev pub stored : Storage → ℕ
stored empty = 0
stored (holds x) = x

-- Option<()> is whether it is there; Multiset<()> is how many there are. `pred: PhantomData` holds nothing and is left out
pub record Toks (K : Type 0) : Type 0 where
  pub k : K
  pub flag_exc : Bool
  pub flag_rc : ℕ
  pub storage : Storage
  pub pending_writer : Bool
  pub writer : Bool
  pub pending_reader : ℕ
  pub reader : Multiset

module _ {K : Type 0} where
  abbrev pub initialize_full : K → ℕ → Toks K
  initialize_full k t =
      record {
        k = k;
        flag_exc = false;
        flag_rc = 0;
        storage = holds t;
        pending_writer = false;
        writer = false;
        pending_reader = 0;
        reader = none;
      }

  -- increment the counter, obtain a pending reader
  abbrev pub acquire_read_start : Toks K → Toks K
  acquire_read_start s =
      record {
        flag_rc = s.flag_rc + 1;
        pending_reader = s.pending_reader + 1;
        k = s.k;
        flag_exc = s.flag_exc;
        storage = s.storage;
        pending_writer = s.pending_writer;
        writer = s.writer;
        reader = s.reader;
      }

  -- exchange the pending reader for a reader of what is stored
  abbrev pub acquire_read_end : Toks K → Toks K
  acquire_read_end s =
      record {
        pending_reader = s.pending_reader - 1;
        reader = adding (stored s.storage) s.reader;
        k = s.k;
        flag_exc = s.flag_exc;
        flag_rc = s.flag_rc;
        storage = s.storage;
        pending_writer = s.pending_writer;
        writer = s.writer;
      }

  -- decrement the counter, abandon the attempt
  abbrev pub acquire_read_abandon : Toks K → Toks K
  acquire_read_abandon s =
      record {
        flag_rc = s.flag_rc - 1;
        pending_reader = s.pending_reader - 1;
        k = s.k;
        flag_exc = s.flag_exc;
        storage = s.storage;
        pending_writer = s.pending_writer;
        writer = s.writer;
        reader = s.reader;
      }

  -- set the flag, obtain a pending writer
  abbrev pub acquire_exc_start : Toks K → Toks K
  acquire_exc_start s =
      record {
        flag_exc = true;
        pending_writer = true;
        k = s.k;
        flag_rc = s.flag_rc;
        storage = s.storage;
        writer = s.writer;
        pending_reader = s.pending_reader;
        reader = s.reader;
      }

  -- exchange the pending writer for a writer, withdraw what is stored
  abbrev pub acquire_exc_end : Toks K → Toks K
  acquire_exc_end s =
      record {
        storage = empty;
        pending_writer = false;
        writer = true;
        k = s.k;
        flag_exc = s.flag_exc;
        flag_rc = s.flag_rc;
        pending_reader = s.pending_reader;
        reader = s.reader;
      }

  -- clear the flag, return the writer, deposit x
  abbrev pub release_exc : ℕ → Toks K → Toks K
  release_exc x s =
      record {
        flag_exc = false;
        storage = holds x;
        writer = false;
        k = s.k;
        flag_rc = s.flag_rc;
        pending_writer = s.pending_writer;
        pending_reader = s.pending_reader;
        reader = s.reader;
      }

  -- decrement the counter, return a reader of x
  abbrev pub release_shared : ℕ → Toks K → Toks K
  release_shared x s =
      record {
        flag_rc = s.flag_rc - 1;
        reader = removing x s.reader;
        k = s.k;
        flag_exc = s.flag_exc;
        storage = s.storage;
        pending_writer = s.pending_writer;
        writer = s.writer;
        pending_reader = s.pending_reader;
      }

-- The machine's moves: each transition with what the source requires of the state before, the tokens that it removes among it.
pub data Transition {K : Type 0} (inv : K → ℕ → Type 0) (s : Toks K) : Toks K → Type 0 where
  by_acquire_read_start : Transition inv s (acquire_read_start s)
  by_acquire_read_end : s.flag_exc ≡ false → 1 ≤ s.pending_reader → Transition inv s (acquire_read_end s)
  by_acquire_read_abandon : 1 ≤ s.pending_reader → Transition inv s (acquire_read_abandon s)
  by_acquire_exc_start : s.flag_exc ≡ false → Transition inv s (acquire_exc_start s)
  by_acquire_exc_end : s.flag_rc ≡ 0 → s.pending_writer ≡ true → Transition inv s (acquire_exc_end s)
  by_release_exc : (x : ℕ) → inv s.k x → s.writer ≡ true → Transition inv s (release_exc x s)
  by_release_shared : (x : ℕ) → 1 ≤ s.reader x → Transition inv s (release_shared x s)
