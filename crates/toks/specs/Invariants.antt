-- The six invariants of RwLockToks and its two properties, under the source's names, and what is claimed of them.
use Rattle.std.specs.Prelude.{ℕ, ◌+◌, ◌≤◌, Bool, true, false, cond, ◌≡◌}
use Rattle.toks.specs.Toks.{empty, holds, stored, Toks, initialize_full, Transition}

-- 1 for what is there or true, 0 otherwise
abbrev pub one : Bool → ℕ
one b = cond b 1 0

module _ {K : Type 0} (inv : K → ℕ → Type 0) where
  pub record Holds (s : Toks K) : Type 0 where
    pub exc_bit_matches : one s.flag_exc ≡ one s.pending_writer + one s.writer
    pub count_matches : s.flag_rc ≡ s.pending_reader + s.reader (stored s.storage)
    pub reader_agrees_storage : (t : ℕ) → 1 ≤ s.reader t → s.storage ≡ holds t
    pub writer_agrees_storage : s.writer ≡ true → s.storage ≡ empty
    pub writer_agrees_storage_rev : s.storage ≡ empty → s.writer ≡ true
    pub sto_user_inv : (x : ℕ) → s.storage ≡ holds x → inv s.k x

  -- #[inductive(initialize_full)]
  abbrev pub Starts : Type 0
  Starts = (k : K) (t : ℕ) → inv k t → Holds (initialize_full k t)

  -- #[inductive] of each transition
  abbrev pub Keeps : Type 0
  Keeps = (s t : Toks K) → Holds s → Transition inv s t → Holds t

  -- a reader of x is a guard of x: x is stored
  abbrev pub ReadGuard : Type 0
  ReadGuard = (s : Toks K) → Holds s → (x : ℕ) → 1 ≤ s.reader x → s.storage ≡ holds x

  -- any two readers are of one value
  abbrev pub ReadMatch : Type 0
  ReadMatch = (s : Toks K) → Holds s → (x y : ℕ) → 1 ≤ s.reader x → 1 ≤ s.reader y → x ≡ y

  -- What the source's notation owes besides: what is added to a place for one finds it free, what is read or withdrawn is stored,
  -- what is deposited finds nothing stored, and a count that goes down is not 0.
  abbrev pub Owed : (s t : Toks K) → Transition inv s t → Type 0
  Owed s t Transition.by_acquire_read_start = Unit {0}
  Owed s t (Transition.by_acquire_read_end clear pending) = s.storage ≡ holds (stored s.storage)
  Owed s t (Transition.by_acquire_read_abandon pending) = 1 ≤ s.flag_rc
  Owed s t (Transition.by_acquire_exc_start clear) = s.pending_writer ≡ false
  Owed s t (Transition.by_acquire_exc_end unread pending) = (s.writer ≡ false) × (s.storage ≡ holds (stored s.storage))
  Owed s t (Transition.by_release_exc x good writing) = s.storage ≡ empty
  Owed s t (Transition.by_release_shared x reading) = 1 ≤ s.flag_rc

  abbrev pub Pays : Type 0
  Pays = (s t : Toks K) → Holds s → (move : Transition inv s t) → Owed s t move
