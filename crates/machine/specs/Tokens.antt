-- The token state of a lock with its records, and which transition of RwLockToks each row is.
use Rattle.std.specs.Prelude.{ℕ, ◌+◌, ◌≡◌, Bool, true, cond, ◌&&◌, ◌||◌, List, eqb, ltb}
use Rattle.cell.specs.Value.{kept}
use Rattle.cell.specs.Pred.{permits}
use Rattle.cell.specs.declared.pred.Pred.{Pred}
use Rattle.toks.specs.Multiset.{Multiset}
use Rattle.toks.specs.Toks.{empty, holds, Toks, initialize_full, acquire_read_start, acquire_read_end, acquire_read_abandon, acquire_exc_start, acquire_exc_end, release_exc, release_shared, Transition}
use Rattle.toks.specs.Invariants.{Holds}
use Rattle.machine.specs.Names.{exchanges_rc, loads_exc, gives_back, releases_rc, exchanges_exc, waits_rc, stores_exc}
use Rattle.machine.specs.Words.{unused}
use Rattle.machine.specs.Setup.{fresh}
use Rattle.machine.specs.Step.{Scripts, step}
use Rattle.machine.specs.Sound.{Tally, tally, handles, writers, Sound}
use Rattle.machine.specs.declared.Lock.{Lock}
use Rattle.machine.specs.declared.Rec.{Rec}

-- n copies of x
abbrev pub copies : ℕ → ℕ → Multiset
copies n x y = cond (eqb y x) n 0

-- Flag and count are their own. A pending reader is a record at ReadCheck or ReadBack; a reader of the stored value is a Reading
-- record or a dropped read; the pending writer is a record at WriteWait; the writer is a record at WriteTake, Writing or WritePut, a
-- dropped write or the finished lock. Nothing is stored exactly if the writer is there.
abbrev pub tokens_of : Lock → Tally → Toks Pred
tokens_of L N =
    record {
      k = L.pred;
      flag_exc = L.exc;
      flag_rc = L.rc.0;
      storage = cond (ltb 0 (writers L N)) empty (holds (kept L.cell));
      pending_writer = ltb 0 N.wait;
      writer = ltb 0 (writers L N);
      pending_reader = N.check + N.back;
      reader = copies (handles L N) (kept L.cell);
    }

abbrev pub tokens : Scripts → Lock → List Rec → Toks Pred
tokens S L l = tokens_of L (tally S l)

-- the source's inv: the predicate permits the value
abbrev pub Inv : Pred → ℕ → Type 0
Inv q x = permits q x ≡ true

-- ---- which row is which transition; x is what the cell keeps
-- the rows that move tokens
abbrev pub moves_tokens : ℕ → ℕ → Bool
moves_tokens access got =
    eqb access exchanges_rc
    || ((eqb access loads_exc && eqb got 0)
    || (eqb access gives_back
    || (eqb access exchanges_exc
    || ((eqb access waits_rc && eqb got 0)
    || (eqb access stores_exc
    || eqb access releases_rc)))))

-- what the row makes of the tokens: code 2, 3 seeing false, 4, 7, 8 seeing 0, 11 and 6; every other row leaves them, a failed exchange
-- (13 and 14) too
abbrev pub named : ℕ → ℕ → ℕ → Toks Pred → Toks Pred
named access got x s =
    cond (eqb access exchanges_rc) (acquire_read_start s)
    (cond (eqb access loads_exc && eqb got 0) (acquire_read_end s)
    (cond (eqb access gives_back) (acquire_read_abandon s)
    (cond (eqb access exchanges_exc) (acquire_exc_start s)
    (cond (eqb access waits_rc && eqb got 0) (acquire_exc_end s)
    (cond (eqb access stores_exc) (release_exc x s)
    (cond (eqb access releases_rc) (release_shared x s)
    s))))))

-- each row makes of the tokens what is named for it
abbrev pub TokensNamed : Type 0
TokensNamed =
    (S : Scripts) (L : Lock) (l : List Rec) (i : ℕ) → Sound S L l
    → let row = (step S L l i).row in
    tokens S (step S L l i).lock (step S L l i).recs ≡ named row.access row.got (kept L.cell) (tokens S L l)

-- the access code that is named for each transition of RwLockToks
abbrev pub code_of : {s t : Toks Pred} → Transition Inv s t → ℕ
code_of Transition.by_acquire_read_start = exchanges_rc
code_of (Transition.by_acquire_read_end clear pending) = loads_exc
code_of (Transition.by_acquire_read_abandon pending) = gives_back
code_of (Transition.by_acquire_exc_start clear) = exchanges_exc
code_of (Transition.by_acquire_exc_end zero pending) = waits_rc
code_of (Transition.by_release_exc x permitted writing) = stores_exc
code_of (Transition.by_release_shared x reading) = releases_rc

-- and where tokens move, it is the transition of RwLockToks that is named for the code, with all that the source requires of the
-- state before
abbrev pub TokensMove : Type 0
TokensMove =
    (S : Scripts) (L : Lock) (l : List Rec) (i : ℕ) → Sound S L l
    → let row = (step S L l i).row in
    moves_tokens row.access row.got ≡ true
    → (move : Transition Inv (tokens S L l) (named row.access row.got (kept L.cell) (tokens S L l))) × (code_of move ≡ row.access)

-- setup's tokens are those of initialize_full
abbrev pub TokensStart : Type 0
TokensStart = (S : Scripts) (q : Pred) (m v n : ℕ) → tokens S (unused q m v) (fresh n) ≡ initialize_full q v

-- the token machine's invariants follow from soundness
abbrev pub TokensHold : Type 0
TokensHold = (S : Scripts) (L : Lock) (l : List Rec) → Sound S L l → Holds Inv (tokens S L l)
