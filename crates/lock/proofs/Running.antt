-- The loops of a run: starts that are written one after the other, and a run that goes one entry further, with records that lie in an
-- array.
use Prim.Native.Nat.{ℕ, ◌+◌, ◌*◌, ◌^◌, ◌<◌, ◌≤◌, min}
use mathlib.Core.Path.{◌≡◌, refl, sym, ◌∙◌, subst}
use mathlib.Core.Bool.{Bool, true, false}
use mathlib.Core.List.{List, ◌++◌}
use native.Mathlib.Numerals.{add-one}
use native.Mathlib.Omega.{arith}
use lib.Dec.{eqb}
use lib.ListN.{length, set, get_or, take, drop, length-set, take-append-drop}
use lib.Seq.{get_or-set_same, get_or-set_other, get_or-take, take-set-lt, drop-set-lt, length-take-le, sets, length-sets}
use package.borrow.Author.Tests.{eqb-true, eqb-false}
use Rattle.machine.specs.Names.{no_access, no_thread, row_words}
use Rattle.machine.specs.Words.{bit, unbegun}
use Rattle.machine.specs.Step.{Scripts, here, busy_of, busy, row_of, step}
use Rattle.machine.specs.Lists.{Lent, scripts_of, start, beside}
use Rattle.machine.specs.Sound.{Sound}
use Rattle.machine.specs.Run.{Ran, run, accepted, words_of}
use Rattle.machine.specs.declared.Lock.{Lock}
use Rattle.machine.specs.declared.Rec.{Rec}
use Rattle.machine.specs.declared.Row.{Row}
use Rattle.std.specs.Prelude.{None}
use Rattle.machine.proofs.Sums.{sum_le, sum_const, sum_part}
use Rattle.machine.proofs.Keep.{bit_le}
use Rattle.machine.proofs.Accesses.{others_stay}
use Rattle.machine.proofs.Runs.{run_sound}
use Rattle.machine.proofs.RunRule.{rows_length}
use Rattle.lock_scripts.proofs.Starts.{capped}
use Rattle.lock.specs.Trace.{words_of_row}
use Rattle.lock.specs.Room.{Room}
use Rattle.lock.specs.Entered.{entered_of}
use Rattle.lock.specs.Run.{ran_of, ready_of, Ready}
use Rattle.lock.specs.declared.run.RunReturn.{RunReturn as Returned}
use Rattle.lock.specs.declared.entered.Entered.{Entered}
use Rattle.lock.proofs.Room.{room}
use Rattle.lock.proofs.Stepped.{step_entered, step_none}
use Rattle.lock.proofs.Piece.{further, one_more_done, row_put}

-- one number more, after those before it
pub written : (f : ℕ → ℕ) (xs : List ℕ) (t x : ℕ) → t < length xs → x ≡ f t → ((i : ℕ) → i < t → get_or xs i 0 ≡ f i) → (i : ℕ) → i < t + 1
    → get_or (set xs t x) i 0 ≡ f i
written f xs t x room e before i h = go (eqb i t) refl
  where
    go : (b : Bool) → eqb i t ≡ b → get_or (set xs t x) i 0 ≡ f i
    go true q = rw (eqb-true i t q) (get_or-set_same xs t x 0 room ∙ e)
    go false q = get_or-set_other xs t i x 0 (eqb-false i t q) ∙ before i (let ne = eqb-false i t q in omega arith)

-- a word of a script, read from a start that is cut at the end of a list of the same length
pub read_word : (words : List ℕ) (from s end at : ℕ) → from ≡ min s end → length words ≡ end → get_or words (from + at) 0 ≡ get_or words (s + at) 0
read_word words from s end at e long = rw (e, ← long) (capped words s at)

-- ---- one entry, with the records in an array
-- what is left by an entry for thread i, where the records are the first `count` of rs
pub record Stepped (S : Scripts) (count : ℕ) (L : Lock) (rs : List Rec) (i : ℕ) (M : Lock) (rs' : List Rec) (b : ℕ) (row : Row) : Type 0 where
  pub lock : M ≡ (step S L (take count rs) i).lock
  pub front : take count rs' ≡ (step S L (take count rs) i).recs
  pub back : drop count rs' ≡ drop count rs
  pub wide : length rs' ≡ length rs
  pub counted : b ≡ busy (take count rs')
  pub says : row ≡ (step S L (take count rs) i).row

module _ (S : Scripts) (count : ℕ) (L : Lock) (rs : List Rec) (i b : ℕ) (size : length (take count rs) ≡ count) (counted : b ≡ busy (take count rs)) where
  -- by the thread's own record
  pub stepped : (e : Entered) → i < count → e ≡ entered_of L (here rs i) i (S.len i) b (S.op i (here rs i).at) (S.val i (here rs i).at)
      → Stepped S count L rs i e.lock (set rs i e.rec) e.busy e.row
  stepped e h made =
      let l = take count rs in
      let same : here l i ≡ here rs i = get_or-take count rs i unbegun h in
      let left = step_entered S L l i (omega arith) in
      let e' : e ≡ entered_of L (here l i) i (S.len i) (busy l) (S.op i (here l i).at) (S.val i (here l i).at) = rw (same, ← counted) made in
      let front : take count (set rs i e.rec) ≡ (step S L l i).recs = take-set-lt count rs i e.rec h ∙ rw e' (sym left.1) in
      record {
        lock = rw e' (sym left.0);
        front = front;
        back = drop-set-lt count rs i e.rec h;
        wide = length-set rs i e.rec;
        counted = rw front (rw e' (sym left.3));
        says = rw e' (sym left.2);
      }

  -- of a thread that there is not
  pub not_stepped : (row : Row) → count ≤ i → row ≡ row_of i L no_access no_thread 0 → Stepped S count L rs i L rs b row
  not_stepped row h made =
      let left = step_none S L (take count rs) i (omega arith) in
      record { lock = sym left.0; front = sym left.1; back = refl; wide = refl; counted = counted; says = made ∙ sym left.2 }

-- ---- the entries done so far
-- after k entries
abbrev pub after : Lent → Lock → List Rec → List ℕ → ℕ → Ran
after s L recs schedule k = run (scripts_of s) L (take (length s.lens) recs) (take k schedule)

-- the array was recs and the trace list tr₀; a record for each length
pub record Going (s : Lent) (L₀ : Lock) (recs : List Rec) (schedule : List ℕ) (n : ℕ) (tr₀ : List ℕ) (L : Lock) (rs : List Rec) (b d k : ℕ) (tr : List ℕ) : Type 0 where
  pub within : k ≤ n
  pub wide : length rs ≡ 16
  pub long : length tr ≡ length tr₀
  pub few : d ≤ k
  pub top : L.top ≡ L₀.top
  pub lock : L ≡ (after s L₀ recs schedule k).lock
  pub front : take (length s.lens) rs ≡ (after s L₀ recs schedule k).recs
  pub back : drop (length s.lens) rs ≡ drop (length s.lens) recs
  pub counted : b ≡ busy (take (length s.lens) rs)
  pub done : d ≡ accepted (after s L₀ recs schedule k).rows
  pub written : tr ≡ words_of (after s L₀ recs schedule k).rows ++ drop (row_words * k) tr₀

module _ (s : Lent) (L₀ : Lock) (recs : List Rec) (schedule : List ℕ) (n : ℕ) (tr₀ : List ℕ) where
  pub begins : (b : ℕ) → length recs ≡ 16 → b ≡ busy (take (length s.lens) recs) → Going s L₀ recs schedule n tr₀ L₀ recs b 0 0 tr₀
  unfolding run accepted words_of
  begins b size counted =
      record {
        within = omega arith;
        wide = size;
        long = refl;
        few = omega arith;
        top = refl;
        lock = refl;
        front = refl;
        back = refl;
        counted = counted;
        done = refl;
        written = refl;
      }

  module _ (L : Lock) (rs : List Rec) (b d k : ℕ) (tr : List ℕ) (g : Going s L₀ recs schedule n tr₀ L rs b d k tr) where
    pub one_more : (M : Lock) (rs' : List Rec) (c : ℕ) (row : Row) → k < n → n ≤ length schedule → row_words * n ≤ length tr₀
        → Stepped (scripts_of s) (length s.lens) L rs (get_or schedule k 0) M rs' c row
        → Going s L₀ recs schedule n tr₀ M rs' c (d + bit (eqb row.answer 0)) (k + 1) (sets tr (row_words * k) (words_of_row row))
    one_more M rs' c row h listed room e =
        let w = after s L₀ recs schedule k in
        let S = scripts_of s in
        let i = get_or schedule k 0 in
        let x = step S w.lock w.recs i in
        let v = further S L₀ (take (length s.lens) recs) schedule k (omega arith) in
        let same : step S L (take (length s.lens) rs) i ≡ x = rw (g.lock, g.front) refl in
        let many : length w.rows ≡ k = rows_length S L₀ (take (length s.lens) recs) (take k schedule) ∙ length-take-le k schedule (omega arith) in
        rw add-one
        (record {
          within = omega arith;
          wide = e.wide ∙ g.wide;
          long = length-sets tr (row_words * k) (words_of_row row) ∙ g.long;
          few = omega (arith, g.few, bit_le (eqb row.answer 0));
          top = rw e.lock (others_stay S L (take (length s.lens) rs) i).1 ∙ g.top;
          lock = e.lock ∙ rw same (sym v.0);
          front = e.front ∙ rw same (sym v.1);
          back = e.back ∙ g.back;
          counted = e.counted;
          done = rw (v.2, one_more_done w.rows x.row, g.done, e.says, same) refl;
          written = rw (g.written, e.says, same, v.2) (row_put w.rows x.row tr₀ k many (omega arith));
        })

    module _ (p : Ready s L₀ recs) where
      size : length (take (length s.lens) rs) ≡ length s.lens
      size = length-take-le (length s.lens) rs (omega (arith, p.threads, g.wide))

      still_sound : Sound (scripts_of s) L (take (length s.lens) rs)
      still_sound = rw (g.lock, g.front) (run_sound (scripts_of s) (take k schedule) L₀ (take (length s.lens) recs) p.sound)

      -- what the code of an entry for thread i asks
      pub may_enter : (i : ℕ) → i < length s.lens → L₀.top.0 < 2 ^ 64
          → ((here rs i).at < (scripts_of s).len i → Room L (here rs i)) × (busy_of (here rs i) ≤ b) × (b ≤ 16)
      may_enter i h fits =
          let l = take (length s.lens) rs in
          let there : i < length l = omega (arith, size) in
          let same : here l i ≡ here rs i = get_or-take (length s.lens) rs i unbegun h in
          let top : L.top.0 < 2 ^ 64 = rw g.top fits in (
            λ more. subst (λ (r : Rec). Room L r) same (room (scripts_of s) L l i still_sound there (rw same more) (p.short i h) top),
            rw (g.counted, ← same) (sum_part (λ j r. busy_of r) l i unbegun there),
            omega (arith, g.counted, sum_le (λ j r. busy_of r) (λ j r. 1) (λ j r. omega arith) 0 l, sum_const 1 0 l, size, p.threads),
          )

      pub enters : (e : Entered) (i from : ℕ) → i < length s.lens → from ≡ min (start s.lens i) (length s.ops)
          → e ≡ entered_of L (here rs i) i ((scripts_of s).len i) b (get_or s.ops (from + (here rs i).at) 0) (get_or s.vals (from + (here rs i).at) 0)
          → Stepped (scripts_of s) (length s.lens) L rs i e.lock (set rs i e.rec) e.busy e.row
      enters e i from h cut made =
          let at = (here rs i).at in
          let o = read_word s.ops from (start s.lens i) (length s.ops) at cut refl in
          let w = read_word s.vals from (start s.lens i) (length s.ops) at cut p.values in
          stepped (scripts_of s) (length s.lens) L rs i b size g.counted e h (rw (← o, ← w) made)

      pub enters_not : (i : ℕ) (row : Row) → length s.lens ≤ i → row ≡ row_of i L no_access no_thread 0
          → Stepped (scripts_of s) (length s.lens) L rs i L rs b row
      enters_not i row h made = not_stepped (scripts_of s) (length s.lens) L rs i b size g.counted row h made

    -- all entries are done
    pub all_done : n ≤ k
        → (◌≡◌ {A = Returned} (record { ran = record { refusal = None; n = n; done = d; lock = L }; recs = rs }) (ran_of (length s.lens) recs (ready_of s L₀ recs schedule n tr₀)))
        × (tr ≡ (ready_of s L₀ recs schedule n tr₀).trace)
    unfolding beside
    all_done over =
        let end : k ≡ n = omega (arith, g.within) in
        let whole : rs ≡ (after s L₀ recs schedule k).recs ++ drop (length s.lens) recs = sym (take-append-drop (length s.lens) rs) ∙ rw (g.front, g.back) refl in
        (rw (← end, g.done, g.lock, whole) refl, rw (← end) g.written)
