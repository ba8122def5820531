-- Whoever stands in the way has a way on. A tidy thread that is not Idle, and waits for no reader, comes to Idle by entries of its own: each
-- brings down the measure of the drain order. What it leaves is known from soundness, since no other record has moved.
use Prim.Native.Nat.{ℕ, zero, suc, ◌+◌, ◌<◌, ◌≤◌}
use mathlib.Core.Path.{◌≡◌, refl, sym, ap, subst, ◌∙◌}
use mathlib.Core.Logic.{◌≢◌}
use mathlib.Core.Bool.{Bool, true, false, true≢false}
use mathlib.Core.List.{List, [], ◌∷◌}
use native.Mathlib.Omega.{arith}
use lib.ListN.{length, set, length-set}
use lib.Seq.{get_or-set_same, get_or-set_other, set-get_or, set-set}
use lib.Dec.{eqb}
use package.borrow.Author.Tests.{eqb-true, eqb-false, eq-eqb}
use Rattle.machine.specs.Words.{bit, is, is_at, plain, unbegun}
use Rattle.machine.specs.Step.{Scripts, here, sum, step, entry_refusal, op_of, val_of, busy_of, unread}
use Rattle.machine.specs.Sound.{Sound}
use Rattle.machine.specs.Move.{Move, by_wait_done, by_wait_more}
use Rattle.machine.specs.Tidy.{Tidy}
use Rattle.machine.specs.Drain.{Until, stops, steps, at_idle}
use Rattle.machine.specs.declared.Did.{Did}
use Rattle.machine.specs.declared.Lock.{Lock}
use Rattle.machine.specs.declared.Rec.{Rec}
use Rattle.machine.specs.declared.Place.{Place}
use Rattle.machine.specs.declared.Place.TheVariants.{Idle, ReadCheck, ReadBack, Reading, WriteWait, WriteTake, Writing, WritePut}
use Rattle.machine.proofs.ExactEntry.{is_same}
use Rattle.machine.proofs.Falls.{unfinished, up, ahead, falls}
use Rattle.machine.proofs.Keep.{bit_true, bit_false, bit_le}
use Rattle.machine.proofs.Order.{Accepts, none, entry, accepts_run}
use Rattle.machine.proofs.Accesses.{code_13}
use Rattle.machine.proofs.Refusals.{not_so}
use Rattle.machine.proofs.Steps.{MoveOf, step_sound}
use Rattle.machine.proofs.Sums.{sum_set}
use Rattle.machine.proofs.Sweep.{Base, small, unrefused}
use Rattle.machine.proofs.TidyLaws.{tidy_is_kept}
use Rattle.why.specs.Why.{why, has_flag, is_counted}
use Rattle.why.specs.Reasons.{Because, not_waiting, count_full, count_changed, flag_held, flag_dropped, counted_by, counted_dropped, HasFlag, waits, takes, writes, puts, Counted, checks, backs, reads, NoneBelow, NoRecord, HeldBy, a_record, a_dropped_write, the_end, Names, holder, reader, MeetsReaders}
use Rattle.why.specs.WayOn.{WayOut, all_out, one_out, WayOn, ReadersComeOut, NamedGoesOn, FullGoesDown, ChangedLooksAgain, NoneForDropped}
use Rattle.why.specs.declared.Reason.{Reason}
use Rattle.why.specs.declared.Reason.TheVariants.{NotWaiting, CountFull, CountChanged, Flag, Readers}
use Rattle.std.specs.Prelude.{None, Some}
use Rattle.why.proofs.Where.{entered, at_wait}
use Rattle.why.proofs.Means.{says_has_flag, says_counted}
use Rattle.why.proofs.Blockers.{count_weight, blocker_by, same_holder, dropped_read, flag_up}
use Rattle.why.proofs.Reasons.{waits_exactly, why_exact, fits_row, for_another}

-- a writer that finds the count 0 waits no longer
after_wait : {i o v : ℕ} {L : Lock} {r : Rec} {d : Did} → unread L ≡ true → Move i L r o v WriteWait d → is_at WriteWait d.rec ≡ 0
after_wait free (by_wait_done e t) = refl
after_wait free (by_wait_more e t) = absurd (true≢false (sym free ∙ t))

-- it does not wait, or the count is 0
abbrev Ready : Lock → Rec → Type 0
Ready L r = is_at WriteWait r ≤ bit (unread L)

-- a record at Idle holds no flag, and a counted one weighs one
not_at_idle : (r : Rec) → r.place ≡ Idle → HasFlag r → ⊥
not_at_idle r at p = true≢false (sym ((says_has_flag r).1 p) ∙ ap (λ (q : Place). has_flag (plain 0 q)) at)

counted_weighs : (r : Rec) → Counted r → is_at ReadCheck r + is_at ReadBack r + is_at Reading r ≡ 1
counted_weighs r p = sym (count_weight r) ∙ bit_true _ ((says_counted r).1 p)

module _ (S : Scripts) (w : ℕ) where
  abbrev left : Rec → ℕ
  left r = ahead up (S.op w) (S.len w) r

  -- ---- one entry
  record Stepped (L : Lock) (l : List Rec) : Type 0 where
    ok : entry_refusal S L l w ≡ 0
    base : Base S (step S L l w).lock (step S L l w).recs
    valid : w < length (step S L l w).recs
    ready : Ready (step S L l w).lock (here (step S L l w).recs w)
    less : left (here (step S L l w).recs w) < left (here l w)
    own : Rec
    now : (step S L l w).recs ≡ set l w own

  -- a tidy thread that is not Idle has its next entry accepted
  goes_on : (L : Lock) (l : List Rec) → Base S L l → w < length l → busy_of (here l w) ≡ 1 → ((here l w).at < S.len w) × (entry_refusal S L l w ≡ 0)
  goes_on L l b valid one =
      let r = here l w in
      let more = unfinished L.pred (S.len w) (S.op w) (S.val w) L.top.0 r r.place (b.tidy.rest w valid) (b.sound.kept w valid) one in
      (more, unrefused S L l w b valid more)

  stepped : (L : Lock) (l : List Rec) → Base S L l → w < length l → Ready L (here l w) → at_idle w (here l w) ≡ false → Stepped L l
  stepped L l b valid ready busy =
      let r = here l w in
      let one : busy_of r ≡ 1 = omega (arith, bit_false (is r.place Idle) busy) in
      let (more, ok) = goes_on L l b valid one in
      let (d, mv, now, _, _) = entered S L l w ok in
      let (less, kept) = falls w L (S.len w) (S.op w) r _ more (small S L l w b valid more) r.place d mv one ready in
      let here_is : here (step S L l w).recs w ≡ d.rec = ap (λ (m : List Rec). here m w) now ∙ get_or-set_same l w d.rec unbegun valid in
      record {
        ok = ok;
        base = record { sound = step_sound S L l w b.sound; tidy = tidy_is_kept S L l w b.tidy };
        valid = rw (now, length-set l w d.rec) valid;
        ready = rw here_is (omega (arith, not_there d mv kept));
        less = rw here_is less;
        own = d.rec;
        now = now;
      }
    where
      not_there : (d : Did) → MoveOf S L l w d → is_at WriteWait d.rec ≤ is_at WriteWait (here l w) → is_at WriteWait d.rec ≡ 0
      not_there d mv kept = go (is (here l w).place WriteWait) refl
        where
          go : (t : Bool) → is (here l w).place WriteWait ≡ t → is_at WriteWait d.rec ≡ 0
          go true e =
              let free : unread L ≡ true = is_up (unread L) (omega (arith, bit_true (is (here l w).place WriteWait) e, ready)) in
              after_wait free (subst (λ (p : Place). Move w L (here l w) (op_of S l w) (val_of S l w) p d) (is_same _ _ e) mv)
            where
              is_up : (t : Bool) → 1 ≤ bit t → t ≡ true
              is_up true h = refl
              is_up false h = absurd (omega arith)
          go false e = omega (arith, bit_false (is (here l w).place WriteWait) e, kept)

  -- ---- all of them
  record Came (L : Lock) (l : List Rec) : Type 0 where
    entries : List ℕ
    lock : Lock
    recs : List Rec
    until : Until at_idle S w L l entries lock recs
    accepts : Accepts S L l entries lock recs
    idle : at_idle w (here recs w) ≡ true
    base : Base S lock recs
    own : Rec
    now : recs ≡ set l w own

  stays : (L : Lock) (l : List Rec) → Base S L l → at_idle w (here l w) ≡ true → Came L l
  stays L l b e =
      record { entries = []; lock = L; recs = l; until = stops e; accepts = none; idle = e; base = b; own = here l w; now = sym (set-get_or l w unbegun) }

  -- f is enough, as the measure falls with every entry
  came : (f : ℕ) (L : Lock) (l : List Rec) → Base S L l → w < length l → Ready L (here l w) → left (here l w) ≤ f → Came L l
  came zero L l b valid ready few = go (at_idle w (here l w)) refl
    where
      go : (t : Bool) → at_idle w (here l w) ≡ t → Came L l
      go true e = stays L l b e
      go false e = absurd (omega (arith, (stepped L l b valid ready e).less))
  came (suc f) L l b valid ready few = go (at_idle w (here l w)) refl (came f (step S L l w).lock (step S L l w).recs)
    where
      go : (t : Bool) → at_idle w (here l w) ≡ t
          → (Base S (step S L l w).lock (step S L l w).recs → w < length (step S L l w).recs → Ready (step S L l w).lock (here (step S L l w).recs w)
          → left (here (step S L l w).recs w) ≤ f → Came (step S L l w).lock (step S L l w).recs)
          → Came L l
      go true e on = stays L l b e
      go false e on =
          let s = stepped L l b valid ready e in
          let c = on s.base s.valid s.ready (omega (arith, s.less)) in
          record {
            entries = w ∷ c.entries;
            lock = c.lock;
            recs = c.recs;
            until = steps e c.until;
            accepts = entry s.ok c.accepts;
            idle = c.idle;
            base = c.base;
            own = c.own;
            now = c.now ∙ ap (λ (m : List Rec). set m w c.own) s.now ∙ set-set l w s.own c.own;
          }

  -- ---- where it has come out
  module _ (L : Lock) (l : List Rec) (h : Sound S L l) (t : Tidy S L l) (valid : w < length l) (c : Came L l) where
    idle_there : (here c.recs w).place ≡ Idle
    idle_there = is_same _ _ c.idle

    others_stay : (j : ℕ) → j ≢ w → here c.recs j ≡ here l j
    others_stay j ne = ap (λ (m : List Rec). here m j) c.now ∙ get_or-set_other l w j c.own unbegun ne

    own_is : here c.recs w ≡ c.own
    own_is = ap (λ (m : List Rec). here m w) c.now ∙ get_or-set_same l w c.own unbegun valid

    size : length c.recs ≡ length l
    size = ap length c.now ∙ length-set l w c.own

    -- the one holder was it
    no_holder_left : HasFlag (here l w) → NoRecord HasFlag c.recs
    no_holder_left p j lt q = go (eqb j w) refl
      where
        go : (b : Bool) → eqb j w ≡ b → ⊥
        go true e = not_at_idle (here c.recs w) idle_there (subst (λ (k : ℕ). HasFlag (here c.recs k)) (eqb-true j w e) q)
        go false e =
            let ne = eqb-false j w e in
            ne (same_holder S L l h w j valid (subst (λ (n : ℕ). j < n) size lt) p (subst HasFlag (others_stay j ne) q))

    flag_down : HasFlag (here l w) → c.lock.exc ≡ false
    flag_down p = not_so c.lock.exc (λ up. go ((flag_up S c.lock c.recs c.base.sound).0 up))
      where
        go : HeldBy c.lock c.recs → ⊥
        go (a_record v lt q only none_dropped going) = no_holder_left p v lt q
        go (a_dropped_write free one_dropped going) = omega (arith, c.base.tidy.clean)
        go (the_end free none_dropped over) = true≢false (sym over ∙ c.base.tidy.clean.1)

    -- what the others count has not changed
    still : (p : Place) → sum (λ k r. is_at p r) 0 c.recs + is_at p (here l w) ≡ sum (λ k r. is_at p r) 0 l + is_at p (here c.recs w)
    still p =
        subst (λ (m : List Rec). sum (λ k r. is_at p r) 0 m + is_at p (here l w) ≡ sum (λ k r. is_at p r) 0 l + is_at p (here c.recs w)) (sym c.now)
        (rw own_is (omega (arith, sum_set (λ k r. is_at p r) l w c.own unbegun valid)))

    count_off : Counted (here l w) → c.lock.rc.0 + 1 ≡ L.rc.0
    count_off p =
        let gone = ap (λ (q : Place). is_at ReadCheck (plain 0 q) + is_at ReadBack (plain 0 q) + is_at Reading (plain 0 q)) idle_there in
        omega (
          arith,
          h.counts.count,
          c.base.sound.counts.count,
          t.clean,
          c.base.tidy.clean,
          counted_weighs (here l w) p,
          gone,
          still ReadCheck,
          still ReadBack,
          still Reading,
        )

  came_out : (L : Lock) (l : List Rec) → Sound S L l → Tidy S L l → Ready L (here l w) → w < length l → Came L l
  came_out L l h t ready valid = came (left (here l w)) L l (record { sound = h; tidy = t }) valid ready (omega arith)

  abbrev way_out : (L : Lock) (l : List Rec) → Sound S L l → Tidy S L l → w < length l → Came L l → WayOut S L l w
  way_out L l h t valid c =
      record {
        entries = c.entries;
        lock = c.lock;
        recs = c.recs;
        steps = c.until;
        accepted = (accepts_run S c.accepts).0;
        idle = idle_there L l h t valid c;
        others = others_stay L l h t valid c;
        down = flag_down L l h t valid c;
        off = count_off L l h t valid c;
      }

-- ---- by where the record stands
elsewhere : (L : Lock) (r : Rec) (p : Place) → is p WriteWait ≡ false → r.place ≡ p → Ready L r
elsewhere L r p ne e = omega (arith, ap (λ (q : Place). bit (is q WriteWait)) e ∙ ap bit ne)

counted_ready : (L : Lock) (r : Rec) → Counted r → Ready L r
counted_ready L r (checks e) = elsewhere L r ReadCheck refl e
counted_ready L r (backs e) = elsewhere L r ReadBack refl e
counted_ready L r (reads e) = elsewhere L r Reading refl e

-- a reader that comes out, and what it leaves
reader_came : (S : Scripts) (L : Lock) (l : List Rec) (w : ℕ) → Sound S L l → Tidy S L l → w < length l → Counted (here l w) → Came S w L l
reader_came S L l w h t lt p = came_out S w L l h t (counted_ready L (here l w) p) lt

pub readers_come_out : ReadersComeOut
readers_come_out S L l w h t lt p = way_out S w L l h t lt (reader_came S L l w h t lt p)

-- the count is not 0 and nothing is dropped: a record is counted, and the lowest-numbered is named
some_counted : (S : Scripts) (L : Lock) (l : List Rec) → Sound S L l → Tidy S L l → L.rc.0 ≢ 0
    → (w : ℕ) × (w < length l) × Counted (here l w) × NoneBelow Counted l w
some_counted S L l h t some =
    blocker_by is_counted Counted says_counted l (λ b. (w : ℕ) × (w < length l) × Counted (here l w) × NoneBelow Counted l w)
    (λ w lt p below. (w, lt, p, below))
    (λ free. absurd (some (omega (arith, dropped_read S L l h free, t.clean))))

pub full_goes_down : FullGoesDown
full_goes_down S L l i h t e = go ((why_exact S L l i h CountFull).0 e)
  where
    go : Because S L l i CountFull → (w : ℕ) × (w < length l) × Counted (here l w) × WayOut S L l w
    go (count_full m full) =
        let (w, lt, p, _) = some_counted S L l h t (λ z. omega (arith, h.top)) in
        (w, lt, p, readers_come_out S L l w h t lt p)

-- ---- the writer at WriteWait
module _ (S : Scripts) (w : ℕ) where
  -- where the count is not 0 its next row tells it
  meets : (L : Lock) (l : List Rec) → Sound S L l → Tidy S L l → w < length l → (here l w).place ≡ WriteWait → unread L ≡ false
      → MeetsReaders (step S L l w).row
  meets L l h t lt at some =
      let one : busy_of (here l w) ≡ 1 = ap (λ (p : Place). busy_of (plain 0 p)) at in
      let ok = (goes_on S w L l (record { sound = h; tidy = t }) lt one).1 in
      let (d, mv, now, access, got) = entered S L l w ok in
      let (code, count) = at_wait some (subst (λ (p : Place). Move w L (here l w) (op_of S l w) (val_of S l w) p d) at mv) in
      (access ∙ code, λ z. eqb-false L.rc.0 0 some (sym (got ∙ count) ∙ z))

  -- where the count is 0 it comes out
  waits_no_more : (L : Lock) (l : List Rec) → Sound S L l → Tidy S L l → w < length l → unread L ≡ true → WayOn S L l w
  waits_no_more L l h t lt free =
      let ready : Ready L (here l w) = omega (arith, bit_true (unread L) free, bit_le (is (here l w).place WriteWait)) in
      record { lock = L; recs = l; first = all_out; then = way_out S w L l h t lt (came_out S w L l h t ready lt) }

  abbrev Waiting : Lock → List Rec → Type 0
  Waiting L l = Sound S L l × Tidy S L l × (w < length l) × ((here l w).place ≡ WriteWait)

  -- the readers that it waits for leave, n at most
  waits_on : (n : ℕ) (L : Lock) (l : List Rec) → Waiting L l → L.rc.0 ≤ n → WayOn S L l w
  waits_on zero L l x few = waits_no_more L l x.0 x.1 x.2 (eq-eqb L.rc.0 0 (omega arith))
  waits_on (suc n) L l x few = go (unread L) refl (waits_on n)
    where
      go : (b : Bool) → unread L ≡ b → ((M : Lock) (m : List Rec) → Waiting M m → M.rc.0 ≤ n → WayOn S M m w) → WayOn S L l w
      go true free on = waits_no_more L l x.0 x.1 x.2 free
      go false some on =
          let (h, t, lt, at) = x in
          let nonzero = eqb-false L.rc.0 0 some in
          let (v, low, p, below) = some_counted S L l h t nonzero in
          let c = reader_came S L l v h t low p in
          let o = way_out S v L l h t low c in
          let named = (why_exact S L l w h (Readers (Some v))).1 (counted_by v (meets L l h t lt at some) nonzero low p below) in
          let apart : w ≢ v = λ e. for_another S L l w v h (rw named reader) (sym e) in
          let stays_there : (here c.recs w).place ≡ WriteWait = ap (λ (r : Rec). r.place) (o.others w apart) ∙ at in
          let in_list : w < length c.recs = rw (size S v L l h t low c) lt in
          let k = on c.lock c.recs (c.base.sound, c.base.tidy, in_list, stays_there) (omega (arith, o.off p)) in
          record { lock = k.lock; recs = k.recs; first = one_out v named o k.first; then = k.then }

-- ---- whoever is named
by_itself : (S : Scripts) (L : Lock) (l : List Rec) (w : ℕ) → Sound S L l → Tidy S L l → w < length l → Ready L (here l w) → WayOn S L l w
by_itself S L l w h t lt ready = record { lock = L; recs = l; first = all_out; then = way_out S w L l h t lt (came_out S w L l h t ready lt) }

holder_goes_on : (S : Scripts) (L : Lock) (l : List Rec) (w : ℕ) → Sound S L l → Tidy S L l → w < length l → HasFlag (here l w) → WayOn S L l w
holder_goes_on S L l w h t lt (waits e) = waits_on S w L.rc.0 L l (h, t, lt, e) (omega arith)
holder_goes_on S L l w h t lt (takes e) = by_itself S L l w h t lt (elsewhere L (here l w) WriteTake refl e)
holder_goes_on S L l w h t lt (writes e) = by_itself S L l w h t lt (elsewhere L (here l w) Writing refl e)
holder_goes_on S L l w h t lt (puts e) = by_itself S L l w h t lt (elsewhere L (here l w) WritePut refl e)

pub named_goes_on : NamedGoesOn
named_goes_on S L l i w h t n = go (why S L l i) ((why_exact S L l i h (why S L l i)).0 refl) n
  where
    go : (y : Reason) → Because S L l i y → Names y w → WayOn S L l w
    go y (flag_held v m on lt p) holder = holder_goes_on S L l w h t lt p
    go y (counted_by v m some lt p below) reader = by_itself S L l w h t lt (counted_ready L (here l w) p)
    go _ (not_waiting _) x = elim x [ ]
    go _ (count_full _ _) x = elim x [ ]
    go _ (count_changed _ _) x = elim x [ ]
    go _ (flag_dropped _ _ _ _) x = elim x [ ]
    go _ (counted_dropped _ _ _ _) x = elim x [ ]

pub changed_looks_again : ChangedLooksAgain
changed_looks_again S L l i h e =
    let fits = (fits_row S L l i).1.0 e in
    let after = code_13 S L l i h fits in
    (((waits_exactly S L l i).0 (λ z. changed_waits (sym e ∙ z))).0, ap (λ (r : Rec). r.place) after.4)
  where
    changed_waits : CountChanged ≡ NotWaiting → ⊥
    changed_waits z = true≢false (ap is_changed z)
      where
        is_changed : Reason → Bool
        is_changed NotWaiting = false
        is_changed CountFull = false
        is_changed CountChanged = true
        is_changed (Flag b) = false
        is_changed (Readers b) = false

pub none_for_dropped : NoneForDropped
none_for_dropped S L l i h t = (λ e. of_flag ((why_exact S L l i h (Flag None)).0 e), λ e. of_readers ((why_exact S L l i h (Readers None)).0 e))
  where
    of_flag : Because S L l i (Flag None) → ⊥
    of_flag (flag_dropped m on free some) = omega (arith, t.clean)

    of_readers : Because S L l i (Readers None) → ⊥
    of_readers (counted_dropped m some free all) = some (omega (arith, t.clean))
