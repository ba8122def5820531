-- The reader takes exactly what the writer writes, and gives its signals back; every number is given exactly where it is due. Assumes nothing.
use Prim.Native.Nat.{ℕ, suc, ◌+◌, ◌*◌, ◌-◌, ◌<◌, ◌≤◌}
use mathlib.Core.Bool.{Bool, true, false, cond}
use mathlib.Core.Path.{◌≡◌, refl, sym, ap, ◌∙◌}
use mathlib.Core.List.{List, [], ◌∷◌, ◌++◌}
use native.Mathlib.Omega.{arith}
use borrow.Author.Tests.{leb-true, leb-false, le-leb, lt-leb}
use lib.Dec.{leb}
use lib.ListN.{length, take, drop}
use lib.Seq.{sets, sets-eq, take_at, drop_at}
use Rattle.vcd.specs.Wave.{waveform}
use Rattle.vcd.specs.Trace.{signals_in, Lendable, words}
use Rattle.std.specs.Prelude.{◌↔◌, Option, None, Some, Result, Ok, Err, MatchResult}
use Rattle.vcd.specs.Write.{wrong, file_of, written, written_in}
use Rattle.vcd.specs.Read.{found, read_as, read, read_in}
use Rattle.vcd.specs.Exact.{Different, Numbers, NumbersDiffer, WrittenIsRead, Writer43, Writer41, WriterTakes, Reader42, TooMany, Reader41, ReaderTakes, ReaderOnly, RefusedWriter, RefusedReader, BytesBehind}
use Rattle.vcd.specs.declared.Signals.{Signals}
use Rattle.vcd.specs.declared.Refusal.{Refusal}
use Rattle.vcd.specs.declared.Refusal.TheVariants.{NoRoom, NoWave, NoTrace}
use Rattle.vcd.proofs.FindsAll.{finds_all}
use Rattle.vcd.proofs.FindsOnly.{finds_only}
use Rattle.vcd.proofs.Traces.{trace_lendable}

-- ---- a list, stored at the start of another
stored : (v l : List ℕ) → length v ≤ length l → sets l 0 v ≡ v ++ drop (length v) l
stored v l h =
    let e : 0 + length v ≡ length v = omega arith in
    sets-eq v l 0 (omega arith) ∙ rw e

stored_first : (v l : List ℕ) (n : ℕ) → length v ≡ n → n ≤ length l → take n (sets l 0 v) ≡ v
stored_first v l n e h = rw (stored v l (omega (arith, e))) (take_at v (drop (length v) l) n e)

stored_behind : (v l : List ℕ) (n : ℕ) → length v ≡ n → n ≤ length l → drop n (sets l 0 v) ≡ drop n l
stored_behind v l n e h = rw (stored v l (omega (arith, e)), e) (drop_at v (drop n l) n e)

-- ---- the numbers
pub numbers : Numbers
numbers = (refl, refl, refl)

pub numbers_differ : NumbersDiffer
numbers_differ NoRoom NoRoom e = refl
numbers_differ NoRoom NoWave e = absurd (omega (arith, e))
numbers_differ NoRoom NoTrace e = absurd (omega (arith, e))
numbers_differ NoWave NoRoom e = absurd (omega (arith, e))
numbers_differ NoWave NoWave e = refl
numbers_differ NoWave NoTrace e = absurd (omega (arith, e))
numbers_differ NoTrace NoRoom e = absurd (omega (arith, e))
numbers_differ NoTrace NoWave e = absurd (omega (arith, e))
numbers_differ NoTrace NoTrace e = refl

-- ---- the writer's answer, for what is wrong, what has room, and the length
abbrev answer : Bool → Bool → ℕ → Result ℕ Refusal
answer w r n = cond w (Err NoTrace) (cond r (Ok n) (Err NoRoom))

by_43 : (w r : Bool) (n : ℕ) → (answer w r n ≡ Err NoTrace) ↔ (w ≡ true)
by_43 true r n = (λ h. refl, λ h. refl)
by_43 false true n = (λ h. cc, λ h. cc)
by_43 false false n = (λ h. cc, λ h. cc)

pub writer_43 : Writer43
unfolding written
writer_43 trace s room = by_43 (wrong trace s) (leb (length (file_of trace s)) room) (length (file_of trace s))

by_41 : (w r : Bool) (n : ℕ) → (answer w r n ≡ Err NoRoom → (w ≡ false) × (r ≡ false)) × (w ≡ false → r ≡ false → answer w r n ≡ Err NoRoom)
by_41 true r n = (λ h. cc, λ e f. cc)
by_41 false true n = (λ h. cc, λ e f. cc)
by_41 false false n = (λ h. (refl, refl), λ e f. refl)

pub writer_41 : Writer41
unfolding written
writer_41 trace s room =
    let n = length (file_of trace s) in
    let b = by_41 (wrong trace s) (leb n room) n in
    (λ h. ((b.0 h).0, leb-false n room (b.0 h).1), λ e g. b.1 e (lt-leb n room g))

by_ok : (w r : Bool) (n m : ℕ) → answer w r n ≡ Ok m → (w ≡ false) × (r ≡ true) × (n ≡ m)
by_ok true r n m h = cc
by_ok false true n m h = (refl, refl, cc)
by_ok false false n m h = cc

-- what was written is the text, and has room
module _ (trace : List ℕ) (s : Signals) (out : List ℕ) (n : ℕ) (h : written trace s (length out) ≡ Ok n) where
  taken_by : (wrong trace s ≡ false) × (leb (length (file_of trace s)) (length out) ≡ true) × (length (file_of trace s) ≡ n)
  unfolding written
  taken_by = by_ok (wrong trace s) (leb (length (file_of trace s)) (length out)) (length (file_of trace s)) n h

  stored_file : written_in trace s out ≡ sets out 0 (file_of trace s)
  unfolding written_in
  stored_file = rw h

  room_at : n ≤ length out
  room_at = rw (← taken_by.2) (leb-true (length (file_of trace s)) (length out) taken_by.1)

  written_file : take n (written_in trace s out) ≡ file_of trace s
  written_file = rw stored_file (stored_first (file_of trace s) out n taken_by.2 room_at)

  behind_file : drop n (written_in trace s out) ≡ drop n out
  behind_file = rw stored_file (stored_behind (file_of trace s) out n taken_by.2 room_at)

pub writer_takes : WriterTakes
unfolding written
writer_takes trace s out right room =
    let is : written trace s (length out) ≡ Ok (length (file_of trace s)) = rw (right, le-leb (length (file_of trace s)) (length out) room) in
    (is, written_file trace s out (length (file_of trace s)) is)

pub refused_writer : RefusedWriter
unfolding written_in
refused_writer trace s out why h = rw h

behind_by : (r : Result ℕ Refusal) (trace : List ℕ) (s : Signals) (out : List ℕ) → written trace s (length out) ≡ r
    → MatchResult r (λ n. drop n (written_in trace s out) ≡ drop n out) (λ why. written_in trace s out ≡ out)
behind_by (Ok n) trace s out e = behind_file trace s out n e
behind_by (Err why) trace s out e = refused_writer trace s out why e

pub bytes_behind : BytesBehind
bytes_behind trace s out = behind_by (written trace s (length out)) trace s out refl

-- ---- the reader's answer
pub refused_reader : RefusedReader
unfolding read_in
refused_reader file out why h = rw h

some_by : (t : Bool) (n : ℕ) → cond t (Ok n) (Err NoRoom) ≡ Err NoWave → ⊥
some_by true n h = cc
some_by false n h = cc

no_wave : (f : Option (List Signals)) (room : ℕ) → read_as f room ≡ Err NoWave → f ≡ None
no_wave None room h = refl
no_wave (Some xs) room h = absurd (some_by (leb (2 * length xs) room) (length xs - 1) h)

no_wave_by : (f : Option (List Signals)) (room : ℕ) → ((xs : List Signals) → f ≡ Some xs → ⊥) → read_as f room ≡ Err NoWave
no_wave_by None room h = refl
no_wave_by (Some xs) room h = absurd (h xs refl)

room_by : (t : Bool) (n : ℕ) → cond t (Ok n) (Err NoRoom) ≡ Err NoRoom → t ≡ false
room_by true n h = cc
room_by false n h = refl

no_room_lem : (f : Option (List Signals)) (room : ℕ) → read_as f room ≡ Err NoRoom → (xs : List Signals) × (f ≡ Some xs) × (room < 2 * length xs)
no_room_lem None room h = cc
no_room_lem (Some xs) room h = (xs, refl, leb-false (2 * length xs) room (room_by (leb (2 * length xs) room) (length xs - 1) h))

pub words_length : (xs : List Signals) → length (words xs) ≡ 2 * length xs
unfolding words
words_length [] = refl
words_length (x ∷ xs) = omega (arith, words_length xs)

-- ---- the parts of a list
abbrev first_of : Signals → List Signals → Signals
first_of s [] = s
first_of s (x ∷ xs) = x

abbrev rest_of : List Signals → List Signals
rest_of [] = []
rest_of (x ∷ xs) = xs

pub different : Different
different s s' xs xs' h h' e =
    let found_both : Some (s ∷ xs) ≡ Some (s' ∷ xs') = sym (finds_all s xs h) ∙ ap found e ∙ finds_all s' xs' h' in
    let all : s ∷ xs ≡ s' ∷ xs' = cc in
    (ap (first_of s) all, ap rest_of all)

pub reader_42 : Reader42
unfolding read
reader_42 file room = (
  λ h s xs l e. let no : None ≡ Some (s ∷ xs) = sym (no_wave (found file) room h) ∙ ap found e ∙ finds_all s xs l in cc,
  λ none. no_wave_by (found file) room (λ all h. let w = finds_only file all h in none w.0 w.1 w.3 w.4),
)

-- signals that were found, and have no room
too_many : (file : List ℕ) (room : ℕ) (all : List Signals) → found file ≡ Some all → room < 2 * length all → TooMany file room
too_many file room all h few =
    let w = finds_only file all h in
    (w.0, w.1, w.3, w.4, omega (arith, ap length w.2))

pub reader_41 : Reader41
unfolding read
reader_41 file room = (
  λ h. let n = no_room_lem (found file) room h in too_many file room n.0 n.1 n.2,
  λ m. rw (m.3, finds_all m.0 m.1 m.2, lt-leb (2 * suc (length m.1)) room (omega (arith, m.4))),
)

module _ (s : Signals) (xs : List Signals) (into : List ℕ) (h : Lendable s xs) (room : 2 * (length xs + 1) ≤ length into) where
  reads : read (waveform s xs) (length into) ≡ Ok (length xs)
  unfolding read
  reads =
      let e : suc (length xs) - 1 ≡ length xs = omega arith in
      rw (finds_all s xs h, le-leb (2 * suc (length xs)) (length into) (omega (arith, room)), e)

  stores : read_in (waveform s xs) into ≡ sets into 0 (words (s ∷ xs))
  unfolding read_in
  stores = rw (reads, finds_all s xs h)

  long : length (words (s ∷ xs)) ≡ 2 * (length xs + 1)
  long = omega (arith, words_length (s ∷ xs))

pub reader_takes : ReaderTakes
reader_takes s xs into h room =
    let n = 2 * (length xs + 1) in (
      reads s xs into h room,
      rw (stores s xs into h room) (stored_first (words (s ∷ xs)) into n (long s xs into h room) room),
      rw (stores s xs into h room) (stored_behind (words (s ∷ xs)) into n (long s xs into h room) room),
    )

-- what was taken was found, and has room
found_by : (f : Option (List Signals)) (room n : ℕ) → read_as f room ≡ Ok n → (all : List Signals) × (f ≡ Some all) × (2 * length all ≤ room)
found_by None room n h = cc
found_by (Some all) room n h = (all, refl, by_room (leb (2 * length all) room) refl h)
  where
    by_room : (t : Bool) → leb (2 * length all) room ≡ t → cond t (Ok (length all - 1)) (Err NoRoom) ≡ Ok n → 2 * length all ≤ room
    by_room true e h = leb-true (2 * length all) room e
    by_room false e h = cc

pub reader_only : ReaderOnly
unfolding read
reader_only file into n h =
    let (all, is, room) = found_by (found file) (length into) n h in
    let (s, xs, parts, lendable, text) = finds_only file all is in
    let r = reader_takes s xs into lendable (omega (arith, room, ap length parts)) in
    let both : Ok n ≡ Ok (length xs) = sym h ∙ ap (λ (l : List ℕ). read l (length into)) text ∙ r.0 in (
      s,
      xs,
      lendable,
      text,
      cc,
      ap (λ (l : List ℕ). take (2 * (length xs + 1)) (read_in l into)) text ∙ r.1,
    )

pub written_is_read : WrittenIsRead
written_is_read trace s out into few b wide n h room =
    let e = written_file trace s out n h in
    let r = reader_takes s (signals_in trace) into (trace_lendable trace s few b wide (taken_by trace s out n h).0) room in
    (e, ap (λ (l : List ℕ). read l (length into)) e ∙ r.0, ap (λ (l : List ℕ). take (2 * (length (signals_in trace) + 1)) (read_in l into)) e ∙ r.1)
