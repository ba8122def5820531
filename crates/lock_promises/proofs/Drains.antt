-- A drain that is not refused, from any state: it ends every script by the drain order, and a run of its entries leaves the same.
use Rattle.lock.proofs.Told.{none_some}
use Rattle.lock_promises.specs.Given.{refusal_in}
use Rattle.std.specs.Prelude.{None}
use Prim.Native.Nat.{ℕ, ◌≤◌}
use mathlib.Core.Path.{◌≡◌, refl, ap, ◌∙◌, sym}
use mathlib.Core.List.{List}
use native.Mathlib.Omega.{arith}
use lib.ListN.{length, take, drop}
use lib.Seq.{length-take-le, take_at, drop_at}
use Rattle.machine.specs.Lists.{Lent, scripts_of, some_refusal}
use Rattle.machine.specs.Run.{run}
use Rattle.machine.specs.Drain.{Order, drain, drain_refusal, DrainLeft, drain_lent}
use Rattle.machine.specs.declared.Lock.{Lock}
use Rattle.machine.specs.declared.Rec.{Rec}
use Rattle.machine.proofs.Ends.{drain_rule}
use Rattle.machine.proofs.Exclusive.{sound_is_safe}
use Rattle.machine.proofs.Order.{order_is_one}
use Rattle.machine.proofs.Runs.{run_sound}
use Rattle.lock.specs.ByValue.{drain_refusal_of, drain_of}
use Rattle.lock.specs.Drain.{drained_of}
use Rattle.lock.specs.declared.drain.DrainReturn.{DrainReturn}
use Rattle.lock.proofs.Refusing.{none_refused, no_number, number_beside}
use Rattle.lock.proofs.Draining.{none_of_run, drain_by_value}
use Rattle.lock_promises.specs.Promises.{Over, OverByValue, AcceptedDrain, SafeDrain, AcceptedDrainByValue}
use Rattle.lock_promises.proofs.Refusing.{drain_told, drain_told_by_value, in_some}

pub drain_over : (s : Lent) (L : Lock) (l : List Rec) (left : DrainLeft) → left ≡ drain_lent s L l → drain_refusal s L l ≡ 0
    → Over s L l left.refusal left.n left.lock left.recs
drain_over s L l left is none =
    let (refusal, n, lock, recs, sound, drained) = drain_rule s L l none in
    let S = scripts_of s in
    let w = drain S L l in
    rw (is, refusal, n, lock, recs)
    (record {
      accepted = number_beside s 0;
      sound = sound;
      entries = w.made;
      used = refl;
      order = drained.order;
      only = λ es M m order. order_is_one S L M w.lock l m w.recs es w.made order drained.order;
      none_refused = drained.accepted;
      same_lock = drained.lock;
      same_recs = drained.recs;
      bounded = drained.bounded;
      size = drained.size;
      ended = drained.ended;
      clear = drained.clear;
      none_counted = drained.count;
      full = drained.full;
    })

pub accepted_drain : AcceptedDrain
accepted_drain s L l left is none = drain_over s L l left is (no_number s (drain_refusal s L l) left.refusal (drain_told s L l left is) none)

pub safe_drain : SafeDrain
safe_drain s L l why n L' l' over =
    let S = scripts_of s in
    (λ k. sound_is_safe S _ _ (run_sound S (take k over.entries) L l over.sound), rw (← over.same_lock, ← over.same_recs) (sound_is_safe S _ _ (run_sound S over.entries L l over.sound)))

-- a run of the entries of a drain leaves what the drain leaves
pub order_run : (s : Lent) (L : Lock) (l : List Rec) (left : DrainLeft) (es : List ℕ) → left ≡ drain_lent s L l → left.refusal.number ≡ 0
    → Order (scripts_of s) L l es left.lock left.recs
    → ((run (scripts_of s) L l es).lock ≡ left.lock) × ((run (scripts_of s) L l es).recs ≡ left.recs)
order_run s L l left es is none order =
    let over = accepted_drain s L l left is none in
    rw (over.only es left.lock left.recs order).0 (over.same_lock, over.same_recs)

-- ---- with records by value
pub over_by_value : (s : Lent) (count : ℕ) (L : Lock) (recs : List Rec) → count ≤ length recs
    → (d : DrainReturn) → d ≡ drained_of count recs (drain_of s count L recs) → drain_refusal s L (take count recs) ≡ 0
    → OverByValue s count L recs d
over_by_value s count L recs enough d is none =
    let left = drain_lent s L (take count recs) in
    let over = drain_over s L (take count recs) left refl none in
    let size : length left.recs ≡ count = over.size ∙ length-take-le count recs enough in
    let same : refusal_in (some_refusal left.refusal) ≡ left.refusal =
    rw (drain_told s L (take count recs) left refl) (in_some s (drain_refusal s L (take count recs)))
    in
    rw (is, drain_by_value s count L recs enough, same, take_at left.recs (drop count recs) count size)
    (over, drop_at left.recs (drop count recs) count size)

-- the number of refusal that is given by value is machine's
same_none : (s : Lent) (count : ℕ) (L : Lock) (recs : List Rec) → count ≤ length recs
    → (d : DrainReturn) → d ≡ drained_of count recs (drain_of s count L recs) → d.drained.refusal ≡ None → drain_refusal s L (take count recs) ≡ 0
same_none s count L recs enough d is none =
    let l = take count recs in
    let left = drain_lent s L l in
    let same : d.drained.refusal ≡ some_refusal left.refusal =
    ap (λ (x : DrainReturn). x.drained.refusal) is ∙ ap (λ (x : DrainLeft). some_refusal x.refusal) (drain_by_value s count L recs enough)
    in
    none_some s (drain_refusal s L l) (sym (same ∙ ap some_refusal (drain_told s L l left refl)) ∙ none)

pub accepted_drain_by_value : AcceptedDrainByValue
accepted_drain_by_value s count L recs d is wide none =
    let l = take count recs in
    let k = none_some s (drain_refusal_of s count L l) (sym (drain_told_by_value s count L recs d is) ∙ none) in
    let (same, ready) = none_refused s count L recs (none_of_run s count L l k) in
    let enough : count ≤ length recs = omega (arith, wide, ready.threads) in
    over_by_value s count L recs enough d is (same_none s count L recs enough d is none)
