-- The lines of the answers, one behind the other, and stored so. Assumes nothing.
use Prim.Native.Nat.{ℕ, zero, suc, ◌+◌, ◌*◌, ◌≤◌}
use mathlib.Core.Path.{◌≡◌, refl, sym, ap, subst, ◌∙◌}
use mathlib.Core.List.{List, [], ◌++◌, append_assoc, append-nil}
use native.Mathlib.Numerals.{add-one}
use native.Mathlib.Omega.{arith}
use lib.ListN.{length, length-append}
use Rattle.machine.specs.Lists.{Lent}
use Rattle.scenario_text.specs.Lines.{fields, last_field, refusal, four_text}
use Rattle.scenario_text.specs.Put.{Put, stored, place_after}
use Rattle.scenario_text.proofs.Digits.{text_short}
use Rattle.scenario_text.proofs.Stores.{puts, both, put_so}
use Rattle.scenario_text.proofs.Texts.{four_short}
use Rattle.scenario_pieces.specs.declared.Standing.{Standing}
use Rattle.why.specs.Told.{numbers_of}
use Rattle.std.specs.Prelude.{Result}
use Rattle.why.specs.declared.Reason.{Reason}
use Rattle.machine.specs.declared.Refusal.{Refusal}
use Rattle.why.specs.declared.Numbers.{Numbers}
use Rattle.why_prints.specs.Prints.{why_header, line_text, lines_text, threads_of, told_at, answers_of}

-- one line more
pub lines_more : (told : ℕ → Result Reason Refusal) (t c : ℕ) → lines_text told t (suc c) ≡ lines_text told t c ++ line_text (t + c) (told (t + c))
unfolding lines_text
lines_more told t zero = let e : t ≡ t + 0 = omega arith in append-nil (line_text t (told t)) ∙ ap (λ (k : ℕ). line_text k (told k)) e
lines_more told t (suc c) =
    let e : t + 1 + c ≡ t + suc c = omega arith in
    ap (λ (l : List ℕ). line_text t (told t) ++ l) (lines_more told (t + 1) c)
    ∙ sym (append_assoc (line_text t (told t)) (lines_text told (t + 1) c) (line_text (t + 1 + c) (told (t + 1 + c))))
    ∙ ap (λ (k : ℕ). (line_text t (told t) ++ lines_text told (t + 1) c) ++ line_text k (told k)) e

-- ---- what is stored
-- fewer bytes than there is room for
pub wider : {o p s : List ℕ} {at r j : ℕ} (k : ℕ) → j ≤ k → Put o at s j r p → Put o at s k r p
wider k h a = record { next = a.next; left = a.left; room = omega (arith, a.room); size = a.size }

pub nothing_put : (o : List ℕ) (at most : ℕ) → Put o at [] most at o
nothing_put o at most = puts o o [] at at most (omega arith) refl (omega arith)

pub refusal_short : (number line : ℕ) → length (refusal number line) ≤ 51
unfolding refusal fields last_field
refusal_short number line = simp length-append (omega (arith, text_short number, text_short line))

pub header_short : length why_header ≤ 26
unfolding why_header
header_short = omega arith

-- a line, where there is room; m are the numbers of what was told
pub line_put : {o p : List ℕ} {at r : ℕ} (thread : ℕ) (told : Result Reason Refusal) (m : Numbers) → m ≡ numbers_of told → at + 85 ≤ length o
    → (r ≡ place_after 85 o at (four_text thread m.answer m.reason m.who)) × (p ≡ stored 85 o at (four_text thread m.answer m.reason m.who))
    → Put o at (line_text thread told) 85 r p
line_put {o} {p} {at} {r} thread told m is room put =
    subst (λ (n : Numbers). Put o at (four_text thread n.answer n.reason n.who) 85 r p) is
    (put_so o p (four_text thread m.answer m.reason m.who) at r 85 room (four_short thread m.answer m.reason m.who) put)

-- ---- the loop: the lines of the first t threads are stored
module _ (told : ℕ → Result Reason Refusal) (o : List ℕ) (at : ℕ) where
  abbrev pub Stored : ℕ → ℕ → List ℕ → Type 0
  Stored t p out = Put o at (lines_text told 0 t) (85 * t) p out

  pub begins : Stored 0 at o
  unfolding lines_text
  begins = nothing_put o at 0

  pub goes_on : (t p : ℕ) (out : List ℕ) (x : Result Reason Refusal) (r : ℕ) (out' : List ℕ) → Stored t p out → x ≡ told t → Put out p (line_text t x) 85 r out'
      → Stored (t + 1) r out'
  goes_on t p out x r out' a is b =
      let e : 85 * (t + 1) ≡ 85 * t + 85 = omega arith in
      let z : 0 + t ≡ t = omega arith in
      let more : lines_text told 0 (suc t) ≡ lines_text told 0 t ++ line_text t (told t) = lines_more told 0 t ∙ ap (λ (k : ℕ). lines_text told 0 t ++ line_text k (told k)) z in
      let line = subst (λ (y : Result Reason Refusal). Put out p (line_text t y) 85 r out') is b in
      subst (λ (k : ℕ). Put o at (lines_text told 0 k) (85 * (t + 1)) r out') (sym (add-one t))
      (subst (λ (l : List ℕ). Put o at l (85 * (t + 1)) r out') (sym more) (wider (85 * (t + 1)) (omega (arith, e)) (both a line)))

-- all of them
pub all_there : {o out : List ℕ} {at n t p : ℕ} (s : Lent) (q : Standing) → n ≡ threads_of s → t ≡ n → Stored (told_at s q) o at t p out
    → Put o at (lines_text (told_at s q) 0 (threads_of s)) 1360 p out
all_there {o} {out} {at} {n} {t} {p} s q n_is all a =
    let few : t ≤ 16 = omega (arith, n_is, all) in
    subst (λ (k : ℕ). Put o at (lines_text (told_at s q) 0 k) 1360 p out) (all ∙ n_is) (wider 1360 (omega (arith, few)) a)

-- ---- the whole text
pub header_put : (o p : List ℕ) (at n : ℕ) → at + 1386 ≤ length o → (n ≡ place_after 26 o at why_header) × (p ≡ stored 26 o at why_header) → Put o at why_header 26 n p
header_put o p at n room header = put_so o p why_header at n 26 (omega arith) header_short header

pub answers_put : {o p q : List ℕ} {at n r : ℕ} (s : Lent) (x : Standing) → at + 1386 ≤ length o
    → (n ≡ place_after 26 o at why_header) × (p ≡ stored 26 o at why_header) → Put p n (lines_text (told_at s x) 0 (threads_of s)) 1360 r q
    → Put o at (answers_of s x) 1386 r q
answers_put {o} {p} {q} {at} {n} {r} s x room header lines = both (header_put o p at n room header) lines

pub refusal_put : {o p : List ℕ} {at r : ℕ} (number line : ℕ) → at + 1386 ≤ length o → (r ≡ place_after 51 o at (refusal number line)) × (p ≡ stored 51 o at (refusal number line))
    → Put o at (refusal number line) 1386 r p
refusal_put {o} {p} {at} {r} number line room put = wider 1386 (omega arith) (put_so o p (refusal number line) at r 51 (omega arith) (refusal_short number line) put)
