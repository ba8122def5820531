-- Numbers with a comma before each, one list behind the other. Assumes nothing.
use Rattle.std.proofs.Common.{◌≡◌, ℕ, zero, suc, ◌+◌, ◌*◌, ◌<◌, ◌≤◌, min, List, [], ◌∷◌, ◌++◌, length, get_or, take, sym, refl, ap, ◌∙◌, subst, append_assoc, append-nil, add-one, arith, length-take, take-suc}
use native.Mathlib.Nat.{zero-min, suc-min-suc}
use lib.Seq.{take-nil}
use Rattle.scenario_lines.specs.Ascii.{bytes}
use Rattle.scenario_lines.specs.Bytes.{longest}
use Rattle.scenario_lines.specs.Judge.{comma}
use Rattle.scenario_text.specs.Number.{text}
use Rattle.scenario_text.specs.Lines.{break}
use Rattle.scenario_text.specs.Put.{Put}
use Rattle.scenario_text.proofs.Stores.{puts}
use Rattle.scenario_stages.specs.declared.Read.{Read}
use Rattle.program_told.specs.Told.{listed, refused_bytes, read_numbers, read_text}

pub listed_append : (a b : List ℕ) → listed (a ++ b) ≡ listed a ++ listed b
unfolding listed
listed_append [] b = refl
listed_append (v ∷ a) b = ap (λ (l : List ℕ). comma ∷ (text v ++ l)) (listed_append a b) ∙ ap (λ (l : List ℕ). comma ∷ l) (sym (append_assoc (text v) (listed a) (listed b)))

pub one_listed : (v : ℕ) → listed (v ∷ []) ≡ (comma ∷ []) ++ text v
unfolding listed
one_listed v = ap (λ (l : List ℕ). comma ∷ l) (append-nil (text v))

-- one number more of a list
pub one_more : (l : List ℕ) (i : ℕ) → i < length l → listed (take (i + 1) l) ≡ listed (take i l) ++ listed (get_or l i 0 ∷ [])
one_more l i h = rw (add-one, take-suc l i 0 h) (listed_append (take i l) (get_or l i 0 ∷ []))

pub nothing_yet : (o l : List ℕ) (at : ℕ) → Put o at (listed (take 0 l)) (21 * 0) at o
unfolding listed
nothing_yet o l at = puts o o [] at at 0 (omega arith) refl (omega arith)

-- ---- the bytes of the line
pub bytes_few : (len : ℕ) (line : List ℕ) → length (refused_bytes len line) ≤ longest
bytes_few len line = rw (length-take (min len longest) line) (omega arith)

-- as far as there are places
take_min : (k : ℕ) (l : List ℕ) → take (min k (length l)) l ≡ take k l
take_min zero l = rw (zero-min (length l)) refl
take_min (suc k) [] = take-nil (min (suc k) 0)
take_min (suc k) (x ∷ l) = rw (suc-min-suc k (length l)) (ap (λ (m : List ℕ). x ∷ m) (take_min k l))

pub as_far : (len : ℕ) (line : List ℕ) (m n : ℕ) → m ≡ min len longest → n ≡ min m (length line) → take n line ≡ refused_bytes len line
as_far len line m n e f = rw (f, e) (take_min (min len longest) line)

-- the whole text has the room that is asked for it
pub in_all : {o q : List ℕ} {at r : ℕ} (read : Read) (len : ℕ) (line told : List ℕ) → told ≡ refused_bytes len line
    → Put o at ((bytes "read" ++ listed (read_numbers read len)) ++ (listed told ++ break)) (130 + (21 * length told + 2)) r q
    → Put o at (read_text read len line) 1812 r q
unfolding read_text
in_all {o} {q} {at} {r} read len line told is put =
    let few : length told ≤ 80 = rw is (bytes_few len line) in
    let front = bytes "read" ++ listed (read_numbers read len) in
    let all : Put o at (front ++ (listed told ++ break)) 1812 r q =
    record { next = put.next; left = put.left; room = omega (arith, put.room, few); size = put.size } in
    subst (λ (s : List ℕ). Put o at (front ++ (listed s ++ break)) 1812 r q) is all
