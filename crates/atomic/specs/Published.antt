-- The published contracts of the source's atomics, clause for clause, as statements about the definitions of Access. The comments
-- give the source's words: `old` and `final` are the permission before and after, `ret` is what is returned.
use Rattle.std.specs.Prelude.{ℕ, ◌+◌, ◌-◌, ◌^◌, ◌<◌, ◌≤◌, Bool, not, ◌&&◌, ◌||◌, cond, ◌⊎◌, ◌≡◌, eqb, ltb, leb}
use Rattle.std.specs.Bool.{beq}
use Rattle.atomic.specs.declared.CellId.{CellId}
use Rattle.atomic.specs.declared.Refusal.TheVariants.{Foreign, Outside}
use Rattle.atomic.specs.Permission.{Permission, keeps}
use Rattle.atomic.specs.Bits.{bit, both, either, differ, not_both}
use Rattle.atomic.specs.Access.{old, failed, nothing, refused, Access, fetches, load, store, swap, compare_exchange, compare_exchange_weak, fetch_add, fetch_sub, fetch_add_wrapping, fetch_sub_wrapping, fetch_and, fetch_or, fetch_xor, fetch_nand, fetch_max, fetch_bool, on, answer_of}

-- final(perm).patomic == old(perm).patomic, of every access
abbrev pub KeepsIdentity : Type 1
KeepsIdentity = (A : Type 0) (c : CellId) (p : Permission A) (access : A → Access A) → (on c p access).perm.id ≡ p.id

-- requires equal(self.id(), old(perm).patomic): where it is met the access is made on the permission's value, and
-- equal(self.id(), final(perm).patomic); else nothing is done and it is 21
abbrev pub IdentityAsked : Type 1
IdentityAsked =
    (A : Type 0) (c : CellId) (p : Permission A) (access : A → Access A)
    → (c.0 ≡ p.id.0 → ((on c p access).perm.value ≡ (access p.value).leaves) × ((on c p access).answer ≡ (access p.value).answers) × ((on c p access).perm.id.0 ≡ c.0))
    × ((c.0 ≡ p.id.0 → ⊥) → on c p access ≡ record { perm = p; answer = refused Foreign })

-- the number of each answer: 21 where the identities differ, else 22 exactly where fetch_add or fetch_sub would leave the width, and
-- 0 for what is done
abbrev pub Numbered : Type 1
Numbered =
    ((A : Type 0) (c : CellId) (p : Permission A) (access : A → Access A) → answer_of (on c p access).answer ≡ cond (eqb c.0 p.id.0) (answer_of (access p.value).answers) 21)
    × ((w n was : ℕ) → answer_of (fetch_add w n was).answers ≡ cond (ltb (was + n) (2 ^ w)) 0 22)
    × ((n was : ℕ) → answer_of (fetch_sub n was).answers ≡ cond (leb n was) 0 22)
    × ((A : Type 0) (same : A → A → Bool) (v to was : A) → (answer_of (load was).answers ≡ 0) × (answer_of (store v was).answers ≡ 0) × (answer_of (swap v was).answers ≡ 0) × (answer_of (compare_exchange same v to was).answers ≡ 0) × (answer_of (compare_exchange_weak same v to was).answers ≡ 0))
    × ((w n was : ℕ) → (answer_of (fetch_add_wrapping w n was).answers ≡ 0) × (answer_of (fetch_sub_wrapping w n was).answers ≡ 0) × (answer_of (fetch_max n was).answers ≡ 0) × (answer_of (fetch_and w n was).answers ≡ 0) × (answer_of (fetch_or w n was).answers ≡ 0) × (answer_of (fetch_xor w n was).answers ≡ 0) × (answer_of (fetch_nand w n was).answers ≡ 0))
    × ((f : Bool → Bool → Bool) (n was : Bool) → answer_of (fetch_bool f n was).answers ≡ 0)

-- equal(perm.value, ret)
abbrev pub Load : Type 1
Load = (A : Type 0) (was : A) → load was ≡ record { leaves = was; answers = old was }

-- equal(final(perm).value, v), and nothing is returned
abbrev pub Store : Type 1
Store = (A : Type 0) (v was : A) → store v was ≡ record { leaves = v; answers = nothing }

-- equal(final(perm).value, v) && equal(old(perm).value, ret)
abbrev pub Swap : Type 1
Swap = (A : Type 0) (v was : A) → swap v was ≡ record { leaves = v; answers = old was }

-- Ok(r): current == old(perm).value && final(perm).value == new && r == old(perm).value;
-- Err(r): current != old(perm).value && final(perm).value == old(perm).value && r == old(perm).value; it is one of the two
abbrev pub Arms : {A : Type 0} → A → A → A → Access A → Type 0
Arms {A} current new was done =
    ((r : A) → done.answers ≡ old r → (current ≡ was) × (done.leaves ≡ new) × (r ≡ was))
    × ((r : A) → done.answers ≡ failed r → (current ≡ was → ⊥) × (done.leaves ≡ was) × (r ≡ was))
    × ((done.answers ≡ old was) ⊎ (done.answers ≡ failed was))

abbrev pub Exchange : Type 0
Exchange =
    ((current new was : ℕ) → Arms current new was (compare_exchange eqb current new was))
    × ((current new was : Bool) → Arms current new was (compare_exchange beq current new was))

-- the weak form's contract is the strong one's without `current != old(perm).value` in Err: here it answers as the strong form
abbrev pub WeakExchange : Type 0
WeakExchange =
    ((current new was : ℕ) → Arms current new was (compare_exchange_weak eqb current new was))
    × ((current new was : Bool) → Arms current new was (compare_exchange_weak beq current new was))

-- requires old(perm).value + n <= MAX: met, final(perm).value == old(perm).value + n and ret is the old value; else 22
abbrev pub Add : Type 0
Add =
    (w n was : ℕ)
    → (was + n < 2 ^ w → fetch_add w n was ≡ fetches was (was + n)) × (2 ^ w ≤ was + n → fetch_add w n was ≡ keeps was (refused Outside))

-- requires MIN <= old(perm).value - n: met, final(perm).value == old(perm).value - n and ret is the old value; else 22
abbrev pub Sub : Type 0
Sub =
    (n was : ℕ)
    → (n ≤ was → fetch_sub n was ≡ fetches was (was - n)) × (was < n → fetch_sub n was ≡ keeps was (refused Outside))

-- final(perm).value == wrapping_add(old(perm).value, n), which is the sum, less the number of values where it leaves the width
abbrev pub AddWrapping : Type 0
AddWrapping =
    (w n was : ℕ) → n < 2 ^ w → was < 2 ^ w
    → (was + n < 2 ^ w → fetch_add_wrapping w n was ≡ fetches was (was + n)) × (2 ^ w ≤ was + n → fetch_add_wrapping w n was ≡ fetches was (was + n - 2 ^ w))

-- final(perm).value == wrapping_sub(old(perm).value, n), which is the difference, and the number of values more where it is below 0
abbrev pub SubWrapping : Type 0
SubWrapping =
    (w n was : ℕ) → n < 2 ^ w → was < 2 ^ w
    → (n ≤ was → fetch_sub_wrapping w n was ≡ fetches was (was - n)) × (was < n → fetch_sub_wrapping w n was ≡ fetches was (was + 2 ^ w - n))

-- ret is the old value, and each bit of what is left is f of the two bits, with none above the width
abbrev pub EachBit : (Bool → Bool → Bool) → (ℕ → ℕ → ℕ → Access ℕ) → Type 0
EachBit f access =
    (w n was : ℕ)
    → ((access w n was).answers ≡ old was) × ((access w n was).leaves < 2 ^ w) × ((k : ℕ) → k < w → bit k (access w n was).leaves ≡ f (bit k was) (bit k n))

-- final(perm).value == (old(perm).value & n)
abbrev pub And : Type 0
And = EachBit both fetch_and

-- final(perm).value == (old(perm).value | n)
abbrev pub Or : Type 0
Or = EachBit either fetch_or

-- final(perm).value == (old(perm).value ^ n)
abbrev pub Xor : Type 0
Xor = EachBit differ fetch_xor

-- final(perm).value == !(old(perm).value & n)
abbrev pub Nand : Type 0
Nand = EachBit not_both fetch_nand

-- the bits say which number it is, so that each of the four leaves one value and no other
abbrev pub BitsDecide : Type 0
BitsDecide = (w x y : ℕ) → x < 2 ^ w → y < 2 ^ w → ((k : ℕ) → k < w → bit k x ≡ bit k y) → x ≡ y

-- final(perm).value == (if old(perm).value > n { old(perm).value } else { n })
abbrev pub Max : Type 0
Max = (n was : ℕ) → (n < was → fetch_max n was ≡ fetches was was) × (was ≤ n → fetch_max n was ≡ fetches was n)

-- final(perm).value == (old(perm).value && n)
abbrev pub FlagAnd : Type 0
FlagAnd = (n was : Bool) → fetch_bool both n was ≡ fetches was (was && n)

-- final(perm).value == (old(perm).value || n)
abbrev pub FlagOr : Type 0
FlagOr = (n was : Bool) → fetch_bool either n was ≡ fetches was (was || n)

-- final(perm).value == ((old(perm).value && !n) || (!old(perm).value && n))
abbrev pub FlagXor : Type 0
FlagXor = (n was : Bool) → fetch_bool differ n was ≡ fetches was ((was && not n) || (not was && n))
