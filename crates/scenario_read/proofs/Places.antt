-- Places of a list: one value stored again and again, as far as there are places, and a part of another list. Assumes nothing.
use Rattle.std.proofs.Common.{◌≡◌, ℕ, zero, suc, ◌+◌, ◌-◌, ◌<◌, ◌≤◌, min, List, [], ◌∷◌, ◌++◌, length, take, drop, set, replicate, sym, refl, ap, ◌∙◌, append_assoc, arith, length-set, length-take-le}
use borrow.Rule.Slice.PartMut.{put_mid}
use Rattle.std.proofs.lemmas.List.{length-replicate, length-drop, drop-drop, drop-take}
use lib.Seq.{slice, sets, sets-eq, set_out}

-- past the last place nothing is stored
pub sets_out : (vs l : List ℕ) (k : ℕ) → length l ≤ k → sets l k vs ≡ l
sets_out [] l k h = refl
sets_out (v ∷ vs) l k h = ap (λ (m : List ℕ). sets m (suc k) vs) (set_out l k v h) ∙ sets_out vs l (suc k) (omega arith)

-- of one value as many as there are places
as_far : (m n v : ℕ) (l : List ℕ) (k : ℕ) → m ≤ n → (m < n → length l ≤ k + m) → sets l k (replicate m v) ≡ sets l k (replicate n v)
as_far zero zero v l k less all = refl
as_far zero (suc n) v l k less all = sym (sets_out (replicate (suc n) v) l k (omega (arith, all (omega arith))))
as_far (suc m) zero v l k less all = absurd (omega arith)
as_far (suc m) (suc n) v l k less all = as_far m n v (set l k v) (suc k) (omega arith) (λ h. omega (arith, length-set l k v, all (omega arith)))

pub fills_by : (l : List ℕ) (k n v m e : ℕ) → k < length l → m ≡ min n (length l - k) → e ≡ k + m → put_mid k (e - k) l (replicate (e - k) v) ≡ sets l k (replicate n v)
fills_by l k n v m e h some end =
    let short : e - k ≡ m = omega arith in
    rw (short, ← as_far m n v l k (omega arith) (λ g. omega arith), sets-eq (replicate m v) l k (rw (length-replicate m v) (omega arith)), length-replicate m v, append_assoc, drop-drop m k l) refl

-- a part of another list, in the first places
pub copies_by : (l s : List ℕ) (from to : ℕ) → from ≤ to → to ≤ length s → to - from ≤ length l
    → take (to - from) (drop from s) ++ drop (to - from) l ≡ sets l 0 (slice from to s)
copies_by l s from to up inside room =
    let n = to - from in
    let back : from + n ≡ to = omega arith in
    let same : slice from to s ≡ take n (drop from s) = ap (λ (k : ℕ). drop from (take k s)) (sym back) ∙ drop-take from n s in
    let long : length (take n (drop from s)) ≡ n = length-take-le n (drop from s) (omega (arith, length-drop from s)) in
    let none : 0 + n ≡ n = omega arith in
    rw (same, sets-eq (take n (drop from s)) l 0 (rw (long, none) room), long, none) refl
