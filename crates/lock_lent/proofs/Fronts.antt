-- The first n records of one list before the rest of another: lengths, one record more, and one exchange after another.
use Prim.Native.Nat.{ℕ, suc, ◌+◌, ◌<◌, ◌≤◌}
use mathlib.Core.Path.{◌≡◌, refl, sym}
use mathlib.Core.List.{List, [], ◌∷◌, append_assoc}
use native.Mathlib.Numerals.{add-one}
use native.Mathlib.Omega.{arith}
use lib.ListN.{length, take, drop, get_or, set, length-append, length-drop, take-append-drop}
use lib.Seq.{drop-cons, set_at, take_at, drop_at, get_or_at, take-suc, length-take-le}
use Rattle.machine.specs.declared.Rec.{Rec}
use Rattle.lock_lent.specs.Exchange.{front}

pub front_length : (n : ℕ) (xs ys : List Rec) → n ≤ length xs → n ≤ length ys → length (front n xs ys) ≡ length ys
front_length n xs ys h k = omega (arith, length-append (take n xs) (drop n ys), length-take-le n xs h, length-drop n ys)

-- record n is still that of the rest
pub front_next : (n : ℕ) (xs ys : List Rec) (d : Rec) → n ≤ length xs → n < length ys → get_or (front n xs ys) n d ≡ get_or ys n d
front_next n xs ys d h k = rw (drop-cons ys n d k) (get_or_at (take n xs) (get_or ys n d) (drop (suc n) ys) d n (length-take-le n xs h))

-- one record more
pub front_more : (n : ℕ) (xs ys : List Rec) (d x : Rec) → n < length xs → n < length ys → x ≡ get_or xs n d → set (front n xs ys) n x ≡ front (n + 1) xs ys
front_more n xs ys d x h k e =
    rw (drop-cons ys n d k, set_at (take n xs) (get_or ys n d) (drop (suc n) ys) x n (length-take-le n xs (omega arith)), e, add-one, take-suc xs n d h)
    (sym (append_assoc (take n xs) (get_or xs n d ∷ []) (drop (suc n) ys)))

-- the list l' is what an exchange with an array left of l: another exchange with z is one of z with l
pub front_again : (n : ℕ) (xs zs ys : List Rec) → n ≤ length xs → front n zs (front n xs ys) ≡ front n zs ys
front_again n xs zs ys h = rw (drop_at (take n xs) (drop n ys) n (length-take-le n xs h)) refl

-- what was exchanged, exchanged again, is as it was
pub front_whole : (n : ℕ) (xs ys : List Rec) → n ≤ length xs → front n (front n xs ys) xs ≡ xs
front_whole n xs ys h = rw (take_at (take n xs) (drop n ys) n (length-take-le n xs h)) (take-append-drop n xs)
