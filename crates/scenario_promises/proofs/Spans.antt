-- Parts of lists: one behind the other, and where bytes were stored. Assumes nothing.
use Prim.Native.Nat.{ℕ, zero, suc, ◌+◌, ◌-◌, ◌≤◌}
use mathlib.Core.Path.{◌≡◌, sym, ap, subst, ◌∙◌}
use mathlib.Core.List.{List, [], ◌∷◌, ◌++◌, append_assoc}
use native.Mathlib.Omega.{arith}
use lib.ListN.{length, take, drop, replicate, length-append, take-append-drop, length-replicate, replicate-append-replicate}
use lib.Seq.{take-nil, take-add, drop-drop, take_at, drop_at, length-take-le, sets, sets-eq, length-sets}

pub span : (l : List ℕ) (a b c : ℕ) → a ≤ b → b ≤ c → take (c - a) (drop a l) ≡ take (b - a) (drop a l) ++ take (c - b) (drop b l)
span l a b c h g =
    let size : c - a ≡ b - a + (c - b) = omega arith in
    let place : a + (b - a) ≡ b = omega arith in
    rw size (take-add (b - a) (c - b) (drop a l) ∙ rw (drop-drop (b - a) a l, place))

pub span_rest : (l : List ℕ) (a b : ℕ) → a ≤ b → take (b - a) (drop a l) ++ drop b l ≡ drop a l
span_rest l a b h =
    let place : a + (b - a) ≡ b = omega arith in
    ap (λ (n : ℕ). take (b - a) (drop a l) ++ drop n l) (sym place)
    ∙ ap (λ (x : List ℕ). take (b - a) (drop a l) ++ x) (sym (drop-drop (b - a) a l))
    ∙ take-append-drop (b - a) (drop a l)

pub span_none : (l : List ℕ) (a b : ℕ) → a ≡ b → take (b - a) l ≡ []
span_none l a b e = let z : b - a ≡ 0 = omega arith in rw z

drop_take : (a n : ℕ) (l : List ℕ) → drop a (take (a + n) l) ≡ take n (drop a l)
drop_take zero n l = let e : 0 + n ≡ n = omega arith in rw e
drop_take (suc a) n [] = let e : suc a + n ≡ suc (a + n) = omega arith in rw e (sym (take-nil n))
drop_take (suc a) n (x ∷ l) = let e : suc a + n ≡ suc (a + n) = omega arith in rw e (drop_take a n l)

-- what stands before b is the same, so what stands between a and b is
pub span_same : (l m : List ℕ) (a b : ℕ) → a ≤ b → take b l ≡ take b m → take (b - a) (drop a l) ≡ take (b - a) (drop a m)
span_same l m a b h e =
    let place : a + (b - a) ≡ b = omega arith in
    sym (drop_take a (b - a) l) ∙ rw place (ap (drop a) e) ∙ drop_take a (b - a) m

-- what stands from a on is the same, so what stands from b on is
pub drop_later : (l m : List ℕ) (a b : ℕ) → a ≤ b → drop a l ≡ drop a m → drop b l ≡ drop b m
drop_later l m a b h e =
    let place : a + (b - a) ≡ b = omega arith in
    subst (λ (n : ℕ). drop n l ≡ drop n m) place (sym (drop-drop (b - a) a l) ∙ ap (drop (b - a)) e ∙ drop-drop (b - a) a m)

-- bytes stored from a place on
module _ (out : List ℕ) (at : ℕ) (words : List ℕ) (end : ℕ) (out' : List ℕ) (is : out' ≡ sets out at words) (place : end ≡ at + length words) (room : end ≤ length out) where
  abbrev behind : List ℕ
  behind = words ++ drop (at + length words) out

  split : out' ≡ take at out ++ behind
  split = is ∙ sets-eq words out at (omega arith) ∙ append_assoc (take at out) words (drop (at + length words) out)

  front_size : length (take at out) ≡ at
  front_size = length-take-le at out (omega arith)

  pub stored_size : length out' ≡ length out
  stored_size = ap length is ∙ length-sets out at words

  pub stored_front : take at out' ≡ take at out
  stored_front = ap (take at) split ∙ take_at (take at out) behind at front_size

  pub stored_text : take (end - at) (drop at out') ≡ words
  stored_text =
      let size : length words ≡ end - at = omega arith in
      ap (λ (l : List ℕ). take (end - at) (drop at l)) split
      ∙ ap (take (end - at)) (drop_at (take at out) behind at front_size)
      ∙ take_at words (drop (at + length words) out) (end - at) size

  pub stored_behind : drop end out' ≡ drop end out
  stored_behind =
      let size : length (take at out ++ words) ≡ end = length-append (take at out) words ∙ rw front_size (sym place) in
      ap (drop end) (is ∙ sets-eq words out at (omega arith))
      ∙ drop_at (take at out ++ words) (drop (at + length words) out) end size
      ∙ ap (λ (n : ℕ). drop n out) (sym place)

-- entries stored behind those that wait, and those that are left
pub gathered_more : (l : List ℕ) (g n left t : ℕ) → g + n ≤ length l → n ≤ left
    → take (g + n) (sets l g (replicate n t)) ++ replicate (left - n) t ≡ take g l ++ replicate left t
gathered_more l g n left t room few =
    let new = replicate n t in
    let size : length new ≡ n = length-replicate n t in
    let waits : length (take g l ++ new) ≡ g + n = length-append (take g l) new ∙ rw (length-take-le g l (omega arith), size) in
    let all : n + (left - n) ≡ left = omega arith in
    let front : take (g + n) (sets l g new) ≡ take g l ++ new =
    ap (take (g + n)) (sets-eq new l g (omega (arith, size))) ∙ take_at (take g l ++ new) (drop (g + length new) l) (g + n) waits in
    rw front (append_assoc (take g l) new (replicate (left - n) t) ∙ rw (replicate-append-replicate n (left - n) t, all))
