-- Rows stored one behind the other: storing here what is left of them is storing all of them at the start. Assumes nothing.
use Rattle.std.proofs.Common.{◌≡◌, ℕ, suc, ◌+◌, ◌-◌, ◌*◌, ◌%◌, ◌<◌, ◌≤◌, Bool, true, false, cond, leb, List, [], ◌∷◌, ◌++◌, length, drop, sym, refl, ap, ◌∙◌, subst, arith, length-append, get_or-drop, drop-drop, le-leb}
use lib.Seq.{sets, length-sets}
use Rattle.machine.specs.Names.{row_words}
use Rattle.machine.specs.declared.Row.{Row}
use Rattle.scenario_text.specs.Lines.{row_text}
use Rattle.scenario_text.specs.Put.{Put, stored, place_after}
use Rattle.scenario_text.proofs.Stores.{sets_append, puts}
use Rattle.scenario_text.proofs.Texts.{row_short}
use Rattle.lock_promises.specs.Reached.{rows_in}
use Rattle.scenario.specs.Names.{counted_to}
use Rattle.scenario.specs.Printed.{rows_text}
use Rattle.scenario.proofs.Pieces.{counted_rows}
use Rattle.scenario_prints.specs.Prints.{row_bytes, refusal_bytes, row_at}

-- ---- one row, and those after it
first_row : (trace : List ℕ) (p left : ℕ) → rows_in (suc left) (drop p trace) ≡ row_at trace p ∷ rows_in left (drop (p + row_words) trace)
unfolding rows_in
first_row trace p left =
    let e : p + 0 ≡ p = omega arith in
    simp (get_or-drop, drop-drop, e)

first_text : (row : ℕ) (r : Row) (rows : List Row) → row < counted_to → rows_text row (r ∷ rows) ≡ row_text row r ++ rows_text ((row + 1) % counted_to) rows
unfolding rows_text
first_text row r rows small =
    let e : row % counted_to ≡ row = omega arith in
    rw (e, counted_rows (row + 1) rows)

-- of n rows, the text of those from the k-th on, which has the number row
abbrev pub left_text : List ℕ → ℕ → ℕ → ℕ → List ℕ
left_text trace n row k = rows_text row (rows_in (n - k) (drop (row_words * k) trace))

next_row : (trace : List ℕ) (n row k : ℕ) → k < n → row < counted_to
    → left_text trace n row k ≡ row_text row (row_at trace (row_words * k)) ++ left_text trace n ((row + 1) % counted_to) (k + 1)
next_row trace n row k h small =
    let e : n - k ≡ suc (n - (k + 1)) = omega arith in
    let f : row_words * (k + 1) ≡ row_words * k + row_words = omega arith in
    rw (e, f, first_row trace (row_words * k) (n - (k + 1)))
    (first_text row (row_at trace (row_words * k)) (rows_in (n - (k + 1)) (drop (row_words * k + row_words) trace)) small)

-- ---- the loop over rows
pub record Going (trace : List ℕ) (n first : ℕ) (before : List ℕ) (at : ℕ) (out : List ℕ) (row p k : ℕ) : Type 0 where
  pub few : k ≤ n
  pub small : row < counted_to
  pub near : p ≤ at + row_bytes * k
  pub size : length out ≡ length before
  pub place : at + length (left_text trace n first 0) ≡ p + length (left_text trace n row k)
  pub same : sets before at (left_text trace n first 0) ≡ sets out p (left_text trace n row k)

pub begins : (trace : List ℕ) (n first : ℕ) (out : List ℕ) (at : ℕ) → first < counted_to → Going trace n first out at out first at 0
begins trace n first out at small =
    record { few = omega arith; small = small; near = omega arith; size = refl; place = refl; same = refl }

module _ (trace : List ℕ) (n first : ℕ) (before : List ℕ) (at : ℕ) (out : List ℕ) (row p k : ℕ) (g : Going trace n first before at out row p k) where
  pub one_more : (r : Row) (p' row' : ℕ) (out' : List ℕ) → k < n → at + row_bytes * n ≤ length before → r ≡ row_at trace (row_words * k)
      → p' ≡ place_after row_bytes out p (row_text row r) → out' ≡ stored row_bytes out p (row_text row r) → row' ≡ (row + 1) % counted_to
      → Going trace n first before at out' row' p' (k + 1)
  one_more r p' row' out' h room is place left count =
      let t = row_text row r in
      let fits = le-leb (p + row_bytes) (length out) (omega (arith, g.near, g.size)) in
      let next : p' ≡ p + length t = rw fits at place in
      let kept : out' ≡ sets out p t = rw fits at left in
      let more : left_text trace n row k ≡ t ++ left_text trace n row' (k + 1) = rw (is, count) (next_row trace n row k h g.small) in
      record {
        few = omega arith;
        small = omega arith;
        near = omega (arith, g.near, row_short row r);
        size = ap length kept ∙ length-sets out p t ∙ g.size;
        place = omega (arith, g.place, ap length more, length-append t (left_text trace n row' (k + 1)));
        same = g.same ∙ ap (sets out p) more ∙ rw (kept, next) (sets_append t (left_text trace n row' (k + 1)) out p);
      }

  pub all_done : n ≤ k → Put before at (rows_text first (rows_in n trace)) (row_bytes * n) p out
  unfolding rows_in rows_text
  all_done h =
      let e : n - k ≡ 0 = omega arith in
      let all : n ≡ n - 0 = omega arith in
      let none : left_text trace n row k ≡ [] = rw e refl in
      let place : at + length (left_text trace n first 0) ≡ p + 0 = g.place ∙ ap (λ (l : List ℕ). p + length l) none in
      let put : Put before at (left_text trace n first 0) (row_bytes * n) p out =
      puts before out (left_text trace n first 0) at p (row_bytes * n) (omega arith) (sym (g.same ∙ ap (sets out p) none)) (omega (arith, g.near, g.few))
      in
      subst (λ (m : ℕ). Put before at (rows_text first (rows_in m trace)) (row_bytes * n) p out) (sym all) put

-- ---- no bytes
pub nothing_put : (out : List ℕ) (at most : ℕ) → (at ≡ place_after most out at []) × (out ≡ stored most out at [])
nothing_put out at most = go (leb (at + most) (length out))
  where
    none : at ≡ at + 0
    none = omega arith

    go : (b : Bool) → (at ≡ cond b (at + 0) at) × (out ≡ cond b out out)
    go true = (none, refl)
    go false = (refl, refl)

-- ---- rows, and a refusal behind them
-- where both have room they are stored one behind the other
pub both_put : {before after left : List ℕ} {at next end most : ℕ} {a : List ℕ} (b : List ℕ) → Put before at a most next after
    → (end ≡ place_after refusal_bytes after next b) × (left ≡ stored refusal_bytes after next b) → at + (most + refusal_bytes) ≤ length before
    → (end ≡ at + length (a ++ b)) × (left ≡ sets before at (a ++ b))
both_put {before} {after} {left} {at} {next} {end} {most} {a} b put (place, kept) room =
    let fits = le-leb (next + refusal_bytes) (length after) (omega (arith, put.room, put.size)) in
    let is : end ≡ next + length b = rw fits at place in
    let so : left ≡ sets after next b = rw fits at kept in
    (omega (arith, is, put.next, length-append a b), so ∙ rw (put.left, put.next) (sym (sets_append a b before at)))
