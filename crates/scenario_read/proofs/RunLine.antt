-- A run line that stands whole in the bytes: what the reader of lines makes of it, and what it says. Assumes nothing.
use Rattle.std.proofs.Common.{◌≡◌, ℕ, suc, ◌+◌, ◌<◌, ◌≤◌, Bool, true, false, not, ◌&&◌, eqb, leb, List, [], ◌∷◌, ◌++◌, length, set, sym, refl, ap, ◌∙◌, arith, le-ltb, lt-ltb, ne_eqb, leb-true}
use mathlib.Core.Bool.{false≢true}
use lib.Seq.{sets}
use Rattle.std.specs.Prelude.{Some}
use Rattle.scenario_lines.specs.Bytes.{longest}
use Rattle.scenario_lines.specs.Lines.{cr, lf}
use Rattle.scenario_lines.specs.Chunks.{no_return}
use Rattle.scenario_lines.specs.Number.{digit, digits, number, plainly, decimal}
use Rattle.scenario_lines.specs.Judge.{comma, foul, clean, equal, fields, kinds, judge}
use Rattle.scenario_lines.specs.Split.{plain}
use Rattle.scenario_lines.specs.Held.{held, took, taking, one_byte_more, held_after, line_after}
use Rattle.scenario_lines.specs.declared.Line.TheVariants.{Run}
use Rattle.scenario_lines.proofs.Split.{field_split}

both : (a b : Bool) → (a && b) ≡ true → (a ≡ true) × (b ≡ true)
both true b e = (refl, e)
both false b e = absurd (false≢true e)

-- ---- a line without a CR, and its break
un : (b : Bool) → not b ≡ true → b ≡ false
un true e = absurd (false≢true e)
un false e = refl

pub took_whole : (l rest m : List ℕ) (k : ℕ) → no_return l ≡ true → k + length l ≤ longest
    → took (l ++ (cr ∷ lf ∷ rest)) m (held k false false) ≡ taking (held (k + length l) false true) (sets m k l) (length l + 2)
unfolding took held_after line_after
took_whole [] rest m k e room = let z : k + 0 ≡ k = omega arith in rw z refl
took_whole (b ∷ l) rest m k e room =
    let (apart, others) = both (not (eqb b cr)) (no_return l) e in
    let place : k + 1 + length l ≡ k + suc (length l) = omega arith in
    let next : k + 1 ≡ suc k = omega arith in
    let used : suc (length l) + 2 ≡ suc (length l + 2) = omega arith in
    let more = took_whole l rest (set m k b) (k + 1) others (omega arith) in
    rw (un (eqb b cr) apart, lt-ltb k longest (omega arith))
    (ap one_byte_more more ∙ rw (place, next, used) refl)

-- ---- digits are no commas, quotes or breaks
module _ (b : ℕ) (e : digit b ≡ true) where
  low : 48 ≤ b
  low = leb-true 48 b (both (leb 48 b) (leb b 57) e).0

  is_not : (c : ℕ) → c < 48 → eqb b c ≡ false
  is_not c h = ne_eqb b c (λ f. omega (arith, low, f))

digits_plain : (d : List ℕ) → digits d ≡ true → (no_return d ≡ true) × (plain d ≡ true) × (clean d ≡ true)
unfolding digits clean
digits_plain [] e = (refl, refl, refl)
digits_plain (b ∷ d) e =
    let (one, others) = both (digit b) (digits d) e in
    let (l, p, c) = digits_plain d others in
    rw (is_not b one cr (omega arith), is_not b one comma (omega arith), is_not b one 34 (omega arith), is_not b one lf (omega arith)) (l, p, c)

abbrev joins : (f : List ℕ → Bool) (g : ℕ → Bool) → Type 0
joins f g = (f [] ≡ true) × ((b : ℕ) (l : List ℕ) → f (b ∷ l) ≡ (g b && f l))

join_by : (f : List ℕ → Bool) (g : ℕ → Bool) → joins f g → (a b : List ℕ) → f a ≡ true → f b ≡ true → f (a ++ b) ≡ true
join_by f g j [] b ea eb = eb
join_by f g j (x ∷ a) b ea eb =
    let (one, others) = both (g x) (f a) (sym (j.1 x a) ∙ ea) in
    j.1 x (a ++ b) ∙ rw (one) (join_by f g j a b others eb)

-- ---- a run line
abbrev pub run_line : List ℕ → List ℕ → List ℕ
run_line d e = 114 ∷ 117 ∷ 110 ∷ comma ∷ (d ++ (comma ∷ (e ++ (comma ∷ 48 ∷ []))))

module _ (d e : List ℕ) (t n : ℕ) (dd : digits d ≡ true) (de : digits e ≡ true) (nd : number d ≡ Some t) (ne : number e ≡ Some n)
    (few : t < 256) (some : 0 < n) (most : n < 65536) (short : length (run_line d e) ≤ longest) where
  fields_so : fields (run_line d e) ≡ (114 ∷ 117 ∷ 110 ∷ []) ∷ d ∷ e ∷ (48 ∷ []) ∷ []
  fields_so =
      let tail = e ++ (comma ∷ 48 ∷ []) in
      (field_split (114 ∷ 117 ∷ 110 ∷ []) (d ++ (comma ∷ tail)) refl).0
      ∙ ap (λ (x : List (List ℕ)). (114 ∷ 117 ∷ 110 ∷ []) ∷ x)
      ((field_split d tail (digits_plain d dd).1).0
      ∙ ap (λ (x : List (List ℕ)). d ∷ x)
      ((field_split e (48 ∷ []) (digits_plain e de).1).0 ∙ ap (λ (x : List (List ℕ)). e ∷ x) (field_split (48 ∷ []) [] refl).1))

  clean_so : clean (run_line d e) ≡ true
  unfolding clean
  clean_so =
      let j : joins clean (λ b. not (foul b)) = (refl, λ b l. refl) in
      join_by clean (λ b. not (foul b)) j d (comma ∷ (e ++ (comma ∷ 48 ∷ []))) (digits_plain d dd).2
      (join_by clean (λ b. not (foul b)) j e (comma ∷ 48 ∷ []) (digits_plain e de).2 refl)

  pub no_return_so : no_return (run_line d e) ≡ true
  no_return_so =
      let j : joins no_return (λ b. not (eqb b cr)) = (refl, λ b l. refl) in
      join_by no_return (λ b. not (eqb b cr)) j d (comma ∷ (e ++ (comma ∷ 48 ∷ []))) (digits_plain d dd).0
      (join_by no_return (λ b. not (eqb b cr)) j e (comma ∷ 48 ∷ []) (digits_plain e de).0 refl)

  pub says_run : judge (run_line d e) ≡ Run t n
  unfolding judge equal kinds number plainly decimal digits
  says_run =
      rw (le-ltb longest (length (run_line d e)) short, clean_so, fields_so, nd, ne, lt-ltb t 256 few, lt-ltb 0 n some, lt-ltb n 65536 most) refl
