-- What calls store page by page is what the file prints. Assumes nothing.
use Rattle.std.proofs.Common.{◌≡◌, ℕ, zero, suc, ◌+◌, ◌*◌, ◌/◌, ◌%◌, ◌≤◌, false, List, [], ◌∷◌, ◌++◌, length, take, sym, refl, ap, ◌∙◌, true≢false, append_assoc, append-nil, arith, length-append, length-take-le}
use Rattle.machine.specs.declared.Row.{Row}
use Rattle.scenario_text.specs.Lines.{header}
use Rattle.lock_promises.specs.Reached.{row_in, rows_in}
use Rattle.scenario.specs.Names.{counted_to}
use Rattle.scenario.specs.Printed.{rows_text}
use Rattle.scenario_read.specs.Feed.{is_end}
use Rattle.scenario_read.specs.declared.Stop.{Stop}
use Rattle.scenario_read.specs.declared.Stop.TheVariants.{Wants, Full, Refused, Over}
use Rattle.scenario_prints.specs.Prints.{stop_text}
use Rattle.scenario_prints.specs.Laws.{Page, Whole, GoOn, pages_words, pages_text, PrintedInPages}
use Rattle.scenario_prints.proofs.Laws.{cut_anywhere, printed_by_reader}

-- ---- rows of words that are joined
rows_length : (n : ℕ) (l : List ℕ) → length (rows_in n l) ≡ n
unfolding rows_in
rows_length zero l = refl
rows_length (suc n) l = ap suc (rows_length n _)

-- the first n rows of a list, and the m rows of the words behind them; k is the number of their words
joined : (n m k : ℕ) (l b : List ℕ) → k ≡ 6 * n → k ≤ length l → rows_in (n + m) (take k l ++ b) ≡ rows_in n l ++ rows_in m b
unfolding rows_in
joined zero m zero l b e h = let same : 0 + m ≡ m = omega arith in ap (λ (n : ℕ). rows_in n b) same
joined zero m (suc k) l b e h = absurd (omega arith)
joined (suc n) m (suc (suc (suc (suc (suc (suc k)))))) (t ∷ a ∷ w ∷ g ∷ x ∷ r ∷ l) b e h =
    let one : suc n + m ≡ suc (n + m) = omega arith in
    ap (λ (i : ℕ). rows_in i (t ∷ a ∷ w ∷ g ∷ x ∷ r ∷ (take k l ++ b))) one
    ∙ ap (λ (rows : List Row). row_in (t ∷ a ∷ w ∷ g ∷ x ∷ r ∷ l) ∷ rows) (joined n m k l b (omega arith) (omega arith))
-- a list of fewer words has not so many rows
joined (suc n) m zero l b e h = absurd (omega arith)
joined (suc n) m (suc zero) l b e h = absurd (omega arith)
joined (suc n) m (suc (suc zero)) l b e h = absurd (omega arith)
joined (suc n) m (suc (suc (suc zero))) l b e h = absurd (omega arith)
joined (suc n) m (suc (suc (suc (suc zero)))) l b e h = absurd (omega arith)
joined (suc n) m (suc (suc (suc (suc (suc zero))))) l b e h = absurd (omega arith)
joined (suc n) m (suc (suc (suc (suc (suc (suc k)))))) [] b e h = elim h [ ]
joined (suc n) m (suc (suc (suc (suc (suc (suc k)))))) (t ∷ []) b e h = absurd (omega arith)
joined (suc n) m (suc (suc (suc (suc (suc (suc k)))))) (t ∷ (a ∷ [])) b e h = absurd (omega arith)
joined (suc n) m (suc (suc (suc (suc (suc (suc k)))))) (t ∷ (a ∷ (w ∷ []))) b e h = absurd (omega arith)
joined (suc n) m (suc (suc (suc (suc (suc (suc k)))))) (t ∷ (a ∷ (w ∷ (g ∷ [])))) b e h = absurd (omega arith)
joined (suc n) m (suc (suc (suc (suc (suc (suc k)))))) (t ∷ (a ∷ (w ∷ (g ∷ (x ∷ []))))) b e h = absurd (omega arith)

alone : (n : ℕ) (l : List ℕ) → 6 * n ≤ length l → rows_in (n + 0) (take (6 * n) l ++ []) ≡ rows_in n l
unfolding rows_in
alone n l h = joined n 0 (6 * n) l [] refl h ∙ append-nil (rows_in n l)

-- ---- pages
-- a stop after which the reader goes on prints nothing
says_nothing : (s : Stop) → is_end s ≡ false → stop_text s ≡ []
says_nothing Wants e = refl
says_nothing Full e = refl
says_nothing (Refused number line) e = absurd (true≢false e)
says_nothing Over e = refl

-- how many rows there are in all
total : List Page → ℕ
total [] = 0
total (p ∷ pages) = p.n + total pages

module _ (last : Page) (whole : Whole last) where
  abbrev all : List Page → List Page
  all before = before ++ (last ∷ [])

  words_length : (before : List Page) → GoOn before → length (pages_words (all before)) ≡ 6 * total (all before)
  unfolding GoOn pages_words total
  words_length [] g =
      let here = length-take-le (6 * last.n) last.rows whole in
      omega (arith, here, length-append (take (6 * last.n) last.rows) [])
  words_length (p ∷ before) (there, _, g) =
      let here = length-take-le (6 * p.n) p.rows there in
      omega (arith, here, words_length before g, length-append (take (6 * p.n) p.rows) (pages_words (all before)))

  text_so : (first : ℕ) (before : List Page) → GoOn before
      → pages_text first (all before) ≡ rows_text first (rows_in (total (all before)) (pages_words (all before))) ++ stop_text last.stop
  unfolding GoOn pages_words pages_text total
  text_so first [] g =
      append-nil (rows_text first (rows_in last.n last.rows) ++ stop_text last.stop)
      ∙ ap (λ (rows : List Row). rows_text first rows ++ stop_text last.stop)
      (sym (alone last.n last.rows whole))
  text_so first (p ∷ before) (there, goes, g) =
      let here : List Row = rows_in p.n p.rows in
      let later : List Row = rows_in (total (all before)) (pages_words (all before)) in
      let next : ℕ = (first + p.n) % counted_to in
      let end : List ℕ = stop_text last.stop in
      let silent : rows_text first here ++ stop_text p.stop ≡ rows_text first here =
      ap (λ (t : List ℕ). rows_text first here ++ t) (says_nothing p.stop goes) ∙ append-nil (rows_text first here) in
      let rows : rows_in (p.n + total (all before)) (take (6 * p.n) p.rows ++ pages_words (all before)) ≡ here ++ later =
      joined p.n (total (all before)) (6 * p.n) p.rows (pages_words (all before)) refl there in
      let cut : rows_text first (here ++ later) ≡ rows_text first here ++ rows_text next later =
      cut_anywhere first here later
      ∙ ap (λ (k : ℕ). rows_text first here ++ rows_text ((first + k) % counted_to) later) (rows_length p.n p.rows) in
      (λ i. silent i ++ text_so next before g i)
      ∙ sym (append_assoc (rows_text first here) (rows_text next later) end)
      ∙ ap (λ (t : List ℕ). t ++ end) (sym cut ∙ ap (rows_text first) (sym rows))

pub printed_in_pages : PrintedInPages
printed_in_pages file words w comes room at before last goes whole stop is =
    let pages : List Page = before ++ (last ∷ []) in
    let size : length words / 6 ≡ total pages = omega (arith, ap length (sym is), words_length last whole before goes) in
    let rows : rows_in (length words / 6) words ≡ rows_in (total pages) (pages_words pages) = (λ i. rows_in (size i) (sym is i)) in
    printed_by_reader file words w comes room at
    ∙ ap (λ (t : List ℕ). header ++ t) ((λ i. rows_text 0 (rows i) ++ stop_text (sym stop i)) ∙ sym (text_so last whole 0 before goes))
