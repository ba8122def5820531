-- What the reader answers, and what it leaves. A block is read in two steps: what it would say is gathered, without a test; then the text that the
-- writer has for that is compared with what stands there. So nothing passes that is not the writer's, and Exact says that all of it passes.
use Rattle.std.specs.Prelude.{ℕ, zero, suc, ◌+◌, ◌*◌, ◌-◌, ◌^◌, Bool, true, false, ◌||◌, ◌&&◌, not, cond, List, [], ◌∷◌, ◌++◌, eqb, ltb, leb, length, get_or, drop, replicate, Option, None, Some, option_map, option_and_then, Result, Ok, Err, is_ok}
use Rattle.std.proofs.lemmas.List.Edits.{sets}
use Rattle.scenario_lines.specs.Number.{more}
use Rattle.vcd.specs.Binary.{is_bit}
use Rattle.vcd.specs.Blocks.{time_line, front, same, changed}
use Rattle.vcd.specs.Trace.{most_rows, words}
use Rattle.vcd.specs.declared.Signals.{Signals}
use Rattle.vcd.specs.declared.Block.{Block}
use Rattle.vcd.specs.declared.Refusal.{Refusal}
use Rattle.vcd.specs.declared.Refusal.TheVariants.{NoRoom, NoWave}

-- ---- what a block would say
-- a digit more, or no more
abbrev pub or_stay : ℕ → Option ℕ → (ℕ → ℕ) → ℕ
or_stay v None k = v
or_stay v (Some x) k = k x

-- the digits ahead, as far as they are a number below 2 ^ 64, behind those that make v
unfoldable pub digits_ahead : ℕ → List ℕ → ℕ
digits_ahead v [] = v
digits_ahead v (b ∷ l) = or_stay v (more v b) (λ x. digits_ahead x l)

unfoldable pub bits_ahead : ℕ → List ℕ → ℕ
bits_ahead v [] = v
bits_ahead v (b ∷ l) = cond (is_bit b && ltb v (2 ^ 63)) (bits_ahead (v * 2 + (b - 48)) l) v

-- a time, behind its sign
abbrev pub time_ahead : List ℕ → ℕ
time_ahead l = digits_ahead 0 (drop 1 l)

-- a line of exc, if there is one
abbrev pub exc_ahead : ℕ → List ℕ → ℕ
exc_ahead was l = cond (is_bit (get_or l 0 0)) (get_or l 0 0 - 48) was

abbrev pub behind_exc : List ℕ → List ℕ
behind_exc l = cond (is_bit (get_or l 0 0)) (drop 3 l) l

-- a line of rc, if there is one
abbrev pub rc_ahead : ℕ → List ℕ → ℕ
rc_ahead was l = cond (eqb (get_or l 0 0) 98) (bits_ahead 0 (drop 1 l)) was

-- the signals: what is not there is as it was
unfoldable pub signals_ahead : Signals → List ℕ → Signals
signals_ahead s l = record { exc = exc_ahead s.exc l; rc = rc_ahead s.rc (behind_exc l) }

-- ---- what stands there
-- l begins with s
unfoldable pub starts : List ℕ → List ℕ → Bool
starts [] l = true
starts (a ∷ s) [] = false
starts (a ∷ s) (b ∷ l) = eqb a b && starts s l

-- a block after time t, where the signals are s: a later time, with a change, or without one at the very end
unfoldable pub block_at : ℕ → Signals → List ℕ → Option Block
block_at t s l =
    let time = time_ahead l in
    let x = signals_ahead s (drop (length (time_line time)) l) in
    let block = time_line time ++ changed s x in
    cond
    (starts block l && (ltb t time && (leb time most_rows && (not (same s x) || leb (length l) (length block)))))
    (Some (record { time = time; signals = x; len = length block }))
    None

-- ---- the whole file
-- these, then those that were found behind them
abbrev pub behind : List Signals → Option (List Signals) → Option (List Signals)
behind xs = option_map (λ ys. xs ++ ys)

-- the signals after every row behind time t; most is no less than the number of blocks
unfoldable pub rows_found : ℕ → ℕ → Signals → List ℕ → Option (List Signals)
rows_found zero t s l = None
rows_found (suc most) t s [] = Some []
rows_found (suc most) t s (b ∷ l) =
    option_and_then
    (λ k. behind (replicate (k.time - (t + 1)) s ++ (k.signals ∷ [])) (rows_found most k.time k.signals (drop k.len (b ∷ l))))
    (block_at t s (b ∷ l))

-- where the signals of time 0 stand
abbrev pub dump_at : ℕ
dump_at = 139

abbrev pub first_ahead : List ℕ → Signals
first_ahead file = signals_ahead (record { exc = 0; rc = 0 }) (drop dump_at file)

-- the signals of time 0 and after every row
unfoldable pub found : List ℕ → Option (List Signals)
found file =
    let s = first_ahead file in
    cond (starts (front s) file) (behind (s ∷ []) (rows_found (length file) 0 s (drop (length (front s)) file))) None

-- ---- answers
abbrev pub read_as : Option (List Signals) → ℕ → Result ℕ Refusal
read_as None room = Err NoWave
read_as (Some xs) room = cond (leb (2 * length xs) room) (Ok (length xs - 1)) (Err NoRoom)

-- how many rows there are, or the refusal; room is counted in words
unfoldable pub read : List ℕ → ℕ → Result ℕ Refusal
read file room = read_as (found file) room

abbrev pub words_of : Option (List Signals) → List ℕ
words_of None = []
words_of (Some xs) = words xs

-- the list afterwards: words behind the signals stay, and all of them in a refusal
unfoldable pub read_in : List ℕ → List ℕ → List ℕ
read_in file out = cond (is_ok (read file (length out))) (sets out 0 (words_of (found file))) out
