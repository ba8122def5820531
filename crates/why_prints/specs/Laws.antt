-- What is claimed: however the reader came to the end of a file, what is printed there is what the file prints, and where there is room it is stored
-- whole; and the answers of a file are refused exactly as the next entries are.
use Rattle.std.specs.Prelude.{ℕ, ◌≤◌, ◌≡◌, List, length}
use Rattle.std.proofs.lemmas.List.Edits.{sets}
use Rattle.machine.specs.Refusals.{Exact}
use Rattle.machine.specs.Lists.{scripts_of}
use Rattle.machine.specs.When.{AtEntry}
use Rattle.scenario_text.specs.Put.{place_after, stored}
use Rattle.scenario.specs.Printed.{reading_of}
use Rattle.scenario_read.specs.Feed.{World, lent_in, stop_of}
use Rattle.scenario_promises.specs.Piped.{left_by_file, ComesTo, standing_in}
use Rattle.why.specs.Told.{told_lent}
use Rattle.why.specs.Reasons.{number_of}
use Rattle.why_prints.specs.Prints.{most_bytes, why_printed, end_text}

abbrev pub WhyByReader : Type 0
WhyByReader =
    (file words : List ℕ) (w : World) → ComesTo file words w → (room at : ℕ)
    → why_printed file ≡ end_text (stop_of w.state room at) (lent_in w) (standing_in w)

-- as `put_end` stores it, from the start of a list with room for the longest such text
abbrev pub WhyStored : Type 0
WhyStored =
    (file words : List ℕ) (w : World) → ComesTo file words w → (room at : ℕ) (out : List ℕ) → most_bytes ≤ length out
    → let text = end_text (stop_of w.state room at) (lent_in w) (standing_in w) in
    (place_after most_bytes out 0 text ≡ length (why_printed file)) × (stored most_bytes out 0 text ≡ sets out 0 (why_printed file))

-- of a file that is not refused no answer is a run's refusal: each is that of the thread's next entry, or none. Of the threads of the file none is 11
abbrev pub FileAnswers : Type 0
FileAnswers =
    (file : List ℕ) (t : ℕ) → (reading_of file).refused ≡ 0
    → let s = (reading_of file).scenario.lent in
    let p = left_by_file file in
    Exact (AtEntry (scripts_of s) p.lock p.recs t) (number_of (told_lent s p.lock p.recs t))
