-- The answers as text: the header, and a line for each thread. And what is printed of a scenario file.
use Rattle.std.specs.Prelude.{ℕ, zero, suc, ◌+◌, ◌%◌, min, cond, List, [], ◌++◌, eqb, length, Result}
use Rattle.machine.specs.Names.{most_threads}
use Rattle.machine.specs.Lists.{Lent}
use Rattle.scenario_lines.specs.Ascii.{bytes}
use Rattle.scenario_text.specs.Lines.{four_text, refusal}
use Rattle.scenario.specs.Names.{counted_to}
use Rattle.scenario.specs.Printed.{reading_of}
use Rattle.scenario.specs.Pieces.{Standing as Listed}
use Rattle.scenario_pieces.specs.declared.Standing.{Standing}
use Rattle.scenario_read.specs.declared.Stop.{Stop}
use Rattle.scenario_read.specs.declared.Stop.TheVariants.{Wants, Full, Refused, Over}
use Rattle.scenario_promises.specs.Piped.{left_by_file}
use Rattle.why.specs.Told.{told_lent, numbers_of}
use Rattle.why.specs.declared.Reason.{Reason}
use Rattle.machine.specs.declared.Refusal.{Refusal}
use Rattle.why_code.specs.ByValue.{told_of}

unfoldable pub why_header : List ℕ
why_header = bytes "thread,answer,reason,who\r\n"

-- the most bytes: the header, and a line for each of sixteen threads
abbrev pub most_bytes : ℕ
most_bytes = 1386

-- of thread t
abbrev pub line_text : ℕ → Result Reason Refusal → List ℕ
line_text t told = let n = numbers_of told in four_text t n.answer n.reason n.who

-- c lines, from thread t on
unfoldable pub lines_text : (ℕ → Result Reason Refusal) → ℕ → ℕ → List ℕ
lines_text told t zero = []
lines_text told t (suc c) = line_text t (told t) ++ lines_text told (t + 1) c

-- ---- a file
-- a line for each script, in a state
abbrev pub answers_text : Lent → Listed → List ℕ
answers_text s p = why_header ++ lines_text (told_lent s p.lock p.recs) 0 (length s.lens)

-- a scenario that is refused prints the refusal alone; else it is asked of the lock and the records that its whole schedule leaves
unfoldable pub why_printed : List ℕ → List ℕ
why_printed file =
    let r = reading_of file in
    cond (eqb r.refused 0) (answers_text r.scenario.lent (left_by_file file)) (refusal r.refused (r.line % counted_to))

-- ---- what the code prints, with the records by value
-- there are sixteen threads at most
abbrev pub threads_of : Lent → ℕ
threads_of s = min (length s.lens) most_threads

abbrev pub told_at : Lent → Standing → ℕ → Result Reason Refusal
told_at s p t = told_of s (length s.lens) p.lock p.recs t

abbrev pub answers_of : Lent → Standing → List ℕ
answers_of s p = why_header ++ lines_text (told_at s p) 0 (threads_of s)

-- where the reader stopped: nothing before its end
abbrev pub end_text : Stop → Lent → Standing → List ℕ
end_text Wants s p = []
end_text Full s p = []
end_text (Refused number line) s p = refusal number line
end_text Over s p = answers_of s p
