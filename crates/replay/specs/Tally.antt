-- What became of each line of a list, as counts. A count that would leave 64 bits stays at the largest number.
use Rattle.std.specs.Prelude.{ℕ, ◌+◌, ◌-◌, ◌^◌, min, Bool, true, false}
use Rattle.replay.specs.declared.tally.Tally.{Tally}
use Rattle.replay.specs.declared.tally.Verdict.{Verdict}
use Rattle.replay.specs.declared.tally.Verdict.TheVariants.{Agrees, Differs, Unreadable, Outside}

abbrev pub sum_of : ℕ → ℕ → ℕ
sum_of a b = min (a + b) (2 ^ 64 - 1)

abbrev pub one_up : ℕ → ℕ
one_up n = sum_of n 1

abbrev pub tallied : ℕ → ℕ → ℕ → ℕ → ℕ → ℕ → Tally
tallied line equal different unreadable outside found =
    record { line = line; equal = equal; different = different; unreadable = unreadable; outside = outside; found = found }

abbrev pub fresh : Tally
fresh = tallied 1 0 0 0 0 0

-- ---- one line more: of none, or of one kind
abbrev pub passed : Tally → Tally
passed t = tallied (one_up t.line) t.equal t.different t.unreadable t.outside t.found

abbrev pub agreed : Tally → Tally
agreed t = tallied (one_up t.line) (one_up t.equal) t.different t.unreadable t.outside t.found

abbrev pub differed : Tally → Tally
differed t = tallied (one_up t.line) t.equal (one_up t.different) t.unreadable t.outside t.found

abbrev pub left_unread : Tally → Tally
left_unread t = tallied (one_up t.line) t.equal t.different (one_up t.unreadable) t.outside t.found

abbrev pub left_outside : Tally → Tally
left_outside t = tallied (one_up t.line) t.equal t.different t.unreadable (one_up t.outside) t.found

abbrev pub found_wrong : Tally → Tally
found_wrong t = tallied (one_up t.line) t.equal t.different t.unreadable t.outside (one_up t.found)

-- a row of a list that tells only whether its lines agree
abbrev pub counted : Tally → Bool → Tally
counted t true = agreed t
counted t false = differed t

-- a last line with no break may be cut short
abbrev pub cut_short : Tally → Bool → Tally
cut_short t true = differed t
cut_short t false = t

-- a line that is wrong on purpose is found where it differs or cannot be read; any other verdict on it differs from what it is there for
abbrev pub after_verdict : Tally → Bool → Verdict → Tally
after_verdict t false Agrees = agreed t
after_verdict t false Differs = differed t
after_verdict t false Unreadable = left_unread t
after_verdict t false Outside = left_outside t
after_verdict t true Agrees = differed t
after_verdict t true Differs = found_wrong t
after_verdict t true Unreadable = found_wrong t
after_verdict t true Outside = differed t

abbrev pub rows_of : Tally → ℕ
rows_of t = sum_of t.equal t.different
