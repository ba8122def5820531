-- The refusals as the code tells them apart, by the numbers of the rules.
use Rattle.std.specs.Prelude.{ℕ, Result, Ok, Err}
use Rattle.machine.specs.Names.{thread_count, top_is_zero, bad_predicate, first_value, script_too_long, wrong_lengths, wrong_code, unsound, no_thread, script_finished, lock_gone, does_not_fit, others_busy, not_permitted, untidy}
use Rattle.machine.specs.declared.Refusal.{Refusal}
use Rattle.lock_words.specs.declared.names.Refused.{Refused}
use Rattle.lock_words.specs.declared.names.Refused.TheVariants.{ThreadCount, TopIsZero, BadPredicate, FirstValue, ScriptTooLong, WrongLengths, WrongCode, Unsound, NoThread, ScriptFinished, LockGone, DoesNotFit, OthersBusy, NotPermitted, Untidy}

abbrev pub number_of : Refused → ℕ
number_of ThreadCount = thread_count
number_of TopIsZero = top_is_zero
number_of BadPredicate = bad_predicate
number_of FirstValue = first_value
number_of ScriptTooLong = script_too_long
number_of WrongLengths = wrong_lengths
number_of WrongCode = wrong_code
number_of Unsound = unsound
number_of NoThread = no_thread
number_of ScriptFinished = script_finished
number_of LockGone = lock_gone
number_of DoesNotFit = does_not_fit
number_of OthersBusy = others_busy
number_of NotPermitted = not_permitted
number_of Untidy = untidy

-- the number of what is answered, 0 for no refusal
abbrev pub number_told : Result (Unit {0}) Refused → ℕ
number_told (Ok none) = 0
number_told (Err why) = number_of why

-- a refusal beside which nothing stands
abbrev pub alone : ℕ → Refusal
alone k = record { number = k; thread = 0; place = 0 }
