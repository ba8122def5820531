-- The rest of a script, one operation at a time: which may stand there, and what is held after it.
use Rattle.std.specs.Prelude.{ℕ, ◌+◌, Bool, true, false, ◌||◌, ◌&&◌, cond, List, eqb, get_or}
use Rattle.cell.specs.Pred.{permits}
use Rattle.cell.specs.declared.pred.Pred.{Pred}
use Rattle.machine.specs.Names.{acquire_read, borrows, release_read, acquire_write, release_write}
use Rattle.machine.specs.Step.{Scripts}
use Rattle.machine.specs.Lists.{lists, scripts_of}
use Rattle.machine.specs.Tidy.{Mode, Free, InRead, InWrite, test_rest}
use Rattle.machine.specs.declared.Rec.{Rec}
use Rattle.lock_tidy.specs.declared.Held.{Held}
use Rattle.lock_tidy.specs.declared.Held.TheVariants.{Nothing, Read, Write}

abbrev pub mode : Held → Mode
mode Nothing = Free
mode Read = InRead
mode Write = InWrite

-- an operation and its value may stand where so much is held
abbrev pub goes_on : Pred → Mode → ℕ → ℕ → Bool
goes_on q Free o v = eqb o acquire_read || eqb o acquire_write
goes_on q InRead o v = eqb o borrows || eqb o release_read
goes_on q InWrite o v = eqb o release_write && permits q v

-- what is held after an operation that may stand there
abbrev pub held_after : ℕ → Held
held_after o = cond (eqb o acquire_read || eqb o borrows) Read (cond (eqb o acquire_write) Write Nothing)

abbrev pub is_free : Mode → Bool
is_free Free = true
is_free InRead = false
is_free InWrite = false

-- the words of a script that starts there
abbrev pub words_at : List ℕ → ℕ → ℕ → ℕ
words_at words start k = get_or words (start + k) 0

-- thread j's rest
abbrev pub tidy_at : List ℕ → List ℕ → List ℕ → Pred → ℕ → Rec → Bool
tidy_at lens ops vals q j r =
    let S : Scripts = scripts_of (lists lens ops vals) in
    test_rest q (S.len j) (S.op j) (S.val j) r
