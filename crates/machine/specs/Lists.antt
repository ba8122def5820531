-- How scripts lie in the lists that are lent, and the checks 5, 6 and 7 of them.
use Rattle.std.specs.Prelude.{ℕ, zero, suc, ◌+◌, Bool, ◌||◌, ◌&&◌, not, cond, List, [], ◌∷◌, Err, Ok, Result, Option, None, Some, eqb, ltb, length, get_or, take}
use Rattle.machine.specs.Names.{release_write, into_inner, script_too_long, wrong_lengths, wrong_code, longest_script}
use Rattle.machine.specs.Refusals.{Check, gives}
use Rattle.machine.specs.Step.{Scripts}
use Rattle.machine.specs.declared.Lists.{Lists}
use Rattle.machine.specs.declared.Refusal.{Refusal}

-- a length for each thread; the operations of all threads, one script after the other; their values in the same order
pub record Lent : Type 0 where
  pub lens : List ℕ
  pub ops : List ℕ
  pub vals : List ℕ

abbrev pub lists : List ℕ → List ℕ → List ℕ → Lent
lists lens ops vals = record { lens = lens; ops = ops; vals = vals }

-- the lists, as a call is lent them
abbrev pub lent : Lists → Lent
lent l = lists l.lens.now l.ops.now l.vals.now

unfoldable pub total : List ℕ → ℕ
total [] = 0
total (n ∷ more) = n + total more

-- where thread i's script starts
abbrev pub start : List ℕ → ℕ → ℕ
start lens i = total (take i lens)

-- the scripts, read out of the lists
abbrev pub scripts_of : Lent → Scripts
scripts_of s =
    record {
      len = λ i. get_or s.lens i 0;
      op = λ i k. get_or s.ops (start s.lens i + k) 0;
      val = λ i k. get_or s.vals (start s.lens i + k) 0;
    }

-- the first number from `at` on of which the test holds, among so many; past them if there is none
unfoldable pub find : (ℕ → Bool) → ℕ → ℕ → ℕ
find test at zero = at
find test at (suc left) = cond (test at) at (find test (at + 1) left)

-- an unknown code, or a value other than 0 for a code other than 5
abbrev pub wrong : ℕ → ℕ → Bool
wrong o v = eqb o 0 || (ltb into_inner o || (not (eqb o release_write) && not (eqb v 0)))

-- the first thread with a script above 64; the number of threads if there is none
abbrev pub long_thread : List ℕ → ℕ
long_thread lens = find (λ t. ltb longest_script (get_or lens t 0)) 0 (length lens)

-- in thread t's script, the first script place with a wrong code or value; the script's length if there is none
abbrev pub wrong_place : Scripts → ℕ → ℕ
wrong_place S t = find (λ k. wrong (S.op t k) (S.val t k)) 0 (S.len t)

-- the first thread that has one, of n
abbrev pub wrong_thread : Scripts → ℕ → ℕ
wrong_thread S n = find (λ t. ltb (wrong_place S t) (S.len t)) 0 n

-- what is lent, with so many records
abbrev pub list_checks : Lent → ℕ → List Check
list_checks s records =
    gives script_too_long (ltb (long_thread s.lens) (length s.lens))
    ∷ gives wrong_lengths (not (eqb (length s.ops) (total s.lens) && (eqb (length s.vals) (total s.lens) && eqb records (length s.lens))))
    ∷ gives wrong_code (ltb (wrong_thread (scripts_of s) (length s.lens)) (length s.lens))
    ∷ []

-- beside 5 stands the thread, beside 7 the thread and the script place; all else is 0
unfoldable pub beside : Lent → ℕ → Refusal
beside s k =
    record {
      number = k;
      thread = cond (eqb k script_too_long) (long_thread s.lens) (cond (eqb k wrong_code) (wrong_thread (scripts_of s) (length s.lens)) 0);
      place = cond (eqb k wrong_code) (wrong_place (scripts_of s) (wrong_thread (scripts_of s) (length s.lens))) 0;
    }

-- what is answered where the lowest refusal is k: nothing where that is 0
abbrev pub answered : Lent → ℕ → Result (Unit {0}) Refusal
answered s k = cond (eqb k 0) (Ok tt) (Err (beside s k))

-- a refusal whose number is 0 is none
abbrev pub some_refusal : Refusal → Option Refusal
some_refusal r = cond (eqb r.number 0) None (Some r)
