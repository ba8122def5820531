-- The numbers of the rules, by name: operations, access codes and refusals.
use Rattle.std.specs.Prelude.{ℕ}

-- ---- operations of a script
abbrev pub acquire_read : ℕ
acquire_read = 1

abbrev pub borrows : ℕ
borrows = 2

abbrev pub release_read : ℕ
release_read = 3

abbrev pub acquire_write : ℕ
acquire_write = 4

abbrev pub release_write : ℕ
release_write = 5

abbrev pub drop_handle : ℕ
drop_handle = 6

abbrev pub into_inner : ℕ
into_inner = 7

-- ---- access codes of a row
-- a refused entry makes no access
abbrev pub no_access : ℕ
no_access = 0

abbrev pub loads_rc : ℕ
loads_rc = 1

-- an exchange that is done, as 7 is
abbrev pub exchanges_rc : ℕ
exchanges_rc = 2

abbrev pub loads_exc : ℕ
loads_exc = 3

abbrev pub gives_back : ℕ
gives_back = 4

abbrev pub borrows_cell : ℕ
borrows_cell = 5

abbrev pub releases_rc : ℕ
releases_rc = 6

abbrev pub exchanges_exc : ℕ
exchanges_exc = 7

abbrev pub waits_rc : ℕ
waits_rc = 8

abbrev pub takes_cell : ℕ
takes_cell = 9

abbrev pub puts_cell : ℕ
puts_cell = 10

abbrev pub stores_exc : ℕ
stores_exc = 11

abbrev pub drops_handle : ℕ
drops_handle = 12

-- an exchange that failed, of the count and of the flag
abbrev pub fails_rc : ℕ
fails_rc = 13

abbrev pub fails_exc : ℕ
fails_exc = 14

-- ---- refusals
abbrev pub thread_count : ℕ
thread_count = 1

abbrev pub top_is_zero : ℕ
top_is_zero = 2

abbrev pub bad_predicate : ℕ
bad_predicate = 3

abbrev pub first_value : ℕ
first_value = 4

abbrev pub script_too_long : ℕ
script_too_long = 5

abbrev pub wrong_lengths : ℕ
wrong_lengths = 6

abbrev pub wrong_code : ℕ
wrong_code = 7

abbrev pub unsound : ℕ
unsound = 10

abbrev pub no_thread : ℕ
no_thread = 11

abbrev pub script_finished : ℕ
script_finished = 12

abbrev pub lock_gone : ℕ
lock_gone = 13

abbrev pub does_not_fit : ℕ
does_not_fit = 14

abbrev pub others_busy : ℕ
others_busy = 15

abbrev pub not_permitted : ℕ
not_permitted = 16

abbrev pub untidy : ℕ
untidy = 17

-- ---- bounds
abbrev pub most_threads : ℕ
most_threads = 16

abbrev pub longest_script : ℕ
longest_script = 64

-- the words of a row
abbrev pub row_words : ℕ
row_words = 6
