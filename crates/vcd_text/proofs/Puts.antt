-- What the functions that store a text leave, told in both forms: with its room, and as `Put`. Assumes nothing.
use Rattle.std.proofs.Common.{◌≡◌, ℕ, ◌+◌, ◌≤◌, List, length, le-leb}
use lib.Seq.{sets}
use Rattle.scenario_text.specs.Put.{Put, stored, place_after}
use Rattle.scenario_text.proofs.Stores.{puts}

-- where there is room
pub placed : (o p s : List ℕ) (at r most : ℕ) → at + most ≤ length o → length s ≤ most
    → r ≡ place_after most o at s → p ≡ stored most o at s → Put o at s most r p
placed o p s at r most room short e f =
    let fits = le-leb (at + most) (length o) room in
    let next : r ≡ at + length s = rw fits at e in
    let left : p ≡ sets o at s = rw fits at f in
    puts o p s at r most next left short
