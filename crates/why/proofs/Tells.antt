-- The numbers tell the answer: it is made again out of them.
use Prim.Native.Nat.{ℕ, zero, suc}
use mathlib.Core.Path.{◌≡◌, refl, sym, ap, ◌∙◌}
use Rattle.why.specs.Why.{reason_no, who_no}
use Rattle.why.specs.Reasons.{NumbersTell}
use Rattle.why.specs.declared.Reason.{Reason}
use Rattle.why.specs.declared.Reason.TheVariants.{NotWaiting, CountFull, CountChanged, Flag, Readers}
use Rattle.std.specs.Prelude.{None, Some}

abbrev reason_from : ℕ → ℕ → Reason
reason_from zero w = NotWaiting
reason_from (suc zero) w = CountFull
reason_from (suc (suc zero)) w = CountChanged
reason_from (suc (suc (suc zero))) w = Flag (Some w)
reason_from (suc (suc (suc (suc zero)))) w = Flag None
reason_from (suc (suc (suc (suc (suc zero))))) w = Readers (Some w)
reason_from (suc (suc (suc (suc (suc (suc k)))))) w = Readers None

made_again : (y : Reason) → reason_from (reason_no y) (who_no y) ≡ y
made_again NotWaiting = refl
made_again CountFull = refl
made_again CountChanged = refl
made_again (Flag (Some w)) = refl
made_again (Flag None) = refl
made_again (Readers (Some w)) = refl
made_again (Readers None) = refl

pub numbers_tell : NumbersTell
numbers_tell y z same who = sym (made_again y) ∙ ap (λ (k : ℕ). reason_from k (who_no y)) same ∙ ap (reason_from (reason_no z)) who ∙ made_again z
