-- The bytes may be cut anywhere, and they are held as the reader holds them. Assumes nothing.
use Rattle.std.proofs.Common.{◌≡◌, ℕ, Bool, true, false, cond, List, [], ◌∷◌, drop, refl, ap, ◌∙◌}
use Rattle.scenario_lines.specs.Held.{held, unheld, held_after, line_after, Took, taking, one_byte_more, took}
use Rattle.scenario_lines.specs.declared.bytes.Held.{Held}
use Rattle.program_told.specs.Told.{through}
use Rattle.program_told.specs.Laws.{CutAnywhere, AsTaken}

pub cut_anywhere : CutAnywhere
unfolding through
cut_anywhere h [] b = refl
cut_anywhere h (x ∷ a) b = cut_anywhere (held_after (cond h.done unheld h) x) a b

-- what is held after the bytes that were taken, and then after the others
abbrev onward : List ℕ → Took → Held
onward bs t = through t.held (drop t.used bs)

one_byte : (g : Held) (m : List ℕ) (b : ℕ) (bs : List ℕ) (t : Bool) → (t ≡ false → through g bs ≡ onward bs (took bs m g))
    → through g bs ≡ onward (b ∷ bs) (cond t (taking g m 1) (one_byte_more (took bs m g)))
one_byte g m b bs true more = refl
one_byte g m b bs false more = more refl

pub as_taken : AsTaken
unfolding through took
as_taken h l [] unbroken = ap (held h.len h.cr) unbroken
as_taken h l (b ∷ bs) unbroken =
    ap (λ (t : Bool). through (held_after (cond t unheld h) b) bs) unbroken
    ∙ one_byte (held_after h b) (line_after l h b) b bs (held_after h b).done (λ e. as_taken (held_after h b) (line_after l h b) bs e)
