-- What a text's `split` at its commas gives in turn are its fields. Assumes nothing.
use Prim.Native.Nat.{ℕ}
use mathlib.Core.Bool.{Bool, false}
use mathlib.Core.Path.{◌≡◌, refl, sym, ap, subst}
use mathlib.Core.List.{List, [], ◌∷◌}
use denote.Param.Members.{Mut}
use denote.Ref.{Bor}
use lib.Dec.{eqb}
use Rattle.std.specs.Prelude.{Option, Some, None}
use Rattle.std.specs.Fn.{CalledAt}
use Rattle.std.specs.Iterator.{AlwaysYields}
use Rattle.std.specs.List.{slice_split, onto_first}
use Rattle.std.specs.declared.slice.Split.{Split}
use Rattle.std.specs.Slice.Iter.{split_rest, split_done, split_callee, split_steps}
use Rattle.std.proofs.lemmas.Iterator.Splits.{YieldsList-from_slice_split}
use Rattle.scenario_lines.specs.Lines.{glue}
use Rattle.scenario_lines.specs.Number.{number}
use Rattle.scenario_lines.specs.Judge.{comma, fields, first, numbered}
use Rattle.scenario_lines.specs.declared.Line.{Line}
use Rattle.scenario_lines.specs.declared.Line.TheVariants.{Broken}

put_first : (b : ℕ) (ps : List (List ℕ)) → onto_first b ps ≡ glue b ps
put_first b [] = refl
put_first b (p ∷ ps) = refl

fields_split : (l : List ℕ) → slice_split (λ b. eqb b comma) l ≡ fields l
unfolding fields
fields_split [] = refl
fields_split (b ∷ l) = rw (fields_split l, put_first b (fields l))

-- what five calls of `next` say of the line
abbrev pub told : Option (Bor (List ℕ)) → Option (Bor (List ℕ)) → Option (Bor (List ℕ)) → Option (Bor (List ℕ)) → Option (Bor (List ℕ)) → Line
told None a b c d = Broken
told (Some k) None b c d = Broken
told (Some k) (Some a) None c d = Broken
told (Some k) (Some a) (Some b) None d = Broken
told (Some k) (Some a) (Some b) (Some c) None = numbered k.now (number a.now) (number b.now) (number c.now)
told (Some k) (Some a) (Some b) (Some c) (Some d) = Broken

module _ {F : Type 0} (g : Mut F (Bor ℕ × Unit {0}) Bool) where
  -- the parts to come are these
  abbrev Gives : Split ℕ F → List (List ℕ) → Type 0
  Gives s ps = AlwaysYields (split_steps g) (λ p. p.now) s ps

  module _ (s t : Split ℕ F) where
    no_part : (ps : List (List ℕ)) → Gives s ps → split_steps g s None t → ps ≡ []
    no_part [] gives e = refl
    no_part (p ∷ ps) gives e = absurd (gives.0 t e)

    a_part : (p : Bor (List ℕ)) (ps : List (List ℕ)) → Gives s ps → split_steps g s (Some p) t → (qs : List (List ℕ)) × (ps ≡ p.now ∷ qs) × Gives t qs
    a_part p [] gives e = absurd (gives p t e)
    a_part p (q ∷ qs) gives e =
        let h = gives.1 p t e in
        (qs, ap (λ (x : List ℕ). x ∷ qs) (sym h.0), h.1)

  module _ (s0 s1 s2 s3 s4 s5 : Split ℕ F) where
    told_of : (k a b c d : Option (Bor (List ℕ))) (ps : List (List ℕ)) → Gives s0 ps
        → split_steps g s0 k s1 → split_steps g s1 a s2 → split_steps g s2 b s3 → split_steps g s3 c s4 → split_steps g s4 d s5
        → told k a b c d ≡ first ps
    told_of None a b c d ps gives e0 e1 e2 e3 e4 = rw (no_part s0 s1 ps gives e0)
    told_of (Some k) None b c d ps gives e0 e1 e2 e3 e4 =
        let p = a_part s0 s1 k ps gives e0 in
        rw (p.1, no_part s1 s2 p.0 p.2 e1)
    told_of (Some k) (Some a) None c d ps gives e0 e1 e2 e3 e4 =
        let p = a_part s0 s1 k ps gives e0 in
        let q = a_part s1 s2 a p.0 p.2 e1 in
        rw (p.1, q.1, no_part s2 s3 q.0 q.2 e2)
    told_of (Some k) (Some a) (Some b) None d ps gives e0 e1 e2 e3 e4 =
        let p = a_part s0 s1 k ps gives e0 in
        let q = a_part s1 s2 a p.0 p.2 e1 in
        let r = a_part s2 s3 b q.0 q.2 e2 in
        rw (p.1, q.1, r.1, no_part s3 s4 r.0 r.2 e3)
    told_of (Some k) (Some a) (Some b) (Some c) None ps gives e0 e1 e2 e3 e4 =
        let p = a_part s0 s1 k ps gives e0 in
        let q = a_part s1 s2 a p.0 p.2 e1 in
        let r = a_part s2 s3 b q.0 q.2 e2 in
        let t = a_part s3 s4 c r.0 r.2 e3 in
        rw (p.1, q.1, r.1, t.1, no_part s4 s5 t.0 t.2 e4)
    told_of (Some k) (Some a) (Some b) (Some c) (Some d) ps gives e0 e1 e2 e3 e4 =
        let p = a_part s0 s1 k ps gives e0 in
        let q = a_part s1 s2 a p.0 p.2 e1 in
        let r = a_part s2 s3 b q.0 q.2 e2 in
        let t = a_part s3 s4 c r.0 r.2 e3 in
        let u = a_part s4 s5 d t.0 t.2 e4 in
        rw (p.1, q.1, r.1, t.1, u.1)

    pub says : {f : F} (l : List ℕ) (k a b c d : Option (Bor (List ℕ))) → split_rest s0 ≡ l → split_done s0 ≡ false → split_callee s0 ≡ f
        → split_steps g s0 k s1 → split_steps g s1 a s2 → split_steps g s2 b s3 → split_steps g s3 c s4 → split_steps g s4 d s5
        → ((x : ℕ) (b : Bool) (q : F) → CalledAt g f x b q → (q ≡ f) × (b ≡ eqb x comma))
        → told k a b c d ≡ first (fields l)
    says l k a b c d rest done callee e0 e1 e2 e3 e4 each =
        let gives = (YieldsList-from_slice_split g (λ b. eqb b comma) l rest done callee each).runs in
        told_of k a b c d (fields l) (subst (λ (ps : List (List ℕ)). Gives s0 ps) (fields_split l) gives) e0 e1 e2 e3 e4
