-- A file that arrives in chunks has the lines of the whole, and the code takes them. Assumes nothing.
use Prim.Native.Nat.{ℕ, zero, suc, ◌+◌, ◌<◌, ◌≤◌}
use mathlib.Core.Bool.{Bool, true, false, ◌&&◌, not, cond, false≢true}
use mathlib.Core.Path.{◌≡◌, refl, sym, ap, ◌∙◌}
use mathlib.Core.List.{List, [], ◌∷◌, ◌++◌, map, flatten, append_assoc, append-nil}
use native.Mathlib.Omega.{arith}
use borrow.Author.Tests.{ltb-true, lt-ltb, le-ltb}
use lib.Dec.{eqb, ltb}
use lib.ListN.{length, take, drop, length-take, length-drop}
use Rattle.scenario_lines.specs.Lines.{cr, lf, lines, across}
use Rattle.scenario_lines.specs.Bytes.{longest, too_long, Reader, reader, push, pushed, feed, last, finish}
use Rattle.scenario_lines.specs.Held.{grown, held, held_by, unheld, held_after, line_after, taking, one_byte_more, Took, took, view, line_last, held_end, line_end}
use Rattle.scenario_lines.specs.Laws.{LongAlike, means}
use Rattle.scenario_lines.specs.Split.{unbroken}
use Rattle.scenario_lines.specs.Chunks.{
  carried,
  one_line_more,
  feed_all,
  lines_of,
  Carrying,
  carrying,
  take_chunk,
  take_chunks,
  take_end,
  LinesAtOnce,
  SameLines,
  NoBytes,
  OneBreak,
  no_return,
  CutAtReturn,
  TakenSo,
  AtMost80,
}
use Rattle.scenario_lines.specs.declared.bytes.Held.{Held}
use Rattle.scenario_lines.proofs.Kept.{kept_length, length_after}
use Rattle.scenario_lines.proofs.Laws.{by_bytes, any_cut, a_line, the_end}
use Rattle.scenario_lines.proofs.Split.{line_split}

-- ---- the chunks one behind the other
fed_flat : (S : Type 0) (next : S → List ℕ → S) (r : Reader S) (chunks : List (List ℕ)) → feed_all next r chunks ≡ feed next r (flatten chunks)
unfolding feed feed_all flatten
fed_flat S next r [] = refl
fed_flat S next r (chunk ∷ chunks) = fed_flat S next (feed next r chunk) chunks ∙ sym (any_cut S next r chunk (flatten chunks))

flatten_then : (a b : List (List ℕ)) → flatten (a ++ b) ≡ flatten a ++ flatten b
unfolding flatten
flatten_then [] b = refl
flatten_then (l ∷ a) b = ap (λ (x : List ℕ). l ++ x) (flatten_then a b) ∙ sym (append_assoc l (flatten a) (flatten b))

-- ---- the lines are gathered in turn
carried_long : (l : List ℕ) → longest < length l → carried l ≡ too_long
carried_long l h = rw (lt-ltb longest (length l) h)

more_alike : LongAlike one_line_more
more_alike ls l m h g = ap (λ (x : List ℕ). ls ++ (x ∷ [])) (carried_long l h ∙ sym (carried_long m g))

gathered : (ls ms : List (List ℕ)) → across one_line_more ls ms ≡ ls ++ map carried ms
unfolding across
gathered ls [] = sym (append-nil ls)
gathered ls (m ∷ ms) = gathered (one_line_more ls m) ms ∙ append_assoc ls (carried m ∷ []) (map carried ms)

pub lines_at_once : LinesAtOnce
unfolding lines_of
lines_at_once chunks =
    ap (finish one_line_more) (fed_flat _ one_line_more (reader [] false []) chunks)
    ∙ by_bytes _ one_line_more more_alike [] (flatten chunks)
    ∙ gathered [] (lines (flatten chunks))

pub same_lines : SameLines
same_lines a b e = lines_at_once a ∙ ap (λ (file : List ℕ). map carried (lines file)) e ∙ sym (lines_at_once b)

pub no_bytes : NoBytes
unfolding flatten
no_bytes before after = same_lines _ _ (flatten_then before ([] ∷ after) ∙ sym (flatten_then before after))

-- ---- a break that is cut
break_by : (S : Type 0) (next : S → List ℕ → S) (back : Bool) (l : List ℕ) (s : S)
    → push next (pushed next back l s cr) lf ≡ reader [] false (next s (last next back l))
break_by S next true l s = refl
break_by S next false l s = refl

pub one_break : OneBreak
unfolding feed feed_all
one_break S next r = break_by S next r.held r.line r.state

no_break : (b c : ℕ) (l : List ℕ) (t : Bool) → (not t && no_return (c ∷ l)) ≡ true → eqb b cr ≡ t → (not (t && eqb c lf) && unbroken (c ∷ l)) ≡ unbroken (c ∷ l)
no_break b c l true e f = absurd (false≢true e)
no_break b c l false e f = refl

later : (t u : Bool) → (not t && u) ≡ true → u ≡ true
later true u e = absurd (false≢true e)
later false u e = e

unbroken_so : (l : List ℕ) → no_return l ≡ true → unbroken l ≡ true
unbroken_so [] e = refl
unbroken_so (b ∷ []) e = refl
unbroken_so (b ∷ c ∷ l) e = no_break b c l (eqb b cr) e refl ∙ unbroken_so (c ∷ l) (later (eqb b cr) (no_return (c ∷ l)) e)

pub cut_at_return : CutAtReturn
unfolding flatten
cut_at_return l rest b e =
    lines_at_once ((l ++ (cr ∷ [])) ∷ (lf ∷ b) ∷ rest)
    ∙ ap (λ (file : List ℕ). map carried (lines file)) (append_assoc l (cr ∷ []) (lf ∷ (b ++ flatten rest)))
    ∙ ap (map carried) (line_split l (b ++ flatten rest) (unbroken_so l e)).0
    ∙ ap (λ (ls : List (List ℕ)). carried l ∷ ls) (sym (lines_at_once (b ∷ rest)))

-- ---- the code's line
-- what is meant by the places is what is carried
carried_by : (l : List ℕ) (n : ℕ) (t : Bool) → length l ≡ longest → carried (cond t (take n l) too_long) ≡ cond t (take n l) too_long
carried_by l n true e =
    let most : length (take n l) ≤ longest = omega (arith, length-take n l) in
    rw (le-ltb longest (length (take n l)) most)
carried_by l n false e = refl

view_carried : (l : List ℕ) (n : ℕ) → length l ≡ longest → carried (view l n) ≡ view l n
unfolding view
view_carried l n e = carried_by l n (ltb n 81) e

view_more : (ls : List (List ℕ)) (l : List ℕ) (n : ℕ) → length l ≡ longest → ls ++ (view l n ∷ []) ≡ one_line_more ls (view l n)
view_more ls l n e = ap (λ (x : List ℕ). ls ++ (x ∷ [])) (sym (view_carried l n e))

-- ---- what a call leaves
-- the places are 80, and no more than 81 are counted
abbrev Fits : List ℕ → Held → Type 0
Fits l h = (length l ≡ longest) × (h.len ≤ suc longest)

grown_by : (n : ℕ) (t : Bool) → ltb n longest ≡ t → cond t (n + 1) 81 ≤ 81
grown_by n true e = omega (arith, ltb-true n longest e)
grown_by n false e = omega arith

grown_most : (n : ℕ) → grown n ≤ 81
grown_most n = grown_by n (ltb n longest) refl

by_most : (back t u : Bool) (n : ℕ) → n ≤ 81
    → (cond back (cond t (held n false true) (cond u (held (grown n) true false) (held (grown (grown n)) false false))) (cond u (held n true false) (held (grown n) false false))).len
    ≤ 81
by_most true true u n h = h
by_most true false true n h = grown_most n
by_most true false false n h = grown_most (grown n)
by_most false t true n h = h
by_most false t false n h = grown_most n

held_by_most : (back : Bool) (n b : ℕ) → n ≤ 81 → (held_by back n b).len ≤ 81
held_by_most true n b h = by_most true (eqb b lf) (eqb b cr) n h
held_by_most false n b h = by_most false (eqb b lf) (eqb b cr) n h

pub after_most : (h : Held) (b : ℕ) → h.len ≤ 81 → (held_after h b).len ≤ 81
unfolding held_after
after_most h b e = held_by_most h.cr h.len b e

fits_by : (d : Bool) (g : Held) (m : List ℕ) (t : Took) → Fits m g → Fits t.line t.held
    → let w = cond d (taking g m 1) (one_byte_more t) in Fits w.line w.held
fits_by true g m t here on = here
fits_by false g m t here on = on

took_fits : (bs l : List ℕ) (h : Held) → Fits l h → let t = took bs l h in Fits t.line t.held
unfolding took
took_fits [] l h f = f
took_fits (b ∷ bs) l h f =
    let g = held_after h b in
    let m = line_after l h b in
    let now : Fits m g = (length_after l h b f.0, after_most h b f.1) in
    fits_by g.done g m (took bs m g) now (took_fits bs m g now)

-- a completed line has used a byte
used_by : (d : Bool) (g : Held) (m : List ℕ) (t : Took) → 1 ≤ (cond d (taking g m 1) (one_byte_more t)).used
used_by true g m t = omega arith
used_by false g m t = omega arith

used_some : (bs l : List ℕ) (h : Held) → (took bs l h).held.done ≡ true → length (drop (took bs l h).used bs) < length bs
unfolding took
used_some [] l h e = absurd (false≢true e)
used_some (b ∷ bs) l h e =
    let g = held_after h b in
    let m = line_after l h b in
    let n = (cond g.done (taking g m 1) (one_byte_more (took bs m g))).used in
    omega (arith, used_by g.done g m (took bs m g), length-drop n (b ∷ bs))

-- ---- calls for a chunk
abbrev meant : Carrying → Reader (List (List ℕ))
meant c = means c.line c.held c.lines

unheld_means : (l : List ℕ) (ls : List (List ℕ)) → means l unheld ls ≡ reader [] false ls
unfolding view
unheld_means l ls = refl

-- what calls leave of a carrying, after these bytes
pub record Left (c : Carrying) (bs : List ℕ) (d : Carrying) : Type 0 where
  pub is : meant d ≡ feed one_line_more (meant c) bs
  pub fits : Fits d.line d.held

module _ (n : ℕ) (bs : List ℕ) (c : Carrying) where
  abbrev t : Took
  t = took bs c.line c.held

  -- the bytes and the lines after the one that is completed
  abbrev rest : List ℕ
  rest = drop t.used bs

  abbrev afterwards : Carrying
  afterwards = carrying (c.lines ++ (view t.line t.held.len ∷ [])) t.line unheld

  call_left : (d : Bool)
      → feed one_line_more (meant c) bs
      ≡ cond d (feed one_line_more (reader [] false (one_line_more c.lines (view t.line t.held.len))) rest) (means t.line t.held c.lines)
      → Fits t.line t.held
      → (d ≡ true → Left afterwards rest (take_chunk n rest afterwards))
      → Left c bs (cond d (take_chunk n rest afterwards) (carrying c.lines t.line t.held))
  call_left true is fits on = record {
    is =
        (on refl).is
        ∙ ap (λ (r : Reader (List (List ℕ))). feed one_line_more r rest)
        (unheld_means t.line afterwards.lines ∙ ap (reader [] false) (view_more c.lines t.line t.held.len fits.0))
        ∙ sym is;
    fits = (on refl).fits;
  }
  call_left false is fits on = record { is = sym is; fits = fits }

chunk_left : (n : ℕ) (bs : List ℕ) (c : Carrying) → length bs < n → Fits c.line c.held → Left c bs (take_chunk n bs c)
unfolding take_chunk
chunk_left zero bs c few f = absurd (omega arith)
chunk_left (suc n) bs c few f =
    let fits = took_fits bs c.line c.held f in
    call_left n bs c (t n bs c).held.done (a_line _ one_line_more c.lines bs c.line c.held f.0) fits
    (λ e. chunk_left n (rest n bs c) (afterwards n bs c) (omega (arith, used_some bs c.line c.held e)) (fits.0, omega arith))

chunks_left : (chunks : List (List ℕ)) (c : Carrying) → Fits c.line c.held
    → (meant (take_chunks c chunks) ≡ feed_all one_line_more (meant c) chunks) × Fits (take_chunks c chunks).line (take_chunks c chunks).held
unfolding take_chunks feed_all
chunks_left [] c f = (refl, f)
chunks_left (chunk ∷ chunks) c f =
    let one = chunk_left (suc (length chunk)) chunk c (omega arith) f in
    let rest = chunks_left chunks (take_chunk (suc (length chunk)) chunk c) one.fits in
    (rest.0 ∙ ap (λ (r : Reader (List (List ℕ))). feed_all one_line_more r chunks) one.is, rest.1)

-- ---- the end
end_length : (back : Bool) (l : List ℕ) (n : ℕ) → length l ≡ longest → length (line_last back l n) ≡ longest
end_length true l n e = kept_length l n cr e
end_length false l n e = e

ended_so : (c : Carrying) → length c.line ≡ longest → take_end c ≡ finish one_line_more (meant c)
unfolding line_end
ended_so c e =
    let h = held_end c.held in
    ap (λ (x : List (List ℕ)). cond h.done x c.lines) (view_more c.lines (line_end c.line c.held) h.len (end_length c.held.cr c.line c.held.len e))
    ∙ sym (the_end _ one_line_more more_alike c.lines c.line c.held e)

pub taken_so : TakenSo
unfolding lines_of
taken_so places chunks e =
    let (is, fits) = chunks_left chunks (carrying [] places unheld) (e, omega arith) in
    ended_so (take_chunks (carrying [] places unheld) chunks) fits.0
    ∙ ap (finish one_line_more) (is ∙ ap (λ (r : Reader (List (List ℕ))). feed_all one_line_more r chunks) (unheld_means places []))

pub at_most_80 : AtMost80
at_most_80 places chunks e =
    let (line, len) = (chunks_left chunks (carrying [] places unheld) (e, omega arith)).1 in
    let c = take_chunks (carrying [] places unheld) chunks in
    (line, omega (arith, length-take c.held.len c.line), len)
