-- Bytes that are taken, and the end of the input, keep what is kept. Assumes nothing.
use Prim.Native.Nat.{ℕ, ◌+◌, ◌-◌}
use mathlib.Core.Bool.{Bool, true, false, cond, true≢false}
use mathlib.Core.Path.{◌≡◌, refl, sym, ap, subst, ◌∙◌}
use mathlib.Core.List.{List, [], ◌∷◌, ◌++◌}
use native.Mathlib.Omega.{arith}
use lib.ListN.{length, take, drop, length-take, drop_of_length-le}
use Rattle.scenario_lines.specs.Bytes.{longest, Reader, reader, feed, finish}
use Rattle.scenario_lines.specs.Judge.{judge}
use Rattle.scenario_lines.specs.Held.{unheld, held_after, line_after, Took, taking, one_byte_more, took, line_last, held_end, line_end, view}
use Rattle.scenario_lines.specs.Laws.{means}
use Rattle.scenario_lines.specs.declared.bytes.Held.{Held}
use Rattle.scenario_lines.proofs.Kept.{kept_length, length_after}
use Rattle.scenario_lines.proofs.Laws.{any_cut, a_line, the_end}
use Rattle.scenario.specs.Printed.{Reading, next, ended}
use Rattle.scenario.specs.ByBytes.{unread}
use Rattle.scenario.proofs.ByBytes.{long_alike}
use Rattle.scenario_stages.specs.Kept.{on_line, lens_after, ops_after, vals_after, at_end}
use Rattle.scenario_read.specs.Feed.{World, state_with, takes, ends}
use Rattle.scenario_read.specs.declared.State.{State}
use Rattle.scenario_promises.specs.Session.{took as took_of}
use Rattle.scenario_promises.proofs.Chose.{Open}
use Rattle.scenario_promises.proofs.Holds.{Holds, Bytes, Inv, Kept}
use Rattle.scenario_promises.proofs.Lined.{line_holds, end_holds}

-- ---- the bytes that are read are all that is looked at
module _ (b : ℕ) (bs l : List ℕ) (h : Held) where
  abbrev g : Held
  g = held_after h b

  abbrev m : List ℕ
  m = line_after l h b

  part_by : (d : Bool) → g.done ≡ d → took (take (took bs m g).used bs) m g ≡ took bs m g
      → let t = cond d (taking g m 1) (one_byte_more (took bs m g)) in took (take t.used (b ∷ bs)) l h ≡ t
  unfolding took
  part_by true e same = subst (λ (d : Bool). cond d (taking g m 1) (one_byte_more (took [] m g)) ≡ taking g m 1) (sym e) refl
  part_by false e same =
      subst (λ (d : Bool). cond d (taking g m 1) (one_byte_more (took (take (took bs m g).used bs) m g)) ≡ one_byte_more (took bs m g)) (sym e) (ap one_byte_more same)

  size_by : (d : Bool) → length m ≡ longest → length (took bs m g).line ≡ longest
      → length (cond d (taking g m 1) (one_byte_more (took bs m g))).line ≡ longest
  size_by true e f = e
  size_by false e f = f

part : (bs l : List ℕ) (h : Held) → took (take (took bs l h).used bs) l h ≡ took bs l h
unfolding took
part [] l h = refl
part (b ∷ bs) l h = part_by b bs l h (held_after h b).done refl (part bs (line_after l h b) (held_after h b))

took_size : (bs l : List ℕ) (h : Held) → length l ≡ longest → length (took bs l h).line ≡ longest
unfolding took
took_size [] l h e = e
took_size (b ∷ bs) l h e =
    let f = length_after l h b e in
    size_by b bs l h (held_after h b).done f (took_size bs (line_after l h b) (held_after h b) f)

end_size : (back : Bool) (l : List ℕ) (n : ℕ) → length l ≡ longest → length (line_last back l n) ≡ longest
end_size true l n e = kept_length l n 13 e
end_size false l n e = e

-- so the machine is where the line that was completed, or the line so far, leaves it
module _ (q : Reading) (bs l : List ℕ) (h : Held) (size : length l ≡ longest) where
  abbrev t : Took
  t = took bs l h

  abbrev read : Bool → Reader Reading
  read d = cond d (reader [] false (next q (view t.line t.held.len))) (means t.line t.held q)

  nothing_left : (d : Bool) (rest : List ℕ) → rest ≡ []
      → cond d (feed next (reader [] false (next q (view t.line t.held.len))) rest) (means t.line t.held q) ≡ read d
  unfolding feed
  nothing_left true rest e = rw e
  nothing_left false rest e = refl

  part_read : feed next (means l h q) (take t.used bs) ≡ read t.held.done
  part_read =
      let bytes = take t.used bs in
      let all : drop t.used bytes ≡ [] = drop_of_length-le bytes {i = t.used} (omega (arith, length-take t.used bs)) in
      a_line Reading next q bytes l h size
      ∙ ap (λ (x : Took). cond x.held.done (feed next (reader [] false (next q (view x.line x.held.len))) (drop x.used bytes)) (means x.line x.held q)) (part bs l h)
      ∙ nothing_left t.held.done _ all

-- ---- the moves
no_line : (l : List ℕ) → view l 0 ≡ []
unfolding view
no_line l = refl

unclosed : (b : Bool) (bytes line : List ℕ) (h : Held) (q : Reading) → b ≡ false → Bytes b bytes line h q → feed next unread bytes ≡ means line h q
unclosed false bytes line h q e r = r
unclosed true bytes line h q e r = absurd (true≢false e)

module _ (bytes words : List ℕ) (w : World) (k : Kept bytes words w) (o : Open w.state) where
  abbrev s : State
  s = w.state

  so_far : feed next unread bytes ≡ means w.line s.held k.reading
  so_far = unclosed s.closed bytes w.line s.held k.reading o.closed k.read_so

  line_end_size : length (line_end w.line s.held) ≡ longest
  unfolding line_end
  line_end_size = end_size s.held.cr w.line s.held.len k.line_size

  module _ (chunk : List ℕ) where
    abbrev bs : List ℕ
    bs = drop w.from chunk

    abbrev taken : Took
    taken = took bs w.line s.held

    abbrev whole : List ℕ
    whole = view taken.line taken.held.len

    fed : feed next unread (bytes ++ take taken.used bs) ≡ read k.reading bs w.line s.held k.line_size taken.held.done
    fed =
        any_cut Reading next unread bytes (take taken.used bs)
        ∙ ap (λ (r : Reader Reading). feed next r (take taken.used bs)) so_far
        ∙ part_read k.reading bs w.line s.held k.line_size

    -- the line is completed, or goes on
    line_by : (d : Bool) → feed next unread (bytes ++ take taken.used bs) ≡ read k.reading bs w.line s.held k.line_size d
        → let r = s.read in
        let l = judge whole in
        Inv (bytes ++ take taken.used bs) words
        (cond d (state_with s unheld (on_line r l w.lens) s.gathered) (state_with s taken.held r s.gathered))
        w.standing
        taken.line
        (cond d (lens_after r l w.lens) w.lens)
        (cond d (ops_after r l w.lens w.ops) w.ops)
        (cond d (vals_after r l w.lens w.vals) w.vals)
        w.schedule
    line_by true e =
        record {
          reading = next k.reading whole;
          past = k.past;
          line_size = took_size bs w.line s.held k.line_size;
          read_so = rw o.closed (e ∙ ap (λ (l : List ℕ). reader l false (next k.reading whole)) (sym (no_line taken.line)));
          holds =
              line_holds s.read s.stood s.gathered w.standing w.lens w.ops w.vals w.schedule k.reading k.past words k.holds
              whole o.left;
        }
    line_by false e =
        record {
          reading = k.reading;
          past = k.past;
          line_size = took_size bs w.line s.held k.line_size;
          read_so = rw o.closed e;
          holds = k.holds;
        }

    pub line_kept : Kept (bytes ++ took_of chunk w.from (takes chunk w)) words (takes chunk w)
    line_kept =
        let used : w.from + taken.used - w.from ≡ taken.used = omega arith in
        subst (λ (n : ℕ). Kept (bytes ++ take n bs) words (takes chunk w)) (sym used) (line_by taken.held.done fed)

  -- ---- the end
  abbrev final : Held
  final = held_end s.held

  abbrev line_end_lem : List ℕ
  line_end_lem = line_end w.line s.held

  abbrev lastly : List ℕ
  lastly = view line_end_lem final.len

  end_by : (d : Bool)
      → let r = s.read in
      let l = judge lastly in
      Holds (at_end (cond d (on_line r l w.lens) r)) s.stood s.gathered w.standing
      (cond d (lens_after r l w.lens) w.lens)
      (cond d (ops_after r l w.lens w.ops) w.ops)
      (cond d (vals_after r l w.lens w.vals) w.vals)
      w.schedule
      (ended (cond d (next k.reading lastly) k.reading))
      k.past
      words
  end_by true =
      end_holds _ _ _ _ _ _ _ _ _ _ _
      (line_holds s.read s.stood s.gathered w.standing w.lens w.ops w.vals w.schedule k.reading k.past words k.holds
      lastly o.left)
  end_by false = end_holds _ _ _ _ _ _ _ _ _ _ _ k.holds

  pub close_kept : Kept bytes words (ends w)
  close_kept =
      record {
        reading = ended (cond final.done (next k.reading lastly) k.reading);
        past = k.past;
        line_size = line_end_size;
        read_so =
            sym (
            ap (λ (r : Reader Reading). ended (finish next r)) so_far
            ∙ ap ended (the_end Reading next long_alike k.reading w.line s.held k.line_size)
            );
        holds = end_by final.done;
      }
