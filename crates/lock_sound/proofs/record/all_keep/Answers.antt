-- `all_keep` meets its contract: `all` over the records with their threads is the test of every record. Assumes nothing.
use Rattle.std.proofs.Common.{rules, tests, ℕ}
use Rattle.std.proofs.lemmas.Iterator.Search.{all_from_yields_List}
use Rattle.std.proofs.lemmas.Iterator.Consumers.{YieldsList-from_enumerate}
use Rattle.std.proofs.lemmas.Iterator.{YieldsList-from_slice}
use Rattle.machine.specs.declared.Rec.{Rec}
use Rattle.lock_words.proofs.Slices.{every_is_all}
use Rattle.lock_sound.specs.Records.{sound_at}
use Rattle.lock_sound.proofs.record.all_keep.Goals as goal

pub returns : goal.returns
returns c =
    let a = c.args in
    let f = sound_at a.lists.lens.now a.lists.ops.now a.pred a.top in
    rw (every_is_all f 0 a.recs.now)
    (all_from_yields_List (λ (p : ℕ × Rec). f p.0 p.1) _ _ _ c.all.ensures.ran (YieldsList-from_enumerate (YieldsList-from_slice a.recs.now (cc)) (cc)) (λ x b q k. search (rules, tests)))
