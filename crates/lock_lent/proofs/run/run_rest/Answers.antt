use Rattle.std.proofs.Common.{ℕ, ◌*◌, refl, ap, ◌∙◌, List, ◌++◌, take, drop}
use Rattle.machine.specs.Names.{row_words}
use Rattle.lock_lent.proofs.PutBack.{run_back}
use Rattle.lock_lent.proofs.run.run_rest.Goals as goal

-- a run over the tail of the trace list; the words before it stay
pub returns : goal.returns
returns c =
    let before = row_words * c.args.used in
    let made = run_back c.args.recs.now _ _ _ c.blank.ensures c.exchange-taken.ensures.value c.exchange-taken.ensures.recs_after _ c.args.lock _ _ (drop before c.args.trace.now) _ _ _ c.run_rest-left.ensures.value c.exchange.ensures.recs_after refl in
    record {
      value = made.0;
      recs_after = made.1;
      trace_after = c.run_rest-left.ensures.trace_after ∙ ap (λ (rows : List ℕ). take before c.args.trace.now ++ rows) made.2;
    }
