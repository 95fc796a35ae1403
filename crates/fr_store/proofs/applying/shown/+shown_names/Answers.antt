use Rattle.std.proofs.Common.{◌∙◌, sym}
use Rattle.fr_tables.proofs.FillLemmas.{survives_both}
use Rattle.fr_store.proofs.CallLemmas.{seen}
use Rattle.fr_store.proofs.ShownSteps.{alone_read, over_read}
use Rattle.fr_store.proofs.applying.shown.+shown_names.Goals as goal

pub returns-in-None : goal.returns-in-None
returns-in-None g t c =
    let old = seen g.S.Store c.args.tx.now in
    let mid = seen g.S.Store c.read_origin.new.tx in
    let new = seen g.S.Store c.lay_over-in-None.new.tx in
    record {
      same_reference = c.lay_over-in-None.ensures.same_reference ∙ c.read_origin.ensures.same_reference;
      does = alone_read c.args.variant.now c.args.supplier.now c.in_ok-origin.origin c.new.result.keys old mid new c.lay_over-in-None.result
          c.lay_over-in-None.ensures.survives c.in_ok-origin.ensures.does (sym c.laid_over.ensures ∙ c.in-None.is) c.new.ensures.empty c.lay_over-in-None.ensures.does;
      refused = c.lay_over-in-None.ensures.refused;
      survives = survives_both old mid new c.read_origin.ensures.survives c.lay_over-in-None.ensures.survives;
    }

pub returns-in_ok-inherited-in-Some : goal.returns-in_ok-inherited-in-Some
returns-in_ok-inherited-in-Some g t c =
    let old = seen g.S.Store c.args.tx.now in
    let mid = seen g.S.Store c.read_origin.new.tx in
    let up = seen g.S.Store c.shown_names.new.tx in
    let new = seen g.S.Store c.lay_over.new.tx in
    record {
      same_reference = c.lay_over.ensures.same_reference ∙ c.shown_names.ensures.same_reference ∙ c.read_origin.ensures.same_reference;
      does = over_read c.args.variant.now c.args.supplier.now c.in_ok-origin.origin c.in-Some.parent c.in_ok-inherited-in-Some.inherited.keys old mid up new c.lay_over.result
          c.shown_names.ensures.survives c.lay_over.ensures.survives c.in_ok-origin.ensures.does (sym c.laid_over.ensures ∙ c.in-Some.is) c.in_ok-inherited-in-Some.ensures.does c.lay_over.ensures.does;
      refused = c.lay_over.ensures.refused;
      survives = survives_both old mid new c.read_origin.ensures.survives (survives_both mid up new c.shown_names.ensures.survives c.lay_over.ensures.survives);
    }
