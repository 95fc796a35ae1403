use Rattle.std.proofs.Common.{◌∙◌, arith}
use Rattle.sqlite.specs.State.{HasCleanDisk}
use Rattle.fr_base.specs.Tables.{empty}
use Rattle.fr_tables.specs.Changes.{Changes, Copies, Stays}
use Rattle.fr_tables.specs.Statements.{grants_for, with_grants, with_variant}
use Rattle.fr_tables.proofs.FillLemmas.{survives_both}
use Rattle.fr_store.specs.Flat.{filled}
use Rattle.fr_store.specs.Reading.{Stands}
use Rattle.fr_store.proofs.CallLemmas.{KeepsOn, copies_stay, done_refused, done_stays, on_done, seen, stays_then}
use Rattle.fr_store.proofs.InsideLemmas.{made_inside}
use Rattle.fr_store.proofs.NewVariants.{begun_flat, opened_row}
use Rattle.fr_store.proofs.applying.flat.begin.Goals as goal

pub returns : goal.returns
returns g c =
    let v = c.args.variant.now in
    let from = c.args.from.now in
    let old = seen g.S.Store c.args.tx.now in
    let mid = seen g.S.Store c.insert.new.tx in
    let new = seen g.S.Store c.copy.new.tx in
    let opened : KeepsOn old mid = λ clean inside has. made_inside (with_variant (opened_row v 1)) old mid inside (c.in_ok-insert.ensures.does clean inside has) in
    record {
      same_reference = c.copy.ensures.same_reference ∙ c.insert.ensures.same_reference;
      does = λ clean inside cluster b x may stands.
          let clean_mid : HasCleanDisk mid = omega (arith, c.copy.ensures.survives.clean, clean) in
          let step : Changes (with_variant (opened_row v 1)) old mid = c.in_ok-insert.ensures.does clean_mid inside stands.has in
          on_done (Copies (grants_for from v) with_grants mid new) (Stays mid new) (Stands new cluster (filled b v x empty)) c.copy.result c.done.result c.done.ensures
          (c.copy.ensures.does clean (step.shown.mode ∙ inside) step.has) (λ copies. begun_flat v from old mid new step copies cluster b x may stands);
      stays = stays_then old mid new c.done.result c.copy.ensures.survives opened
          (done_stays mid new c.copy.result c.done.result c.done.ensures (copies_stay (grants_for from v) with_grants mid new c.copy.result c.copy.ensures.does));
      refused = done_refused c.copy.result c.done.result c.done.ensures;
      survives = survives_both old mid new c.insert.ensures.survives c.copy.ensures.survives;
    }
