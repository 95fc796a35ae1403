use Rattle.std.proofs.Common.{None, Some, ◌∙◌, arith, refl, subst, sym}
use Rattle.sqlite.specs.State.{HasCleanDisk}
use Rattle.fr_world.specs.BookEdits.{applied}
use Rattle.fr_world.specs.declared.edit.Edit.TheVariants.{NewVariant}
use Rattle.fr_tables.specs.Changes.{Changes, Copies, Stays, tables_of}
use Rattle.fr_tables.specs.Statements.{grants_for, with_grants, with_variant}
use Rattle.fr_tables.proofs.FillLemmas.{survives_both}
use Rattle.fr_store.specs.Applying.{CarriesOut, Edits}
use Rattle.fr_store.specs.Reading.{Stands}
use Rattle.fr_store.specs.Sparing.{HasSameFrames}
use Rattle.fr_store.proofs.CallLemmas.{KeepsOn, copies_stay, done_refused, done_stays, edit_done, on_done, seen, spared_done, stays_then}
use Rattle.fr_store.proofs.InsideLemmas.{made_inside}
use Rattle.fr_store.proofs.NewVariants.{child_row, empty_opened, opened_with}
use Rattle.fr_store.proofs.SparingLemmas.{opened_spares}
use Rattle.fr_store.proofs.applying.edits.open_variant.Goals as goal

pub returns-in-None-clause-carried : goal.returns-in-None-clause-carried
returns-in-None-clause-carried g c =
    let v = c.args.variant.now in
    let depth = c.args.depth in
    let old = c.args.tx.now in
    let new = c.insert.new.tx in
    subst (λ parent. Edits g.S.Store (CarriesOut (NewVariant v parent depth)) old new c.done.result) (sym c.in-None.is)
    (edit_done g.S.Store _ (NewVariant v None depth) old new c.insert.result c.done.result c.insert.ensures c.done.ensures
    (λ changed cluster b stands fits. empty_opened v depth (seen g.S.Store old) (seen g.S.Store new) changed cluster b stands fits.0))

pub returns-in_ok-insert-in-Some-clause-carried : goal.returns-in_ok-insert-in-Some-clause-carried
returns-in_ok-insert-in-Some-clause-carried g c =
    let v = c.args.variant.now in
    let depth = c.args.depth in
    let parent = c.in-Some.parent in
    let old = seen g.S.Store c.args.tx.now in
    let mid = seen g.S.Store c.insert-in-Some.new.tx in
    let new = seen g.S.Store c.copy.new.tx in
    let opened : KeepsOn old mid = λ clean inside has. made_inside (with_variant (child_row v parent depth)) old mid inside (c.in_ok-insert-in-Some.ensures.does clean inside has) in
    subst (λ parent. Edits g.S.Store (CarriesOut (NewVariant v parent depth)) c.args.tx.now c.copy.new.tx c.done-in-Some.result) (sym c.in-Some.is)
    (record {
      same_reference = c.copy.ensures.same_reference ∙ c.insert-in-Some.ensures.same_reference;
      does = λ clean inside cluster b stands fits.
          let clean_mid : HasCleanDisk mid = omega (arith, c.copy.ensures.survives.clean, clean) in
          let step : Changes (with_variant (child_row v parent depth)) old mid = c.in_ok-insert-in-Some.ensures.does clean_mid inside stands.has in
          on_done (Copies (grants_for parent v) with_grants mid new) (Stays mid new) (Stands new cluster (applied b (NewVariant v (Some parent) depth))) c.copy.result c.done-in-Some.result c.done-in-Some.ensures
          (c.copy.ensures.does clean (step.shown.mode ∙ inside) step.has) (λ copies. opened_with v parent depth old mid new step copies cluster b stands fits.0 fits.1);
      stays = stays_then old mid new c.done-in-Some.result c.copy.ensures.survives opened
          (done_stays mid new c.copy.result c.done-in-Some.result c.done-in-Some.ensures (copies_stay (grants_for parent v) with_grants mid new c.copy.result c.copy.ensures.does));
      refused = done_refused c.copy.result c.done-in-Some.result c.done-in-Some.ensures;
      survives = survives_both old mid new c.insert-in-Some.ensures.survives c.copy.ensures.survives;
    })

pub returns-in-None-clause-spared : goal.returns-in-None-clause-spared
returns-in-None-clause-spared g c =
    spared_done g.S.Store _ c.args.tx.now c.insert.new.tx c.insert.result c.done.result c.insert.ensures c.done.ensures (λ t. record { frames = refl; placements = refl; signals = refl; dropped = refl })

pub returns-in_ok-insert-in-Some-clause-spared : goal.returns-in_ok-insert-in-Some-clause-spared
returns-in_ok-insert-in-Some-clause-spared g c clean inside has =
    let v = c.args.variant.now in
    let parent = c.in-Some.parent in
    let old = seen g.S.Store c.args.tx.now in
    let mid = seen g.S.Store c.insert-in-Some.new.tx in
    let new = seen g.S.Store c.copy.new.tx in
    let clean_mid : HasCleanDisk mid = omega (arith, c.copy.ensures.survives.clean, clean) in
    let row = child_row v parent c.args.depth in
    let step : Changes (with_variant row) old mid = c.in_ok-insert-in-Some.ensures.does clean_mid inside has in
    on_done (Copies (grants_for parent v) with_grants mid new) (Stays mid new) (HasSameFrames (tables_of old) (tables_of new)) c.copy.result c.done-in-Some.result c.done-in-Some.ensures
    (c.copy.ensures.does clean (step.shown.mode ∙ inside) step.has) (λ copies. opened_spares row copies.copies old mid new step copies.added)
