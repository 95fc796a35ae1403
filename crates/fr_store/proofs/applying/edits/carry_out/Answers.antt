use Rattle.std.proofs.Common.{◌≡◌, ◌∙◌, Result, ap, refl, sym, subst, true≢false}
use Rattle.std.specs.Prelude.{⊤}
use Rattle.sqlite.specs.declared.transaction.Transaction.{Transaction}
use Rattle.sqlite_trees.specs.declared.store.Store.{Ghosts}
use Rattle.fr_base.specs.Tables.{get}
use Rattle.fr_base.specs.Changes.{in_rows}
use Rattle.fr_base.specs.declared.request.Change.TheVariants.{Frame, Grant, Revoke}
use Rattle.fr_base.specs.declared.request.FrameChange.TheVariants.{Add, AddSignal, Drop, DropSignal, Place, Unplace}
use Rattle.fr_world.specs.declared.edit.Edit.{Edit}
use Rattle.fr_world.specs.declared.edit.Edit.TheVariants.{KeepImport, NewNode, Rows, SetReleased}
use Rattle.fr_tables.specs.Changes.{Changes}
use Rattle.fr_tables.specs.Statements.{row_of_frame, with_frame}
use Rattle.fr_store.specs.Applying.{CarriesOut, Edits}
use Rattle.fr_store.specs.Sparing.{changes_frame}
use Rattle.fr_store.specs.declared.fault.StoreFault.{StoreFault}
use Rattle.fr_store.proofs.ApplyLemmas.{node_applied}
use Rattle.fr_store.proofs.CallLemmas.{edit_done, edit_of_frame, edit_stays, seen}
use Rattle.fr_store.proofs.ImportEdits.{import_kept}
use Rattle.fr_store.proofs.EditLemmas.{fits_at}
use Rattle.fr_store.proofs.FrameEditLemmas.{added}
use Rattle.fr_store.proofs.VariantEdits.{granted, released, revoked}
use Rattle.fr_store.proofs.applying.edits.carry_out.Goals as goal
use Rattle.fr_store.proofs.applying.edits.carry_out.Goals.{in-Grant, in-Revoke, in-Frame+in-Add, in-Frame+in-Drop, in-Frame+in-Place, in-Frame+in-Unplace, in-Frame+in-AddSignal, in-Frame+in-DropSignal}

-- what is said of one edit, of what a call left, and of its answer, holds of what equals them
so : {S : Type 0} (g : Ghosts S) (old : Transaction S) (edit e : Edit) (new tx : Transaction S) (ran r : Result ⊤ StoreFault) → e ≡ edit → tx ≡ new → r ≡ ran
    → Edits g (CarriesOut edit) old new ran → Edits g (CarriesOut e) old tx r
so g old edit e new tx ran r edit_is tx_is ran_is h =
    subst (λ e. Edits g (CarriesOut e) old tx r) (sym edit_is)
    (subst (λ t. Edits g (CarriesOut edit) old t r) (sym tx_is) (subst (λ (r : Result ⊤ StoreFault). Edits g (CarriesOut edit) old new r) (sym ran_is) h))

pub returns-in-NewVariant-clause-carried : goal.returns-in-NewVariant-clause-carried
returns-in-NewVariant-clause-carried g c =
    let old = c.args.tx.now in
    let new = c.open_variant.new.tx in
    edit_stays g.S.Store c.args.edit.now old new c.open_variant.result c.stays.result c.stays.ensures
    (so g.S.Store old _ c.args.edit.now new new c.open_variant.result c.open_variant.result c.in-NewVariant.is refl refl c.open_variant.ensures.carried)

pub returns-in-NewFlat-clause-carried : goal.returns-in-NewFlat-clause-carried
returns-in-NewFlat-clause-carried g c =
    let old = c.args.tx.now in
    let new = c.open_flat.new.tx in
    edit_stays g.S.Store c.args.edit.now old new c.open_flat.result c.stays-in-NewFlat.result c.stays-in-NewFlat.ensures
    (so g.S.Store old _ c.args.edit.now new new c.open_flat.result c.open_flat.result c.in-NewFlat.is refl refl c.open_flat.ensures)

pub returns-in-NewFlat-clause-spared : goal.returns-in-NewFlat-clause-spared
returns-in-NewFlat-clause-spared g c none = absurd (true≢false (sym (ap changes_frame c.in-NewFlat.is) ∙ none))

pub returns-in-SetReleased-clause-carried : goal.returns-in-SetReleased-clause-carried
returns-in-SetReleased-clause-carried g c =
    let v = c.in-SetReleased.variant in
    let old = c.args.tx.now in
    let new = c.release.new.tx in
    edit_stays g.S.Store c.args.edit.now old new c.done.result c.stays-in-SetReleased.result c.stays-in-SetReleased.ensures
    (so g.S.Store old (SetReleased v) c.args.edit.now new new c.done.result c.done.result c.in-SetReleased.is refl refl
    (edit_done g.S.Store _ (SetReleased v) old new c.release.result c.done.result c.release.ensures c.done.ensures
    (λ changed cluster b stands fits. released v (seen g.S.Store old) (seen g.S.Store new) changed cluster b stands fits.0 fits.1.there)))

pub returns-in-NewNode-clause-carried : goal.returns-in-NewNode-clause-carried
returns-in-NewNode-clause-carried g c =
    let s = c.in-NewNode.supplier in
    let n = c.in-NewNode.node in
    let old = c.args.tx.now in
    let new = c.insert.new.tx in
    edit_stays g.S.Store c.args.edit.now old new c.done-in-NewNode.result c.stays-in-NewNode.result c.stays-in-NewNode.ensures
    (so g.S.Store old (NewNode s n) c.args.edit.now new new c.done-in-NewNode.result c.done-in-NewNode.result c.in-NewNode.is refl refl
    (edit_done g.S.Store _ (NewNode s n) old new c.insert.result c.done-in-NewNode.result c.insert.ensures c.done-in-NewNode.ensures
    (λ changed cluster b stands fits. node_applied s n (seen g.S.Store old) (seen g.S.Store new) changed cluster b stands fits.1)))

pub returns-in-KeepImport-clause-carried : goal.returns-in-KeepImport-clause-carried
returns-in-KeepImport-clause-carried g c =
    let kept = c.in-KeepImport in
    let old = c.args.tx.now in
    let new = c.insert-in-KeepImport.new.tx in
    edit_stays g.S.Store c.args.edit.now old new c.done-in-KeepImport.result c.stays-in-KeepImport.result c.stays-in-KeepImport.ensures
    (so g.S.Store old (KeepImport kept.supplier kept.label kept.variant kept.body kept.rows) c.args.edit.now new new c.done-in-KeepImport.result c.done-in-KeepImport.result kept.is refl refl
    (edit_done g.S.Store _ (KeepImport kept.supplier kept.label kept.variant kept.body kept.rows) old new c.insert-in-KeepImport.result c.done-in-KeepImport.result c.insert-in-KeepImport.ensures c.done-in-KeepImport.ensures
    (λ changed cluster b stands fits. import_kept kept.supplier kept.label kept.variant kept.body kept.rows (seen g.S.Store old) (seen g.S.Store new) changed cluster b stands fits.2)))

pub returns-after-rows-clause-carried : goal.returns-after-rows-clause-carried
returns-after-rows-clause-carried g c =
    let s = c.in-Rows.rows.supplier in
    let v = c.in-Rows.rows.variant in
    let old = c.args.tx.now in
    let edit = c.args.edit.now in
    let tx = c.match-rows.tx in
    let ran = c.match-rows.stays in
    edit_stays g.S.Store edit old tx ran c.stays-in-Rows.result c.stays-in-Rows.ensures
    (elim c.match-rows.branch [
      | in-Grant w ↦
          let new = w.insert-in-Grant.new.tx in
          so g.S.Store old (Rows (in_rows s v (Grant w.in-Grant.slot w.in-Grant.channel w.in-Grant.node))) edit new tx w.done-in-Grant.result ran
          (c.in-Rows.is ∙ ap (λ what. Rows (in_rows s v what)) w.in-Grant.is) w.tx-is w.stays-is
          (edit_done g.S.Store _ (Rows (in_rows s v (Grant w.in-Grant.slot w.in-Grant.channel w.in-Grant.node))) old new w.insert-in-Grant.result w.done-in-Grant.result w.insert-in-Grant.ensures w.done-in-Grant.ensures
          (λ changed cluster b stands fits. granted s v w.in-Grant.node w.in-Grant.slot w.in-Grant.channel (seen g.S.Store old) (seen g.S.Store new) changed cluster b stands fits.0 fits.1.there fits.2.1))
      | in-Revoke w ↦
          let new = w.delete.new.tx in
          so g.S.Store old (Rows (in_rows s v (Revoke w.in-Revoke.slot w.in-Revoke.channel))) edit new tx w.done-in-Revoke.result ran
          (c.in-Rows.is ∙ ap (λ what. Rows (in_rows s v what)) w.in-Revoke.is) w.tx-is w.stays-is
          (edit_done g.S.Store _ (Rows (in_rows s v (Revoke w.in-Revoke.slot w.in-Revoke.channel))) old new w.delete.result w.done-in-Revoke.result w.delete.ensures w.done-in-Revoke.ensures
          (λ changed cluster b stands fits. revoked s v w.in-Revoke.slot w.in-Revoke.channel (seen g.S.Store old) (seen g.S.Store new) changed cluster b stands fits.0 fits.1.there))
      | in-Frame+in-Add w ↦
          let f = w.in-Frame.frame in
          let n = w.in-Add.node in
          let new = w.insert-in-Add.new.tx in
          so g.S.Store old (Rows (in_rows s v (Frame f (Add n)))) edit new tx w.done-in-Add.result ran
          (c.in-Rows.is ∙ ap (λ what. Rows (in_rows s v what)) (w.in-Frame.is ∙ ap (Frame f) w.in-Add.is)) w.tx-is w.stays-is
          (edit_done g.S.Store _ (Rows (in_rows s v (Frame f (Add n)))) old new w.insert-in-Add.result w.done-in-Add.result w.insert-in-Add.ensures w.done-in-Add.ensures
          (λ changed cluster b stands fits. added v s f (seen g.S.Store old) (seen g.S.Store new) cluster b fits.0 stands fits.1 n (fits_at b.nodes s (get fits.0.frames (s, f)) (Add n) fits.2)
          (subst (λ key. Changes (with_frame (row_of_frame key n)) (seen g.S.Store old) (seen g.S.Store new)) w.new-key.ensures changed)))
      | in-Frame+in-Drop w ↦
          let f = w.in-Frame.frame in
          so g.S.Store old (Rows (in_rows s v (Frame f Drop))) edit w.drop_frame.new.tx tx w.drop_frame.result ran
          (c.in-Rows.is ∙ ap (λ what. Rows (in_rows s v what)) (w.in-Frame.is ∙ ap (Frame f) w.in-Drop.is)) w.tx-is w.stays-is
          (edit_of_frame g.S.Store v s f w.new-key.result w.new-key.ensures Drop old w.drop_frame.new.tx w.drop_frame.result w.drop_frame.ensures)
      | in-Frame+in-Place w ↦
          let f = w.in-Frame.frame in
          so g.S.Store old (Rows (in_rows s v (Frame f (Place w.in-Place.placement)))) edit w.place.new.tx tx w.place.result ran
          (c.in-Rows.is ∙ ap (λ what. Rows (in_rows s v what)) (w.in-Frame.is ∙ ap (Frame f) w.in-Place.is)) w.tx-is w.stays-is
          (edit_of_frame g.S.Store v s f w.new-key.result w.new-key.ensures (Place w.in-Place.placement) old w.place.new.tx w.place.result w.place.ensures)
      | in-Frame+in-Unplace w ↦
          let f = w.in-Frame.frame in
          so g.S.Store old (Rows (in_rows s v (Frame f (Unplace w.in-Unplace.placement)))) edit w.unplace.new.tx tx w.unplace.result ran
          (c.in-Rows.is ∙ ap (λ what. Rows (in_rows s v what)) (w.in-Frame.is ∙ ap (Frame f) w.in-Unplace.is)) w.tx-is w.stays-is
          (edit_of_frame g.S.Store v s f w.new-key.result w.new-key.ensures (Unplace w.in-Unplace.placement) old w.unplace.new.tx w.unplace.result w.unplace.ensures)
      | in-Frame+in-AddSignal w ↦
          let f = w.in-Frame.frame in
          so g.S.Store old (Rows (in_rows s v (Frame f (AddSignal w.in-AddSignal.signal)))) edit w.add_signal.new.tx tx w.add_signal.result ran
          (c.in-Rows.is ∙ ap (λ what. Rows (in_rows s v what)) (w.in-Frame.is ∙ ap (Frame f) w.in-AddSignal.is)) w.tx-is w.stays-is
          (edit_of_frame g.S.Store v s f w.new-key.result w.new-key.ensures (AddSignal w.in-AddSignal.signal) old w.add_signal.new.tx w.add_signal.result w.add_signal.ensures)
      | in-Frame+in-DropSignal w ↦
          let f = w.in-Frame.frame in
          so g.S.Store old (Rows (in_rows s v (Frame f (DropSignal w.in-DropSignal.signal)))) edit w.drop_signal.new.tx tx w.drop_signal.result ran
          (c.in-Rows.is ∙ ap (λ what. Rows (in_rows s v what)) (w.in-Frame.is ∙ ap (Frame f) w.in-DropSignal.is)) w.tx-is w.stays-is
          (edit_of_frame g.S.Store v s f w.new-key.result w.new-key.ensures (DropSignal w.in-DropSignal.signal) old w.drop_signal.new.tx w.drop_signal.result w.drop_signal.ensures)
    ])
