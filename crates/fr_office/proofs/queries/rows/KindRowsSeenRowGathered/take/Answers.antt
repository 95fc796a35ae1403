use Rattle.std.proofs.Common.{◌∙◌, ◌++◌, ap, map}
use Rattle.std.proofs.lemmas.Result.{on_ok_weaker}
use Rattle.fr_base.specs.declared.answer.SeenRow.{SeenRow}
use Rattle.fr_office.specs.Compared.{frame_told, gap_told, kinds_told, placement_told, signal_told}
use Rattle.fr_office.specs.Kinds.{ByKind, with_more}
use Rattle.fr_office.proofs.RowReplies.{takes-kinds}
use Rattle.fr_office.proofs.queries.rows.KindRowsSeenRowGathered.take.Goals as goal

pub returns : goal.returns
returns c =
    let inside = c.self.inside in
    let now : ByKind SeenRow = record { frames = c.push_seen.new.rows.items; placements = c.push_seen-2.new.rows.items; signals = c.push_seen-3.new.rows.items; gaps = c.push_seen-4.new.rows.items } in
    on_ok_weaker c.push_seen-4.result
    (λ last.
    takes-kinds c.args.page.now c.args.self.now now
    ((λ i. record {
      frames = (c.in_ok-push_seen.ensures ∙ ap (λ rows. inside.frames.items ++ map frame_told rows) c.as_slice.ensures) i;
      placements = (c.in_ok-push_seen-2.ensures ∙ ap (λ rows. inside.placements.items ++ map placement_told rows) c.as_slice-2.ensures) i;
      signals = (c.in_ok-push_seen-3.ensures ∙ ap (λ rows. inside.signals.items ++ map signal_told rows) c.as_slice-3.ensures) i;
      gaps = (last ∙ ap (λ rows. inside.gaps.items ++ map gap_told rows) c.as_slice-4.ensures) i;
    })
    ∙ (λ i. with_more (c.self.view_is i) (kinds_told (c.in_ok-rows.ensures i)))))
    c.push_seen-4.ensures
