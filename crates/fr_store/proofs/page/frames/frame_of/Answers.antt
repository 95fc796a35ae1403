use Rattle.std.proofs.Common.{◌≡◌, sym, ◌∙◌, map, reverse, subst}
use Rattle.fr_base.specs.Keys.{placement_order}
use Rattle.fr_world.specs.Maps.{set_of}
use Rattle.fr_store.specs.Paging.{placement_shown}
use Rattle.fr_store.proofs.DealtLemmas.{placements_dealt, signals_dealt}
use Rattle.fr_store.proofs.FramePartLemmas.{placements_told}
use Rattle.fr_store.proofs.SignalPartLemmas.{is_frame, layout_told}
use Rattle.fr_store.proofs.page.frames.frame_of.Goals as goal

pub returns : goal.returns
returns c v s t are b stands x frame there own node =
    let f = c.args.frame.now in
    let count = c.args.params.now.cycles in
    let its_placements =
    placements_dealt v s f _ c.as_slice.result.now c.rows_of-placements.result.now c.as_slice.ensures.value c.rows_of-placements.ensures t.placements are.placements in
    let its_signals =
    signals_dealt v s f _ c.as_slice-2.result.now c.rows_of-signals.result.now c.as_slice-2.ensures.value c.rows_of-signals.ensures t.signals are.signals in
    let placed =
    placements_told v s f t count b stands x frame there own ((stands.each v x there).fine (s, f) frame (is_frame v s f t count b stands x frame there own)) c.rows_of-placements.result.now c.in_ok-placements_of.field-0.keys its_placements
    (subst (λ n. set_of placement_order (λ q. q) c.in_ok-placements_of.field-0.keys ≡ set_of placement_order (λ q. q) (map (placement_shown n) (reverse c.rows_of-placements.result.now))) c.cycles.ensures.value
    c.in_ok-placements_of.ensures) in
    let laid =
    layout_told v s f t count b stands x frame there own c.args.params.now c.rows_of-signals.result.now c.in_ok-layout_of.field-0 its_signals
    (c.in_ok-layout_of.ensures.words ∙ c.payload_words.ensures.value) c.in_ok-layout_of.ensures.signals c.in_ok-layout_of.ensures.sound in
    ((λ i. record { node = sym node i; placements = placed i; signals = (laid i).signals }), laid)
