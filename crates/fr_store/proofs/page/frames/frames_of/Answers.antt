use Rattle.std.proofs.Common.{rules, arith, ◌≡◌, refl, sym, subst, take}
use Rattle.std.proofs.lemmas.List.{take_all}
use Rattle.fr_tables.specs.Changes.{AreListed}
use Rattle.fr_tables.specs.Statements.{is_frame_of, shows_frame, frames_cmp}
use Rattle.fr_store.specs.Paging.{node_shown}
use Rattle.fr_store.specs.Reading.{name_shown}
use Rattle.fr_store.proofs.OwnFrameLemmas.{AreLoaded, none_yet, one_more, frames_told}
use Rattle.fr_store.proofs.page.frames.frames_of.Goals as goal

pub loop-row-init : goal.loop-row-init
loop-row-init c v s t are = none_yet c.args.params.now t v s _ c.new-frames.result.entries refl c.new-frames.ensures.empty

pub loop-row-preserved : goal.loop-row-preserved
loop-row-preserved c v s t are =
    let rows = c.as_slice-row-items.result.now in
    let listed = subst (AreListed shows_frame (is_frame_of v s) frames_cmp t.frames) (sym c.as_slice-row-items.ensures.value) are.frames in
    let name : c.in_ok-name.name ≡ name_shown c.row-item.result = search rules in
    let node : c.in_ok-name.node ≡ node_shown c.row-item.result = search rules in
    one_more c.args.params.now t v s rows listed c.loop-row.row-index c.row-item.result c.in_ok-name.name c.in_ok-name.node c.in_ok-frame.frame
    c.loop-row.frames.entries c.insert.new.self.entries (search rules) (search rules) name node (c.in_ok-frame.ensures v s t are)
    c.insert.ensures.was_ordered (search rules) (c.loop-row.invariant v s t are)

pub returns : goal.returns
returns c v s t are =
    let rows = c.as_slice-row-items.result.now in
    let listed = subst (AreListed shows_frame (is_frame_of v s) frames_cmp t.frames) (sym c.as_slice-row-items.ensures.value) are.frames in
    let whole : take c.loop-row.row-index rows ≡ rows = take_all c.loop-row.row-index rows (omega arith) in
    frames_told c.args.params.now t v s rows listed c.loop-row.frames.entries (subst (λ rs. AreLoaded c.args.params.now t v s rs c.loop-row.frames.entries) whole (c.loop-row.invariant v s t are))
