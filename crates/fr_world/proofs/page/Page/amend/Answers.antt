use Rattle.std.proofs.Common.{◌≡◌, ◌∙◌, Result, Ok, OnOk, subst, ap, refl, sym}
use Rattle.std.specs.Prelude.{⊤}
use Rattle.fr_base.specs.Step.{OwnRows}
use Rattle.fr_base.specs.declared.refusal.Refusal.{Refusal}
use Rattle.fr_base.specs.declared.request.FrameChange.TheVariants.{Add}
use Rattle.fr_world.specs.Amends.{AreChanged}
use Rattle.fr_world.specs.Edits.{edited}
use Rattle.fr_world.specs.PageCells.{ArePlaced}
use Rattle.fr_world.specs.Pages.{IsKept, frames_data, own_rows_of}
use Rattle.fr_world.specs.declared.page.Page.TheInside.{Inside}
use Rattle.fr_world.specs.contracts.page.Page.{the_view}
use Rattle.fr_world.proofs.AmendPages.{kept, released_page, node_page, grant_page, ended_page, change_made, leaves_layout}
use Rattle.fr_world.proofs.AmendLaws.{holds, on_ok, on_err}
use Rattle.fr_world.proofs.page.Page.amend.Goals as goal
use Rattle.fr_world.proofs.page.Page.amend.Goals.{in-Add, in-Drop, in-Place, in-Unplace, in-AddSignal, in-DropSignal}

pub returns-in-SetReleased-clause-page : goal.returns-in-SetReleased-clause-page
returns-in-SetReleased-clause-page c = released_page (the_view c.self.inside) c.args.self.now c.self.view_is c.args.edit.now c.requires.takes c.in-SetReleased.variant c.in-SetReleased.is

pub returns-in-NewNode-clause-page : goal.returns-in-NewNode-clause-page
returns-in-NewNode-clause-page c =
    on_ok c.put_node.result
    (node_page (the_view c.self.inside) c.args.self.now c.self.view_is c.args.edit.now c.requires.takes c.in-NewNode.supplier c.in-NewNode.node c.put_node.new.nodes.keys c.in-NewNode.is)
    c.put_node.ensures.table

pub invariant_of-self-in-NewNode-1 : goal.invariant_of-self-in-NewNode-1
invariant_of-self-in-NewNode-1 c = (
  kept (the_view c.self.inside) c.args.self.now c.self.view_is c.args.edit.now c.requires.takes c.put_node.result
      (record (the_view c.self.inside) { nodes = c.put_node.new.nodes.keys }) c.self.invariant.0 (returns-in-NewNode-clause-page c) (holds c.put_node.result (λ words. words))
      (holds c.put_node.result (λ was. record { nodes = c.put_node.ensures.order; grants = was.grants; frames = was.frames }))
      (on_err c.put_node.result (λ same. ap (λ ns. record (the_view c.self.inside) { nodes = ns }) same.0) c.put_node.ensures.err),
  c.self.invariant.1,
)

pub returns-in-Grant-clause-page : goal.returns-in-Grant-clause-page
returns-in-Grant-clause-page c =
    on_ok c.put_grant.result
    (grant_page (the_view c.self.inside) c.args.self.now c.self.view_is c.args.edit.now c.requires.takes c.in-Rows.rows c.in-Grant.node c.in-Grant.slot c.in-Grant.channel c.put_grant.new.grants.entries
    c.in-Rows.is c.in-Grant.is)
    c.put_grant.ensures.table

pub invariant_of-self-in-Grant : goal.invariant_of-self-in-Grant
invariant_of-self-in-Grant c = (
  kept (the_view c.self.inside) c.args.self.now c.self.view_is c.args.edit.now c.requires.takes c.put_grant.result
      (record (the_view c.self.inside) { grants = c.put_grant.new.grants.entries }) c.self.invariant.0 (returns-in-Grant-clause-page c) (holds c.put_grant.result (λ words. words))
      (holds c.put_grant.result (λ was. record { nodes = was.nodes; grants = c.put_grant.ensures.order; frames = was.frames }))
      (on_err c.put_grant.result (λ same. ap (λ gs. record (the_view c.self.inside) { grants = gs }) same.0) c.put_grant.ensures.err),
  c.self.invariant.1,
)

pub returns-in-Revoke-clause-page : goal.returns-in-Revoke-clause-page
returns-in-Revoke-clause-page c =
    ended_page (the_view c.self.inside) c.args.self.now c.self.view_is c.args.edit.now c.requires.takes c.in-Rows.rows c.in-Revoke.slot c.in-Revoke.channel c.end_grant.new.grants.entries
    c.in-Rows.is c.in-Revoke.is
    c.end_grant.ensures.table

pub invariant_of-self-in-Revoke : goal.invariant_of-self-in-Revoke
invariant_of-self-in-Revoke c = (
  kept (the_view c.self.inside) c.args.self.now c.self.view_is c.args.edit.now c.requires.takes (Ok tt)
      (record (the_view c.self.inside) { grants = c.end_grant.new.grants.entries }) c.self.invariant.0 (returns-in-Revoke-clause-page c) (λ words. words)
      (λ was. record { nodes = was.nodes; grants = c.end_grant.ensures.order; frames = was.frames }) tt,
  c.self.invariant.1,
)

pub add_signal-requires : goal.add_signal-requires
add_signal-requires c = record {
  leaves = leaves_layout (the_view c.self.inside) c.args.self.now c.self.view_is c.args.edit.now c.requires.takes c.in-Rows.is c.in-Frame.is c.in-AddSignal.is c.self.inside.rows.frames.entries refl c.self.invariant.0;
}

-- the page that is to be, its invariant, and the cells of its frames
abbrev IsMade : OwnRows → Result ⊤ Refusal → Inside → Type 0
IsMade aim r x = OnOk r (own_rows_of (the_view x) ≡ aim) × IsKept (the_view x) × ArePlaced x.cells (frames_data x.rows.frames.entries)

so : (aim : OwnRows) (r q : Result ⊤ Refusal) (x y : Inside) → r ≡ q → x ≡ y → IsMade aim q y → IsMade aim r x
so aim r q x y e f h = subst (λ s. IsMade aim s x) (sym e) (subst (IsMade aim q) (sym f) h)

made : (c : goal.Joined-change) → IsMade (edited (own_rows_of c.args.self.now) c.args.edit.now) c.match-change.result c.match-change.self-inside
made c =
    let aim = edited (own_rows_of c.args.self.now) c.args.edit.now in
    let words = (the_view c.self.inside).params.payload_words in
    elim c.match-change.branch [
      | in-Add w ↦ so aim _ _ _ _ w.result-is w.self-inside-is
          (change_made (the_view c.self.inside) c.args.self.now c.self.view_is c.args.edit.now c.requires.takes c.in-Rows.is c.in-Frame.is w.in-Add.is c.self.inside.rows.frames.entries refl
          _ w.add_frame.result w.add_frame.new.frames.entries w.add_frame.new.cells c.self.invariant.0 (on_ok w.add_frame.result (subst (λ n. AreChanged n c.in-Frame.frame (Add w.in-Add.node) c.self.inside.rows.frames.entries w.add_frame.new.frames.entries) c.payload_words-words.ensures.value) w.add_frame.ensures.ok) w.add_frame.ensures.err w.add_frame.ensures.placed)
      | in-Drop w ↦ so aim _ _ _ _ w.result-is w.self-inside-is
          (change_made (the_view c.self.inside) c.args.self.now c.self.view_is c.args.edit.now c.requires.takes c.in-Rows.is c.in-Frame.is w.in-Drop.is c.self.inside.rows.frames.entries refl
          ⊤ (Ok tt) w.drop_frame.new.frames.entries w.drop_frame.new.cells c.self.invariant.0 (w.drop_frame.ensures.changed words) tt w.drop_frame.ensures.placed)
      | in-Place w ↦ so aim _ _ _ _ w.result-is w.self-inside-is
          (change_made (the_view c.self.inside) c.args.self.now c.self.view_is c.args.edit.now c.requires.takes c.in-Rows.is c.in-Frame.is w.in-Place.is c.self.inside.rows.frames.entries refl
          _ w.place.result w.place.new.frames.entries w.place.new.cells c.self.invariant.0 (on_ok w.place.result (λ changed. changed words) w.place.ensures.ok) w.place.ensures.err w.place.ensures.placed)
      | in-Unplace w ↦ so aim _ _ _ _ w.result-is w.self-inside-is
          (change_made (the_view c.self.inside) c.args.self.now c.self.view_is c.args.edit.now c.requires.takes c.in-Rows.is c.in-Frame.is w.in-Unplace.is c.self.inside.rows.frames.entries refl
          ⊤ (Ok tt) w.unplace.new.frames.entries w.unplace.new.cells c.self.invariant.0 (w.unplace.ensures.changed words) tt w.unplace.ensures.placed)
      | in-AddSignal w ↦ so aim _ _ _ _ w.result-is w.self-inside-is
          (change_made (the_view c.self.inside) c.args.self.now c.self.view_is c.args.edit.now c.requires.takes c.in-Rows.is c.in-Frame.is w.in-AddSignal.is c.self.inside.rows.frames.entries refl
          _ w.add_signal.result w.add_signal.new.frames.entries c.self.inside.cells c.self.invariant.0 (on_ok w.add_signal.result (λ changed. changed words) w.add_signal.ensures.ok) w.add_signal.ensures.err (w.add_signal.ensures.placed _ c.self.invariant.1))
      | in-DropSignal w ↦ so aim _ _ _ _ w.result-is w.self-inside-is
          (change_made (the_view c.self.inside) c.args.self.now c.self.view_is c.args.edit.now c.requires.takes c.in-Rows.is c.in-Frame.is w.in-DropSignal.is c.self.inside.rows.frames.entries refl
          ⊤ (Ok tt) w.drop_signal.new.frames.entries c.self.inside.cells c.self.invariant.0 (w.drop_signal.ensures.changed words) tt (w.drop_signal.ensures.placed _ c.self.invariant.1))
    ]

pub returns-after-change-clause-page : goal.returns-after-change-clause-page
returns-after-change-clause-page c = (made c).0

pub invariant_of-self-in-Frame : goal.invariant_of-self-in-Frame
invariant_of-self-in-Frame c = let m = made c in (m.1, m.2)
