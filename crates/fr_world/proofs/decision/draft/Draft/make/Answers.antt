use Rattle.std.proofs.Common.{◌≡◌, ◌∙◌, ◌++◌, ◌∷◌, [], Ok, subst, sym}
use Rattle.fr_base.specs.Parameters.{check_params}
use Rattle.fr_base.specs.Changes.{in_rows}
use Rattle.fr_base.specs.declared.name.Name.{Name}
use Rattle.fr_base.specs.declared.request.Change.TheVariants as change
use Rattle.fr_world.specs.Edits.{Takes, edited}
use Rattle.fr_world.specs.Pages.{own_rows_of}
use Rattle.fr_world.specs.declared.edit.Edit.TheVariants.{Rows}
use Rattle.fr_world.proofs.RowsLead.{change-takes}
use Rattle.fr_world.proofs.decision.draft.Draft.make.Goals as goal

pub amend-requires : goal.amend-requires
amend-requires c =
    let page = c.args.self.now.page in
    let what = change.Frame c.args.frame c.args.change in
    record {
      takes = subst (λ (n : Name × Name). Takes page.variant (own_rows_of page) (Rows (in_rows n.0 n.1 what))) (λ i. (sym c.supplier.ensures i, sym c.variant.ensures i))
          (change-takes page (subst (λ p. check_params p ≡ Ok p) c.params.ensures c.raw-raw.ensures.checked) c.frames-frames.ensures.kept what c.requires.checked c.requires.admitted);
    }

pub returns-clause-ok : goal.returns-clause-ok
unfolding edited
returns-clause-ok c =
    let old = c.args.self.now in
    λ i. record {
      variant = c.in_ok-amend.ensures.rest.1 i;
      released = c.in_ok-amend.ensures.rest.2 i;
      page = c.in_ok-amend.ensures.page i;
      edits = (c.in_ok-push.ensures.items ∙ λ j. old.edits.items ++ Rows (in_rows (c.supplier.ensures j) (c.variant.ensures j) (change.Frame c.args.frame c.args.change)) ∷ []) i;
    }
