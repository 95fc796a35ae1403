use Rattle.std.proofs.Common.{◌≡◌, ◌∙◌, ◌++◌, All, [], ◌∷◌, sym, ap, subst, rules}
use Rattle.std.proofs.lemmas.List.Elements.{All-head, All-tail}
use Rattle.fr_base.specs.Queries.{gap_row, placements_in}
use Rattle.fr_base.specs.Sound.{FitsCluster}
use Rattle.fr_base.specs.declared.name.Name.{Name}
use Rattle.fr_world.specs.Pages.{IsPageFrame, PageData, frame_data, frame_of, own_rows_of}
use Rattle.fr_world.specs.declared.page.PageFrame.{PageFrame}
use Rattle.fr_office.proofs.PageRows.{frames_shown, gaps-page, kept-frames, entry}
use Rattle.fr_office.proofs.ShownLaws.{shown-all, shown-more}
use Rattle.fr_office.proofs.queries.gaps.push_gaps.Goals as goal

-- an entry's frame is the page's
abbrev Fit : PageData → Name × PageFrame → Type 0
Fit page e = IsPageFrame (own_rows_of page) (frame_of (frame_data e.1))

pub loop-name-init : goal.loop-name-init
loop-name-init c =
    let page = c.args.page.now in
    let all = c.into_iter-name-iterator.ensures.into_iter_gives ∙ c.iter-name-items.ensures.rest in
    let entries = c.frames.result.now.entries in
    record {
      shown = ap (λ more. c.args.rows.now ++ more)
          ((λ i. frames_shown (λ e. gap_row (c.params-params.ensures i) e ∷ []) (c.supplier-supplier.ensures i) (all i))
          ∙ gaps-page page entries c.frames.ensures.value c.iter-name-items.ensures.ordered page.params);
      fitting = subst (All (Fit page)) (sym all) (kept-frames page entries c.frames.ensures.value c.iter-name-items.ensures.ordered c.frames.ensures.kept);
    }

pub gap_row-requires-clause-few : goal.gap_row-requires-clause-few
gap_row-requires-clause-few c =
    let P : Name × PageFrame → Type 0 = Fit c.args.page.now in
    let e : Name × PageFrame = (c.in-Some.name.now, c.in-Some.frame.now) in
    let stepped : c.loop-name.name-iterator ≡ e ∷ c.next.new.self = search rules in
    (All-head P e c.next.new.self (subst (All P) stepped c.loop-name.invariant.fitting)).few

pub gap_row-requires-clause-fits : goal.gap_row-requires-clause-fits
gap_row-requires-clause-fits c =
    let P : Name × PageFrame → Type 0 = Fit c.args.page.now in
    let e : Name × PageFrame = (c.in-Some.name.now, c.in-Some.frame.now) in
    let stepped : c.loop-name.name-iterator ≡ e ∷ c.next.new.self = search rules in
    subst (λ p. All (FitsCluster p) (placements_in (frame_of (frame_data c.in-Some.frame.now)))) (sym c.params-params.ensures)
    (All-head P e c.next.new.self (subst (All P) stepped c.loop-name.invariant.fitting)).fits

pub loop-name-preserved : goal.loop-name-preserved
loop-name-preserved c =
    let P : Name × PageFrame → Type 0 = Fit c.args.page.now in
    let e : Name × PageFrame = (c.in-Some.name.now, c.in-Some.frame.now) in
    let left = c.next.new.self in
    let stepped : c.loop-name.name-iterator ≡ e ∷ left = search rules in
    record {
      shown = shown-more (λ e. gap_row c.params-params.result (entry c.supplier-supplier.result e) ∷ []) e c.loop-name.name-iterator left c.loop-name.rows c.push.new.self _ stepped
          (c.in_ok-push.ensures.ok ∙ ap (λ row. c.loop-name.rows ++ row ∷ []) c.gap_row.ensures)
          c.loop-name.invariant.shown;
      fitting = All-tail P e left (subst (All P) stepped c.loop-name.invariant.fitting);
    }

pub returns : goal.returns
returns c = shown-all (λ e. gap_row c.params-params.result (entry c.supplier-supplier.result e) ∷ []) c.loop-name.name-iterator c.loop-name.rows _ c.in-None.ensures.steps.0 c.loop-name.invariant.shown
