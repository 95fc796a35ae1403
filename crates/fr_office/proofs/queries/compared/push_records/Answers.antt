use Rattle.std.proofs.Common.{◌≡◌, ◌∙◌, ◌++◌, ◌∷◌, ap, rules}
use Rattle.fr_base.specs.declared.name.Name.{Name}
use Rattle.fr_world.specs.declared.page.PageFrame.{PageFrame}
use Rattle.fr_office.proofs.PageRows.{entry, frames_shown, shown-page}
use Rattle.fr_office.proofs.ShownLaws.{shown-all, shown-more}
use Rattle.fr_office.proofs.queries.compared.push_records.Goals as goal

pub loop-name-init : goal.loop-name-init
loop-name-init g c =
    let records = g.T.FileRecord.records in
    ap (λ more. c.args.rows.now ++ more)
    ((λ i. frames_shown records (c.supplier-supplier.ensures i) ((c.into_iter-name-iterator.ensures.into_iter_gives ∙ c.iter-name-items.ensures.rest) i))
    ∙ shown-page c.args.page.now c.frames.result.now.entries c.frames.ensures.value c.iter-name-items.ensures.ordered records)

pub loop-name-preserved : goal.loop-name-preserved
loop-name-preserved g c =
    let s = c.supplier-supplier.result in
    let e : Name × PageFrame = (c.in-Some.name.now, c.in-Some.frame.now) in
    let stepped : c.loop-name.name-iterator ≡ e ∷ c.next.new.self = search rules in
    shown-more (λ e. g.T.FileRecord.records (entry s e)) e c.loop-name.name-iterator c.next.new.self c.loop-name.rows c.push.new.rows _ stepped c.in_ok-push.ensures.ok c.loop-name.invariant

pub returns : goal.returns
returns g c = shown-all (λ e. g.T.FileRecord.records (entry c.supplier-supplier.result e)) c.loop-name.name-iterator c.loop-name.rows _ c.in-None.ensures.steps.0 c.loop-name.invariant
