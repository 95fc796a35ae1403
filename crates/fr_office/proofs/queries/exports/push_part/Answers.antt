use Rattle.std.proofs.Common.{◌≡◌, ◌∙◌, ◌++◌, ◌∷◌, map, ap, sym, rules}
use Rattle.fr_world.specs.Parts.{in_part}
use Rattle.fr_world.specs.declared.page.PageFrame.{PageFrame}
use Rattle.fr_base.specs.declared.name.Name.{Name}
use Rattle.fr_office.proofs.ExportLaws.{each_frame, pushed-passed, pushed-taken}
use Rattle.fr_office.proofs.PageRows.{rows-page}
use Rattle.fr_office.proofs.queries.exports.push_part.Goals as goal

pub loop-name-init : goal.loop-name-init
loop-name-init g c = λ rest.
    let records = g.T.FileRecord.records in
    ap (λ frames. c.args.rows.now ++ in_part c.args.part.now (frames ++ rest))
    ((λ i. each_frame records (c.supplier-supplier.ensures i) ((c.into_iter-name-iterator.ensures.into_iter_gives ∙ c.iter-name-items.ensures.rest) i))
    ∙ ap (map records) (sym (rows-page c.args.page.now c.frames.result.now.entries c.frames.ensures.value c.iter-name-items.ensures.ordered)))

pub loop-name-preserved-in-Continue-1 : goal.loop-name-preserved-in-Continue-1
loop-name-preserved-in-Continue-1 g c =
    let s = c.supplier-supplier.result in
    let e : Name × PageFrame = (c.in-Some.name.now, c.in-Some.frame.now) in
    let stepped : c.loop-name.name-iterator ≡ e ∷ c.next.new.self = search rules in
    pushed-taken g.T.FileRecord.records s e c.loop-name.name-iterator c.next.new.self c.count.result c.loop-name.rows c.loop-name.part c.takes.new.self c.args.rows.now c.args.part.now _
    stepped c.takes.ensures.part (c.count.ensures (s, e.0)) c.loop-name.invariant
    c.push.new.rows (sym c.takes.ensures.taken ∙ c.if-takes.true) c.in_ok-push.ensures.ok

pub loop-name-preserved : goal.loop-name-preserved
loop-name-preserved g c =
    let s = c.supplier-supplier.result in
    let e : Name × PageFrame = (c.in-Some.name.now, c.in-Some.frame.now) in
    let stepped : c.loop-name.name-iterator ≡ e ∷ c.next.new.self = search rules in
    pushed-passed g.T.FileRecord.records s e c.loop-name.name-iterator c.next.new.self c.count.result c.loop-name.rows c.loop-name.part c.takes.new.self c.args.rows.now c.args.part.now _
    stepped c.takes.ensures.part (c.count.ensures (s, e.0)) c.loop-name.invariant
    (sym c.takes.ensures.taken ∙ c.if-takes.false)
