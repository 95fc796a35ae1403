use Rattle.std.proofs.Common.{◌≡◌, ◌∙◌, ap, subst, sym}
use Rattle.std.specs.Prelude.{IfSome}
use Rattle.fr_base.specs.Step.{OwnRows}
use Rattle.fr_world.specs.BookEdits.{all_applied}
use Rattle.fr_world.specs.Pages.{PageData, own_rows_of}
use Rattle.fr_world.specs.Held.{IsFresh}
use Rattle.fr_office.specs.Decided.{LeadsTo, TakesAll}
use Rattle.fr_office.specs.KeptPages.{AreFresh, AreOf, KeptData, none_lent, untouched_by}
use Rattle.fr_office.proofs.FreshLaws.{all_edited_params, led-fresh}
use Rattle.fr_office.proofs.RowsLaws.{some_has, some_of}
use Rattle.fr_office.proofs.kept.Kept.follow_to.Goals as goal

pub follow-requires : goal.follow-requires
follow-requires c = record {
  takes = subst (λ (k : KeptData). IfSome k.lent (λ page. TakesAll page c.args.edits.now)) (sym c.lend_read.ensures) tt;
}

pub returns-clause-others : goal.returns-clause-others
returns-clause-others c =
    ap none_lent c.lend_read-2.ensures ∙ c.follow.ensures.others ∙ ap (λ (k : KeptData). untouched_by c.args.edits.now (none_lent k)) c.lend_read.ensures

pub returns-clause-params : goal.returns-clause-params
returns-clause-params c = λ p of.
    let lent = c.args.self.now.pages.lent in
    let before = some_of lent c.requires.lent in
    let led = some_has (λ page. LeadsTo page c.args.edits.now c.args.page) lent before.0 before.1 c.requires.leads in
    let now = c.follow.ensures.params p (subst (AreOf p) (sym c.lend_read.ensures) (tt, of.1, of.2)) in
    let same = ap (λ (r : OwnRows). r.params) led.rows ∙ all_edited_params (own_rows_of before.0) c.args.edits.now ∙ some_has (λ (page : PageData). page.params ≡ p) lent before.0 before.1 of.0 in
    subst (AreOf p) (sym c.lend_read-2.ensures) (same, now.1, now.2)

pub returns-clause-fresh : goal.returns-clause-fresh
returns-clause-fresh c = λ cluster b fits fresh.
    let lent = c.args.self.now.pages.lent in
    let before = some_of lent c.requires.lent in
    let led = some_has (λ page. LeadsTo page c.args.edits.now c.args.page) lent before.0 before.1 c.requires.leads in
    let now = c.follow.ensures.fresh cluster b fits (subst (AreFresh cluster.params b) (sym c.lend_read.ensures) (tt, fresh.1, fresh.2)) in
    let was = some_has (IsFresh cluster.params b) lent before.0 before.1 fresh.0 in
    subst (AreFresh cluster.params (all_applied b c.args.edits.now)) (sym c.lend_read-2.ensures)
    (led-fresh cluster b before.0 c.args.page c.args.edits.now was c.frames-frames.ensures.kept led, now.1, now.2)
