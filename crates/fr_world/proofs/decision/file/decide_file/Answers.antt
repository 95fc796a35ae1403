use Rattle.std.proofs.Common.{◌≡◌, List, IfOk, rules, subst, sym}
use Rattle.std.specs.Prelude.{All}
use Rattle.fr_base.specs.declared.import.RowRead.{RowRead}
use Rattle.fr_world.specs.Pages.{PageData}
use Rattle.fr_world.specs.RowDecisions.{AreChecked, IsCheckedRow}
use Rattle.fr_world.proofs.FileLaws.{readable-all}
use Rattle.fr_world.proofs.decision.file.decide_file.Goals as goal

pub decide_rows-requires-clause-checked : goal.decide_rows-requires-clause-checked
decide_rows-requires-clause-checked c =
    let same : c.in_ok-copy-in-Import.field-0 ≡ c.args.page.now = search rules in
    subst (λ (page : PageData). AreChecked page.params c.readable.result.now) (sym same)
    (subst (AreChecked c.args.page.now.params) (sym c.readable.ensures) (readable-all (λ read. IfOk read.row (IsCheckedRow c.args.page.now.params)) c.args.rows.now c.requires.checked))

pub decide_replacement-requires-clause-checked : goal.decide_replacement-requires-clause-checked
decide_replacement-requires-clause-checked c =
    subst (AreChecked c.args.page.now.params) (sym c.readable-in-Replacement.ensures) (readable-all (λ read. IfOk read.row (IsCheckedRow c.args.page.now.params)) c.args.rows.now c.requires.checked)
