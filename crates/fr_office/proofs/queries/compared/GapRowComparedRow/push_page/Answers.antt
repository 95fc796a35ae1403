use Rattle.std.proofs.Common.{◌∙◌, ◌++◌, ap}
use Rattle.fr_world.specs.Pages.{own_rows_of}
use Rattle.fr_world.proofs.AmendLaws.{on_ok}
use Rattle.fr_office.proofs.FlatRows.{gaps-flat}
use Rattle.fr_office.proofs.queries.compared.GapRowComparedRow.push_page.Goals as goal

pub returns : goal.returns
returns c = on_ok c.push_gaps.result (λ told. told ∙ ap (λ more. c.args.rows.now ++ more) (gaps-flat c.args.page.now.params (own_rows_of c.args.page.now).frames)) c.push_gaps.ensures
