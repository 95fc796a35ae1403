use Rattle.std.proofs.Common.{None, Some, sym, ◌∙◌}
use Rattle.toml.specs.View.{view, table_view}
use Rattle.toml.proofs.Views.{table_get}
use Rattle.fr_text.proofs.ClusterFileLemmas.{number_or-none, number_or-some}
use Rattle.fr_text.proofs.cluster_file.number_or.Goals as goal

pub returns-in-None : goal.returns-in-None
returns-in-None c = number_or-none c.args.other c.args.key.now (table_view c.args.file.now) (sym (table_get None c.args.key.now c.args.file.now.entries c.in-None.ensures.value))

pub returns-in-Some : goal.returns-in-Some
returns-in-Some c =
    c.number_at.ensures
    ∙ number_or-some c.args.other c.args.key.now (table_view c.args.file.now) (view c.in-Some.field-0.now) (sym (table_get (Some c.in-Some.field-0) c.args.key.now c.args.file.now.entries c.in-Some.ensures.value))
