use Rattle.std.proofs.Common.{◌∙◌, not, rules, tests, ap}
use Rattle.std.proofs.lemmas.Fn.{filter_same}
use Rattle.fr_office.specs.ImportCounts.{counts_without, is_count_of}
use Rattle.fr_office.proofs.import_counts.ImportCounts.take.Goals as goal

pub returns-clause-others : goal.returns-clause-others
returns-clause-others c =
    filter_same _ (λ count. not (is_count_of c.args.supplier count)) _ (λ x b f' k. search (rules, tests)) _ _ c.retain.ensures.filtered
    ∙ ap (counts_without c.args.supplier) c.self.view_is
