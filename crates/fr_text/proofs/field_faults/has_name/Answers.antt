use Rattle.std.proofs.Common.{◌∙◌, rules}
use Rattle.fr_text.proofs.FieldsLemmas.{among_others, is_front, is_named}
use Rattle.fr_text.proofs.field_faults.has_name.Goals as goal

pub returns-then-eq : goal.returns-then-eq
returns-then-eq c = is_front _ _ _ _ c.eq.ensures (search rules)

pub returns-else-eq : goal.returns-else-eq
returns-else-eq c = c.is_named.ensures ∙ is_named _ _ ∙ among_others _ _ _ _ c.eq.ensures (search rules)
