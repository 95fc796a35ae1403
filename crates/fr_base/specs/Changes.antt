-- Changes: a change of one supplier's rows in a variant, made of its three parts.
use Rattle.fr_base.specs.declared.name.Name.{Name}
use Rattle.fr_base.specs.declared.request.Change.{Change}
use Rattle.fr_base.specs.declared.request.RowsChange.{RowsChange}

-- the change of the supplier's rows in the variant
abbrev pub in_rows : Name → Name → Change → RowsChange
in_rows s v what = record { supplier = s; variant = v; change = what }
