use Rattle.std.proofs.Common.{◌∙◌, ap}
use Rattle.fr_base.proofs.NameLemmas.{name_bytes_at}
use Rattle.fr_base.specs.declared.name.TheConstants.{NAME_BYTES}
use Rattle.std.specs.Prelude.{get_or, false}
use Rattle.fr_base.proofs.name.is_name_byte.Goals as goal

pub returns : goal.returns
returns c = ap (λ i. get_or NAME_BYTES.now i false) c.from.ensures ∙ name_bytes_at c.args.byte c.ranges.byte.fits
