-- What a proof about an import's rows opens.
use Rattle.std.specs.Prelude.{⊤}
use Rattle.fr_base.specs.Refusing.{◌>>=◌, ◌>>◌, ◌or◌, refuse◌when◌}
use Rattle.fr_base.specs.Checks.{name, cycles, slot, channels, placement, signal}
use Rattle.fr_base.specs.ImportRows.{frame_row, placement_row, signal_row}
use Rattle.fr_base.specs.Wishes.{wish}

unfoldable pub rows_open : ⊤
unfolding ◌>>=◌ ◌>>◌ ◌or◌ refuse◌when◌ name cycles slot channels placement signal frame_row placement_row signal_row wish
rows_open = tt
