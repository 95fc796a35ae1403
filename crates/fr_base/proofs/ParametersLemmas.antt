-- What a proof about the check of parameters opens.
use Rattle.std.specs.Prelude.{⊤}
use Rattle.fr_base.specs.Refusing.{◌>>=◌, ◌>>◌, refuse◌when◌}
use Rattle.fr_base.specs.Parameters.{check_params}

unfoldable pub parameters_open : ⊤
unfolding ◌>>=◌ ◌>>◌ refuse◌when◌ check_params
parameters_open = tt
