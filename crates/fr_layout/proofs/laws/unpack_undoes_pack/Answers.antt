use Rattle.fr_layout.proofs.ImageLemmas.{unpack_undoes_pack}
use Rattle.fr_layout.proofs.laws.unpack_undoes_pack.Goals as goal

pub returns : goal.returns
returns c = unpack_undoes_pack
