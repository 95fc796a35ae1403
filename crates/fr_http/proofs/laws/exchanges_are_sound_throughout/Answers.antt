use Rattle.fr_http.proofs.ExchangeLaws.{fronts-sound}
use Rattle.fr_http.proofs.laws.exchanges_are_sound_throughout.Goals as goal

pub returns : goal.returns
returns c = fronts-sound
