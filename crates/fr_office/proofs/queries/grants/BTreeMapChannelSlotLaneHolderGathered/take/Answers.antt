use Rattle.std.proofs.lemmas.Result.{on_ok_weaker}
use Rattle.fr_office.proofs.GrantLaws.{takes-grants}
use Rattle.fr_office.proofs.queries.grants.BTreeMapChannelSlotLaneHolderGathered.take.Goals as goal

pub returns : goal.returns
returns c = on_ok_weaker c.add_grants.result (takes-grants (λ held. held.entries) c.args.page.now c.args.self.now c.add_grants.new.held) c.add_grants.ensures
