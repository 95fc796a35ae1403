use Rattle.fr_links.specs.Connections.{at}
use Rattle.fr_links.proofs.Turned.{reaches_begun, turns_one}
use Rattle.fr_links.proofs.links.Links.welcome.Goals as goal

pub returns-then-add-clause-turns : goal.returns-then-add-clause-turns
returns-then-add-clause-turns g c =
    let key = c.args.self.now.table.links.vacant_key in
    let added = c.add.ensures in
    turns_one _ _ _ _ c.args.self.now.table c.add.new.self key added.others (reaches_begun _ _ _ c.args.stream c.requires _ (at c.add.new.self key) added.own) (λ _. added.told) added.queue

pub returns-else-add-clause-turns : goal.returns-else-add-clause-turns
returns-else-add-clause-turns g c =
    let key = c.args.self.now.table.links.vacant_key in
    let added = c.add.ensures in
    turns_one _ _ _ _ c.args.self.now.table c.add.new.self key added.others (reaches_begun _ _ _ c.args.stream c.requires _ (at c.add.new.self key) added.own) (λ _. added.told) added.queue
