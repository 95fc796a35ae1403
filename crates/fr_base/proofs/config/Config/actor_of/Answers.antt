use Rattle.std.proofs.Common.{◌≡◌, rules, find, IfSome, IsTrue, subst, sym, ◌∙◌}
use Rattle.std.specs.Option.{option_map}
use Rattle.fr_base.specs.declared.actor.Actor.TheVariants as actor
use Rattle.fr_base.proofs.ActorsLemmas.{listed_now, has_key, known}
use Rattle.fr_base.specs.Step.{knows}
use Rattle.fr_base.proofs.config.Config.actor_of.Goals as goal

pub returns-clause-value : goal.returns-clause-value
returns-clause-value c cl b same =
    let found : c.map.result ≡ option_map (λ s. actor.Supplier s.name) (find (has_key c.args.key.now) c.args.self.now.suppliers) = search rules in
    found ∙ listed_now cl b c.args.self.now c.args.key.now same (search rules)

pub returns-clause-known : goal.returns-clause-known
returns-clause-known c cl b same = subst (λ o. IfSome o (λ a. IsTrue (knows b a))) (sym (returns-clause-value c cl b same)) (known cl b c.args.key.now)
