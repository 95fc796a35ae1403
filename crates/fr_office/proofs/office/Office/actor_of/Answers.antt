use Rattle.std.proofs.Common.{rules, ◌≡◌, ap, subst, sym, ◌∙◌}
use Rattle.fr_base.specs.Actors.{actor_of}
use Rattle.fr_office.specs.KeptPages.{StandsWarm}
use Rattle.fr_office.proofs.office.Office.actor_of.Goals as goal

pub returns : goal.returns
returns g c = λ k b stands sound.
    let inside = subst (λ w. StandsWarm g.R.Records.stands w k b) (sym c.self.view_is) stands in
    let text : c.as_bytes.result.now ≡ c.args.key.now = search rules in
    c.actor_of.ensures.value k b (c.config.ensures.config k b inside) ∙ ap (actor_of k b) text
