use Rattle.std.proofs.Common.{rules, refl, ◌≡◌, None, IsUtf8, sym, ◌∙◌, [], ◌∷◌, codes}
use Rattle.fr_base.specs.Actors.{actor_of}
use Rattle.fr_http.specs.Head.{values}
use Rattle.fr_http.proofs.KeyLaws.{holder_of, nobodys}
use Rattle.fr_http.proofs.PlanLaws.{none_left}
use Rattle.fr_http.proofs.exchange.actor.Goals as goal

pub returns-in_err-ok : goal.returns-in_err-ok
returns-in_err-ok g c cluster b stands sound =
    let key = c.in_ok-key.key.now in
    let none : IsUtf8 key → ⊥ = search rules in
    let is : c.from_residual-in_err-ok.result ≡ None = search rules in
    let first : values (codes "x-office-key") c.args.head.now.0.fields ≡ key ∷ c.next.new.self = search rules in
    let left : c.next.new.self ≡ [] = search (rules, none_left) in
    is ∙ nobodys cluster b key sound none ∙ sym (holder_of (actor_of cluster b) _ c.next.new.self c.next.new.self key first refl left)
