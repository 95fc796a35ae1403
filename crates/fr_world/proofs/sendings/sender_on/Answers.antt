use Rattle.std.proofs.Common.{◌∙◌, Some, sym, ap}
use Rattle.std.proofs.lemmas.List.{get_or_default}
use Rattle.fr_world.specs.Sendings.{nobody, sender_of}
use Rattle.fr_world.proofs.PlaceLaws.{place-within, sender-nowhere, sender-there, sender-within}
use Rattle.fr_world.proofs.sendings.sender_on.Goals as goal

pub returns-in_default : goal.returns-in_default
returns-in_default c = λ cell first. sender-nowhere c.args.sendings.now.senders.now cell c.args.sendings.now.triggerings.now _ first (sym c.on.ensures ∙ c.in_default.is)

pub returns : goal.returns
returns c = λ cell first.
    let ss = c.args.sendings.now.senders.now in
    let ps = c.args.sendings.now.triggerings.now in
    let one = c.in-Some-get.one.now in
    let noted = sym c.on.ensures ∙ c.in-Some.is in
    let within = sender-within ss ps c.in-Some.place one c.requires (place-within ss cell ps _ first c.in-Some.place noted) c.in-Some-get.ensures.lookup.1 in
    ap (λ s. Some (sender_of s)) (get_or_default ss one.sender c.index-sendings-one.result nobody within)
    ∙ sender-there ss cell ps _ first c.in-Some.place one noted c.in-Some-get.ensures.lookup.1
