use Rattle.std.proofs.Common.{◌∙◌, cond, sym, ap, arith}
use Rattle.std.proofs.lemmas.List.{get_or-replicate}
use Rattle.fr_world.specs.Masks.{word_on}
use Rattle.fr_world.specs.Proposals.{broken_by}
use Rattle.fr_world.proofs.proposal.fit.broken_on.Goals as goal

pub returns-else-has : goal.returns-else-has
returns-else-has c base low =
    get_or-replicate 64 base 0 0 (omega (arith, low, c.requires.within, c.requires.few))
    ∙ ap (λ b. cond b (broken_by c.args.params.now (word_on c.args.channel c.args.filled) c.args.kind.repetition base) 0) (sym (sym c.has.ensures ∙ c.if-has.false))
