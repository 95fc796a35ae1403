use Rattle.std.proofs.Common.{◌≡◌, ◌∙◌, ◌++◌, [], ◌∷◌, true, false, ap, rules, tests}
use Rattle.fr_base.specs.Names.{same_text}
use Rattle.fr_world.proofs.GivenRows.{asked-elsewhere, asked-more, asked-refused, refused-read}
use Rattle.fr_world.proofs.proposal.wishes_of.Goals as goal
use Rattle.fr_world.proofs.proposal.wishes_of.Goals.{in-Ok+then-eq+in_ok-push, in-Ok+else-eq, in_default}

pub loop-read-preserved : goal.loop-read-preserved
loop-read-preserved c =
    let reads = c.args.reads.now in
    let i = c.loop-read.read-index in
    let read = c.read-item.result in
    let n = c.args.node in
    let low = c.loop-read-test.true in
    let olds = c.loop-read.wishes.items in
    elim c.match-read.branch [
      | in-Ok+then-eq+in_ok-push w ↦
          let own : same_text w.in-Ok.wish.node n ≡ true = search (rules, tests) in
          let pushed : w.push.new.self.items ≡ olds ++ record { line = read.line; wish = w.in-Ok.wish } ∷ [] = search rules in
          ap (λ v. v.items) w.wishes-is ∙ asked-more n reads i read low c.read-item.is w.in-Ok.wish w.in-Ok.is own olds w.push.new.self.items c.loop-read.invariant pushed
      | in-Ok+else-eq w ↦
          let other : same_text w.in-Ok.wish.node n ≡ false = search (rules, tests) in
          ap (λ v. v.items) w.wishes-is ∙ asked-elsewhere n reads i read low c.read-item.is w.in-Ok.wish w.in-Ok.is other olds c.loop-read.invariant
      | in_default w ↦
          let refused = refused-read read.wish w.in_default.not-Ok in
          ap (λ v. v.items) w.wishes-is ∙ asked-refused n reads i read low c.read-item.is refused.0 refused.1 olds c.loop-read.invariant
    ]
