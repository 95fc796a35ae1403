use Rattle.std.proofs.Common.{arith, ◌≡◌, ◌++◌, ◌∙◌, ap, drop, length, subst, sym, take}
use Rattle.std.proofs.Math.Seq.{take-length}
use Rattle.std.proofs.KnownBytes.{Keeps-refl}
use Rattle.std.proofs.lemmas.Grind.{common_steps}
use Rattle.std.proofs.lemmas.List.{drop-append-le}
use Rattle.std.specs.Io.KnownBytes.{Keeps}
use Rattle.fr_links.specs.Sending.{Moves, early}
use Rattle.fr_links.proofs.Moved.{holds_back, none_due, none_early, passes}
use Rattle.fr_links.proofs.outbox.Outbox.put.Goals as goal
use Rattle.fr_links.proofs.outbox.Outbox.put.Goals.{then-left-eq0+in-Err, else-left-eq0}

pub returns-clause-moved : goal.returns-clause-moved
returns-clause-moved g c =
    let s = c.args.self.now in
    let written = c.args.bytes.now in
    let held = g.S.Wire.contents c.args.stream.now in
    let keeps : Keeps held (g.S.Wire.contents c.if-left-eq0.stream) =
    elim c.if-left-eq0.branch [
      | then-left-eq0+in-Err w ↦ subst (λ t. Keeps held (g.S.Wire.contents t)) (sym w.stream-is) w.in-Err.ensures.bytes
      | else-left-eq0 w ↦ subst (λ t. Keeps held (g.S.Wire.contents t)) (sym w.stream-is) (Keeps-refl held)
    ] in
    let grown : c.extend_from_slice.new.self.items ≡ s.kept.items ++ written = grind (arith, common_steps) in
    holds_back _ _ _ _ _ _ keeps (none_early s.ahead s.passed (omega arith))
    (ap (drop s.sent) grown ∙ drop-append-le s.sent s.kept.items written (omega arith) ∙ ap (λ t. drop s.sent s.kept.items ++ t) (sym (take-length written)))

pub returns-then-self-clause-moved : goal.returns-then-self-clause-moved
returns-then-self-clause-moved g c =
    let s = c.args.self.now in
    let n = c.pass_over.new.self in
    let held = g.S.Wire.contents c.args.stream.now in
    let same : drop n.sent n.kept.items ≡ drop s.sent s.kept.items =
    ap (λ kept. drop n.sent kept.items) c.pass_over.ensures.kept ∙ ap (λ sent. drop sent s.kept.items) c.pass_over.ensures.sent in
    let empty : length s.kept.items ≡ 0 = omega (arith, s.kept.ok.0, s.turn c.if-self.true) in
    subst (λ later. Moves held held (early s.ahead s.passed) (drop s.sent s.kept.items) (take c.in_ok-n.n c.args.bytes.now) (early n.ahead n.passed) later) (sym same)
    (passes held _ _ _ _ (none_due s.sent s.kept.items empty) c.in_ok-n.ensures.passed)
