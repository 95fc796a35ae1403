use Rattle.std.proofs.Common.{rules, ◌≡◌, ◌++◌, drop, take, refl, ap, ◌∙◌, append_assoc}
use Rattle.std.proofs.KnownBytes.{Consumes-trans, Keeps-trans}
use Rattle.std.proofs.lemmas.List.{take-append-le}
use Rattle.fr_links.proofs.Gathered.{stop}
use Rattle.fr_links.proofs.inbox.Inbox.hear.Goals as goal

pub returns-then-is_err-clause-gathered : goal.returns-then-is_err-clause-gathered
returns-then-is_err-clause-gathered g c =
    let i = c.loop-self.invariant in
    let more = take c.in-Ok.n c.read_now.new.piece in
    let same : c.take_in.new.self.came.items ≡ c.loop-self.self.came.items = search rules in
    stop _ (g.S.Wire.remaining c.loop-self.stream) _ _ _ i.read more _ i.consumed (same ∙ i.gathered) c.in-Ok.ensures.bytes.0 (λ failed. absurd (failed refl))

pub loop-self-preserved-else-is_err : goal.loop-self-preserved-else-is_err
loop-self-preserved-else-is_err g c =
    let i = c.loop-self.invariant in
    let more = take c.in-Ok.n c.read_now.new.piece in
    let grown : c.take_in.new.self.came.items ≡ c.loop-self.self.came.items ++ take c.in-Ok.n (c.read_now.new.piece ++ drop c.min-room.result c.loop-self.piece) = search rules in
    record {
      read = i.read ++ more;
      consumed = Consumes-trans _ _ _ _ _ i.consumed c.in-Ok.ensures.bytes.0;
      gathered = grown ∙ ap (λ t. c.loop-self.self.came.items ++ t) (take-append-le c.in-Ok.n c.read_now.new.piece _ c.in-Ok.ensures.bound.0)
          ∙ ap (λ t. t ++ more) i.gathered ∙ append_assoc c.args.self.now.came.items i.read more;
      told = λ before. c.take_in.ensures.told (i.told before);
      quiet = Keeps-trans _ _ _ i.quiet c.in-Ok.ensures.contents;
    }
