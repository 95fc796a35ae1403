use Rattle.std.proofs.Common.{◌≡◌, [], ◌∷◌, ◌++◌, ◌∙◌, ap, append_assoc, drop, subst, sym}
use Rattle.slab.specs.Slab.{get}
use Rattle.fr_links.specs.Connections.{IsUnready}
use Rattle.fr_links.proofs.Queueing.{all_passed, stands_first, when_none}
use Rattle.fr_links.proofs.table.Table.next.Goals as goal

pub loop-key-preserved : goal.loop-key-preserved
loop-key-preserved g c =
    let i = c.loop-key.invariant in
    let key = c.in-Some.key in
    let out = c.give_out-ends.ensures in
    let rest = c.pop_front.new.self.items in
    let none = sym c.if-is_some.ensures in
    let behind = c.pop_front.ensures.rest ∙ ap (λ ready. drop 1 ready.items) out.ready in
    let first : c.loop-key.self.ready.items ≡ key ∷ rest = stands_first _ rest c.front.result key c.in-Some.ensures c.front.ensures.item.0 c.front.ensures.lookup behind in
    record {
      links = when_none c.give_out-ends.result _ none out.none ∙ i.links;
      passed = i.passed ++ key ∷ [];
      unready = all_passed _ i.passed key i.unready (subst (λ links. IsUnready (get links key)) i.links (when_none c.give_out-ends.result _ none out.unready));
      front = i.front ∙ ap (λ t. i.passed ++ t) first ∙ sym (append_assoc i.passed (key ∷ []) rest);
    }
