use Rattle.std.proofs.Common.{rules, ◌∙◌, arith}
use Rattle.std.proofs.lemmas.Bool.Decides.{nat_tests}
use Rattle.fr_store.proofs.schemas.is_ours.Goals as goal

pub returns-in-Ok : goal.returns-in-Ok
returns-in-Ok c same =
    let low = c.if-tree-le20.false in
    let high = c.if-tree-ge25.false in
    let layout = c.in-Some.layout in
    let between = c.is_between.ensures (search rules) in
    record {
      layout = record { cluster2 = layout.cluster2; index = layout.index; before = layout.before; behind = layout.behind };
      is = c.same_schema.ensures same ∙ c.in-Ok.ensures;
      behind = ((grind (arith, nat_tests), grind (arith, nat_tests)), between);
    }
