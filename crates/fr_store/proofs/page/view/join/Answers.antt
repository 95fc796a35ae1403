use Rattle.std.proofs.Common.{◌∙◌, refl}
use Rattle.std.specs.Cmp.Lexicographic.{nat_list_cmp_total}
use Rattle.std.proofs.lemmas.Cmp.{eq_by_cmp_equiv}
use Rattle.std.proofs.lemmas.Map.Keys.{IsDistinct-from_sorted}
use Rattle.std.proofs.lemmas.Map.Made.{update_all_distinct}
use Rattle.fr_world.proofs.KeyLaws.{name_cmp}
use Rattle.fr_store.proofs.page.view.join.Goals as goal

pub returns : goal.returns
returns c n =
    c.in-Ok.ensures.inserts_all.0 n
    ∙ update_all_distinct (eq_by_cmp_equiv nat_list_cmp_total) _ (λ x y. refl) _ c.args.own.entries n (IsDistinct-from_sorted name_cmp _ c.append.ensures.other_was_ordered)
