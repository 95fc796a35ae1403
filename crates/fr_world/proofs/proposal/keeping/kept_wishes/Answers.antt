use Rattle.std.proofs.Common.{◌≡◌, ◌∙◌, ◌+◌, ◌∷◌, ◌++◌, List, drop, sym, ap, arith}
use Rattle.std.proofs.lemmas.List.{drop_all, drop_more}
use Rattle.fr_base.specs.KeptPlaces.{keep, kept_for}
use Rattle.fr_base.specs.Tables.{get}
use Rattle.fr_base.specs.Turns.{places_given}
use Rattle.fr_base.specs.declared.proposal.Given.{Given}
use Rattle.fr_world.specs.Pages.{own_rows_of}
use Rattle.fr_world.proofs.KeepingLaws.{keep-end, keep-more}
use Rattle.fr_world.proofs.proposal.keeping.kept_wishes.Goals as goal

pub loop-asked-preserved : goal.loop-asked-preserved
loop-asked-preserved c =
    let s = c.args.page.now.supplier in
    let frames = (own_rows_of c.args.page.now).frames in
    let wishes = c.args.wishes.now in
    let i = c.loop-asked.asked-index in
    let a = c.asked-item.result in
    let before = c.loop-asked.kept.items in
    let next : drop i wishes ≡ a ∷ drop (i + 1) wishes = drop_more wishes i a c.loop-asked-test.true ∙ ap (λ r. r ∷ drop (i + 1) wishes) (sym c.asked-item.is) in
    let place : c.kept_for-place.result ≡ kept_for (places_given before) a.wish (get frames (s, a.wish.frame)) =
    c.kept_for-place.ensures ∙ ap (λ (given : List Given). kept_for (places_given given) a.wish (get frames (s, a.wish.frame))) c.deref.ensures.value in
    ap (λ (given : List Given). given ++ keep s frames (places_given given) (drop (i + 1) wishes)) c.in_ok-push.ensures.items
    ∙ keep-more s frames before a c.kept_for-place.result (drop (i + 1) wishes) (drop i wishes) next place
    ∙ c.loop-asked.invariant

pub returns : goal.returns
returns c =
    let wishes = c.args.wishes.now in
    sym (keep-end c.args.page.now.supplier (own_rows_of c.args.page.now).frames c.loop-asked.kept.items (drop c.loop-asked.asked-index wishes) (drop_all c.loop-asked.asked-index wishes (grind (arith))))
    ∙ c.loop-asked.invariant
