use Rattle.std.proofs.Common.{rules, of_calls, ◌≡◌, ◌-◌, ◌≤◌, filter, take, drop, length, subst, sym, arith}
use Rattle.std.specs.Ordering.{is_le, is_lt}
use Rattle.std.proofs.lemmas.Fn.{always_returns_same}
use Rattle.std.proofs.lemmas.List.{length-drop, take_all}
use Rattle.fr_store.proofs.DealtLemmas.{IsEnd, stands, is_its, lesser_first, greater_last, between_points}
use Rattle.fr_store.proofs.page.frames.rows_of.Goals as goal

pub returns : goal.returns
returns c sorted =
    let rows = c.args.rows.now in
    let f = c.args.frame.now in
    let from = c.partition_point-from.result in
    let to = c.partition_point-to.result in
    let others = take (length rows - from) (drop from rows) in
    let whole : others ≡ drop from rows = take_all (length rows - from) (drop from rows) (omega (arith, length-drop from rows)) in
    let first =
    c.partition_point-from.ensures.partitioned (λ r. is_lt (stands f r)) (always_returns_same _ _ _ (λ a r q k. search (rules, of_calls))) (lesser_first f rows sorted) in
    let end =
    c.partition_point-to.ensures.partitioned (λ r. is_le (stands f r)) (always_returns_same _ _ _ (λ a r q k. search (rules, of_calls)))
    (greater_last f rows sorted from (length rows - from)) in
    subst (λ ys. take to ys ≡ filter (is_its f) rows) (sym whole)
    (between_points f rows from c.partition_point-from.ensures.bound first to (subst (λ ys. to ≤ length ys) whole c.partition_point-to.ensures.bound)
    (subst (λ ys. IsEnd f ys to) whole end))
