use Rattle.std.proofs.Common.{rules, ◌≡◌}
use Rattle.std.proofs.lemmas.Fn.{always_returns_same}
use Rattle.fr_picture.proofs.PageLemmas.{index_of}
use Rattle.fr_picture.proofs.frame_index.index.Goals as goal

pub returns : goal.returns
returns c =
    let keyed = always_returns_same _ (λ a r. r ≡ a.0.now.frame) _ (λ a r q k. search rules) in
    index_of c.args.frames.now _ _ c.in_ok-index.ensures c.in_ok-sort_by_key.ensures.permutation (c.in_ok-sort_by_key.ensures.sorted (λ e. e.frame) keyed)
    (c.in_ok-sort_by_key.ensures.stable (λ e. e.frame) keyed)
