use Rattle.std.proofs.Common.{rules, of_calls, ◌≡◌, ◌-◌, ap, ◌∙◌, take, drop, length, arith}
use Rattle.std.specs.Ordering.{is_lt}
use Rattle.std.specs.Prelude.{option_map}
use Rattle.std.proofs.lemmas.Fn.{always_returns_same}
use Rattle.std.proofs.lemmas.List.{length-drop, take_all}
use Rattle.fr_picture.specs.FrameIndexes.{number_in}
use Rattle.fr_picture.proofs.EntryLemmas.{stands, lesser_first, found_behind}
use Rattle.fr_picture.proofs.frame_index.number_in.Goals as goal

pub returns : goal.returns
unfolding number_in
returns c =
    let index = c.args.index.now in
    let cell = c.args.cell.now in
    let from = c.partition_point-from.result in
    let whole : take (length index - from) (drop from index) ≡ drop from index = take_all (length index - from) (drop from index) (omega (arith, length-drop from index)) in
    let first =
    c.partition_point-from.ensures.partitioned (λ e. is_lt (stands cell e)) (always_returns_same _ _ _ (λ a r q k. search (rules, of_calls))) (lesser_first cell index c.requires.by_name) in
    c.first_number.ensures ∙ ap (λ es. number_in es cell) whole ∙ ap (option_map (λ e. e.number)) (found_behind cell index from first.0)
