use Rattle.std.proofs.Common.{◌∙◌, rules, ap}
use Rattle.std.proofs.lemmas.Fn.{filter_same}
use Rattle.std.proofs.lemmas.Result.{IfOk-weaker}
use Rattle.fr_guide.proofs.explain.alike.Goals as goal
use Rattle.fr_guide.specs.Topics.{begin_alike, lines_of}

pub returns : goal.returns
returns c =
    let kept = filter_same _ (λ t. begin_alike t.word.now c.args.word.now) _ (λ x b f' k. search rules) _ _ c.retain.ensures.filtered in
    IfOk-weaker c.lines.result _ _ (λ text is. (_, c.in_ok-topics.ensures, is ∙ ap lines_of (c.deref.ensures.value ∙ kept))) c.lines.ensures
