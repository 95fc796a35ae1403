use Rattle.std.proofs.Common.{◌≡◌, ◌∙◌, Some, None, is_some, sym, ap}
use Rattle.std.specs.Prelude.{find}
use Rattle.std.specs.List.{list_any}
use Rattle.std.specs.Str.{bytes_eq}
use Rattle.fr_guide.proofs.TopicLemmas.{found-word, is_found}
use Rattle.fr_guide.proofs.explain.explanation.Goals as goal
use Rattle.fr_guide.specs.Topics.{explained, words_of}

pub returns-in-Some : goal.returns-in-Some
returns-in-Some c =
    let word = c.args.word.now in
    let topics = c.deref.result.now in
    let topic = c.in-Some.topic.now in
    let words : words_of topics ≡ explained = ap (λ l. words_of l) c.deref.ensures.value ∙ c.in_ok-topics.ensures in
    let found : find (λ t. bytes_eq t.word.now word) topics ≡ Some topic = sym c.in-Some.ensures in (
      ap (λ l. list_any (λ w. bytes_eq w word) l) (sym words) ∙ is_found word topics ∙ ap (λ o. is_some o) found,
      topic,
      found-word word topics topic found,
      c.in_ok-page-in-Some.ensures,
    )

pub returns : goal.returns
returns c =
    let word = c.args.word.now in
    let topics = c.deref.result.now in
    let words : words_of topics ≡ explained = ap (λ l. words_of l) c.deref.ensures.value ∙ c.in_ok-topics.ensures in
    let found : find (λ t. bytes_eq t.word.now word) topics ≡ None = sym c.in-None.ensures in
    ap (λ l. list_any (λ w. bytes_eq w word) l) (sym words) ∙ is_found word topics ∙ ap (λ o. is_some o) found
