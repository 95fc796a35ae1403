use Rattle.std.proofs.Common.{◌++◌, ◌∙◌, ap, ℕ, Bool, List}
use Rattle.std.specs.List.{list_any}
use Rattle.std.specs.Str.{bytes_eq}
use Rattle.fr_guide.proofs.TopicLemmas.{any_more}
use Rattle.fr_guide.proofs.topics.are_about.Goals as goal
use Rattle.fr_guide.specs.Topics.{clusters, edits, explained, fields, files, grants, inputs, keys, labels, missing, register, rows, segments, senders, signals, variants, wishes}

pub returns : goal.returns
unfolding explained
returns c =
    let has : List ℕ → Bool = λ w. bytes_eq w c.args.word.now in
    let is = list_any has in
    let words1 = senders in
    let w1 = c.has.ensures ∙ ap is c.topics.ensures in
    let w2 = any_more has words1 fields _ _ w1 (c.has-2.ensures ∙ ap is c.topics-2.ensures) in
    let words2 = words1 ++ fields in
    let w3 = any_more has words2 labels _ _ w2 (c.has-3.ensures ∙ ap is c.topics-3.ensures) in
    let words3 = words2 ++ labels in
    let w4 = any_more has words3 variants _ _ w3 (c.has-4.ensures ∙ ap is c.topics-4.ensures) in
    let words4 = words3 ++ variants in
    let w5 = any_more has words4 missing _ _ w4 (c.has-5.ensures ∙ ap is c.topics-5.ensures) in
    let words5 = words4 ++ missing in
    let w6 = any_more has words5 grants _ _ w5 (c.has-6.ensures ∙ ap is c.topics-6.ensures) in
    let words6 = words5 ++ grants in
    let w7 = any_more has words6 edits _ _ w6 (c.has-7.ensures ∙ ap is c.topics-7.ensures) in
    let words7 = words6 ++ edits in
    let w8 = any_more has words7 signals _ _ w7 (c.has-8.ensures ∙ ap is c.topics-8.ensures) in
    let words8 = words7 ++ signals in
    let w9 = any_more has words8 register _ _ w8 (c.has-9.ensures ∙ ap is c.topics-9.ensures) in
    let words9 = words8 ++ register in
    let w10 = any_more has words9 rows _ _ w9 (c.has-10.ensures ∙ ap is c.topics-10.ensures) in
    let words10 = words9 ++ rows in
    let w11 = any_more has words10 keys _ _ w10 (c.has-11.ensures ∙ ap is c.topics-11.ensures) in
    let words11 = words10 ++ keys in
    let w12 = any_more has words11 wishes _ _ w11 (c.has-12.ensures ∙ ap is c.topics-12.ensures) in
    let words12 = words11 ++ wishes in
    let w13 = any_more has words12 clusters _ _ w12 (c.has-13.ensures ∙ ap is c.topics-13.ensures) in
    let words13 = words12 ++ clusters in
    let w14 = any_more has words13 segments _ _ w13 (c.has-14.ensures ∙ ap is c.topics-14.ensures) in
    let words14 = words13 ++ segments in
    let w15 = any_more has words14 inputs _ _ w14 (c.has-15.ensures ∙ ap is c.topics-15.ensures) in
    let words15 = words14 ++ inputs in
    let w16 = any_more has words15 files _ _ w15 (c.has-16.ensures ∙ ap is c.topics-16.ensures) in
    w16
