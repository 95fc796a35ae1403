use Rattle.std.proofs.Common.{ap}
use Rattle.fr_guide.proofs.TopicLemmas.{grown}
use Rattle.fr_guide.proofs.topics.topics.Goals as goal
use Rattle.fr_guide.specs.Topics.{explained, words_of}

pub returns : goal.returns
unfolding explained
returns c =
    let w0 = ap (λ l. words_of l) c.new-all.ensures.items in
    let w1 = grown _ _ _ _ _ c.in_ok-add.ensures w0 c.topics.ensures in
    let w2 = grown _ _ _ _ _ c.in_ok-add-2.ensures w1 c.topics-2.ensures in
    let w3 = grown _ _ _ _ _ c.in_ok-add-3.ensures w2 c.topics-3.ensures in
    let w4 = grown _ _ _ _ _ c.in_ok-add-4.ensures w3 c.topics-4.ensures in
    let w5 = grown _ _ _ _ _ c.in_ok-add-5.ensures w4 c.topics-5.ensures in
    let w6 = grown _ _ _ _ _ c.in_ok-add-6.ensures w5 c.topics-6.ensures in
    let w7 = grown _ _ _ _ _ c.in_ok-add-7.ensures w6 c.topics-7.ensures in
    let w8 = grown _ _ _ _ _ c.in_ok-add-8.ensures w7 c.topics-8.ensures in
    let w9 = grown _ _ _ _ _ c.in_ok-add-9.ensures w8 c.topics-9.ensures in
    let w10 = grown _ _ _ _ _ c.in_ok-add-10.ensures w9 c.topics-10.ensures in
    let w11 = grown _ _ _ _ _ c.in_ok-add-11.ensures w10 c.topics-11.ensures in
    let w12 = grown _ _ _ _ _ c.in_ok-add-12.ensures w11 c.topics-12.ensures in
    let w13 = grown _ _ _ _ _ c.in_ok-add-13.ensures w12 c.topics-13.ensures in
    let w14 = grown _ _ _ _ _ c.in_ok-add-14.ensures w13 c.topics-14.ensures in
    let w15 = grown _ _ _ _ _ c.in_ok-add-15.ensures w14 c.topics-15.ensures in
    let w16 = grown _ _ _ _ _ c.in_ok-add-16.ensures w15 c.topics-16.ensures in
    w16
