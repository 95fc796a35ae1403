use Rattle.std.proofs.Common.{◌≡◌, arith, ◌+◌, List, [], ◌∷◌, ◌++◌, take, refl, sym, ap, subst, ◌∙◌}
use Rattle.std.proofs.lemmas.Grind.{common_steps}
use Rattle.std.proofs.lemmas.List.{take_all, take_more}
use Rattle.fr_base.specs.declared.request.Ask.{Ask}
use Rattle.fr_office.specs.Crashed.{IsTurn, WereAsked, WereKept}
use Rattle.fr_office.specs.Headline.{WereAnswered}
use Rattle.fr_office.proofs.CrashedLaws.{asked_more, asked_run, keeps_change, were_kept}
use Rattle.fr_office.proofs.RunLaws.{were_answered}
use Rattle.fr_office.proofs.running.run.Goals as goal

pub loop-ask-init : goal.loop-ask-init
loop-ask-init g c =
    let empty : c.new-answers.result.items ≡ [] = grind (arith, common_steps) in
    record {
      falls = λ now. now;
      count = rw empty refl;
      asked = λ now. rw empty refl;
    }

pub loop-ask-preserved : goal.loop-ask-preserved
loop-ask-preserved g c =
    let it = g.R.Records in
    let i = c.loop-ask.ask-index in
    let asks = c.args.asks.now in
    let old = c.loop-ask.records in
    let new = c.answer-answer.new.records in
    let answer = c.answer-answer.result in
    let items : c.push.new.self.items ≡ c.loop-ask.answers.items ++ answer ∷ [] = grind (arith, common_steps) in
    let more : take (i + 1) asks ≡ take i asks ++ c.ask-item.result ∷ [] =
    take_more asks i c.ask-item.result c.loop-ask-test.true ∙ ap (λ x. take i asks ++ x ∷ []) (sym c.ask-item.is) in
    record {
      falls = λ now. c.loop-ask.invariant.falls (c.answer-answer.ensures.falls now);
      count = grind (arith, common_steps, items);
      asked = λ now.
          let turn : IsTurn it.stands it.leaves old c.ask-item.result answer new = record {
            answers = c.answer-answer.ensures.answers now;
            left = c.answer-answer.ensures.leaves now;
            keeps = keeps_change (it.stands old) (it.stands new) (it.leaves new) (it.serves new) c.ask-item.result answer (λ k b serves stood. it.settled new k b now serves stood)
                (c.answer-answer.ensures.answers now) (c.answer-answer.ensures.serves now);
          } in
          rw items (rw more (asked_more it.stands it.leaves _ old new _ c.ask-item.result _ answer (c.loop-ask.invariant.asked (c.answer-answer.ensures.falls now)) turn));
    }

pub returns-then-is_err-clause-headline : goal.returns-then-is_err-clause-headline
returns-then-is_err-clause-headline g c = λ now k b stands sound.
    let it = g.R.Records in
    rw c.reserve.ensures.items (rw c.loop-ask.invariant.count (were_answered _ _ _ _ _ sound (asked_run it.stands it.leaves k b _ _ _ _ (c.loop-ask.invariant.asked now) stands sound)))

pub returns-clause-headline : goal.returns-clause-headline
returns-clause-headline g c = λ now k b stands sound.
    let it = g.R.Records in
    subst (λ (asks : List Ask). WereAnswered (it.stands c.loop-ask.records k) k b asks c.loop-ask.answers.items)
    (take_all c.loop-ask.ask-index c.args.asks.now c.loop-ask-test.false) (were_answered _ _ _ _ _ sound (asked_run it.stands it.leaves k b _ _ _ _ (c.loop-ask.invariant.asked now) stands sound))

pub returns-then-is_err-clause-kept : goal.returns-then-is_err-clause-kept
returns-then-is_err-clause-kept g c = λ now k b stands sound left.
    let it = g.R.Records in
    rw c.reserve.ensures.items (rw c.loop-ask.invariant.count (were_kept it.stands it.leaves k b _ _ _ _ (c.loop-ask.invariant.asked now) stands sound left))

pub returns-clause-kept : goal.returns-clause-kept
returns-clause-kept g c = λ now k b stands sound left.
    let it = g.R.Records in
    subst (λ (asks : List Ask). WereKept (it.stands c.loop-ask.records k) (it.leaves c.loop-ask.records k) k b asks c.loop-ask.answers.items)
    (take_all c.loop-ask.ask-index c.args.asks.now c.loop-ask-test.false) (were_kept it.stands it.leaves k b _ _ _ _ (c.loop-ask.invariant.asked now) stands sound left)

pub returns-then-is_err-clause-asked : goal.returns-then-is_err-clause-asked
returns-then-is_err-clause-asked g c = λ now. rw c.reserve.ensures.items (rw c.loop-ask.invariant.count (c.loop-ask.invariant.asked now))

pub returns-clause-asked : goal.returns-clause-asked
returns-clause-asked g c = λ now.
    let it = g.R.Records in
    subst (λ (asks : List Ask). WereAsked it.stands it.leaves c.args.records.now asks c.loop-ask.answers.items c.loop-ask.records)
    (take_all c.loop-ask.ask-index c.args.asks.now c.loop-ask-test.false) (c.loop-ask.invariant.asked now)
