use Rattle.std.proofs.Common.{◌≡◌, ◌+◌, ◌∙◌, ◌∷◌, List, add-one, drop, get_or, sym, ap, subst}
use Rattle.std.specs.Prelude.{IfSome}
use Rattle.std.proofs.Math.Seq.{drop-cons}
use Rattle.std.proofs.lemmas.List.{drop_all}
use Rattle.fr_world.specs.BookEdits.{all_applied, applied}
use Rattle.fr_world.specs.Fits.{AllFit}
use Rattle.fr_world.specs.declared.edit.Edit.{Edit}
use Rattle.fr_office.specs.Decided.{TakesAll}
use Rattle.fr_office.specs.KeptPages.{AreFresh, FollowsAll, none_lent, untouched_by}
use Rattle.fr_office.proofs.KeptLaws.{all-followed, first_takes, next_fresh, next_lent, next_params, next_takes}
use Rattle.fr_office.proofs.kept.Kept.follow.Goals as goal

pub follow_one-requires : goal.follow_one-requires
follow_one-requires c =
    let i = c.loop-edit.edit-index in
    let edits = c.args.edits.now in
    let edit = c.edit-item.result in
    let left : drop i edits ≡ edit ∷ drop (i + 1) edits =
    drop-cons edits i edit c.loop-edit-test.true ∙ ap (λ n. get_or edits i edit ∷ drop n edits) (sym (add-one i)) ∙ ap (λ e. e ∷ drop (i + 1) edits) (sym c.edit-item.is) in
    record { takes = first_takes edit (drop (i + 1) edits) c.loop-edit.self.pages.lent (subst (λ (es : List Edit). IfSome c.loop-edit.self.pages.lent (λ page. TakesAll page es)) left c.loop-edit.invariant.takes) }

pub loop-edit-preserved : goal.loop-edit-preserved
loop-edit-preserved c =
    let i = c.loop-edit.edit-index in
    let edits = c.args.edits.now in
    let edit = c.edit-item.result in
    let rest = drop (i + 1) edits in
    let old = c.loop-edit.self.pages in
    let new = c.follow_one.new.self.pages in
    let left : drop i edits ≡ edit ∷ rest =
    drop-cons edits i edit c.loop-edit-test.true ∙ ap (λ n. get_or edits i edit ∷ drop n edits) (sym (add-one i)) ∙ ap (λ e. e ∷ drop (i + 1) edits) (sym c.edit-item.is) in
    let taken = subst (λ (es : List Edit). IfSome old.lent (λ page. TakesAll page es)) left c.loop-edit.invariant.takes in
    record {
      takes = next_takes edit old new c.follow_one.ensures.pages rest taken;
      lent = λ last is. c.loop-edit.invariant.lent last
          (subst (λ (es : List Edit). FollowsAll es old.lent last) (sym left) (next_lent edit old new c.follow_one.ensures.pages rest taken last is));
      others = ap (untouched_by rest) c.follow_one.ensures.pages.others ∙ sym (ap (λ (es : List Edit). untouched_by es (none_lent old)) left) ∙ c.loop-edit.invariant.others;
      params = λ p of. next_params edit old new c.follow_one.ensures.pages p (c.loop-edit.invariant.params p of);
      fresh = λ cluster b fits fresh.
          let now = c.loop-edit.invariant.fresh cluster b fits fresh in
          let fit = subst (AllFit cluster.params now.0) left now.1 in
          (applied now.0 edit, fit.1, next_fresh edit old new c.follow_one.ensures.pages cluster now.0 fit.0 now.2, sym (ap (all_applied now.0) left) ∙ now.3);
      counted = λ p b fits counted.
          let now = c.loop-edit.invariant.counted p b fits counted in
          let fit = subst (AllFit p now.0) left now.1 in
          (applied now.0 edit, fit.1, c.follow_one.ensures.counts p now.0 fit.0 now.2, sym (ap (all_applied now.0) left) ∙ now.3);
    }

pub returns-clause-fresh : goal.returns-clause-fresh
returns-clause-fresh c = λ cluster b fits fresh.
    let last = c.loop-edit.invariant.fresh cluster b fits fresh in
    let made : last.0 ≡ all_applied b c.args.edits.now = sym (ap (all_applied last.0) (drop_all c.loop-edit.edit-index c.args.edits.now c.loop-edit-test.false)) ∙ last.3 in
    subst (λ d. AreFresh cluster.params d c.loop-edit.self.pages) made last.2

pub returns-clause-lent : goal.returns-clause-lent
returns-clause-lent c =
    let lent = c.loop-edit.self.pages.lent in
    c.loop-edit.invariant.lent lent
    (subst (λ (es : List Edit). FollowsAll es lent lent) (sym (drop_all c.loop-edit.edit-index c.args.edits.now c.loop-edit-test.false)) (all-followed lent))
