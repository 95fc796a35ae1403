use Rattle.std.proofs.Common.{◌≡◌, ◌∙◌, ap, subst, sym}
use Rattle.fr_office.specs.KeptPages.{AreFresh, AreOf, KeptData, lent_at, none_lent}
use Rattle.fr_world.specs.Held.{IsFresh}
use Rattle.fr_office.proofs.WarmLaws.{as_they_were, lent_all, now_lent, still_lent, turned}
use Rattle.fr_office.proofs.pages.Pages.lend.Goals as goal

pub returns-then-lends-clause-told : goal.returns-then-lends-clause-told
returns-then-lends-clause-told c = sym (still_lent c.args.supplier c.args.variant c.args.self.now (sym c.lends.ensures ∙ c.if-lends.true)).0

pub returns-then-lends-clause-page : goal.returns-then-lends-clause-page
returns-then-lends-clause-page c = (still_lent c.args.supplier c.args.variant c.args.self.now (sym c.lends.ensures ∙ c.if-lends.true)).1

pub returns-clause-page : goal.returns-clause-page
returns-clause-page c = c.take-page.ensures.value ∙ now_lent c.args.supplier c.args.variant c.args.self.now (sym c.lends.ensures ∙ c.if-lends.false)

pub returns-clause-params : goal.returns-clause-params
returns-clause-params c = λ p each.
    subst (λ (k : KeptData). AreOf p (record k { lent = c.take-page.result })) (sym c.self.view_is)
    (lent_all (λ page. page.params ≡ p) c.args.supplier c.args.variant c.args.self.now c.take-page.new.self c.put_away.new.self c.take-page.result c.put_away.result
    c.take-page.ensures.value c.take-page.ensures.others c.put_away.ensures.ok c.put_away.ensures.err each)

pub returns-clause-fresh : goal.returns-clause-fresh
returns-clause-fresh c = λ p b each.
    subst (λ (k : KeptData). AreFresh p b (record k { lent = c.take-page.result })) (sym c.self.view_is)
    (lent_all (IsFresh p b) c.args.supplier c.args.variant c.args.self.now c.take-page.new.self c.put_away.new.self c.take-page.result c.put_away.result
    c.take-page.ensures.value c.take-page.ensures.others c.put_away.ensures.ok c.put_away.ensures.err each)

pub returns-then-lends-clause-others : goal.returns-then-lends-clause-others
returns-then-lends-clause-others c = as_they_were (lent_at c.args.supplier c.args.variant c.args.self.now.lent) c.args.self.now _ (sym c.lends.ensures ∙ c.if-lends.true)

pub returns-clause-others : goal.returns-clause-others
returns-clause-others c =
    turned (lent_at c.args.supplier c.args.variant c.args.self.now.lent) c.args.self.now _ c.take-page.new.self c.put_away.new.self _ c.take-page.ensures.others c.put_away.result c.put_away.ensures.ok c.put_away.ensures.err
    (ap none_lent c.self.view_is) (sym c.lends.ensures ∙ c.if-lends.false)
