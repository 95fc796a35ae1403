use Rattle.std.proofs.Common.{rules, ◌≡◌, Err, sym, subst}
use Rattle.fr_base.specs.declared.refusal.Refusal.TheVariants.{Unavailable}
use Rattle.fr_picture.specs.Plans.{since_of}
use Rattle.fr_http.specs.Connection.{HasDrawn}
use Rattle.fr_http.proofs.DealingLaws.{page_drawn, page_lacked}
use Rattle.fr_http.proofs.exchange_reply.picture.Goals as goal

pub returns-in_err-page : goal.returns-in_err-page
returns-in_err-page g c =
    let is : c.from_residual-in_err-page.result ≡ Err Unavailable = search rules in
    record {
      does = subst (HasDrawn c.args.view.now.reader c.args.view.now.variant.now (since_of c.args.view.now.since) (g.D.Desk.clean c.read_plan.new.desk) (g.D.Desk.stands c.args.desk.now) (g.D.Desk.stands c.read_plan.new.desk)) (sym is)
          (page_lacked _ _ _ c.args.view.now.reader c.args.view.now.variant.now (since_of c.args.view.now.since) c.in_ok-plan.plan c.in_ok-plan.ensures.reads);
      falls = search rules;
    }

pub returns : goal.returns
returns g c = record {
  does = page_drawn _ _ _ c.args.view.now.reader c.args.view.now.variant.now (since_of c.args.view.now.since) c.in_ok-plan.plan c.into_bytes.result
      c.in_ok-plan.ensures.reads (search rules);
  falls = search rules;
}
