use Rattle.std.proofs.Common.{rules, Ok, subst, sym}
use Rattle.fr_base.specs.Queries.{reply}
use Rattle.fr_base.specs.declared.answer.Answer.TheVariants.{Report}
use Rattle.fr_office.specs.Carried.{Replies}
use Rattle.fr_office.proofs.RegisterReplies.{reply-found, reply-refused}
use Rattle.fr_world.proofs.ReadLaws.{reads_then}
use Rattle.fr_office.proofs.queries.reply.Goals as goal

pub returns-in_err-rows : goal.returns-in_err-rows
returns-in_err-rows g c = record {
  reads = search (rules, reads_then);
  told = λ now.
      let old = g.R.Records.stands c.args.records.now in
      let new = g.R.Records.stands c.find_rows.new.records in
      reply-refused old new c.args.actor.now c.args.query.now c.in_err-rows.field-0.0 c.from_residual.result (search rules) (c.in_err-rows.ensures.told now);
}

pub returns : goal.returns
returns g c = record {
  reads = search (rules, reads_then);
  told = λ now.
      let old = g.R.Records.stands c.args.records.now in
      let new = g.R.Records.stands c.find_rows.new.records in
      subst (λ all. Replies (λ k b. reply k.params b c.args.actor.now c.args.query.now) old new (Ok (Report all c.in_ok-rows.rows))) (sym c.is_integrator-all.ensures)
      (reply-found old new c.args.actor.now c.args.query.now c.in_ok-rows.rows (c.in_ok-rows.ensures.told now));
}
