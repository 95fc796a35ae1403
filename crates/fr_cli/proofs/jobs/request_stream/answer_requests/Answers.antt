use Rattle.std.proofs.Common.{rules, ◌≡◌, Err, subst, sym}
use Rattle.fr_cli.specs.Outlets.{StopsSo}
use Rattle.fr_cli.specs.RequestStream.{WasAsked}
use Rattle.fr_cli.proofs.RequestStreamLaws.{asked_early, asked_last, asked_on}
use Rattle.fr_cli.proofs.VisitLaws.{sink}
use Rattle.fr_cli.proofs.jobs.request_stream.answer_requests.Goals as goal

pub returns-in_err-write_answers : goal.returns-in_err-write_answers
returns-in_err-write_answers g c =
    let is : c.from_residual.result ≡ Err c.in_err-write_answers.field-0.0 = search rules in
    let early = c.in_err-write_answers.ensures.written in
    record {
      asked = subst (WasAsked _ _ _ _ _) (sym is) (asked_early _ _ _ _ _ c.in_err-write_answers.field-0.0 early.early early.faults);
      falls = search rules;
      same_writer = search rules;
      stops = subst (StopsSo (sink g.W.Write g.W.Sink) _) (sym is) c.in_err-write_answers.ensures.stops;
    }

pub returns-then-is_none : goal.returns-then-is_none
returns-then-is_none g c = record {
  asked = asked_on g.D.Desk _ _ _ _ _ _ _ (λ is. is, λ is cluster book stands. stands) c.in_ok-write_answers.ensures.written.all;
  falls = search rules;
  same_writer = search rules;
  stops = tt;
}

pub returns-then-lasts : goal.returns-then-lasts
returns-then-lasts g c = record {
  asked = asked_on g.D.Desk _ _ _ _ _ _ _ (c.lasts.ensures.falls, c.lasts.ensures.stays) c.in_ok-write_answers.ensures.written.all;
  falls = search rules;
  same_writer = search rules;
  stops = tt;
}

pub returns-else-lasts : goal.returns-else-lasts
returns-else-lasts g c = record {
  asked = asked_last g.D.Desk _ _ _ _ _ _ _ (c.lasts.ensures.falls, c.lasts.ensures.stays) c.in_ok-write_answers.ensures.written.all;
  falls = search rules;
  same_writer = search rules;
  stops = tt;
}
