use Rattle.std.proofs.Common.{rules, subst}
use Rattle.fr_cli.specs.AnsweredLines.{account_by}
use Rattle.fr_cli.specs.RequestStream.{HasAnswered}
use Rattle.fr_cli.proofs.jobs.request_stream.answer_input.Goals as goal

pub returns-clause-answered : goal.returns-clause-answered
returns-clause-answered g c =
    let contents = g.W.Write.contents in
    let remaining = g.R.Read.remaining in
    let account = account_by g.D.Desk c.args.desk.now c.answer_pieces.new.desk in
    let answered : HasAnswered c.args.numbered account (remaining c.args.reader.now) (remaining c.answer_pieces.new.reader) (contents c.args.writer.now)
    (contents c.answer_pieces.new.output.writer.now) c.answer_pieces.result =
    subst (λ w. HasAnswered c.args.numbered account (remaining c.args.reader.now) (remaining c.answer_pieces.new.reader) (contents w)
    (contents c.answer_pieces.new.output.writer.now) c.answer_pieces.result) c.new-output.ensures.holds c.answer_pieces.ensures.answered in
    subst (λ w. HasAnswered c.args.numbered account (remaining c.args.reader.now) (remaining c.answer_pieces.new.reader) (contents c.args.writer.now) (contents w) c.answer_pieces.result)
    (search rules) answered
