use Rattle.std.proofs.Common.{rules, Ok, Err}
use Rattle.fr_picture.specs.Pages.{IsPage}
use Rattle.fr_picture.specs.Plans.{since_of}
use Rattle.fr_cli.specs.Picturing.{plans_for}
use Rattle.fr_cli.specs.Queries.{reader_named}
use Rattle.fr_cli.specs.Reading.{IsRead}
use Rattle.fr_cli.proofs.ReadingLaws.{read_same, reads_stay, refused_reading}
use Rattle.fr_cli.proofs.jobs.picture.picture.Goals as goal

pub returns-in_ok-write_page-in-Ok-clause-prints : goal.returns-in_ok-write_page-in-Ok-clause-prints
returns-in_ok-write_page-in-Ok-clause-prints g c =
    let told = read_same (g.D.Desk.clean c.plan_for.new.desk) (g.D.Desk.stands c.args.desk.now) (g.D.Desk.stands c.plan_for.new.desk)
    (λ who. plans_for who c.args.variant.now (since_of c.args.since)) c.reader_named.result (reader_named c.args.supplier) (Ok c.in-Ok.plan) c.reader_named.ensures c.in-Ok.ensures.does in
    (c.in-Ok.plan, told, search rules)

pub returns-in-Err-clause-prints : goal.returns-in-Err-clause-prints
returns-in-Err-clause-prints g c =
    let told = read_same (g.D.Desk.clean c.plan_for.new.desk) (g.D.Desk.stands c.args.desk.now) (g.D.Desk.stands c.plan_for.new.desk)
    (λ who. plans_for who c.args.variant.now (since_of c.args.since)) c.reader_named.result (reader_named c.args.supplier) (Err c.in-Err.refusal) c.reader_named.ensures c.in-Err.ensures.does in
    refused_reading
    (IsRead (plans_for (reader_named c.args.supplier) c.args.variant.now (since_of c.args.since)) (g.D.Desk.clean c.plan_for.new.desk) (g.D.Desk.stands c.args.desk.now) (g.D.Desk.stands c.plan_for.new.desk))
    IsPage c.in-Err.refusal c.refused_reader.result told c.refused_reader.ensures

pub returns-in_err-write_page-in-Ok-clause-stays : goal.returns-in_err-write_page-in-Ok-clause-stays
returns-in_err-write_page-in-Ok-clause-stays g c = reads_stay _ _ _ (plans_for c.reader_named.result c.args.variant.now (since_of c.args.since)) (Ok c.in-Ok.plan) c.in-Ok.ensures.does

pub returns-in_ok-write_page-in-Ok-clause-stays : goal.returns-in_ok-write_page-in-Ok-clause-stays
returns-in_ok-write_page-in-Ok-clause-stays g c = reads_stay _ _ _ (plans_for c.reader_named.result c.args.variant.now (since_of c.args.since)) (Ok c.in-Ok.plan) c.in-Ok.ensures.does

pub returns-in-Err-clause-stays : goal.returns-in-Err-clause-stays
returns-in-Err-clause-stays g c = reads_stay _ _ _ (plans_for c.reader_named.result c.args.variant.now (since_of c.args.since)) (Err c.in-Err.refusal) c.in-Err.ensures.does
