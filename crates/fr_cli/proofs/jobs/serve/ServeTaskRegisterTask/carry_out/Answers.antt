use Rattle.std.proofs.Common.{inl, refl}
use Rattle.fr_cli.specs.Guarding.{office_of}
use Rattle.fr_cli.specs.Outlets.{outlet}
use Rattle.fr_cli.proofs.ServingLaws.{each_guarded, served_as, served_early, stops_unwatched}
use Rattle.fr_cli.proofs.VisitLaws.{sink}
use Rattle.fr_cli.proofs.jobs.serve.ServeTaskRegisterTask.carry_out.Goals as goal

pub returns-in-Ok-clause-does : goal.returns-in-Ok-clause-does
returns-in-Ok-clause-does g c =
    let served = served_as _ _ _ _ _ _ _ _ _ (each_guarded _ _ office_of _ _) c.listen-done.ensures.served in
    rw (c.into_office.ensures, ← c.new-guarded.ensures) ((c.listen-done.ensures.announced, served), (refl, (refl, refl)))

pub returns-in-Err-clause-does : goal.returns-in-Err-clause-does
returns-in-Err-clause-does g c =
    let it = c.args.self.now in
    let served = served_early _ it.service.count _ _ _ _ (outlet (sink g.E.Write g.E.Sink) it.err.now it.err.now) _ c.from.result refl refl
    (stops_unwatched _ _ c.in-Err.fault c.from.result c.from.ensures) (inl (refl, refl)) refl in
    (((inl refl, tt), served), (refl, (refl, refl)))
