use Rattle.std.proofs.Common.{rules, refl}
use Rattle.fr_office.specs.Gathered.{AreNamed}
use Rattle.fr_office.specs.Shown.{AreSignals}
use Rattle.fr_office.proofs.GatherLaws.{gathers-then, named-none, named-some}
use Rattle.fr_world.proofs.ReadLaws.{reads_then}
use Rattle.fr_office.proofs.queries.layout.gather_signals.Goals as goal
use Rattle.fr_office.proofs.queries.layout.gather_signals.Goals.{then-signals, else-signals}

pub gather-requires : goal.gather-requires
gather-requires g c = λ p x. record { name = refl; rows = c.new.ensures; found = refl }

pub returns : goal.returns
returns g c = record {
  reads = search (rules, reads_then);
  told = λ now.
      let stands = g.R.Records.stands in
      let ss = c.args.suppliers.now in
      let signals = c.in_ok-signals.signals in
      gathers-then (stands c.args.records.now) (stands c.gather.new.records) c.args.variant
      (λ p x all. AreNamed c.args.name ss x all) (λ p x found. AreSignals c.args.name ss x found) signals c.if-signals.result
      (c.in_ok-signals.ensures.told now)
      (λ p x is. elim c.if-signals.branch [
        | then-signals w ↦ rw w.result-is (named-some c.args.name ss x signals is w.if-signals.true)
        | else-signals w ↦ rw w.result-is (named-none c.args.name ss x signals is w.if-signals.false)
      ]);
}
