use Rattle.std.proofs.Common.{rules, ℕ, subst, sym}
use Rattle.fr_base.specs.Queries.{found}
use Rattle.fr_base.specs.declared.name.Name.{Name}
use Rattle.fr_base.specs.declared.query.Query.{Query}
use Rattle.fr_office.specs.Carried.{Replies}
use Rattle.fr_office.proofs.RegisterReplies.{found-held}
use Rattle.fr_world.proofs.ReadLaws.{reads_then}
use Rattle.fr_office.proofs.queries.find_rows.Goals as goal

pub returns-in-Register : goal.returns-in-Register
returns-in-Register g c = record {
  reads = search (rules, reads_then);
  told = λ now.
      let old = g.R.Records.stands c.args.records.now in
      let new = g.R.Records.stands c.inventory_rows.new.records in
      subst (λ (q : Query Name ℕ). Replies (λ k b. found k.params b c.args.actor.now q) old new c.inventory_rows.result) (sym c.in-Register.is)
      (found-held old new c.args.actor.now c.in-Register.inventory c.inventory_rows.result (c.inventory_rows.ensures.told now));
}
