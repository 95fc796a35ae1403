use Rattle.std.proofs.Common.{◌≡◌, false, ap, inl, inr, rules}
use Rattle.fr_base.specs.Book.{own}
use Rattle.fr_base.specs.Tables.{len}
use Rattle.fr_world.proofs.ReadLaws.{reads_none}
use Rattle.fr_world.specs.ImportLimits.{is_import}
use Rattle.fr_office.proofs.DeliveryLaws.{no_limit}
use Rattle.fr_office.proofs.deliveries.imports_kept.Goals as goal

pub returns-in-Replacement : goal.returns-in-Replacement
returns-in-Replacement g c =
    let d = c.args.delivery.now in
    let none : is_import d.how ≡ false = elim c.in-Replacement.is [
      | inl h ↦ ap is_import h.1
      | inr (inl h) ↦ ap is_import h.1
      | inr (inr h) ↦ ap is_import h.1
    ] in
    record {
      reads = search (rules, reads_none);
      told = λ clean cl b stood. (stood, no_limit d d.how 0 (len (own d.supplier b.imports)) none);
    }
