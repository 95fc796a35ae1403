use Rattle.std.proofs.Common.{◌∙◌, [], ◌∷◌, subst, sym}
use Rattle.sqlite.specs.Files.{file_state}
use Rattle.sqlite.specs.State.{HasCleanDisk}
use Rattle.sqlite_wal.specs.Files.{image_at}
use Rattle.fr_base.specs.Book.{opening}
use Rattle.fr_base.proofs.SuppliersLaws.{file_of-opening}
use Rattle.fr_office.proofs.CrashedLaws.{kept_alone}
use Rattle.fr_store.specs.Crashes.{StoredLeaves}
use Rattle.fr_store.specs.Stored.{StandsStored}
use Rattle.fr_store.proofs.RefusedLemmas.{not_closed_if_not_made}
use Rattle.fr_desks.proofs.file_desk.new_desk.Goals as goal

pub returns-in-Ok-clause-leaves : goal.returns-in-Ok-clause-leaves
returns-in-Ok-clause-leaves g c clean =
    let store = c.in-Ok.store in
    let file = c.args.config.now in
    let made = c.in-Ok.ensures.made (subst (λ w. HasCleanDisk (file_state w.records.conn)) c.new.ensures.value clean) in
    let left : StoredLeaves (file_state store.conn) file.cluster (opening file ∷ []) = record {
      rows = λ _. (made.stands.has, made.committed);
      left = made.durable;
    } in
    subst (λ w. StoredLeaves (file_state w.records.conn) file.cluster (opening file ∷ [])) (sym c.new.ensures.value) left

pub returns-in-Ok-clause-stands : goal.returns-in-Ok-clause-stands
returns-in-Ok-clause-stands g c clean =
    let store = c.in-Ok.store in
    let file = c.args.config.now in
    let kept = subst (λ w. HasCleanDisk (file_state w.records.conn)) c.new.ensures.value clean in
    let made = c.in-Ok.ensures.made kept in
    let stands : StandsStored store.config (file_state store.conn) file.cluster (opening file) = record {
      config = c.in-Ok.ensures.config ∙ sym (file_of-opening file c.params-formed.ensures.formed.cluster);
      rows = λ _. (made.stands, made.committed);
    } in
    (c.new.ensures.stands file.cluster (opening file) stands, kept_alone file.cluster (opening file) _ (returns-in-Ok-clause-leaves g c clean))

pub returns-in-Ok-clause-bare : goal.returns-in-Ok-clause-bare
returns-in-Ok-clause-bare g c clean = (c.in-Ok.ensures.made (subst (λ w. HasCleanDisk (file_state w.records.conn)) c.new.ensures.value clean)).bare

pub returns-in-Err-clause-refused : goal.returns-in-Err-clause-refused
returns-in-Err-clause-refused g c = not_closed_if_not_made c.args.config.now (image_at g.S.Start) c.in-Err.refused.0 c.in-Err.refused.1 c.in-Err.ensures.refused
