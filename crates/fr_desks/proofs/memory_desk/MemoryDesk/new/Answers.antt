use Rattle.std.proofs.Common.{◌∙◌, sym}
use Rattle.sqlite.specs.Files.{file_state}
use Rattle.fr_base.specs.Book.{opening}
use Rattle.fr_base.proofs.SuppliersLaws.{file_of-opening}
use Rattle.fr_store.specs.Stored.{StandsStored}
use Rattle.fr_desks.proofs.memory_desk.MemoryDesk.new.Goals as goal

pub returns-clause-stands : goal.returns-clause-stands
returns-clause-stands c =
    let store = c.in_ok-store.store in
    let file = c.args.config.now in
    let stands : StandsStored store.config (file_state store.conn) file.cluster (opening file) = record {
      config = c.in_ok-store.ensures.config ∙ sym (file_of-opening file c.params-formed.ensures.formed.cluster);
      rows = λ _. (c.in_ok-store.ensures.stands, c.in_ok-store.ensures.committed);
    } in
    c.new-office.ensures.stands file.cluster (opening file) stands
