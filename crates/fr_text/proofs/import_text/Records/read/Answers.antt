use Rattle.std.proofs.Common.{◌∙◌, sym, refl}
use Rattle.csv.specs.Records.{fields_of}
use Rattle.fr_text.proofs.ImportTextLemmas.{read-gives}
use Rattle.fr_text.proofs.import_text.Records.read.Goals as goal
use Rattle.fr_text.proofs.import_text.Records.read.Goals.{in-Ok, in-Err}

pub returns : goal.returns
returns c =
    elim c.match-read_byte_record.branch [
      | in-Ok w ↦ rw w.result-is (
          sym c.self.view_is
          ∙ read-gives c.self.inside.reader c.read_byte_record.new.self (fields_of c.read_byte_record.new.row) c.read_byte_record.result w.in-Ok.found
          w.in-Ok.is c.self.invariant c.read_byte_record.ensures.failed w.in-Ok.ensures.reads)
      | in-Err w ↦ rw w.result-is refl
    ]
