use Rattle.std.proofs.Common.{◌≡◌, drop}
use Rattle.csv.specs.Records.{fields_of}
use Rattle.fr_text.proofs.ImportTextLemmas.{are_named}
use Rattle.fr_text.proofs.import_text.has_fields.Given as goal

-- the fields so far have these names, so the others decide
abbrev pub invariant-loop-place : goal.invariant-loop-place
invariant-loop-place l = are_named (drop l.place (fields_of l.fields)) (drop l.place l.names) ≡ are_named (fields_of l.fields) l.names
