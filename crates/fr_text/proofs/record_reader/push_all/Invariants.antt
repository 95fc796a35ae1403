use Rattle.std.proofs.Common.{◌≡◌, ◌++◌, ◌-◌, take}
use Rattle.fr_text.specs.ImportText.{lines_from}
use Rattle.fr_text.proofs.record_reader.push_all.Given as goal

-- what was read so far, and what the records left are, to the one that is too many
abbrev pub invariant-loop-line : goal.invariant-loop-line
invariant-loop-line g l = l.list ++ take (515 - l.line) (lines_from (g.R.RecordReader.reads l.reader) l.line l.records) ≡ l.fn.list ++ take 513 (lines_from (g.R.RecordReader.reads l.reader) 2 l.fn.records)
