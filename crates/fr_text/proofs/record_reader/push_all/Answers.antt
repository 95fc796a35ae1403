use Rattle.std.proofs.Common.{◌≡◌, ◌∙◌, ◌+◌, ◌-◌, ◌++◌, ◌∷◌, [], List, take, refl, ap, rules, arith}
use Rattle.csv.specs.Records.{fields_of}
use Rattle.fr_text.specs.ImportText.{lines_from}
use Rattle.fr_text.proofs.RecordReading.{lines-done, lines-more, lines-over}
use Rattle.fr_text.proofs.record_reader.push_all.Goals as goal

pub loop-line-init : goal.loop-line-init
loop-line-init g c = refl

pub returns-then-not-branch : goal.returns-then-not-branch
returns-then-not-branch g c =
    let none : c.loop-line.records ≡ [] = search rules in
    lines-done (g.R.RecordReader.reads c.args.reader.now) c.loop-line.line c.loop-line.list c.loop-line.records _ c.loop-line.invariant none

pub loop-line-preserved : goal.loop-line-preserved
loop-line-preserved g c =
    let reads = g.R.RecordReader.reads c.args.reader.now in
    let fields = fields_of c.read.new.fields in
    let line = c.loop-line.line in
    let some : c.loop-line.records ≡ fields ∷ c.read.new.self = search rules in
    let pushed : _ ≡ c.loop-line.list ++ reads line fields ∷ [] = search rules in
    ap (λ list. list ++ take (515 - (line + 1)) (lines_from reads (line + 1) c.read.new.self)) pushed
    ∙ lines-more reads line c.loop-line.list c.loop-line.records _ c.loop-line.invariant fields c.read.new.self some (omega arith)

pub returns : goal.returns
returns g c = lines-over (g.R.RecordReader.reads c.args.reader.now) c.loop-line.line c.loop-line.list c.loop-line.records _ c.loop-line.invariant (omega arith)
