use Rattle.std.proofs.Common.{◌∙◌, sym, add-one, arith}
use Rattle.csv.specs.Records.{fields_of}
use Rattle.fr_text.proofs.ImportTextLemmas.{named-same, named-other, named-gone}
use Rattle.fr_text.proofs.import_text.has_fields.Goals as goal

pub returns-in_default : goal.returns-in_default
returns-in_default c =
    sym (named-gone (fields_of c.args.fields.now) c.args.names.now c.loop-place.place (sym c.in_default.ensures.value) (omega arith)) ∙ c.loop-place.invariant

pub returns-then-ne : goal.returns-then-ne
returns-then-ne c =
    sym (named-other (fields_of c.args.fields.now) c.args.names.now c.loop-place.place c.in-Some.field.now c.as_bytes.result.now _
    (sym c.in-Some.ensures.value) (omega arith) c.as_bytes.ensures.value (sym c.ne.ensures ∙ c.if-ne.true))
    ∙ c.loop-place.invariant

pub loop-place-preserved : goal.loop-place-preserved
loop-place-preserved c =
    rw add-one (
    sym (named-same (fields_of c.args.fields.now) c.args.names.now c.loop-place.place c.in-Some.field.now c.as_bytes.result.now _
    (sym c.in-Some.ensures.value) (omega arith) c.as_bytes.ensures.value (sym c.ne.ensures ∙ c.if-ne.false))
    ∙ c.loop-place.invariant)
