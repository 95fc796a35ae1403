use Rattle.std.proofs.Common.{◌∙◌, ◌&&◌, ◌++◌, ap, arith, map, sym, string_bytes}
use Rattle.std.proofs.lemmas.Grind.{common_steps}
use Rattle.std.proofs.lemmas.List.Elements.{filter_map-append}
use Rattle.std.proofs.lemmas.Map.Iter.{iter_end}
use Rattle.std.specs.List.{filter_map, list_all}
use Rattle.std.specs.Map.Iter.{deref}
use Rattle.fr_base.specs.Forms.{fields_of}
use Rattle.fr_text.proofs.FieldsLemmas.{list_all-names_of, names_of-members_view}
use Rattle.fr_text.specs.Faults.{are_none}
use Rattle.fr_text.specs.Fields.{is_among, names_in, only}
use Rattle.fr_text.specs.Flaws.{flaw_of, stranger}
use Rattle.fr_text.proofs.field_faults.add_unknown.Goals as goal

pub loop-name-preserved : goal.loop-name-preserved
loop-name-preserved c = grind (arith, common_steps, filter_map-append)

pub loop-name-preserved-in-Continue-1 : goal.loop-name-preserved-in-Continue-1
loop-name-preserved-in-Continue-1 c = grind (arith, common_steps, filter_map-append)

pub returns : goal.returns
unfolding only
returns c =
    let known = names_in (fields_of c.args.form.now) in
    let start = c.into_iter-name-iterator.ensures.into_iter_gives ∙ c.keys-name-items.ensures.rest in
    let whole = (iter_end deref _ c.loop-name.yielded _ c.loop-name.name-iterator c.next.new.self c.next.result start c.loop-name.yielded_by c.in-None.is c.next.ensures.steps).0 in
    record {
      none = c.loop-name.invariant.none ∙ ap (λ keys. are_none c.args.faults.now.items && list_all (λ key. is_among known (string_bytes key)) keys) whole
          ∙ ap (λ b. are_none c.args.faults.now.items && b) (sym (list_all-names_of (is_among known) c.args.fields.now.entries));
      which = c.loop-name.invariant.which ∙ ap (λ keys. map flaw_of c.args.faults.now.items ++ filter_map (stranger known) (map string_bytes keys)) whole
          ∙ ap (λ names. map flaw_of c.args.faults.now.items ++ filter_map (stranger known) names) (sym (names_of-members_view c.args.fields.now.entries));
    }
