-- There is a fault exactly where there was one, or the form has not one of the fields up to here. The faults are those of
-- before, and those of the fields up to here.
use Rattle.std.proofs.Common.{◌≡◌, ◌&&◌, ◌++◌, map, string_bytes}
use Rattle.std.specs.List.{filter_map, list_all}
use Rattle.std.specs.Map.Iter.{deref}
use Rattle.fr_base.specs.Forms.{fields_of}
use Rattle.fr_text.specs.Faults.{are_none}
use Rattle.fr_text.specs.Fields.{is_among, names_in}
use Rattle.fr_text.specs.Flaws.{flaw_of, stranger}
use Rattle.fr_text.proofs.field_faults.add_unknown.Given as goal

abbrev pub invariant-loop-name : goal.invariant-loop-name
invariant-loop-name l = record {
  none : are_none l.faults.items
      ≡ (are_none l.fn.faults.items && list_all (λ key. is_among (names_in (fields_of l.form)) (string_bytes key)) (map deref l.yielded));
  which : map flaw_of l.faults.items
      ≡ map flaw_of l.fn.faults.items ++ filter_map (stranger (names_in (fields_of l.form))) (map string_bytes (map deref l.yielded));
}
