-- There is a fault exactly where there was one, or one of the fields up to here is not of its kind. The faults are those of
-- before, and those of the fields up to here.
use Rattle.std.proofs.Common.{◌≡◌, ◌&&◌, ◌++◌, map, take}
use Rattle.std.specs.List.{filter_map, list_all}
use Rattle.fr_base.specs.Forms.{field_in}
use Rattle.fr_text.specs.Faults.{are_none}
use Rattle.fr_text.specs.Fields.{fields_in, has_field}
use Rattle.fr_text.specs.Flaws.{flaw_in, flaw_of}
use Rattle.fr_text.proofs.field_faults.add_bad.Given as goal

abbrev pub invariant-loop-asked : goal.invariant-loop-asked
invariant-loop-asked l = record {
  none : are_none l.faults.items ≡ (are_none l.fn.faults.items && list_all (has_field (fields_in l.fields)) (map field_in (take l.asked-index l.asked-items)));
  which : map flaw_of l.faults.items ≡ map flaw_of l.fn.faults.items ++ filter_map (flaw_in (fields_in l.fields)) (map field_in (take l.asked-index l.asked-items));
}
