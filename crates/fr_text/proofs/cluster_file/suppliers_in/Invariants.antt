use Rattle.std.proofs.Common.{◌≡◌, List, ◌++◌, map}
use Rattle.toml.specs.View.{members_view}
use Rattle.toml.proofs.Views.{Entry}
use Rattle.fr_text.specs.ClusterFile.{suppliers_in}
use Rattle.fr_text.specs.SupplierTexts.{suppliers_of}
use Rattle.fr_text.proofs.ClusterFileLemmas.{prefixed, names_of}
use Rattle.fr_text.proofs.cluster_file.suppliers_in.Given as goal

-- the suppliers so far, and those of what is left, are those of the table; and the names so far are those of the map
abbrev pub invariant-loop-name : goal.invariant-loop-name
invariant-loop-name l = record {
  can : (goal.iterator-loop-name).can_next l.name-iterator;
  finite : (goal.iterator-loop-name).is_finite l.name-iterator;
  told : prefixed (suppliers_of l.texts.items) (suppliers_in (members_view l.name-iterator)) ≡ suppliers_in (members_view l.table.entries);
  done : List Entry;
  all : l.table.entries ≡ done ++ l.name-iterator;
  named : names_of done ≡ map (λ s. s.name) (suppliers_of l.texts.items);
}
