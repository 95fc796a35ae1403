use Rattle.std.proofs.Common.{◌≡◌, take, drop}
use Rattle.std.specs.List.{list_all}
use Rattle.fr_base.specs.Names.{is_name, is_key}
use Rattle.fr_text.specs.SupplierTexts.{suppliers_of}
use Rattle.fr_text.proofs.cluster_file.read_suppliers.Given as goal

-- the suppliers so far are read; the other texts have a fault where all have one
abbrev pub invariant-loop-text : goal.invariant-loop-text
invariant-loop-text l = record {
  read : l.suppliers ≡ suppliers_of (take l.text-index l.texts);
  names : list_all (λ text. is_name text.name.now) (drop l.text-index l.texts) ≡ list_all (λ text. is_name text.name.now) l.texts;
  keys : list_all (λ text. is_key text.key.now) (drop l.text-index l.texts) ≡ list_all (λ text. is_key text.key.now) l.texts;
}
