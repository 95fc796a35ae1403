-- The suppliers that a list of their texts stands for.
use Rattle.std.specs.Prelude.{List, map}
use Rattle.fr_base.specs.declared.config.Supplier.{Supplier}
use Rattle.fr_text.specs.declared.cluster_file.SupplierText.{SupplierText}

abbrev pub supplier_of : SupplierText → Supplier
supplier_of s = record { name = s.name.now; key = s.key.now }

abbrev pub suppliers_of : List SupplierText → List Supplier
suppliers_of texts = map supplier_of texts
