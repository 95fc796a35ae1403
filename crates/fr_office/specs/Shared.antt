-- The grants and placements that several suppliers have in a variant.
use Rattle.std.specs.Prelude.{List, [], ◌∷◌}
use Rattle.std.specs.List.{flat_map, list_any}
use Rattle.fr_base.specs.Book as book
use Rattle.fr_base.specs.Book.{Sender, Variant, own, placements_of}
use Rattle.fr_base.specs.Keys.{channel_slots}
use Rattle.fr_base.specs.Names.{same_text}
use Rattle.fr_base.specs.Tables.{Order, Table, insert, only}
use Rattle.fr_base.specs.declared.name.Name.{Name}
use Rattle.fr_base.specs.declared.placement.Placement.{Placement}

-- the grants that these suppliers hold
unfoldable pub grants_among : List Name → Table channel_slots book.Holder → Table channel_slots book.Holder
grants_among ss grants = only (λ _ h. list_any (same_text h.supplier) ss) grants

-- the placements of these suppliers' frames in the variant, each with its sender, supplier after
-- supplier
abbrev pub placements_among : List Name → Variant → List (Sender × Placement)
placements_among ss x = flat_map (λ s. placements_of (own s x.frames)) ss

-- the table with these rows put in, each in place of the row at its key
abbrev pub with_rows : {K V : Type 0} {o : Order K} → Table o V → List (K × V) → Table o V
with_rows t [] = t
with_rows t (e ∷ es) = with_rows (insert t e.0 e.1) es
