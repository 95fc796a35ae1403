-- Edit of the book: what edits make of all rows of the register, by the step's own words. One edit
-- keeps an import under its label. The list of variants. Which edits spare the grants of other
-- suppliers.
use Rattle.std.specs.Prelude.{◌≡◌, true, false, List, [], ◌∷◌, map, Option, Some, None, ⊤}
use Rattle.fr_base.specs.Alone.{is_another}
use Rattle.fr_base.specs.Tables.{get, insert}
use Rattle.fr_base.specs.Book.{Variant, Book, empty_variant}
use Rattle.fr_base.specs.Step.{with_variant, changed}
use Rattle.fr_base.specs.declared.name.Name.{Name}
use Rattle.fr_base.specs.declared.request.Change.{Change}
use Rattle.fr_base.specs.declared.request.Change.TheVariants.{Grant, Revoke}
use Rattle.fr_world.specs.declared.edit.Edit.{Edit}
use Rattle.fr_world.specs.declared.edit.Edit.TheVariants.{NewVariant, NewFlat, SetReleased, NewSupplier, SetKey, NewNode, Rows, KeepImport}
use Rattle.fr_base.specs.declared.answer.VariantRow.{VariantRow}

-- the variant, if it is there; else one that was opened empty
abbrev pub or_empty : Option Variant → Variant
or_empty None = empty_variant
or_empty (Some x) = x

-- the rows that a variant begins with: its parent's, or none
abbrev pub copied : Book → Option Name → Variant
copied b None = empty_variant
copied b (Some parent) = or_empty (get b.variants parent)

-- the book with a variant changed, if it is there
abbrev pub changed_at : Book → Name → (Variant → Variant) → Option Variant → Book
changed_at b v change None = b
changed_at b v change (Some x) = with_variant b v (change x)

abbrev pub change_variant : Book → Name → (Variant → Variant) → Book
change_variant b v change = changed_at b v change (get b.variants v)

-- the book after an edit
unfoldable pub applied : Book → Edit → Book
applied b (NewVariant v parent depth) = with_variant b v (record (copied b parent) { parent = parent; depth = depth; released = false })
applied b (NewFlat v from) = with_variant b v (record (copied b (Some from)) { parent = None; depth = 1; released = false })
applied b (SetReleased v) = change_variant b v (λ x. record x { released = true })
applied b (NewSupplier s key) = record b { suppliers = insert b.suppliers s key }
applied b (SetKey s key) = record b { suppliers = insert b.suppliers s key }
applied b (NewNode s n) = record b { nodes = insert b.nodes (s, n) tt }
applied b (Rows rows) = change_variant b rows.variant (changed rows.supplier rows.change)
applied b (KeepImport s label v body rows) =
    record b { imports = insert b.imports (s, label) (record { variant = v; body = body; rows = rows }) }

-- the book after edits, one after the other
abbrev pub all_applied : Book → List Edit → Book
all_applied b [] = b
all_applied b (edit ∷ edits) = all_applied (applied b edit) edits

-- Where a supplier's change grants a slot and channel, or ends such a grant, no other supplier holds
-- them in the variant.
abbrev pub ChangeSparesOthers : Name → Variant → Change → Type 0
ChangeSparesOthers s x (Grant slot channel node) = is_another s (get x.grants (slot, channel)) ≡ false
ChangeSparesOthers s x (Revoke slot channel) = is_another s (get x.grants (slot, channel)) ≡ false
ChangeSparesOthers s x _ = ⊤

-- The same of a supplier's edit.
abbrev pub SparesOthers : Name → Variant → Edit → Type 0
SparesOthers s x (Rows rows) = ChangeSparesOthers s x rows.change
SparesOthers s x _ = ⊤

-- the variants of the register, without the rows in them
unfoldable pub variants_in : Book → List VariantRow
variants_in b = map (λ e. record { variant = e.0; parent = e.1.parent; depth = e.1.depth; released = e.1.released }) b.variants.rows
