-- Room: whether there is room for a delivered file. How a new import is decided: its variant is there and open,
-- there is room, and then its rows are decided on the supplier's page.
use Rattle.std.specs.Prelude.{ℕ, ◌&&◌, Bool, true, false, length, nat_le, nat_lt, Result, Ok, ⊤}
use Rattle.fr_base.specs.Refusing.{◌>>=◌, ◌>>◌, ◌or◌, refuse◌when◌}
use Rattle.fr_base.specs.Tables.{get, len}
use Rattle.fr_base.specs.Book.{Variant, Book, own}
use Rattle.fr_base.specs.ImportRows.{rows_of_body}
use Rattle.fr_base.specs.Step.{Outcome, imported}
use Rattle.fr_base.specs.declared.limits.TheConstants.{MAX_IMPORTS, MAX_IMPORT_BYTES}
use Rattle.fr_base.specs.declared.name.Name.{Name}
use Rattle.fr_base.specs.declared.params.Params.{Params}
use Rattle.fr_base.specs.declared.refusal.Refusal.{Refusal}
use Rattle.fr_base.specs.declared.refusal.Refusal.TheVariants.{NoVariant, Released, Limit}
use Rattle.fr_base.specs.declared.delivery.Delivery.{Delivery}
use Rattle.fr_base.specs.declared.delivery.Purpose.{Purpose}
use Rattle.fr_base.specs.declared.delivery.Purpose.TheVariants.{Import}
use Rattle.fr_world.specs.BookEdits.{all_applied}
use Rattle.fr_world.specs.Pages.{page_in}
use Rattle.fr_world.specs.RowDecisions.{rows_decision}

abbrev pub is_import : {N : Type 0} → Purpose N → Bool
is_import (Import label) = true
is_import _ = false

-- whether there is room for the file, where its supplier keeps so many imports; these limit a new import alone
unfoldable pub file_room : Delivery → Purpose Name → ℕ → Result ⊤ Refusal
file_room d how kept = do
  refuse Limit when nat_lt MAX_IMPORT_BYTES (length d.body)
  refuse Limit when is_import how && nat_le MAX_IMPORTS kept

-- the decision on the import in this variant, by the decision on its rows on the supplier's page
abbrev pub page_import : Params → Book → Delivery → Name → Variant → Outcome
page_import p b d label x =
    let rows = rows_of_body p d.body in
    imported b d label (length rows) (rows_decision (page_in p b d.supplier d.variant x) rows >>= λ edits. Ok (all_applied b edits))

-- the decision on a new import: its variant is there and open, there is room for it, and then its
-- rows
unfoldable pub new_import : Params → Book → Delivery → Name → Result Outcome Refusal
new_import p b d label = do
  x ← get b.variants d.variant or NoVariant
  refuse Released when x.released
  file_room d (Import label) (len (own d.supplier b.imports))
  Ok (page_import p b d label x)
