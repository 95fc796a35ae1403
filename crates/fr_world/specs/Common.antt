-- Common: which edit opens or releases a variant, by the list of variants; or what refuses it.
use Rattle.std.specs.Prelude.{ℕ, suc, not, List, length, find, nat_le, Option, Some, None, is_some, Result, Ok, ⊤}
use Rattle.fr_base.specs.Refusing.{◌>>=◌, ◌>>◌, ◌or◌, refuse◌when◌}
use Rattle.fr_base.specs.Names.{same_text}
use Rattle.fr_base.specs.declared.limits.TheConstants.{MAX_VARIANTS, MAX_DEPTH}
use Rattle.fr_base.specs.declared.name.Name.{Name}
use Rattle.fr_base.specs.declared.refusal.Refusal.{Refusal}
use Rattle.fr_base.specs.declared.refusal.Refusal.TheVariants.{NoVariant, Released, NotReleased, TooDeep, Exists, Limit}
use Rattle.fr_base.specs.declared.beginning.Beginning.{Beginning}
use Rattle.fr_base.specs.declared.beginning.Beginning.TheVariants.{Empty, From, Flat}
use Rattle.fr_base.specs.declared.request.CommonCommand.{CommonCommand}
use Rattle.fr_base.specs.declared.request.CommonCommand.TheVariants.{OpenVariant, Release}
use Rattle.fr_base.specs.declared.answer.VariantRow.{VariantRow}
use Rattle.fr_world.specs.declared.edit.Edit.{Edit}
use Rattle.fr_world.specs.declared.edit.Edit.TheVariants.{NewVariant, NewFlat, SetReleased}

-- the variant of this name
abbrev pub row_of : List VariantRow → Name → Option VariantRow
row_of variants v = find (λ row. same_text row.variant v) variants

-- the depth of a variant that is opened from this parent, or from none
unfoldable pub depth_after : List VariantRow → Option Name → Result ℕ Refusal
depth_after variants None = Ok 1
depth_after variants (Some parent) = do
  row ← row_of variants parent or NoVariant
  refuse NotReleased when not row.released
  refuse TooDeep when nat_le MAX_DEPTH row.depth
  Ok (suc row.depth)

-- the first refusal of a variant that is opened flat from this one, or none
unfoldable pub allows_flat : List VariantRow → Name → Result ⊤ Refusal
allows_flat variants from = do
  row ← row_of variants from or NoVariant
  refuse NotReleased when not row.released

-- the edit that opens a variant, or the first refusal by what it begins with
unfoldable pub opening : List VariantRow → Name → Beginning Name → Result Edit Refusal
opening variants v Empty = Ok (NewVariant v None 1)
opening variants v (From parent) = do
  depth ← depth_after variants (Some parent)
  Ok (NewVariant v (Some parent) depth)
opening variants v (Flat from) = do
  allows_flat variants from
  Ok (NewFlat v from)

-- the edit that opens or releases a variant, or the first refusal
unfoldable pub common_edit : List VariantRow → CommonCommand → Result Edit Refusal
common_edit variants (OpenVariant v beginning) = do
  edit ← opening variants v beginning
  refuse Exists when is_some (row_of variants v)
  refuse Limit when nat_le MAX_VARIANTS (length variants)
  Ok edit
common_edit variants (Release v) = do
  row ← row_of variants v or NoVariant
  refuse Released when row.released
  Ok (SetReleased v)
