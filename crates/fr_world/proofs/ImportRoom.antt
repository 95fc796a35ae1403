-- An import whose label is new is decided by its variant, the limits, and then its rows on the supplier's page.
use Rattle.std.proofs.Common.{◌≡◌, Bool, true, false, Option, Some, None, Result, Ok, Err, IsTrue, length, refl, ap, ◌∙◌}
use Rattle.std.specs.Prelude.{⊤, nat_le, nat_lt}
use Rattle.fr_base.specs.Refusing.{◌>>=◌, ◌>>◌, ◌or◌, refuse◌when◌}
use Rattle.fr_base.specs.Tables.{get, contains, len}
use Rattle.fr_base.specs.Cluster.{Cluster}
use Rattle.fr_base.specs.Book.{Variant, Book, own}
use Rattle.fr_base.specs.ImportRows.{rows_of_body}
use Rattle.fr_base.specs.Sound.{IsSound}
use Rattle.fr_base.specs.Step.{import, import_rows, imported}
use Rattle.fr_base.specs.declared.limits.TheConstants.{MAX_IMPORTS, MAX_IMPORT_BYTES}
use Rattle.fr_base.specs.declared.name.Name.{Name}
use Rattle.fr_base.specs.declared.refusal.Refusal.{Refusal}
use Rattle.fr_base.specs.declared.refusal.Refusal.TheVariants.{NoVariant, Released, Limit}
use Rattle.fr_base.specs.declared.delivery.Delivery.{Delivery}
use Rattle.fr_base.specs.declared.delivery.Purpose.TheVariants.{Import}
use Rattle.fr_world.specs.ImportLimits.{file_room, new_import, page_import}
use Rattle.fr_world.proofs.RowsDecide.{rows-decide}

in_turn : {A : Type 0} (one two : Result ⊤ Refusal) (last : Result A Refusal) → (one >> (two >> last)) ≡ ((one >> two) >> last)
unfolding ◌>>◌
in_turn (Ok t) two last = refl
in_turn (Err e) two last = refl

module _ (c : Cluster) (b : Book) (i : Delivery) (label : Name) (sound : IsSound c b) (known : IsTrue (contains b.suppliers i.supplier)) where
  -- in a variant that is open, the rows are decided on its page
  rows-alike : (x : Variant) → get b.variants i.variant ≡ Some x → x.released ≡ false → import_rows c.params b i label (rows_of_body c.params i.body) ≡ page_import c.params b i label x
  rows-alike x there unreleased = ap (imported b i label (length (rows_of_body c.params i.body))) (rows-decide c b i.supplier i.variant x i.body sound there unreleased known)

  released-alike : (room : Result ⊤ Refusal) (x : Variant) (t : Bool) → get b.variants i.variant ≡ Some x → x.released ≡ t →
      ((refuse Released when t) >> (room >> Ok (import_rows c.params b i label (rows_of_body c.params i.body)))) ≡ ((refuse Released when t) >> (room >> Ok (page_import c.params b i label x)))
  unfolding refuse◌when◌ ◌>>◌
  released-alike room x true there released = refl
  released-alike room x false there unreleased = ap (λ o. room >> Ok o) (rows-alike x there unreleased)

  found-alike : (o : Option Variant) → get b.variants i.variant ≡ o →
      ((o or NoVariant) >>= λ x. (refuse Released when x.released) >> ((refuse Limit when nat_lt MAX_IMPORT_BYTES (length i.body)) >> ((refuse Limit when nat_le MAX_IMPORTS (len (own i.supplier b.imports))) >> Ok (import_rows c.params b i label (rows_of_body c.params i.body)))))
      ≡ ((o or NoVariant) >>= λ x. (refuse Released when x.released) >> (file_room i (Import label) (len (own i.supplier b.imports)) >> Ok (page_import c.params b i label x)))
  unfolding ◌or◌ ◌>>=◌ file_room
  found-alike None e = refl
  found-alike (Some x) e =
      ap (λ r. (refuse Released when x.released) >> r) (in_turn _ _ _) ∙ released-alike (file_room i (Import label) (len (own i.supplier b.imports))) x x.released e refl

  pub new-import-decides : import c.params b i label None ≡ new_import c.params b i label
  unfolding import new_import
  new-import-decides = found-alike (get b.variants i.variant) refl
