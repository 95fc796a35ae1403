-- What a page stands for while an import's rows change it, and which of its parts stay.
use Rattle.std.specs.Prelude.{◌≡◌}
use Rattle.fr_world.specs.Pages.{PageData, own_rows_of}
use Rattle.fr_world.specs.RowDecisions.{DraftData}
use Rattle.fr_world.specs.declared.decision.draft.Draft.{Draft}

abbrev pub draft_data : Draft → DraftData
draft_data d = record { variant = d.page.variant; released = d.page.released; page = own_rows_of d.page; edits = d.edits.items }

-- The page is the same supplier's, of the same variant, which is released or not as before.
pub record IsOfSame (page new : PageData) : Type 0 where
  pub supplier : new.supplier ≡ page.supplier
  pub variant : new.variant ≡ page.variant
  pub released : new.released ≡ page.released
