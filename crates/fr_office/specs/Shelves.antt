-- Shelf: when pages stand by supplier and variant, and their bytes are counted.
use Rattle.std.specs.Prelude.{◌≡◌, ℕ, ◌≤◌, List, All, sum_by}
use Rattle.std.specs.Map.{values_of}
use Rattle.fr_world.specs.Pages.{PageData}
use Rattle.fr_office.specs.KeptPages.{bytes_of}
use Rattle.fr_office.specs.declared.shelf.PageKey.{PageKey}
use Rattle.fr_office.specs.declared.shelf.TheConstants.{COUNTED_BYTES}

-- whose page it is: the supplier and the variant
abbrev pub key_of : PageData → PageKey
key_of page = record { supplier = page.supplier; variant = page.variant }

-- the page stands under its supplier and variant
abbrev pub IsKeyed : PageKey × PageData → Type 0
IsKeyed e = e.0 ≡ key_of e.1

-- each page stands under its supplier and variant; all together take so many bytes at most, which
-- can be counted
pub record IsShelf (entries : List (PageKey × PageData)) (bytes : ℕ) : Type 0 where
  pub keyed : All IsKeyed entries
  pub counted : bytes ≡ sum_by bytes_of (values_of entries)
  pub bound : bytes ≤ COUNTED_BYTES
