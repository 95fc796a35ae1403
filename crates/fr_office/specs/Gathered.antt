-- Gathered: what comes of a supplier's page that something is gathered from.
use Rattle.std.specs.List.{flat_map}
use Rattle.std.specs.Prelude.{◌≡◌, ◌==◌, List, [], ◌∷◌, ◌++◌, length, map, not}
use Rattle.fr_base.specs.Book.{Frame, Variant, own, own_grants}
use Rattle.fr_base.specs.Queries.{named, signals_of}
use Rattle.fr_base.specs.declared.name.Name.{Name}
use Rattle.fr_base.specs.declared.params.Params.{Params}
use Rattle.fr_office.specs.Shown.{frames_named}
use Rattle.fr_office.specs.declared.queries.exports.PartRows.{PartRows}
use Rattle.fr_office.specs.declared.queries.layout.NamedSignals.{NamedSignals}
use Rattle.fr_world.specs.Pages.{PageData, own_rows_of}
use Rattle.fr_world.specs.Parts.{in_part}

-- The page has its supplier's grants and frames in the variant.
pub record IsPageOf (x : Variant) (page : PageData) : Type 0 where
  pub grants : (own_rows_of page).grants ≡ own_grants page.supplier x.grants
  pub frames : (own_rows_of page).frames ≡ own page.supplier x.frames

-- Whatever was gathered from suppliers' rows of a variant that the page is of, is after it gathered from the rows of the
-- page's supplier too.
abbrev pub Takes : {G : Type 0} → (Params → G → List Name → Variant → G → Type 0) → PageData → G → G → Type 0
Takes {G} gathered page old new =
    (first : G) (ss : List Name) (x : Variant) → IsPageOf x page → gathered page.params first ss x old → gathered page.params first (ss ++ page.supplier ∷ []) x new

-- The signals of these suppliers' frames of this name in the variant, supplier after supplier, and whether there is such a
-- frame.
pub record AreNamed (f : Name) (ss : List Name) (x : Variant) (signals : NamedSignals) : Type 0 where
  pub name : signals.name ≡ f
  pub rows : signals.rows ≡ flat_map (λ s. signals_of (named f (own s x.frames))) ss
  pub found : not signals.found ≡ (length (frames_named f ss x) == 0)

-- With what follows, whatever it is, the rows now and what of the part is still to come are the rows before these suppliers'
-- frames and the part of these frames and of what follows.
abbrev pub IsPartOf : {T : Type 0} → ((Name × Name) × Frame → List T) → Params → PartRows T → List Name → Variant → PartRows T → Type 0
IsPartOf {T} records p first ss x now =
    (rest : List (List T)) → now.rows ++ in_part now.part rest ≡ first.rows ++ in_part first.part (map records (flat_map (λ s. (own s x.frames).rows) ss) ++ rest)
