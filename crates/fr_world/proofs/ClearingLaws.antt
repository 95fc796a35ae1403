-- The names and the rows of a page's frames, in order.
use Rattle.std.proofs.Common.{◌≡◌, List, [], ◌∷◌, map, refl, sym, ap, ◌∙◌}
use Rattle.std.specs.List.Sorted.{IsStrictlySortedBy}
use Rattle.std.specs.Map.{keys_of}
use Rattle.fr_base.specs.Book.{Frame}
use Rattle.fr_base.specs.Keys.{owned}
use Rattle.fr_base.specs.declared.name.Name.{Name}
use Rattle.fr_world.specs.declared.page.PageFrame.{PageFrame}
use Rattle.fr_world.specs.Pages.{FrameData, PageData, frame_data, frame_of, frames_data, own_rows_of}
use Rattle.fr_world.proofs.KeyLaws.{frames_rise, name_cmp, own_alike}
use Rattle.fr_world.proofs.MapLaws.{rows-table_of}

-- the names of entries
abbrev pub names_in : List (Name × PageFrame) → List Name
names_in es = map (λ e. e.0) es

names-data : (es : List (Name × PageFrame)) → map (λ e. e.0) (frames_data es) ≡ names_in es
names-data [] = refl
names-data (e ∷ es) = ap (λ l. e.0 ∷ l) (names-data es)

names-rows : (s : Name) (es : List (Name × FrameData)) → map {A = (Name × Name) × Frame} (λ row. row.0.1) (map (λ e. ((s, e.0), frame_of e.1)) es) ≡ map (λ e. e.0) es
names-rows s [] = refl
names-rows s (e ∷ es) = ap (λ l. e.0 ∷ l) (names-rows s es)

-- those of the page's map are those of its rows
pub page_names : (rows : PageData) (es : List (Name × PageFrame)) → frames_data es ≡ rows.frames → IsStrictlySortedBy name_cmp (keys_of es) → map (λ row. row.0.1) (own_rows_of rows).frames.rows ≡ names_in es
page_names rows es e h =
    ap (map (λ row. row.0.1)) (rows-table_of name_cmp owned (λ f. (rows.supplier, f)) frame_of (own_alike rows.supplier) rows.frames (frames_rise es rows.frames e h))
    ∙ names-rows rows.supplier rows.frames
    ∙ ap (map (λ e. e.0)) (sym e)
    ∙ names-data es

-- the rows of entries
abbrev pub entry_rows : Name → List (Name × PageFrame) → List ((Name × Name) × Frame)
entry_rows s es = map (λ e. ((s, e.0), frame_of (frame_data e.1))) es

rows-data : (s : Name) (es : List (Name × PageFrame)) → map {B = (Name × Name) × Frame} (λ e. ((s, e.0), frame_of e.1)) (frames_data es) ≡ entry_rows s es
rows-data s [] = refl
rows-data s (e ∷ es) = ap (λ l. ((s, e.0), frame_of (frame_data e.1)) ∷ l) (rows-data s es)

-- those of the page's map are the page's rows
pub page_rows : (rows : PageData) (es : List (Name × PageFrame)) → frames_data es ≡ rows.frames → IsStrictlySortedBy name_cmp (keys_of es) → (own_rows_of rows).frames.rows ≡ entry_rows rows.supplier es
page_rows rows es e h =
    rows-table_of name_cmp owned (λ f. (rows.supplier, f)) frame_of (own_alike rows.supplier) rows.frames (frames_rise es rows.frames e h)
    ∙ ap (map (λ e. ((rows.supplier, e.0), frame_of e.1))) (sym e)
    ∙ rows-data rows.supplier es
