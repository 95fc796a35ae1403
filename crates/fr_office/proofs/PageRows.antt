-- What queries show of a page's rows.
use Rattle.std.proofs.Common.{◌≡◌, ℕ, All, List, [], ◌∷◌, map, refl, sym, ap, subst, ◌∙◌}
use Rattle.std.proofs.lemmas.List.Concat.{flat_map_single}
use Rattle.std.specs.List.{flat_map}
use Rattle.std.specs.List.Sorted.{IsStrictlySortedBy}
use Rattle.std.specs.Map.{keys_of}
use Rattle.fr_base.specs.Book as book
use Rattle.fr_base.specs.Cells.{cluster_cells}
use Rattle.fr_base.specs.Keys.{owned}
use Rattle.fr_base.specs.Queries.{frame_row, frames_of, gap_row, gaps_of, sendings_of}
use Rattle.fr_base.specs.Tables.{Table, get}
use Rattle.fr_base.specs.declared.channel.Channel.{Channel}
use Rattle.fr_base.specs.declared.name.Name.{Name}
use Rattle.fr_base.specs.declared.params.Params.{Params}
use Rattle.fr_base.specs.declared.placement.Placement.{Placement}
use Rattle.fr_world.specs.Pages.{IsKept, IsPageFrame, PageData, frame_data, frame_of, frames_data, holder_of, own_rows_of}
use Rattle.fr_world.specs.Sendings.{sent_in}
use Rattle.fr_world.specs.declared.page.ChannelSlot.{ChannelSlot}
use Rattle.fr_world.specs.declared.page.PageFrame.{PageFrame}
use Rattle.fr_world.proofs.AmongLaws.{In, In-map}
use Rattle.fr_world.proofs.ApartLaws.{In-All, In-find}
use Rattle.fr_world.proofs.KeyLaws.{name_cmp, own_alike, frames_rise}
use Rattle.fr_world.proofs.MapLaws.{rows-table_of}
use Rattle.fr_office.proofs.ShownLaws.{flat-map}

-- ---- frames

abbrev pub FrameEntry : Type 0
FrameEntry = (Name × Name) × book.Frame

-- a supplier's frame in the map as the register's
abbrev pub entry : Name → Name × PageFrame → FrameEntry
entry s e = ((s, e.0), frame_of (frame_data e.1))

-- what is made of the frames
abbrev pub frames_shown : {R : Type 0} → (FrameEntry → List R) → Name → List (Name × PageFrame) → List R
frames_shown f s es = flat_map (λ e. f (entry s e)) es

entries-data : (s : Name) (es : List (Name × PageFrame)) → map {B = FrameEntry} (λ e. ((s, e.0), frame_of e.1)) (frames_data es) ≡ map (entry s) es
entries-data s [] = refl
entries-data s (e ∷ es) = ap (λ rest. entry s e ∷ rest) (entries-data s es)

module _ (page : PageData) (es : List (Name × PageFrame)) (e : frames_data es ≡ page.frames) (h : IsStrictlySortedBy name_cmp (keys_of es)) where
  pub rows-page : (own_rows_of page).frames.rows ≡ map (entry page.supplier) es
  rows-page =
      rows-table_of name_cmp owned (λ f. (page.supplier, f)) frame_of (own_alike page.supplier) page.frames (frames_rise es page.frames e h)
      ∙ ap (map {B = FrameEntry} (λ e. ((page.supplier, e.0), frame_of e.1))) (sym e)
      ∙ entries-data page.supplier es

  pub shown-page : {R : Type 0} (f : FrameEntry → List R) → frames_shown f page.supplier es ≡ flat_map f (own_rows_of page).frames.rows
  shown-page f = sym (flat-map f (entry page.supplier) es) ∙ ap (flat_map f) (sym rows-page)

  pub frames-page : frames_shown (λ e. frame_row e ∷ []) page.supplier es ≡ frames_of (own_rows_of page).frames
  unfolding frames_of
  frames-page = shown-page (λ e. frame_row e ∷ []) ∙ (flat_map_single frame_row (own_rows_of page).frames.rows)

  pub gaps-page : (p : Params) → frames_shown (λ e. gap_row p e ∷ []) page.supplier es ≡ gaps_of p (own_rows_of page).frames
  unfolding gaps_of
  gaps-page p = shown-page (λ e. gap_row p e ∷ []) ∙ (flat_map_single (gap_row p) (own_rows_of page).frames.rows)

  -- each of them is a page's frame
  pub kept-frames : IsKept page → All (λ e. IsPageFrame (own_rows_of page) (entry page.supplier e).1) es
  unfolding get
  kept-frames kept =
      let t : Table owned book.Frame = (own_rows_of page).frames in
      In-All _ es (λ e i.
      kept.page.each (page.supplier, e.0) (entry page.supplier e).1
      (In-find owned t.rows (entry page.supplier e) t.sorted (subst (λ rs. In (entry page.supplier e) rs) (sym rows-page) (In-map (entry page.supplier) e es i))))

pub sendings-sent : (p : Params) (frames : Table owned book.Frame) (fs : List (book.Sender × Placement)) → fs ≡ book.placements_of frames → sent_in fs (cluster_cells p) ≡ sendings_of p frames
unfolding sendings_of sent_in book.schedule_of
sendings-sent p frames fs e = ap (λ gs. sent_in gs (cluster_cells p)) e

-- ---- grants

abbrev pub grant_entry : Name → ChannelSlot × Name → (ℕ × Channel) × book.Holder
grant_entry s e = ((e.0.slot, e.0.channel), holder_of s e.1)
