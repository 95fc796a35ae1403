-- A part of an export, as it is pushed page by page: its rows so far, with what of the part is still to come.
use Rattle.std.proofs.Common.{◌≡◌, ℕ, true, false, List, [], ◌∷◌, ◌++◌, length, map, Ok, sym, ap, ◌∙◌, append_assoc, append-nil}
use Rattle.std.specs.List.{flat_map}
use Rattle.std.proofs.lemmas.List.{map-append}
use Rattle.fr_base.specs.Book.{Variant, own}
use Rattle.fr_base.specs.Exports.{exported, frame_records, part_of, placement_records, signal_records}
use Rattle.fr_base.specs.declared.answer.FrameRecord.{FrameRecord}
use Rattle.fr_base.specs.declared.answer.PlacementRecord.{PlacementRecord}
use Rattle.fr_base.specs.declared.answer.SignalRecord.{SignalRecord}
use Rattle.fr_base.specs.declared.answer.ReportRows.TheVariants as shows
use Rattle.fr_base.specs.declared.import.Header.TheVariants.{Frames, Placements, Signals}
use Rattle.fr_base.specs.declared.name.Name.{Name}
use Rattle.fr_base.specs.declared.params.Params.{Params}
use Rattle.fr_world.specs.Held.{Standing}
use Rattle.fr_world.specs.Pages.{PageData, own_rows_of}
use Rattle.fr_world.specs.Parts.{after, begun, has_begun, in_part}
use Rattle.fr_world.specs.declared.page.PageFrame.{PageFrame}
use Rattle.fr_world.specs.declared.part.Part.{Part}
use Rattle.fr_world.proofs.PartLaws.{begun-all, none-left, passed, taken}
use Rattle.fr_office.specs.Shown.{Gathers}
use Rattle.fr_office.proofs.PageRows.{FrameEntry, entry}
use Rattle.fr_office.specs.Gathered.{IsPartOf, Takes}
use Rattle.fr_office.specs.declared.queries.exports.PartRows.{PartRows}
use Rattle.fr_office.proofs.GatherLaws.{flat-more}

-- ---- the frames of a page

-- With what follows, whatever it is, the rows now and what these frames still bring of the part are the rows before and what those
-- frames brought of it.
abbrev pub IsPushed : {R : Type 0} → List R → Part → List (List R) → List R → Part → List (List R) → Type 0
IsPushed now left frames old part all = (rest : List (List _)) → now ++ in_part left (frames ++ rest) ≡ old ++ in_part part (all ++ rest)

module _ {R : Type 0} (records : FrameEntry → List R) where
  -- the records of each frame of a supplier
  abbrev pub each_frame : Name → List (Name × PageFrame) → List (List R)
  each_frame s es = map records (map (entry s) es)

  module _ (s : Name) (e : Name × PageFrame) (rest left : List (Name × PageFrame)) (count : ℕ) (mid : List R) (part next : Part) (old : List R) (before : Part) (all : List (List R))
      (stepped : rest ≡ e ∷ left) (is : next ≡ after part count) (counted : count ≡ length (records (entry s e))) (so : IsPushed mid part (each_frame s rest) old before all) where
    -- a frame that the part takes
    pub pushed-taken : (new : List R) → has_begun next ≡ true → new ≡ mid ++ records (entry s e) → IsPushed new next (each_frame s left) old before all
    pushed-taken new begun pushed more =
        taken part next (records (entry s e)) (each_frame s left ++ more) count mid new is counted begun pushed
        ∙ ap (λ es. mid ++ in_part part (each_frame s es ++ more)) (sym stepped)
        ∙ so more

    -- one that it does not take
    pub pushed-passed : has_begun next ≡ false → IsPushed mid next (each_frame s left) old before all
    pushed-passed none more =
        passed part next (records (entry s e)) (each_frame s left ++ more) count mid is counted none
        ∙ ap (λ es. mid ++ in_part part (each_frame s es ++ more)) (sym stepped)
        ∙ so more

-- ---- the whole part

module _ {R : Type 0} where
  -- the rows behind the last frame are the part
  pushed-part : (number : ℕ) (frames : List (List R)) (rows : List R) (left : Part) → rows ++ in_part left [] ≡ in_part (begun number) (frames ++ []) → rows ≡ part_of number frames
  pushed-part number frames rows left so =
      sym (append-nil rows)
      ∙ ap (λ rest. rows ++ rest) (sym (none-left left))
      ∙ so
      ∙ ap (in_part (begun number)) (append-nil frames)
      ∙ begun-all number frames

-- ---- page by page

-- the frames of these suppliers in the variant, one supplier's after another's
abbrev pub frames_among : List Name → Variant → List FrameEntry
frames_among ss x = flat_map (λ s. (own s x.frames).rows) ss

-- the records of the page's frames that the part takes
pub takes-part : {R : Type 0} (records : FrameEntry → List R) (page : PageData) (old new : PartRows R) →
    ((rest : List (List R)) → new.rows ++ in_part new.part rest ≡ old.rows ++ in_part old.part (map records (own_rows_of page).frames.rows ++ rest)) → Takes (IsPartOf records) page old new
takes-part records page old new pushed first ss x has is rest =
    pushed rest
    ∙ (λ i. old.rows ++ in_part old.part (map records (has.frames i).rows ++ rest))
    ∙ is (map records (own page.supplier x.frames).rows ++ rest)
    ∙ ap (λ frames. first.rows ++ in_part first.part frames) (sym (append_assoc (map records (frames_among ss x)) (map records (own page.supplier x.frames).rows) rest) ∙ ap (λ fs. fs ++ rest) grown)
  where
    grown : map records (frames_among ss x) ++ map records (own page.supplier x.frames).rows ≡ map records (frames_among (ss ++ page.supplier ∷ []) x)
    grown =
        sym (map-append records (frames_among ss x) (own page.supplier x.frames).rows)
        ∙ ap (map records) (flat-more (λ s. (own s x.frames).rows) ss page.supplier)

-- after the last
pub part-ends : {R : Type 0} (records : FrameEntry → List R) (number : ℕ) (p : Params) (ss : List Name) (x : Variant) (first all : PartRows R) → first.part ≡ begun number → first.rows ≡ [] →
    IsPartOf records p first ss x all → all.rows ≡ part_of number (map records (frames_among ss x))
part-ends records number p ss x first all is none so =
    pushed-part number (map records (frames_among ss x)) all.rows all.part (so [] ∙ (λ i. none i ++ in_part (is i) (map records (frames_among ss x) ++ [])))

-- ---- the rows of the report

module _ (old new : Standing) (v : Name) (ss : List Name) (number : ℕ) where
  pub gathers-frames : (rows : List FrameRecord) → Gathers v (λ p x rows. rows ≡ part_of number (map frame_records (frames_among ss x))) old new (Ok rows)
      → Gathers v (λ p x rows. rows ≡ exported Frames number (frames_among ss x)) old new (Ok (shows.FrameRecords rows))
  unfolding exported
  gathers-frames rows gathers c b stood =
      let told = gathers c b stood in
      (told.0, λ x there. ap shows.FrameRecords (told.1 x there))

  pub gathers-placements : (rows : List PlacementRecord) → Gathers v (λ p x rows. rows ≡ part_of number (map placement_records (frames_among ss x))) old new (Ok rows)
      → Gathers v (λ p x rows. rows ≡ exported Placements number (frames_among ss x)) old new (Ok (shows.PlacementRecords rows))
  unfolding exported
  gathers-placements rows gathers c b stood =
      let told = gathers c b stood in
      (told.0, λ x there. ap shows.PlacementRecords (told.1 x there))

  pub gathers-signals : (rows : List SignalRecord) → Gathers v (λ p x rows. rows ≡ part_of number (map signal_records (frames_among ss x))) old new (Ok rows)
      → Gathers v (λ p x rows. rows ≡ exported Signals number (frames_among ss x)) old new (Ok (shows.SignalRecords rows))
  unfolding exported
  gathers-signals rows gathers c b stood =
      let told = gathers c b stood in
      (told.0, λ x there. ap shows.SignalRecords (told.1 x there))
