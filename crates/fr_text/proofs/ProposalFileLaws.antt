-- The file of a proposal is that of an export with the same records, and so is read back as such.
use Rattle.std.proofs.Common.{◌≡◌, ap, refl, ℕ, false, ◌≤◌, List, [], ◌∷◌, map, length, Result, Ok, Err}
use Rattle.std.specs.List.{AllByRecursion, cons_option, filter_map}
use Rattle.std.proofs.lemmas.List.{length-map}
use Rattle.fr_base.specs.Parameters.{check_params}
use Rattle.fr_base.specs.declared.answer.PlacementRecord.{PlacementRecord}
use Rattle.fr_base.specs.declared.import.Header.TheVariants.{Placements}
use Rattle.fr_base.specs.declared.params.Params.{Params}
use Rattle.fr_base.specs.declared.proposal.Proposal.{Proposal}
use Rattle.fr_base.specs.declared.proposal.ProposalRow.{ProposalRow}
use Rattle.fr_base.specs.declared.proposal.ProposedPlacement.{ProposedPlacement}
use Rattle.fr_base.specs.declared.refusal.Refusal.{Refusal}
use Rattle.fr_text.proofs.ExportLaws.{few_slots, placement_short, small}
use Rattle.fr_text.proofs.ExportLemmas.{IsShort, file_read, file_short, file_text}
use Rattle.fr_text.proofs.FileLemmas.{IsRecord}
use Rattle.fr_text.proofs.RecordLemmas.{AreSmall, placement_read, placement_words}
use Rattle.fr_text.specs.ProposalFileLaws.{MayStand, ProposedIsReadBack, file_text_of, placed_of, placements_of, row_of_placed}
use Rattle.fr_text.specs.ProposalFiles.{file_lines, record_of}
use Rattle.fr_text.specs.Report.{header_line, placement_fields, proposed_record}
use Rattle.fr_text.specs.Styles.{plain_lines}
use Rattle.fr_text.specs.Words.{comma_line}

-- the fields of a record
abbrev fields_of : ProposedPlacement → List (List ℕ)
fields_of r = r.frame ∷ r.node ∷ placement_fields r.placement

-- the record of an export with these fields; whose it is, is not told to a supplier
abbrev as_exported : ProposedPlacement → PlacementRecord
as_exported r = record { frame = r.frame; node = r.node; placement = r.placement; supplier = r.frame }

-- the records are those of the placements that are proposed
records_are : (rows : List ProposalRow) → filter_map (λ row. record_of row.proposed) rows ≡ map comma_line (map fields_of (filter_map (λ row. placed_of row.proposed) rows))
unfolding proposed_record
records_are [] = refl
records_are (row ∷ rows) = by row.proposed (records_are rows)
  where
    placed : List ProposedPlacement
    placed = filter_map (λ row. placed_of row.proposed) rows

    records : List (List ℕ)
    records = filter_map (λ row. record_of row.proposed) rows

    by : (told : Result ProposedPlacement Refusal) → records ≡ map comma_line (map fields_of placed) → cons_option (record_of told) records ≡ map comma_line (map fields_of (cons_option (placed_of told) placed))
    by (Ok one) rest = ap (λ lines. comma_line (fields_of one) ∷ lines) rest
    by (Err refusal) rest = rest

all_more : {X : Type 0} (P Q : X → Type 0) (xs : List X) → ((x : X) → P x → Q x) → AllByRecursion P xs → AllByRecursion Q xs
all_more P Q [] more h = tt
all_more P Q (x ∷ xs) more h = (more x h.0, all_more P Q xs more h.1)

all_mapped : {X Y : Type 0} (P : Y → Type 0) (f : X → Y) (xs : List X) → AllByRecursion (λ x. P (f x)) xs → AllByRecursion P (map f xs)
all_mapped P f [] h = tt
all_mapped P f (x ∷ xs) h = (h.0, all_mapped P f xs h.1)

pub proposed_is_read_back : ProposedIsReadBack
unfolding file_lines header_line
proposed_is_read_back p proposal form stand few =
    let placed = placements_of proposal in
    let slots = few_slots p form in
    let fine : (r : ProposedPlacement) → MayStand p r → AreSmall r.placement = λ r h. small p r.placement slots h.2 in
    let text : file_text_of proposal ≡ file_text Placements (map fields_of placed) = ap (λ lines. plain_lines (header_line_of ∷ lines)) (records_are proposal.rows) in
    let words = all_more (MayStand p) (λ r. IsRecord (fields_of r)) placed (λ r h. placement_words p (as_exported r) (fine r h) h) stand in
    let reads = all_more (MayStand p) _ placed (λ r h. placement_read p (as_exported r) (fine r h) h) stand in
    let shorts = all_more (MayStand p) (λ r. IsShort (fields_of r)) placed (λ r h. placement_short p (as_exported r) (fine r h) h) stand in
    let count : length (map fields_of placed) ≡ length placed = length-map placed fields_of in (
      rw text (file_read p Placements fields_of row_of_placed placed few words reads),
      rw text (file_short Placements (map fields_of placed) (rw count few) (all_mapped IsShort fields_of placed shorts)),
    )
  where
    header_line_of : List ℕ
    header_line_of = header_line false Placements
