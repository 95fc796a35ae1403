-- What a supplier is sent of its exports comes back: to the same variant, where it changes nothing, and to another, where it brings the frames
-- along.
use Rattle.std.proofs.Common.{◌≡◌, ◌∙◌, sym, ap, subst, refl, ℕ, suc, ◌≤◌, List, [], ◌∷◌, ◌++◌, map, length, Some, Ok, All}
use Rattle.std.proofs.lemmas.List.Elements.{All-nil, All-cons, All-append}
use Rattle.fr_base.specs.Book.{Book, Variant, own}
use Rattle.fr_base.specs.Cluster.{Cluster}
use Rattle.fr_base.specs.Exports.{exported}
use Rattle.fr_base.specs.ExportedLaws.{ArePartsFrom, File, MayBeKept, ReadsAs, exported_rows}
use Rattle.fr_base.specs.Sound.{IsSound}
use Rattle.fr_base.specs.Tables.{get}
use Rattle.fr_base.specs.declared.answer.Answer.TheVariants.{Replaced}
use Rattle.fr_base.specs.declared.answer.ReportRows.{ReportRows}
use Rattle.fr_base.specs.declared.import.Header.{Header}
use Rattle.fr_base.specs.declared.import.Header.TheVariants.{Frames, Placements, Signals}
use Rattle.fr_base.specs.declared.import.Row.{Row}
use Rattle.fr_base.specs.declared.limits.TheConstants.{MAX_IMPORT_BYTES}
use Rattle.fr_base.specs.declared.name.Name.{Name}
use Rattle.fr_base.specs.declared.params.Params.{Params}
use Rattle.fr_base.proofs.ExportedLaws.{changes_nothing}
use Rattle.fr_base.proofs.ImportedExports.{is_imported}
use Rattle.fr_base.proofs.WholeExports.{whole_export_changes_nothing}
use Rattle.fr_text.specs.ExportLaws.{AreSentFrom, IsExport, MayBeLabelled, SentBackChangesNothing, SentWholeChangesNothing, SentIsImported, read_from, sent}
use Rattle.fr_text.proofs.ExportLaws.{export_begins, export_is_read_back, export_is_within_bytes, is_exported}

-- ---- what is sent is read

rows_read : (line : ℕ) (rows : List Row) → map (λ read. read.row) (read_from line rows) ≡ map Ok rows
unfolding read_from
rows_read line [] = refl
rows_read line (row ∷ rows) = ap (λ more. Ok row ∷ more) (rows_read (suc line) rows)

some_one : (x y : Variant) → Some x ≡ Some y → x ≡ y
some_one x y e = cc

module _ (c : Cluster) (b : Book) (s v : Name) (sound : IsSound c b) where
  reads_as : (header : Header) (part : ℕ) (rows : ReportRows) → IsExport c b s v header part rows → ReadsAs c.params (sent rows) (exported_rows rows)
  reads_as header part rows is = ap (map (λ read. read.row)) (export_is_read_back c b s v header part rows sound is).0 ∙ rows_read 2 (exported_rows rows)

  -- the rows are those of the variant that is there
  are_of : (x : Variant) → get b.variants v ≡ Some x → (header : Header) (part : ℕ) (rows : ReportRows) → IsExport c b s v header part rows → rows ≡ exported header part (own s x.frames).rows
  are_of x there header part rows is =
      let of = is_exported c b s v header part rows is in
      sym of.are ∙ ap (λ (y : Variant). exported header part (own s y.frames).rows) (some_one of.variant x (sym of.there ∙ there))

pub sent_back_changes_nothing : SentBackChangesNothing
sent_back_changes_nothing c b s v x header part rows sound known there opened is =
    let are = are_of c b s v sound x there header part rows is in
    changes_nothing c b s v x header part (sent rows) sound known there opened (export_is_within_bytes c b s v header part rows sound is)
    (subst (λ r. ReadsAs c.params (sent rows) (exported_rows r)) are (reads_as c b s v sound header part rows is))
    ∙ ap (λ r. record { book = b; answer = Replaced (length (exported_rows r)) }) (sym are)

pub sent_whole_changes_nothing : SentWholeChangesNothing
sent_whole_changes_nothing c b s v x header rows behind sound known there opened is next none =
    let are = are_of c b s v sound x there header 0 rows is in
    whole_export_changes_nothing c b s v x header (sent rows) sound known there opened (export_is_within_bytes c b s v header 0 rows sound is)
    (export_begins c b s v header 0 rows sound is)
    (subst (λ r. ReadsAs c.params (sent rows) (exported_rows r)) are (reads_as c b s v sound header 0 rows is))
    (ap exported_rows (sym (are_of c b s v sound x there header 1 behind next)) ∙ none)
    ∙ ap (λ r. record { book = b; answer = Replaced (length (exported_rows r)) }) (sym are)

-- ---- elsewhere

module _ (e : Cluster) (d : Book) (s w : Name) (x : Variant) (sound : IsSound e d) (there : get d.variants w ≡ Some x) where
  parts_from : (p : Params) → e.params ≡ p → (header : Header) (part : ℕ) (files : List File) → AreSentFrom e d s w header part files
      → ArePartsFrom p header (own s x.frames).rows part files
  parts_from p same header part [] are = ap exported_rows (sym (are_of e d s w sound x there header part are.0 are.1)) ∙ are.2
  parts_from p same header part (file ∷ files) are =
      let (rows, is, body) = are.0 in (
        subst (λ q. ReadsAs q file.body (exported_rows (exported header part (own s x.frames).rows))) same
            (subst (λ text. ReadsAs e.params text (exported_rows (exported header part (own s x.frames).rows))) (sym body)
            (subst (λ r. ReadsAs e.params (sent rows) (exported_rows r)) (are_of e d s w sound x there header part rows is) (reads_as e d s w sound header part rows is))),
        parts_from p same header (suc part) files are.1,
      )

  within : (header : Header) (part : ℕ) (files : List File) → AreSentFrom e d s w header part files → All (λ file. length file.body ≤ MAX_IMPORT_BYTES) files
  within header part [] are = All-nil (λ file. length file.body ≤ MAX_IMPORT_BYTES)
  within header part (file ∷ files) are =
      let (rows, is, body) = are.0 in
      All-cons (λ file. length file.body ≤ MAX_IMPORT_BYTES) file files
      (subst (λ text. length text ≤ MAX_IMPORT_BYTES) (sym body) (export_is_within_bytes e d s w header part rows sound is))
      (within header (suc part) files are.1)

may_be_kept : (b : Book) (s : Name) (files : List File) → MayBeLabelled b s files → All (λ file. length file.body ≤ MAX_IMPORT_BYTES) files → MayBeKept b s files
may_be_kept b s files may bytes = record { bytes = bytes; names = may.names; free = may.free; apart = may.apart; room = may.room }

pub sent_is_imported : SentIsImported
sent_is_imported c e b d s v w x y frames placements signals here elsewhere same known there opened is_open nodes grants none are_frames are_placements are_signals may =
    let few = All-append (λ file. length file.body ≤ MAX_IMPORT_BYTES) frames (placements ++ signals) (within e d s w x elsewhere there Frames 0 frames are_frames)
    (All-append (λ file. length file.body ≤ MAX_IMPORT_BYTES) placements signals (within e d s w x elsewhere there Placements 0 placements are_placements)
    (within e d s w x elsewhere there Signals 0 signals are_signals)) in
    is_imported c e b d s v w x y frames placements signals here elsewhere same known there opened is_open nodes grants none
    (parts_from e d s w x elsewhere there c.params (sym same) Frames 0 frames are_frames)
    (parts_from e d s w x elsewhere there c.params (sym same) Placements 0 placements are_placements)
    (parts_from e d s w x elsewhere there c.params (sym same) Signals 0 signals are_signals)
    (may_be_kept b s (frames ++ (placements ++ signals)) may few)
