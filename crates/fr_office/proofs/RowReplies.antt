-- The rows of all kinds, as they are gathered of one supplier after another, are those that the register shows.
use Rattle.std.specs.List.{flat_map}
use Rattle.std.proofs.lemmas.List.{map-append}
use Rattle.std.proofs.Common.{◌≡◌, ℕ, List, [], ◌∷◌, ◌++◌, length, map, drop, take, Some, sym, ap, ◌∙◌, append_assoc}
use Rattle.std.proofs.Math.Seq.{drop-append_seam, take-append_seam}
use Rattle.fr_base.specs.Book.{Book, Frame, Variant, own}
use Rattle.fr_base.specs.Cluster.{Cluster}
use Rattle.fr_base.specs.Differences.{all_placements, all_signals, frame_seen, gap_of, gap_seen, grant_seen, placement_seen, rows_of_frames, seen_rows, signal_seen}
use Rattle.fr_base.specs.Exports.{frame_records, placement_records, signal_records}
use Rattle.fr_base.specs.Queries.{gap_row, grants_of}
use Rattle.fr_base.specs.Seen.{seen_frames, seen_grants}
use Rattle.fr_base.specs.Sound.{IsSound}
use Rattle.fr_base.specs.Tables.{each, get}
use Rattle.fr_base.specs.declared.actor.Actor.{Actor}
use Rattle.fr_base.specs.declared.answer.SeenRow.{SeenRow}
use Rattle.fr_base.specs.declared.name.Name.{Name}
use Rattle.fr_office.specs.Compared.{compared_rows, frame_told, gap_told, grant_told, kinds_told, placement_told, seen_among, signal_told, suppliers_rows}
use Rattle.fr_office.specs.Kinds.{ByKind, with_more}
use Rattle.fr_office.specs.Shown.{seen_names}
use Rattle.fr_office.specs.declared.queries.compared.ComparedRows.{ComparedRows}
use Rattle.fr_office.proofs.DifferenceReplies.{append-five, grant-keys, signals-seen}
use Rattle.fr_office.proofs.FlatRows.{frame-keys, gap-keys, map-map, placement-keys, signal-keys}
use Rattle.fr_office.proofs.SeenRows.{frames-seen, grants-seen}
use Rattle.fr_world.specs.KeyedRows.{frame_entry, gap_entry, grant_entry, placement_entry, signal_entry}
use Rattle.fr_world.specs.Pages.{PageData, own_rows_of}
use Rattle.fr_office.specs.Gathered.{Takes}
use Rattle.fr_office.proofs.GatherLaws.{flat-more}

-- ---- of the suppliers so far

-- one page more
pub takes-kinds : (page : PageData) (old new : ByKind SeenRow) → new ≡ with_more old (kinds_told (compared_rows page.params (own_rows_of page).frames)) →
    Takes (λ p first ss x rows. rows ≡ kinds_told (suppliers_rows p ss x)) page old new
takes-kinds page old new pushed first ss x has is =
    pushed ∙ (λ i. with_more (is i) (kinds_told (compared_rows page.params (has.frames i)))) ∙ one_more
  where
    made : Name → ComparedRows
    made s = compared_rows page.params (own s x.frames)

    told_more : {X : Type 0} (tell : X → SeenRow) (f : Name → List X) → map tell (flat_map f ss) ++ map tell (f page.supplier) ≡ map tell (flat_map f (ss ++ page.supplier ∷ []))
    told_more tell f = sym (map-append tell (flat_map f ss) (f page.supplier)) ∙ ap (map tell) (flat-more f ss page.supplier)

    one_more : with_more (kinds_told (suppliers_rows page.params ss x)) (kinds_told (made page.supplier)) ≡ kinds_told (suppliers_rows page.params (ss ++ page.supplier ∷ []) x)
    one_more = λ i. record {
      frames = told_more frame_told (λ s. (made s).frames) i;
      placements = told_more placement_told (λ s. (made s).placements) i;
      signals = told_more signal_told (λ s. (made s).signals) i;
      gaps = told_more gap_told (λ s. (made s).gaps) i;
    }

-- the rows of one list, which others were put behind, and which was then turned to stand behind these, with more behind
pub joined : {A : Type 0} (most a b c d one two three round all : List A) (n : ℕ) → n ≡ length most → one ≡ most ++ a → two ≡ one ++ b → three ≡ two ++ c → round ≡ drop n three ++ take n three → all ≡ round ++ d →
    all ≡ a ++ b ++ c ++ most ++ d
joined most a b c d one two three round all n size first second third is last =
    let behind : three ≡ most ++ (a ++ b ++ c) = third ∙ ap (λ s. s ++ c) (second ∙ ap (λ s. s ++ b) first ∙ append_assoc most a b) ∙ append_assoc most (a ++ b) c in
    last
    ∙ ap (λ rows. rows ++ d)
    (is
    ∙ (λ i. drop (size i) (behind i) ++ take (size i) (behind i))
    ∙ (λ i. drop-append_seam most (a ++ b ++ c) i ++ take-append_seam most (a ++ b ++ c) i))

-- ---- as the actor sees them

-- the rows of those whom the actor sees
pub rows-among : (c : Cluster) (b : Book) (v : Name) (x : Variant) (actor : Actor) → IsSound c b → get b.variants v ≡ Some x → seen_among c.params (seen_names actor b) x ≡ seen_rows c.params actor x
unfolding seen_rows rows_of_frames
rows-among c b v x actor sound there =
    let p = c.params in
    let frames = seen_frames actor x.frames in
    (λ i.
    (ap (λ t. map grant_told (grants_of t)) (grants-seen c b v x sound there actor) ∙ as_told grant_seen grant_entry _ _ (grant-keys (seen_grants actor x.grants))) i
    ++ (ap (map frame_told) (frames-seen c b v x sound there actor frame_records) ∙ as_told frame_seen frame_entry _ _ (frame-keys frames)) i
    ++ (ap (map placement_told) (frames-seen c b v x sound there actor placement_records) ∙ as_told placement_seen placement_entry _ _ (placement-keys frames)) i
    ++ (ap (map signal_told) (frames-seen c b v x sound there actor signal_records) ∙ as_told signal_seen signal_entry _ _ (signal-keys frames (signals-seen c b v x sound there actor))) i
    ++ (ap (map gap_told) (frames-seen c b v x sound there actor (λ e. gap_row p e ∷ [])) ∙ as_told gap_seen gap_entry _ _ (gap-keys p frames)) i)
    ∙ append-five (map grant_seen (seen_grants actor x.grants).rows) (map frame_seen (each (λ (f : Frame). f.node) frames).rows) (map placement_seen (all_placements frames).rows) (map signal_seen (all_signals frames).rows)
    (map gap_seen (each (gap_of p) frames).rows)
  where
    as_told : {X E : Type 0} (seen : E → SeenRow) (entry : X → E) (rows : List X) (entries : List E) → map entry rows ≡ entries → map (λ r. seen (entry r)) rows ≡ map seen entries
    as_told seen entry rows entries keys = sym (map-map seen entry rows) ∙ ap (map seen) keys
