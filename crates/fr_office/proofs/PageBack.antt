-- A page is its rows: what the register has of a supplier in a variant is the page with the same rows.
use Rattle.std.proofs.Common.{◌≡◌, Bool, List, [], ◌∷◌, map, refl, sym, ap, ◌∙◌}
use Rattle.std.specs.List.{All}
use Rattle.std.specs.List.Sorted.{IsStrictlySortedBy}
use Rattle.std.proofs.lemmas.List.Elements.{All-head, All-tail}
use Rattle.fr_base.specs.Book.{Variant, Book}
use Rattle.fr_base.specs.Book as book
use Rattle.fr_base.specs.Keys.{names, owned, channel_slots, placement_order}
use Rattle.fr_base.specs.Queries.{placements_in}
use Rattle.fr_base.specs.Step.{OwnRows, layout_of, own_rows}
use Rattle.fr_base.specs.declared.name.Name.{Name}
use Rattle.fr_base.specs.declared.params.Params.{Params}
use Rattle.fr_world.specs.Pages.{FrameData, IsKept, PageData, compare_slots, frame_of, frames_in, grants_in, holder_of, nodes_in, own_rows_of, page_in}
use Rattle.fr_world.proofs.KeyLaws.{name_cmp, own_alike}
use Rattle.fr_world.proofs.MapLaws.{rows-set_of, rows-table_of}

-- a frame's rows, from the supplier's frame
abbrev shown : Params → book.Frame → FrameData
shown p f = record { node = f.node; placements = placements_in f; layout = layout_of p f }

-- the page with these rows
abbrev page_of : OwnRows → Name → Bool → PageData
page_of rows v released = record {
  params = rows.params;
  supplier = rows.supplier;
  variant = v;
  released = released;
  nodes = map (λ e. e.0.1) rows.nodes.rows;
  grants = map (λ e. (record { slot = e.0.0; channel = e.0.1 }, e.1.node)) rows.grants.rows;
  frames = map (λ e. (e.0.1, shown rows.params e.1)) rows.frames.rows;
}

register_page : (p : Params) (b : Book) (s v : Name) (x : Variant) → page_in p b s v x ≡ page_of (own_rows p b s x) v x.released
unfolding own_rows nodes_in grants_in frames_in
register_page p b s v x = refl

-- the same rows are the same page
pub same-rows : (p : Params) (b d : Book) (s v : Name) (x y : Variant) → own_rows p d s y ≡ own_rows p b s x → y.released ≡ x.released → page_in p d s v y ≡ page_in p b s v x
same-rows p b d s v x y rows released = register_page p d s v y ∙ (λ i. page_of (rows i) v (released i)) ∙ sym (register_page p b s v x)

-- what is the same there and back
there_and_back : {X Y : Type 0} (to : X → Y) (back : Y → X) (xs : List X) → ((x : X) → back (to x) ≡ x) → map back (map to xs) ≡ xs
there_and_back to back [] same = refl
there_and_back to back (x ∷ xs) same = λ i. same x i ∷ there_and_back to back xs same i

placements_back : (d : FrameData) → IsStrictlySortedBy placement_order.compare d.placements → placements_in (frame_of d) ≡ d.placements
placements_back d rise =
    ap (map (λ e. e.0)) (rows-set_of placement_order.compare placement_order (λ q. q) (λ x y. refl) d.placements rise)
    ∙ there_and_back (λ q. (q, tt)) (λ e. e.0) d.placements (λ q. refl)

module _ (p : Params) (s : Name) where
  frames_back : (es : List (Name × FrameData)) → All (λ e. e.1.layout.words ≡ p.payload_words) es → All (λ e. IsStrictlySortedBy placement_order.compare e.1.placements) es →
      map (λ (r : (Name × Name) × book.Frame). (r.0.1, shown p r.1)) (map (λ (e : Name × FrameData). ((s, e.0), frame_of e.1)) es) ≡ es
  frames_back [] words rise = refl
  frames_back (e ∷ es) words rise =
      let same_words = All-head (λ (e : Name × FrameData). e.1.layout.words ≡ p.payload_words) e es words in
      let same_places = placements_back e.1 (All-head (λ (e : Name × FrameData). IsStrictlySortedBy placement_order.compare e.1.placements) e es rise) in
      let rest = frames_back es (All-tail (λ (e : Name × FrameData). e.1.layout.words ≡ p.payload_words) e es words) (All-tail (λ (e : Name × FrameData). IsStrictlySortedBy placement_order.compare e.1.placements) e es rise) in
      λ i. (e.0, record { node = e.1.node; placements = same_places i; layout = record { words = sym same_words i; signals = e.1.layout.signals } }) ∷ rest i

module _ (page : PageData) (kept : IsKept page) where
  nodes_back : map (λ e. e.0.1) (own_rows_of page).nodes.rows ≡ page.nodes
  unfolding names
  nodes_back =
      ap (map (λ e. e.0.1)) (rows-set_of name_cmp owned (λ n. (page.supplier, n)) (own_alike page.supplier) page.nodes kept.order.nodes)
      ∙ there_and_back (λ n. ((page.supplier, n), tt)) (λ e. e.0.1) page.nodes (λ n. refl)

  grants_back : map (λ e. (record { slot = e.0.0; channel = e.0.1 }, e.1.node)) (own_rows_of page).grants.rows ≡ page.grants
  grants_back =
      ap (map (λ e. (record { slot = e.0.0; channel = e.0.1 }, e.1.node))) (rows-table_of compare_slots channel_slots (λ k. (k.slot, k.channel)) (holder_of page.supplier) (λ x y. refl) page.grants kept.order.grants)
      ∙ there_and_back (λ e. ((e.0.slot, e.0.channel), holder_of page.supplier e.1)) (λ e. (record { slot = e.0.0; channel = e.0.1 }, e.1.node)) page.grants (λ e. refl)

  all_frames_back : map (λ e. (e.0.1, shown page.params e.1)) (own_rows_of page).frames.rows ≡ page.frames
  unfolding names
  all_frames_back =
      ap (map (λ e. (e.0.1, shown page.params e.1))) (rows-table_of name_cmp owned (λ f. (page.supplier, f)) frame_of (own_alike page.supplier) page.frames kept.order.frames.names)
      ∙ frames_back page.params page.supplier page.frames kept.words kept.order.frames.placements

  page_back : page_of (own_rows_of page) page.variant page.released ≡ page
  page_back = λ i. record page { nodes = nodes_back i; grants = grants_back i; frames = all_frames_back i }

  -- a page with the register's rows is the register's
  pub same-page : (p : Params) (b : Book) (s : Name) (x : Variant) → own_rows_of page ≡ own_rows p b s x → page.released ≡ x.released → page ≡ page_in p b s page.variant x
  same-page p b s x rows released =
      sym page_back ∙ (λ i. page_of (rows i) page.variant (released i)) ∙ sym (register_page p b s page.variant x)
