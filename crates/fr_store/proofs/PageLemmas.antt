-- The rows that are read of a supplier in a variant are its page of the register.
use Rattle.std.proofs.Common.{◌≡◌, ℕ, None, Some, List, [], ◌∷◌, map, option_map, refl, sym, ap, ◌∙◌}
use Rattle.std.specs.List.{AllByRecursion}
use Rattle.std.specs.List.Sorted.{IsStrictlySortedBy}
use Rattle.std.proofs.lemmas.List.Elements.{recursion_from_All}
use Rattle.sqlite_keyed.proofs.ListLemmas.{map-map}
use Rattle.fr_base.specs.Keys.{names, owned, channel_slots, placement_order}
use Rattle.fr_base.specs.Book.{Book, Variant, Frame, Holder}
use Rattle.fr_base.specs.Queries.{placements_in}
use Rattle.fr_base.specs.Step.{own_rows, layout_of}
use Rattle.fr_base.specs.declared.channel.Channel.{Channel}
use Rattle.fr_base.specs.declared.name.Name.{Name}
use Rattle.fr_base.specs.declared.params.Params.{Params}
use Rattle.fr_base.specs.declared.placement.Placement.{Placement}
use Rattle.fr_world.specs.Maps.{set_of}
use Rattle.fr_world.specs.Pages.{FrameData, PageData, IsKept, compare_slots, frame_of, frames_data, holder_of, nodes_in, grants_in, frames_in, page_in}
use Rattle.fr_world.specs.declared.page.ChannelSlot.{ChannelSlot}
use Rattle.fr_world.proofs.KeyLaws.{own_alike}
use Rattle.fr_world.proofs.MapLaws.{rows-set_of, rows-table_of}
use Rattle.fr_tables.specs.Tables.{Tables}
use Rattle.fr_store.specs.StandsFor.{HoldsRows}
use Rattle.fr_store.specs.Paging.{AreRowsIn, TellsNodes, TellsGrants, TellsRows, TellsView, page_of}
use Rattle.fr_store.specs.declared.page.view.View.{View}

-- ---- rows in order are those of the page that they stand for

same_again : {X : Type 0} (g : X → X) (P : X → Type 0) → ((x : X) → P x → g x ≡ x) → (xs : List X) → AllByRecursion P xs → map g xs ≡ xs
same_again g P same [] h = refl
same_again g P same (x ∷ xs) h = λ i. same x h.0 i ∷ same_again g P same xs h.1 i

each_again : {X : Type 0} (xs : List X) → map (λ x. x) xs ≡ xs
each_again [] = refl
each_again (x ∷ xs) = ap (λ l. x ∷ l) (each_again xs)

module _ (p : Params) (b : Book) (s v : Name) (x : Variant) (rows : PageData) (are : AreRowsIn p b s v x rows) (kept : IsKept rows) where
  name_alike : (m n : Name) → names.compare m n ≡ owned.compare (rows.supplier, m) (rows.supplier, n)
  unfolding names
  name_alike m n = own_alike rows.supplier m n

  same_nodes : rows.nodes ≡ nodes_in b s
  unfolding nodes_in own_rows
  same_nodes =
      sym (ap (λ r. map (λ e. e.0.1) r.nodes.rows) (sym are.stand_for) ∙ ap (map (λ e. e.0.1)) (rows-set_of names.compare owned (λ n. (rows.supplier, n)) name_alike rows.nodes kept.order.nodes)
      ∙ map-map (λ e. e.0.1) (λ n. ((rows.supplier, n), tt)) rows.nodes ∙ each_again rows.nodes)

  abbrev grant_back : (ℕ × Channel) × Holder → ChannelSlot × Name
  grant_back e = (record { slot = e.0.0; channel = e.0.1 }, e.1.node)

  same_grants : rows.grants ≡ grants_in s x
  unfolding grants_in own_rows
  same_grants =
      sym (ap (λ r. map grant_back r.grants.rows) (sym are.stand_for)
      ∙ ap (map grant_back) (rows-table_of compare_slots channel_slots (λ k. (k.slot, k.channel)) (holder_of rows.supplier) (λ k l. refl) rows.grants kept.order.grants)
      ∙ map-map grant_back (λ e. ((e.0.slot, e.0.channel), holder_of rows.supplier e.1)) rows.grants ∙ each_again rows.grants)

  -- the frame's placements and layout are those of what it stands for
  abbrev IsFine : Name × FrameData → Type 0
  IsFine e = IsStrictlySortedBy placement_order.compare e.1.placements × (e.1.layout.words ≡ rows.params.payload_words)

  abbrev back_again : Name × FrameData → Name × FrameData
  back_again e = (e.0, record { node = e.1.node; placements = placements_in (frame_of e.1); layout = layout_of p (frame_of e.1) })

  placements_again : (qs : List Placement) → IsStrictlySortedBy placement_order.compare qs → map (λ q. q.0) (set_of placement_order (λ q. q) qs).rows ≡ qs
  placements_again qs rise =
      ap (map (λ q. q.0)) (rows-set_of placement_order.compare placement_order (λ q. q) (λ q r. refl) qs rise) ∙ map-map (λ q. q.0) (λ q. (q, tt)) qs ∙ each_again qs

  frame_again : (e : Name × FrameData) → IsFine e → back_again e ≡ e
  frame_again e fine i = (
    e.0,
    record {
      node = e.1.node;
      placements = placements_again e.1.placements fine.0 i;
      layout = record { words = (ap (λ q. q.payload_words) (sym are.params) ∙ sym fine.1) i; signals = e.1.layout.signals };
    },
  )

  fine : AllByRecursion IsFine rows.frames
  fine = recursion_from_All IsFine rows.frames (λ i d low. (kept.order.frames.placements i d low, kept.words i d low))

  abbrev frame_back : (Name × Name) × Frame → Name × FrameData
  frame_back e = (e.0.1, record { node = e.1.node; placements = placements_in e.1; layout = layout_of p e.1 })

  same_frames : rows.frames ≡ frames_in p s x
  unfolding frames_in own_rows
  same_frames =
      sym (ap (λ r. map frame_back r.frames.rows) (sym are.stand_for)
      ∙ ap (map frame_back) (rows-table_of names.compare owned (λ n. (rows.supplier, n)) frame_of name_alike rows.frames kept.order.frames.names)
      ∙ map-map frame_back (λ e. ((rows.supplier, e.0), frame_of e.1)) rows.frames
      ∙ same_again back_again IsFine frame_again rows.frames fine)

  pub is_page : rows ≡ page_in p b s v x
  is_page i = record {
    params = are.params i;
    supplier = are.supplier i;
    variant = are.variant i;
    released = are.released i;
    nodes = same_nodes i;
    grants = same_grants i;
    frames = same_frames i;
  }

-- ---- the parts that are read

module _ (p : Params) (s v : Name) (t : Tables) (view : View) (nodes : List Name) (grants : List (ChannelSlot × Name)) where
  abbrev pub rows_read : PageData
  rows_read = record { params = p; supplier = s; variant = v; released = view.released; nodes = nodes; grants = grants; frames = frames_data view.frames.entries }

  -- are the supplier's rows
  pub rows_told : TellsView p.cycles v s t (Some view) → TellsNodes s t nodes → TellsGrants v s t grants → TellsRows p s v t (Some rows_read)
  unfolding own_rows
  rows_told is its_nodes its_grants b stands =
      let here = is b stands in (
        here.0,
        here.1,
        record {
          params = refl;
          supplier = refl;
          variant = refl;
          released = here.2;
          stand_for = λ i. record {
            params = p;
            supplier = s;
            nodes = its_nodes p.cycles b stands i;
            grants = its_grants p.cycles b stands here.0 here.1 i;
            frames = here.3 i;
          };
        },
      )

module _ (p : Params) (s v : Name) (t : Tables) where
  -- rows that a page has are the page
  pub page_told : (rows page : PageData) → TellsRows p s v t (Some rows) → page ≡ rows → IsKept rows → (b : Book) → HoldsRows t p.cycles b → Some page ≡ page_of p b s v
  page_told rows page tells is kept b stands =
      let here = tells b stands in
      ap Some (is ∙ is_page p b s v here.0 rows here.2 kept) ∙ sym (ap (option_map (page_in p b s v)) here.1)

  -- without a variant there is none
  pub none_told : TellsRows p s v t None → (b : Book) → HoldsRows t p.cycles b → None ≡ page_of p b s v
  none_told tells b stands = sym (ap (option_map (page_in p b s v)) (tells b stands))
