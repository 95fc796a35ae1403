-- The grants of a variant, gathered from the suppliers' pages.
use Rattle.std.proofs.Common.{◌≡◌, ℕ, Bool, true, false, cond, ◌||◌, List, [], ◌∷◌, ◌++◌, map, Option, Some, None, refl, sym, ap, ◌∙◌, inl, inr}
use Rattle.std.specs.Prelude.{T}
use Rattle.std.specs.BTreeMap.{insert_entry}
use Rattle.std.specs.FinMap.Entries.{find, is_sorted}
use Rattle.std.proofs.lemmas.List.Concat.{flat_map_single}
use Rattle.std.specs.List.{flat_map, list_any}
use Rattle.std.specs.List.Sorted.{IsStrictlySortedBy}
use Rattle.std.specs.Map.{keys_of}
use Rattle.std.specs.Ordering.{eq_by_cmp}
use Rattle.std.proofs.lemmas.Bool.{cases_Bool}
use Rattle.fr_base.specs.Book as book
use Rattle.fr_base.specs.Book.{Book, Variant, held_by, own_grants}
use Rattle.fr_base.specs.Cluster.{Cluster}
use Rattle.fr_base.specs.Keys.{channel_slots}
use Rattle.fr_base.specs.Names.{same_text}
use Rattle.fr_base.specs.Queries.{grant_row, grants_of}
use Rattle.fr_base.specs.Sound.{IsSound}
use Rattle.fr_base.specs.TableRows.{first, second}
use Rattle.fr_base.specs.Tables.{Order, Table, from_rows, get, insert}
use Rattle.fr_base.specs.declared.answer.GrantRow.{GrantRow}
use Rattle.fr_base.specs.declared.answer.LaneHolder.{LaneHolder}
use Rattle.fr_base.specs.declared.channel.Channel.{Channel}
use Rattle.fr_base.specs.declared.name.Name.{Name}
use Rattle.fr_base.proofs.AloneCells.{same_text-itself}
use Rattle.fr_base.proofs.TableLaws.{equal, get-empty, get-insert, get-only, kept, none_above, same_table}
use Rattle.fr_office.specs.Shared.{grants_among, with_rows}
use Rattle.fr_office.proofs.PageRows.{grant_entry}
use Rattle.fr_office.proofs.ShownLaws.{flat-map}
use Rattle.fr_office.proofs.SplitLaws.{among_names, supplier_names}
use Rattle.fr_world.specs.Loads.{grants_in_lanes, holder_in}
use Rattle.fr_world.specs.Maps.{table_of}
use Rattle.fr_world.specs.Pages.{PageData, own_rows_of}
use Rattle.fr_world.specs.declared.page.ChannelSlot.{ChannelSlot}
use Rattle.fr_world.proofs.AmongLaws.{In}
use Rattle.fr_world.proofs.KeyLaws.{slot_cmp, slots_alike}
use Rattle.fr_world.proofs.MapLaws.{rows-table_of, table_of-insert_entry}
use Rattle.fr_office.specs.Gathered.{Takes}

-- ---- the rows of a map

abbrev pub held_entry : ChannelSlot × LaneHolder → (ℕ × Channel) × book.Holder
held_entry e = ((e.0.slot, e.0.channel), holder_in e.1)

abbrev pub held_shown : List (ChannelSlot × LaneHolder) → List GrantRow
held_shown es = flat_map (λ e. grant_row (held_entry e) ∷ []) es

pub held-rows : (es : List (ChannelSlot × LaneHolder)) → IsStrictlySortedBy slot_cmp (keys_of es) → held_shown es ≡ grants_of (grants_in_lanes es)
unfolding grants_of
held-rows es h =
    sym (flat-map (λ e. grant_row e ∷ []) held_entry es)
    ∙ (flat_map_single grant_row (map held_entry es))
    ∙ ap (map grant_row) (sym (rows-table_of slot_cmp channel_slots (λ k. (k.slot, k.channel)) holder_in slots_alike es h))

-- ---- a page's grants are added

abbrev pub page_entries : Name → List (ChannelSlot × Name) → List ((ℕ × Channel) × book.Holder)
page_entries s es = map (grant_entry s) es

pub page_grants-rows : (page : PageData) (es : List (ChannelSlot × Name)) → es ≡ page.grants → IsStrictlySortedBy slot_cmp (keys_of es) → page_entries page.supplier es ≡ (own_rows_of page).grants.rows
page_grants-rows page es e h =
    sym (rows-table_of slot_cmp channel_slots (λ k. (k.slot, k.channel)) (λ n. record { supplier = page.supplier; node = n }) slots_alike es h)
    ∙ ap (λ gs. (own_rows_of (record page { grants = gs })).grants.rows) e

pub added : (s : Name) (old new : List (ChannelSlot × LaneHolder)) (at : ChannelSlot) (n : Name) (rest left : List (ChannelSlot × Name)) (all : Table channel_slots book.Holder) →
    IsStrictlySortedBy slot_cmp (keys_of old) → new ≡ insert_entry slot_cmp old at (record { supplier = s; node = n }) → rest ≡ (at, n) ∷ left →
    with_rows (grants_in_lanes old) (page_entries s rest) ≡ all → with_rows (grants_in_lanes new) (page_entries s left) ≡ all
added s old new at n rest left all h e is so =
    ap (λ t. with_rows t (page_entries s left))
    (ap grants_in_lanes e ∙ table_of-insert_entry slot_cmp channel_slots (λ k. (k.slot, k.channel)) holder_in slots_alike old at (record { supplier = s; node = n }) h)
    ∙ ap (λ es. with_rows (grants_in_lanes old) (page_entries s es)) (sym is)
    ∙ so

-- ---- what stands in a table with more rows

abbrev pub or_else : {A : Type 0} → Option A → Option A → Option A
or_else None o = o
or_else (Some x) o = Some x

module _ {K V : Type 0} (o : Order K) where
  get-with_rows : (t : Table o V) (es : List (K × V)) (k : K) → T (is_sorted o.compare es) → get (with_rows t es) k ≡ or_else (find o.compare k es) (get t k)
  get-with_rows t [] k h = refl
  get-with_rows t (e ∷ es) k h =
      get-with_rows (insert t e.0 e.1) es k (second _ _ h)
      ∙ ap (or_else (find o.compare k es)) (get-insert t e.0 e.1 k)
      ∙ elim (cases_Bool (eq_by_cmp o.compare k e.0)) [
        | inl here ↦
            (λ i. or_else (none_above o (λ _ _. true) k e.0 es (equal _ here) (first _ _ h) i) (cond (here i) (Some e.1) (get t k)))
            ∙ (λ i. or_else (cond (sym here i) (Some e.1) (find o.compare k es)) (get t k))
        | inr other ↦
            (λ i. or_else (find o.compare k es) (cond (other i) (Some e.1) (get t k)))
            ∙ (λ i. or_else (cond (sym other i) (Some e.1) (find o.compare k es)) (get t k))
      ]

-- ---- the grants of some suppliers

any-more : (n s : Name) (ss : List Name) → list_any (same_text n) (ss ++ s ∷ []) ≡ (list_any (same_text n) ss || same_text n s)
any-more n s [] = or_false (same_text n s)
  where
    or_false : (b : Bool) → (b || false) ≡ b
    or_false true = refl
    or_false false = refl
any-more n s (t ∷ ts) = ap (λ b. same_text n t || b) (any-more n s ts) ∙ or_assoc (same_text n t) (list_any (same_text n) ts) (same_text n s)
  where
    or_assoc : (a b c : Bool) → (a || (b || c)) ≡ ((a || b) || c)
    or_assoc true b c = refl
    or_assoc false b c = refl

one_of : (a b : Bool) (h : book.Holder) → or_else (cond b (Some h) None) (cond a (Some h) None) ≡ cond (a || b) (Some h) None
one_of true true h = refl
one_of true false h = refl
one_of false true h = refl
one_of false false h = refl

module _ (s : Name) (ss : List Name) (grants : Table channel_slots book.Holder) where
  one_at : (k : ℕ × Channel) (o : Option book.Holder) →
      or_else (kept (λ _ h. held_by s (Some h)) k o) (kept (λ _ h. list_any (same_text h.supplier) ss) k o) ≡ kept (λ _ h. list_any (same_text h.supplier) (ss ++ s ∷ [])) k o
  one_at k None = refl
  one_at k (Some h) = one_of (list_any (same_text h.supplier) ss) (same_text h.supplier s) h ∙ ap (λ b. cond b (Some h) None) (sym (any-more h.supplier s ss))

  -- with those of one supplier more
  grants-more : with_rows (grants_among ss grants) (own_grants s grants).rows ≡ grants_among (ss ++ s ∷ []) grants
  unfolding get grants_among
  grants-more = same_table _ _ (λ k.
      get-with_rows channel_slots (grants_among ss grants) (own_grants s grants).rows k (own_grants s grants).sorted
      ∙ (λ i. or_else (get-only channel_slots (λ _ h. held_by s (Some h)) grants k i) (get-only channel_slots (λ _ h. list_any (same_text h.supplier) ss) grants k i))
      ∙ one_at k (get grants k)
      ∙ sym (get-only channel_slots (λ _ h. list_any (same_text h.supplier) (ss ++ s ∷ [])) grants k))

none-among : (k : ℕ × Channel) (o : Option book.Holder) → None ≡ kept (λ _ h. list_any (same_text h.supplier) []) k o
none-among k None = refl
none-among k (Some h) = refl

-- the grants of no supplier
pub lanes_none : (es : List (ChannelSlot × LaneHolder)) → es ≡ [] → (grants : Table channel_slots book.Holder) → grants_in_lanes es ≡ grants_among [] grants
unfolding table_of from_rows grants_among
lanes_none es e grants =
    ap grants_in_lanes e ∙ same_table _ _ (λ k. get-empty channel_slots k ∙ none-among k (get grants k) ∙ sym (get-only channel_slots (λ _ h. list_any (same_text h.supplier) []) grants k))

-- the grants of some suppliers, with those of one more
pub lanes-more : (s : Name) (before after : List Name) (grants : Table channel_slots book.Holder) (es fs : List (ChannelSlot × LaneHolder)) → grants_in_lanes es ≡ grants_among before grants →
    grants_in_lanes fs ≡ with_rows (grants_in_lanes es) (own_grants s grants).rows → after ≡ before ++ s ∷ [] → grants_in_lanes fs ≡ grants_among after grants
lanes-more s before after grants es fs is e more =
    e ∙ ap (λ t. with_rows t (own_grants s grants).rows) is ∙ grants-more s before grants ∙ ap (λ ss. grants_among ss grants) (sym more)

-- the page's grants are held too
pub takes-grants : {M : Type 0} (entries : M → List (ChannelSlot × LaneHolder)) (page : PageData) (old new : M) →
    grants_in_lanes (entries new) ≡ with_rows (grants_in_lanes (entries old)) (own_rows_of page).grants.rows → Takes (λ p first ss x held. grants_in_lanes (entries held) ≡ grants_among ss x.grants) page old new
takes-grants entries page old new e first ss x has is =
    lanes-more page.supplier ss (ss ++ page.supplier ∷ []) x.grants (entries old) (entries new) is (e ∙ ap (λ (t : Table channel_slots book.Holder). with_rows (grants_in_lanes (entries old)) t.rows) has.grants) refl

-- ---- all of them

In-any : (n : Name) (ss : List Name) → In n ss → list_any (same_text n) ss ≡ true
In-any n [] i = absurd i
In-any n (s ∷ ss) (inl is) = ap (λ b. b || list_any (same_text n) ss) (ap (same_text n) is ∙ same_text-itself n)
In-any n (s ∷ ss) (inr i) = ap (λ b. same_text n s || b) (In-any n ss i) ∙ or_true (same_text n s)
  where
    or_true : (b : Bool) → (b || true) ≡ true
    or_true true = refl
    or_true false = refl

-- in a sound book all grants are of suppliers that are there
pub grants-all : (c : Cluster) (b : Book) (v : Name) (x : Variant) → IsSound c b → get b.variants v ≡ Some x → grants_among (supplier_names b) x.grants ≡ x.grants
unfolding grants_among
grants-all c b v x sound there = same_table _ _ (λ k. get-only channel_slots (λ _ h. list_any (same_text h.supplier) (supplier_names b)) x.grants k ∙ all_kept k (get x.grants k) refl)
  where
    all_kept : (k : ℕ × Channel) (o : Option book.Holder) → get x.grants k ≡ o → kept (λ _ h. list_any (same_text h.supplier) (supplier_names b)) k o ≡ o
    all_kept k None e = refl
    all_kept k (Some h) e =
        let nodes = (sound.variants v x there).1.grant_nodes k h e in
        let among = among_names b h.supplier (sound.nodes h.supplier h.node nodes).1 in
        ap (λ t. cond t (Some h) None) (In-any h.supplier (supplier_names b) among)
