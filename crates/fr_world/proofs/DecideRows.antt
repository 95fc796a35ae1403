-- A page's rows, and the register's tables that they stand for.
use Rattle.std.proofs.Common.{◌≡◌, ℕ, suc, ◌||◌, length, Bor, IfSome, All, Bool, true, false, cond, List, [], ◌∷◌, map, Option, Some, None, option_map, refl, sym, ap, subst, ◌∙◌}
use Rattle.std.specs.Prelude.{⊤}
use Rattle.std.specs.List.{list_any, flat_map}
use Rattle.std.specs.List.Sorted.{IsStrictlySortedBy}
use Rattle.std.specs.Option.{option_copied}
use Rattle.std.proofs.lemmas.List.Elements.{All-head, All-tail}
use Rattle.std.specs.Map.{lookup, keys_of, values_of}
use Rattle.std.specs.BTreeMap.{is_at}
use Rattle.fr_base.specs.Refusing.{◌>>=◌, ◌>>◌, ◌or◌, refuse◌when◌}
use Rattle.fr_base.specs.Tables.{get, contains, len}
use Rattle.fr_base.specs.Keys.{owned, channel_slots, placement_order}
use Rattle.fr_base.specs.Book as book
use Rattle.fr_base.specs.Book.{Sender, placements_of}
use Rattle.fr_base.specs.Queries.{placements_in}
use Rattle.fr_base.specs.Step.{fills, in_use, shared_by, admits_frame, admits}
use Rattle.fr_base.specs.declared.channel.Channel.{Channel}
use Rattle.fr_base.specs.declared.name.Name.{Name}
use Rattle.fr_base.specs.declared.placement.Placement.{Placement}
use Rattle.fr_world.specs.declared.page.ChannelSlot.{ChannelSlot}
use Rattle.fr_world.specs.declared.page.PageFrame.{PageFrame}
use Rattle.fr_world.specs.Pages.{IsKept, PageData, FrameData, frame_data, frames_data, frame_of, holder_of, own_rows_of}
use Rattle.fr_world.proofs.KeyLaws.{name_cmp, own_alike, slot_cmp, slots_alike, placement_cmp, placements_alike, frames_rise}
use Rattle.fr_world.proofs.MapLaws.{contains-set_of, rows-set_of, get-table_of, rows-table_of, len-table_of}
use Rattle.std.proofs.lemmas.List.Folds.{list_any-append}

-- what a proof about a command opens
unfoldable pub decide_open : ⊤
unfolding ◌>>=◌ ◌>>◌ ◌or◌ refuse◌when◌ shared_by admits admits_frame
decide_open = tt

pub node_there : (rows : PageData) (n : Name) → contains (own_rows_of rows).nodes (rows.supplier, n) ≡ list_any (is_at (name_cmp n)) rows.nodes
node_there rows n = contains-set_of name_cmp owned (λ m. (rows.supplier, m)) (own_alike rows.supplier) rows.nodes n

pub grant_there : (rows : PageData) (k : ChannelSlot) → get (own_rows_of rows).grants (k.slot, k.channel) ≡ option_map (holder_of rows.supplier) (lookup (is_at (slot_cmp k)) rows.grants)
grant_there rows k = get-table_of slot_cmp channel_slots (λ j. (j.slot, j.channel)) (holder_of rows.supplier) slots_alike rows.grants k

lookup-frames : (test : Name → Bool) (es : List (Name × PageFrame)) → option_map frame_of (lookup test (frames_data es)) ≡ option_map (λ f. frame_of (frame_data f)) (lookup test es)
lookup-frames test [] = refl
lookup-frames test (e ∷ es) = elim (test e.0) as (λ b. option_map frame_of (cond b (Some (frame_data e.1)) (lookup test (frames_data es))) ≡ option_map (λ f. frame_of (frame_data f)) (cond b (Some e.1) (lookup test es))) [
  | true ↦ refl
  | false ↦ lookup-frames test es
]

pub frame_there : (rows : PageData) (es : List (Name × PageFrame)) (f : Name) → frames_data es ≡ rows.frames → get (own_rows_of rows).frames (rows.supplier, f) ≡ option_map (λ x. frame_of (frame_data x)) (lookup (is_at (name_cmp f)) es)
frame_there rows es f e =
    get-table_of name_cmp owned (λ g. (rows.supplier, g)) frame_of (own_alike rows.supplier) rows.frames f
    ∙ ap (λ fs. option_map frame_of (lookup (is_at (name_cmp f)) fs)) (sym e)
    ∙ lookup-frames (is_at (name_cmp f)) es

length-frames_data : (es : List (Name × PageFrame)) → length (frames_data es) ≡ length es
length-frames_data [] = refl
length-frames_data (e ∷ es) = ap suc (length-frames_data es)

pub frames_len : (rows : PageData) (es : List (Name × PageFrame)) → frames_data es ≡ rows.frames → IsStrictlySortedBy name_cmp (keys_of es) → len (own_rows_of rows).frames ≡ length es
frames_len rows es e h =
    len-table_of name_cmp owned (λ f. (rows.supplier, f)) frame_of (own_alike rows.supplier) rows.frames (frames_rise es rows.frames e h)
    ∙ sym (ap length e) ∙ length-frames_data es

-- ---- placements

keys-of-rows : (ks : List Placement) → map (λ (q : Placement × ⊤). q.0) (map (λ k. (k, tt)) ks) ≡ ks
keys-of-rows [] = refl
keys-of-rows (k ∷ ks) = ap (λ rest. k ∷ rest) (keys-of-rows ks)

-- a frame's placements in their order are those that it keeps
pub placements-kept : (f : FrameData) → IsStrictlySortedBy placement_cmp f.placements → placements_in (frame_of f) ≡ f.placements
placements-kept f h = ap (map (λ q. q.0)) (rows-set_of placement_cmp placement_order (λ q. q) placements_alike f.placements h) ∙ keys-of-rows f.placements

-- a page's frames
abbrev pub frame_rows : Name → List (Name × FrameData) → List ((Name × Name) × book.Frame)
frame_rows s fs = map (λ e. ((s, e.0), frame_of e.1)) fs

pub frames-rows : (rows : PageData) (es : List (Name × PageFrame)) → frames_data es ≡ rows.frames → IsStrictlySortedBy name_cmp (keys_of es) → (own_rows_of rows).frames.rows ≡ frame_rows rows.supplier (frames_data es)
frames-rows rows es e h =
    rows-table_of name_cmp owned (λ f. (rows.supplier, f)) frame_of (own_alike rows.supplier) rows.frames (frames_rise es rows.frames e h)
    ∙ ap (frame_rows rows.supplier) (sym e)

-- ---- whether a placement fills a slot

abbrev entries_of : (Name × Name) × book.Frame → List (Sender × Placement)
entries_of row = map (λ q. (record { supplier = row.0.0; frame = row.0.1; node = row.1.node }, q.0)) row.1.placements.rows

abbrev pass : (Placement → Bool) → Sender × Placement → Bool
pass test e = test e.1

any-entries : (o : Sender) (test : Placement → Bool) (ps : List (Placement × ⊤)) → list_any (pass test) (map (λ q. (o, q.0)) ps) ≡ list_any test (map (λ q. q.0) ps)
any-entries o test [] = refl
any-entries o test (p ∷ ps) = ap (λ b. test p.0 || b) (any-entries o test ps)

any-frames : (s : Name) (test : Placement → Bool) (es : List (Name × PageFrame)) →
    list_any (pass test) (flat_map entries_of (frame_rows s (frames_data es))) ≡ list_any (λ f. list_any test (placements_in (frame_of (frame_data f)))) (values_of es)
any-frames s test [] = refl
any-frames s test (e ∷ es) =
    list_any-append (pass test) (entries_of ((s, e.0), frame_of (frame_data e.1))) (flat_map entries_of (frame_rows s (frames_data es)))
    ∙ (λ i. any-entries (record { supplier = s; frame = e.0; node = e.1.node }) test (frame_of (frame_data e.1)).placements.rows i || any-frames s test es i)

pub in_use-frames : (rows : PageData) (at : ℕ × Channel) (es : List (Name × PageFrame)) → frames_data es ≡ rows.frames → IsStrictlySortedBy name_cmp (keys_of es) →
    in_use at (own_rows_of rows).frames ≡ list_any (λ f. list_any (fills at) (placements_in (frame_of (frame_data f)))) (values_of es)
unfolding in_use placements_of
in_use-frames rows at es e h =
    ap (λ rs. list_any (pass (fills at)) (flat_map entries_of rs)) (frames-rows rows es e h)
    ∙ any-frames rows.supplier (fills at) es

-- ---- the payload of a frame

words-found : (n : ℕ) (test : Name → Bool) (es : List (Name × PageFrame)) (f : PageFrame) → All (λ e. e.1.layout.words ≡ n) (frames_data es) → lookup test es ≡ Some f → f.layout.words ≡ n
words-found n test [] f all h = cc
words-found n test (e ∷ es) f all h = elim (test e.0) as (λ b. cond b (Some e.1) (lookup test es) ≡ Some f → f.layout.words ≡ n) [
  | true ↦ λ h. let here : e.1.layout.words ≡ n = All-head (λ x. x.1.layout.words ≡ n) _ _ all in cc
  | false ↦ λ h. words-found n test es f (All-tail (λ x. x.1.layout.words ≡ n) _ _ all) h
] h

-- each frame's layout is that of the cluster's payload
pub words-kept : (rows : PageData) (es : List (Name × PageFrame)) (f : Name) (r : Option (Bor PageFrame)) → frames_data es ≡ rows.frames → IsKept rows → option_copied r ≡ lookup (is_at (name_cmp f)) es →
    IfSome r (λ x. x.now.layout.words ≡ rows.params.payload_words)
words-kept rows es f None e kept h = tt
words-kept rows es f (Some b) e kept h =
    words-found rows.params.payload_words (is_at (name_cmp f)) es b.now (subst (All (λ x. x.1.layout.words ≡ rows.params.payload_words)) (sym e) kept.words) (sym h)
