-- A page's frames: what holds a grant, and what the tests of a frame decide.
use Rattle.std.proofs.Common.{◌≡◌, ℕ, Bool, false, ◌&&◌, length, List, [], ◌∷◌, map, Option, Some, None, option_map, IsTrue, refl, sym, ap, subst, ◌∙◌, arith}
use Rattle.std.specs.Prelude.{◌==◌, nat_le}
use Rattle.std.specs.Bool.{Decides}
use Rattle.std.specs.BTreeMap.{is_at}
use Rattle.std.specs.List.{All, AllByRecursion, list_all}
use Rattle.std.specs.List.Sorted.{IsStrictlySortedBy}
use Rattle.std.specs.Map.{lookup, values_of}
use Rattle.std.proofs.lemmas.Bool.{and_parts, and_from, eq-eqb, eqb-true, le-leb, leb-true}
use Rattle.std.proofs.lemmas.Bool.Decides.{Decides-and, Decides-by_and}
use Rattle.std.proofs.lemmas.List.Elements.{All-from_recursion, All-map, recursion_from_All}
use Rattle.fr_base.specs.Book.{granted, held_by_node}
use Rattle.fr_base.specs.Names.{same_text}
use Rattle.fr_base.specs.Keys.{channel_slots, placement_order}
use Rattle.fr_base.specs.Layouts.{IsLayout}
use Rattle.fr_base.specs.Queries.{placements_in}
use Rattle.fr_base.specs.Sound.{FitsCluster}
use Rattle.fr_base.specs.Step.{OwnRows}
use Rattle.fr_base.specs.Tables.{get, len}
use Rattle.fr_base.specs.declared.channel.Channel.{Channel}
use Rattle.fr_base.specs.declared.name.Name.{Name}
use Rattle.fr_base.specs.declared.params.Params.{Params}
use Rattle.fr_base.specs.declared.placement.Placement.{Placement}
use Rattle.fr_base.proofs.AloneCells.{same_text-itself}
use Rattle.fr_world.specs.Building.{fits, is_placed, IsKeptFrame}
use Rattle.fr_world.specs.Maps.{table_of}
use Rattle.fr_world.specs.Pages.{FrameData, frame_of, holder_of}
use Rattle.fr_world.specs.declared.page.ChannelSlot.{ChannelSlot}
use Rattle.fr_world.proofs.KeyLaws.{placement_cmp, placements_alike, placements_rise, slot_cmp, slots_alike}
use Rattle.fr_world.proofs.MapLaws.{get-table_of, len-set_of, rows-set_of, set_rows}

-- ---- grants

-- whether the node in the entries at a slot and channel is this one
abbrev is_holder : Name → Option Name → Bool
is_holder n None = false
is_holder n (Some h) = same_text h n

held_as : (s n : Name) (o : Option Name) → is_holder n o ≡ held_by_node s n (option_map (holder_of s) o)
held_as s n None = refl
held_as s n (Some h) = ap (λ b. b && same_text h n) (sym (same_text-itself s))

-- what is found in the entries is what the register's grants say
pub held : (s n : Name) (es : List (ChannelSlot × Name)) (k : ℕ) (c : Channel) → is_holder n (lookup (is_at (slot_cmp (record { slot = k; channel = c }))) es)
    ≡ held_by_node s n (get (table_of {J = ChannelSlot} channel_slots (λ k. (k.slot, k.channel)) (holder_of s) es) (k, c))
held s n es k c =
    held_as s n (lookup (is_at (slot_cmp (record { slot = k; channel = c }))) es)
    ∙ ap (held_by_node s n) (sym (get-table_of slot_cmp channel_slots (λ k. (k.slot, k.channel)) (holder_of s) slots_alike es (record { slot = k; channel = c })))

pub held_some : (s n h : Name) (es : List (ChannelSlot × Name)) (k : ℕ) (c : Channel) (is : Bool) → is ≡ same_text h n → Some h ≡ lookup (is_at (slot_cmp (record { slot = k; channel = c }))) es →
    is ≡ held_by_node s n (get (table_of {J = ChannelSlot} channel_slots (λ k. (k.slot, k.channel)) (holder_of s) es) (k, c))
held_some s n h es k c is same found = same ∙ ap (is_holder n) found ∙ held s n es k c

pub held_none : (s n : Name) (es : List (ChannelSlot × Name)) (k : ℕ) (c : Channel) → None ≡ lookup (is_at (slot_cmp (record { slot = k; channel = c }))) es →
    false ≡ held_by_node s n (get (table_of {J = ChannelSlot} channel_slots (λ k. (k.slot, k.channel)) (holder_of s) es) (k, c))
held_none s n es k c none = ap (is_holder n) none ∙ held s n es k c

-- ---- placements

fits_decided : (p : Params) (q : Placement) → Decides (fits p q) (FitsCluster p q)
unfolding fits
fits_decided p q = (
  λ h.
      let one = and_parts _ _ h in
      let two = and_parts _ _ one.1 in
      let three = and_parts _ _ two.1 in
      let four = and_parts _ _ three.1 in
      record { from_one = leb-true _ _ one.0; to_last = leb-true _ _ two.0; channels = three.0; count = eqb-true _ _ four.0; cycles = four.1 },
  λ f. and_from _ _ (le-leb _ _ f.from_one) (and_from _ _ (le-leb _ _ f.to_last) (and_from _ _ f.channels (and_from _ _ (eq-eqb _ _ f.count) f.cycles))),
)

placed_decided : (page : OwnRows) (n : Name) (q : Placement) → Decides (is_placed page n q) (FitsCluster page.params q × IsTrue (granted page.grants page.supplier n q))
unfolding is_placed
placed_decided page n q = Decides-and (fits page.params q) (granted page.grants page.supplier n q) (fits_decided page.params q) (λ h. h, λ h. h)

all_placed : (page : OwnRows) (n : Name) (qs : List Placement) → Decides (list_all (is_placed page n) qs) (All (λ q. FitsCluster page.params q × IsTrue (granted page.grants page.supplier n q)) qs)
all_placed page n qs = Decides-by_and (is_placed page n) (λ q. FitsCluster page.params q × IsTrue (granted page.grants page.supplier n q)) (list_all (is_placed page n)) (placed_decided page n) refl (λ x xs. refl) qs

keys_again : (qs : List Placement) → map (λ q. q.0) (set_rows placement_cmp placement_order (λ q. q) placements_alike qs) ≡ qs
keys_again [] = refl
keys_again (q ∷ qs) = ap (λ rs. q ∷ rs) (keys_again qs)

-- a frame's placements are those of its rows
pub placements_in-frame_of : (f : FrameData) → IsStrictlySortedBy placement_cmp f.placements → placements_in (frame_of f) ≡ f.placements
placements_in-frame_of f ordered = ap (map (λ q. q.0)) (rows-set_of placement_cmp placement_order (λ q. q) placements_alike f.placements ordered) ∙ keys_again f.placements

-- ---- a frame

-- the tests of a frame's rows
pub frame_decided : (page : OwnRows) (f : FrameData) (few whole placed : Bool) → IsStrictlySortedBy placement_cmp f.placements → IsLayout f.layout →
    few ≡ nat_le (length f.placements) 8 → whole ≡ (f.layout.words == page.params.payload_words) → placed ≡ list_all (is_placed page f.node) f.placements → Decides (few && (whole && placed)) (IsKeptFrame page f)
frame_decided page f few whole placed ordered sound is_few is_whole is_placed =
    let qs = placements_in-frame_of f ordered in
    let count : len (frame_of f).placements ≡ length f.placements = len-set_of placement_cmp placement_order (λ q. q) placements_alike f.placements ordered in (
      λ h.
          let one = and_parts _ _ h in
          let two = and_parts _ _ one.1 in
          let short = leb-true (length f.placements) 8 (sym is_few ∙ one.0) in
          let words = eqb-true f.layout.words page.params.payload_words (sym is_whole ∙ two.0) in
          let all = (all_placed page f.node f.placements).0 (sym is_placed ∙ two.1) in (
            record {
              few = omega (arith, count, short);
              fits = subst (All (FitsCluster page.params)) (sym qs) (λ i d low. (all i d low).0);
              in_grants = subst (All (λ q. IsTrue (granted page.grants page.supplier f.node q))) (sym qs) (λ i d low. (all i d low).1);
              layout = subst IsLayout (λ i. record { words = words i; signals = f.layout.signals }) sound;
            },
            words,
            placements_rise f.placements ordered,
          ),
      λ kept.
          let page_frame = kept.0 in
          let short = page_frame.few in
          let fits = subst (All (FitsCluster page.params)) qs page_frame.fits in
          let granted = subst (All (λ q. IsTrue (granted page.grants page.supplier f.node q))) qs page_frame.in_grants in
          and_from _ _ (is_few ∙ le-leb (length f.placements) 8 (omega (arith, count, short)))
          (and_from _ _ (is_whole ∙ eq-eqb f.layout.words page.params.payload_words kept.1) (is_placed ∙ (all_placed page f.node f.placements).1 (λ i d low. (fits i d low, granted i d low)))),
    )

-- ---- as the frames are gone through

-- P holds of all values where it holds of those that are left, and the other way round
pub record IsLeft {K X : Type 0} (P : X → Type 0) (es : List (K × X)) (xs : List X) : Type 0 where
  pub all : All P xs → All (λ e. P e.1) es
  pub some : All (λ e. P e.1) es → All P xs

module _ {E X : Type 0} (P : X → Type 0) (g : E → X) where
  from_map : (es : List E) → AllByRecursion P (map g es) → AllByRecursion (λ e. P (g e)) es
  from_map [] h = tt
  from_map (e ∷ es) h = (h.0, from_map es h.1)

  -- what holds of each image
  pub All-from_map : (es : List E) → All P (map g es) → All (λ e. P (g e)) es
  All-from_map es h = All-from_recursion (λ e. P (g e)) es (from_map es (recursion_from_All P (map g es) h))

module _ {K X : Type 0} (P : X → Type 0) where
  pub IsLeft-all : (es : List (K × X)) (xs : List X) → xs ≡ values_of es → IsLeft P es xs
  IsLeft-all es xs is = record {
    all = λ h. All-from_map P (λ e. e.1) es (subst (All P) is h);
    some = λ h. subst (All P) (sym is) (All-map P (λ e. e.1) es h);
  }

  pub IsLeft-next : (es : List (K × X)) (xs ys : List X) (x : X) → xs ≡ x ∷ ys → P x → IsLeft P es xs → IsLeft P es ys
  IsLeft-next es xs ys x is here left = record {
    all = λ h. left.all (subst (All P) (sym is) (All-from_recursion P (x ∷ ys) (here, recursion_from_All P ys h)));
    some = λ h. All-from_recursion P ys (recursion_from_All P (x ∷ ys) (subst (All P) is (left.some h))).1;
  }
