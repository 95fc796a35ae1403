-- What keeps a book sound: a row more, or a row less, in one of its tables.
use Rattle.std.proofs.Common.{◌≡◌, ℕ, suc, ◌<◌, ◌≤◌, Bool, true, false, cond, List, [], ◌∷◌, Option, Some, None, is_some, IsTrue, refl, sym, ap, subst, ◌∙◌, ◌⊎◌, inl, inr, arith, true≢false}
use Rattle.std.specs.Prelude.{⊤}
use Rattle.std.specs.Ordering.{eq_by_cmp}
use Rattle.std.specs.List.{list_all}
use Rattle.std.proofs.lemmas.Slice.Eq.{bytes_eq-Decides}
use Rattle.std.proofs.lemmas.Bool.{cases_Bool, and_parts, and_from}
use Rattle.std.proofs.lemmas.Bool.Decides.{Decides-eqb}
use Rattle.fr_base.specs.Tables.{Table, empty, get, contains, len, insert, only, remove}
use Rattle.fr_base.specs.Keys.{names, owned, channel_slots}
use Rattle.fr_base.specs.declared.limits.TheConstants.{MAX_NODES, MAX_VARIANTS, MAX_DEPTH, MAX_FRAMES, MAX_IMPORTS}
use Rattle.fr_base.specs.Channels.{channels_in, has_channel}
use Rattle.fr_base.specs.Cluster.{Cluster}
use Rattle.fr_base.specs.Names.{is_name, same_text}
use Rattle.fr_base.specs.Book.{Holder, Frame, Variant, Kept, Book, empty_variant, held_by, held_by_node, granted, is_of, own, own_grants}
use Rattle.fr_base.specs.Step.{fills, in_use, with_variant}
use Rattle.fr_base.specs.Sound.{HasChannelSlot, IsSoundFrame, IsSoundVariant, IsSoundImport, IsOpenedFrom, IsSound}
use Rattle.fr_base.specs.declared.channel.Channel.{Channel}
use Rattle.fr_base.specs.declared.channel.Channels.{Channels}
use Rattle.fr_base.specs.declared.channel.Channels.TheVariants as channels
use Rattle.fr_base.specs.declared.name.Name.{Name}
use Rattle.fr_base.specs.declared.params.Params.{Params}
use Rattle.fr_base.specs.declared.placement.Placement.{Placement}
use Rattle.fr_base.proofs.TableLaws.{equal, get-insert, get-only, kept}
use Rattle.fr_base.proofs.SoundTables.{some_there, get-passing, same_some, insert-cases, contains-more, contains-cases, len-within, only-within, remove-stood, get-remove_other, only-remove}
use Rattle.fr_base.proofs.SoundCells.{any_placement}
use Rattle.fr_base.proofs.SoundApart.{NoneShared, IsApart, insert-none_shared, lesser-apart}

-- texts that compare as equal are the same
pub same_text-is : (a b : Name) → IsTrue (same_text a b) → a ≡ b
same_text-is a b h = (bytes_eq-Decides a b).0 h

-- who holds a slot and channel with a node is its holder
pub holder-is : (s n : Name) (o : Option Holder) → IsTrue (held_by_node s n o) → o ≡ Some (record { supplier = s; node = n })
holder-is s n None h = absurd (true≢false (sym h))
holder-is s n (Some x) h =
    let both = and_parts _ _ h in
    λ i. Some (record { supplier = same_text-is x.supplier s both.0 i; node = same_text-is x.node n both.1 i })

-- what all pass, all pass where the test is weaker
pub all_more : {X : Type 0} (f g : X → Bool) (xs : List X) → ((x : X) → IsTrue (f x) → IsTrue (g x)) → IsTrue (list_all f xs) → IsTrue (list_all g xs)
all_more f g [] more h = refl
all_more f g (x ∷ xs) more h = let both = and_parts _ _ h in and_from _ _ (more x both.0) (all_more f g xs more both.1)

-- a slot and channel that nobody holds can be granted, and each holder keeps what it holds
pub granted-more : (grants : Table channel_slots Holder) (at : ℕ × Channel) (x : Holder) → contains grants at ≡ false → (s n : Name) (q : Placement) → IsTrue (granted grants s n q) → IsTrue (granted (insert grants at x) s n q)
unfolding granted
granted-more grants at x free s n q =
    all_more _ _ (channels_in q.channels) (λ c h.
    let key : ℕ × Channel = (q.slot, c) in
    let there : IsTrue (contains grants key) = ap is_some (holder-is s n (get grants key) h) in
    elim (cases_Bool (eq_by_cmp channel_slots.compare key at)) [
      | inl e ↦ absurd (true≢false (sym there ∙ ap (contains grants) (channel_slots.exact key at (equal _ e)) ∙ free))
      | inr e ↦ ap (held_by_node s n) (get-insert grants at x key ∙ ap (λ b. cond b (Some x) (get grants key)) e) ∙ h
    ])

-- what holds of each channel that is meant
pub all_meant : (chs : Channels) (f g : Channel → Bool) → ((c : Channel) → IsTrue (has_channel chs c) → IsTrue (f c) → IsTrue (g c)) → IsTrue (list_all f (channels_in chs)) → IsTrue (list_all g (channels_in chs))
all_meant channels.A f g more h = and_from _ _ (more _ refl (and_parts _ _ h).0) refl
all_meant channels.AB f g more h =
    let both = and_parts _ _ h in
    and_from _ _ (more _ refl both.0) (and_from _ _ (more _ refl (and_parts _ _ both.1).0) refl)
all_meant channels.B f g more h = and_from _ _ (more _ refl (and_parts _ _ h).0) refl

-- what is among a supplier's own grants is held by the supplier
pub own-held : (grants : Table channel_slots Holder) (s : Name) (at : ℕ × Channel) → IsTrue (contains (own_grants s grants) at) → IsTrue (held_by s (get grants at))
own-held grants s at h = passed (get grants at) (sym (ap is_some (get-only channel_slots (λ _ x. held_by s (Some x)) grants at)) ∙ h)
  where
    passed : (o : Option Holder) → IsTrue (is_some (kept (λ _ x. held_by s (Some x)) at o)) → IsTrue (held_by s o)
    passed None h = cc
    passed (Some x) h = elim (same_text x.supplier s) as (λ b. IsTrue (is_some (cond b (Some x) None)) → IsTrue b) [ true ↦ λ _. refl | false ↦ λ e. cc ] h

-- where a supplier uses a slot and channel in no placement, its placements lie in the other grants
still_granted : (grants : Table channel_slots Holder) (frames : Table owned Frame) (at : ℕ × Channel) (s : Name) → IsTrue (contains (own_grants s grants) at) → in_use at (own s frames) ≡ false →
    (k : Name × Name) (f : Frame) (q : Placement) → get frames k ≡ Some f → IsTrue (contains f.placements q) → IsTrue (granted grants k.0 f.node q) → IsTrue (granted (remove grants at) k.0 f.node q)
unfolding granted in_use
still_granted grants frames at s holds free k f q there within =
    all_meant q.channels _ _ (λ c meant h.
    let key : ℕ × Channel = (q.slot, c) in
    elim (cases_Bool (eq_by_cmp channel_slots.compare at key)) [
      | inl e ↦
          let same : at ≡ key = channel_slots.exact at key (equal _ e) in
          let mine : IsTrue (same_text k.0 s) = sym (ap (held_by s) (ap (get grants) same ∙ holder-is k.0 f.node (get grants key) h)) ∙ own-held grants s at holds in
          let used : IsTrue (fills at q) = ap (λ (x : ℕ × Channel). fills x q) same ∙ and_from _ _ ((Decides-eqb q.slot q.slot).1 refl) meant in
          absurd (true≢false (sym (any_placement (λ x. fills at x.1) (own s frames) k f q (get-passing owned (is_of s) frames k mine ∙ there) within used) ∙ free))
      | inr other ↦ ap (held_by_node k.0 f.node) (get-remove_other channel_slots grants at key other) ∙ h
    ])

-- ---- a variant, where nodes, grants or frames are more

module _ (p : Params) (nodes more : Table owned ⊤) (there : (s n : Name) → IsTrue (contains nodes (s, n)) → IsTrue (contains more (s, n))) where
  -- a frame, where its supplier has more nodes, and each of its placements lies in other grants too
  pub frame-more_nodes : (grants all : Table channel_slots Holder) (k : Name × Name) (f : Frame) → ((q : Placement) → IsTrue (contains f.placements q) → IsTrue (granted grants k.0 f.node q) → IsTrue (granted all k.0 f.node q)) →
      IsSoundFrame p nodes grants k f → IsSoundFrame p more all k f
  frame-more_nodes grants all k f still sound = record {
    name = sound.name;
    node = there k.0 f.node sound.node;
    fits = sound.fits;
    in_grants = λ q h. still q h (sound.in_grants q h);
    limit = sound.limit;
    layout = sound.layout;
    signal_names = sound.signal_names;
  }

  -- a sound variant stays sound where suppliers have more nodes
  pub variant-more_nodes : (v : Variant) → IsSoundVariant p nodes v → IsSoundVariant p more v
  variant-more_nodes v sound = record {
    grant_nodes = λ at h e. there h.supplier h.node (sound.grant_nodes at h e);
    grants_fit = sound.grants_fit;
    frames = λ k f e. frame-more_nodes v.grants v.grants k f (λ q _ h. h) (sound.frames k f e);
    apart = λ k l f g q r c one two. sound.apart k l f g q r c (record { frame = one.frame; placement = one.placement; has = one.has }) (record { frame = two.frame; placement = two.placement; has = two.has });
    frame_limit = sound.frame_limit;
    depth = sound.depth;
  }

module _ (p : Params) (nodes : Table owned ⊤) (v : Variant) (sound : IsSoundVariant p nodes v) where
  -- no two of its placements share a cell
  pub variant-apart : NoneShared v.frames
  variant-apart k l f g q r c at_k at_l in_f in_g has_q has_r =
      sound.apart k l f g q r c (record { frame = at_k; placement = in_f; has = has_q }) (record { frame = at_l; placement = in_g; has = has_r })

  -- a grant of a slot and channel that nobody holds
  pub more_grants-sound : (at : ℕ × Channel) (x : Holder) → contains v.grants at ≡ false → HasChannelSlot p at → IsTrue (contains nodes (x.supplier, x.node)) → IsSoundVariant p nodes (record v { grants = insert v.grants at x })
  more_grants-sound at x free fits has = record {
    grant_nodes = λ k h e. elim (insert-cases v.grants at x k h e) [
      | inl new ↦ subst (λ (y : Holder). IsTrue (contains nodes (y.supplier, y.node))) new.1 has
      | inr old ↦ sound.grant_nodes k h old.1
    ];
    grants_fit = λ k h e. elim (insert-cases v.grants at x k h e) [
      | inl new ↦ subst (HasChannelSlot p) (sym new.0) fits
      | inr old ↦ sound.grants_fit k h old.1
    ];
    frames = λ k f e. frame-more_nodes p nodes nodes (λ s n h. h) v.grants (insert v.grants at x) k f (λ q _. granted-more v.grants at x free k.0 f.node q) (sound.frames k f e);
    apart = λ k l f g q r c one two. sound.apart k l f g q r c (record { frame = one.frame; placement = one.placement; has = one.has }) (record { frame = two.frame; placement = two.placement; has = two.has });
    frame_limit = sound.frame_limit;
    depth = sound.depth;
  }

  module _ (k : Name × Name) (g : Frame) where
    -- a frame put in, or changed
    pub more_frames-sound : IsSoundFrame p nodes v.grants k g → IsApart v.frames k g → IsTrue (contains v.frames k) ⊎ (len (only (λ j _. is_of k.0 j) v.frames) < MAX_FRAMES) → IsSoundVariant p nodes (record v { frames = insert v.frames k g })
    more_frames-sound frame apart room = record {
      grant_nodes = sound.grant_nodes;
      grants_fit = sound.grants_fit;
      frames = λ j f e. elim (insert-cases v.frames k g j f e) [
        | inl new ↦ subst (λ x. IsSoundFrame p nodes v.grants x f) (sym new.0) (subst (IsSoundFrame p nodes v.grants k) new.1 frame)
        | inr old ↦ sound.frames j f old.1
      ];
      apart = λ i j f h q r c one two. insert-none_shared v.frames variant-apart k g apart i j f h q r c one.frame two.frame one.placement two.placement one.has two.has;
      frame_limit = λ s. only-within owned (is_of s) v.frames k g MAX_FRAMES (sound.frame_limit s) (λ own. elim room [
        | inl there ↦ inl there
        | inr few ↦ inr (subst (λ t. len (only (λ j _. is_of t j) v.frames) < MAX_FRAMES) (same_text-is k.0 s own) few)
      ]);
      depth = sound.depth;
    }

  -- ---- rows fewer, or other marks

  -- a variant that is released or not, and begun from another or not
  pub marked-sound : (parent : Option Name) (depth : ℕ) (released : Bool) → depth ≤ MAX_DEPTH → IsSoundVariant p nodes (record v { parent = parent; depth = depth; released = released })
  marked-sound parent depth released within = record {
    grant_nodes = sound.grant_nodes;
    grants_fit = sound.grants_fit;
    frames = sound.frames;
    apart = λ k l f g q r c one two. sound.apart k l f g q r c (record { frame = one.frame; placement = one.placement; has = one.has }) (record { frame = two.frame; placement = two.placement; has = two.has });
    frame_limit = sound.frame_limit;
    depth = within;
  }

  -- a frame is gone
  pub dropped-sound : (k : Name × Name) → IsSoundVariant p nodes (record v { frames = remove v.frames k })
  dropped-sound k =
      let stood = remove-stood owned v.frames k in
      record {
        grant_nodes = sound.grant_nodes;
        grants_fit = sound.grants_fit;
        frames = λ j f e. sound.frames j f (stood j f e);
        apart = λ i j f g q r c one two. sound.apart i j f g q r c (record { frame = stood i f one.frame; placement = one.placement; has = one.has }) (record { frame = stood j g two.frame; placement = two.placement; has = two.has });
        frame_limit = λ s. only-remove owned v.frames k (λ j _. is_of s j) MAX_FRAMES (sound.frame_limit s);
        depth = sound.depth;
      }

  -- a frame in place of another under its key, with no placement that the other had not
  pub lesser_frame-sound : (k : Name × Name) (f g : Frame) → get v.frames k ≡ Some f → ((q : Placement) → IsTrue (contains g.placements q) → IsTrue (contains f.placements q)) →
      IsSoundFrame p nodes v.grants k g → IsSoundVariant p nodes (record v { frames = insert v.frames k g })
  lesser_frame-sound k f g found had fine = more_frames-sound k g fine (lesser-apart v.frames variant-apart k f found g had) (inl (some_there _ f found))

  -- a grant that no placement of its holder uses is gone
  pub revoked-sound : (at : ℕ × Channel) (s : Name) → IsTrue (contains (own_grants s v.grants) at) → in_use at (own s v.frames) ≡ false → IsSoundVariant p nodes (record v { grants = remove v.grants at })
  revoked-sound at s holds free =
      let stood = remove-stood channel_slots v.grants at in
      record {
        grant_nodes = λ k h e. sound.grant_nodes k h (stood k h e);
        grants_fit = λ k h e. sound.grants_fit k h (stood k h e);
        frames = λ k f e. frame-more_nodes p nodes nodes (λ t n h. h) v.grants (remove v.grants at) k f (λ q within. still_granted v.grants v.frames at s holds free k f q e within) (sound.frames k f e);
        apart = λ k l f g q r c one two. sound.apart k l f g q r c (record { frame = one.frame; placement = one.placement; has = one.has }) (record { frame = two.frame; placement = two.placement; has = two.has });
        frame_limit = sound.frame_limit;
        depth = sound.depth;
      }

-- an empty variant is sound
pub empty_variant-sound : (p : Params) (nodes : Table owned ⊤) → IsSoundVariant p nodes empty_variant
unfolding empty_variant empty get len only
empty_variant-sound p nodes = record {
  grant_nodes = λ at h e. cc;
  grants_fit = λ at h e. cc;
  frames = λ k f e. cc;
  apart = λ k l f g q r c one two. let none : ⊥ = let e = one.frame in cc in absurd none;
  frame_limit = λ s. omega arith;
  depth = omega arith;
}

-- ---- a book, where a variant is put in or changed, or nodes are more

-- a variant's parent stays where a variant is put in, or changed, if a released one stays released and as deep
opened_from-more : (variants : Table names Variant) (v : Name) (x : Variant) →
    ((old : Variant) → get variants v ≡ Some old → IsTrue old.released → IsTrue x.released × (x.depth ≡ old.depth)) →
    (parent : Option Name) (depth : ℕ) → IsOpenedFrom variants parent depth → IsOpenedFrom (insert variants v x) parent depth
opened_from-more variants v x keeps None depth h = h
opened_from-more variants v x keeps (Some p) depth h = elim (cases_Bool (eq_by_cmp names.compare p v)) [
  | inl e ↦
      let same : p ≡ v = names.exact p v (equal _ e) in
      let kept = keeps h.0 (sym (ap (get variants) same) ∙ h.1) h.2 in
      (x, get-insert variants v x p ∙ ap (λ b. cond b (Some x) (get variants p)) e, kept.0, h.3 ∙ sym (ap suc kept.1))
  | inr e ↦ (h.0, get-insert variants v x p ∙ ap (λ b. cond b (Some x) (get variants p)) e ∙ h.1, h.2, h.3)
]

module _ (c : Cluster) (b : Book) (sound : IsSound c b) where
  pub with_variant-sound : (v : Name) (x : Variant) → IsTrue (is_name v) → IsSoundVariant c.params b.nodes x → IsOpenedFrom b.variants x.parent x.depth →
      ((old : Variant) → get b.variants v ≡ Some old → IsTrue old.released → IsTrue x.released × (x.depth ≡ old.depth)) →
      IsTrue (contains b.variants v) ⊎ (len b.variants < MAX_VARIANTS) → IsSound c (with_variant b v x)
  with_variant-sound v x named fine from keeps room = record {
    cluster = sound.cluster;
    nodes = sound.nodes;
    variants = λ w y e. elim (insert-cases b.variants v x w y e) [
      | inl new ↦ (subst (λ n. IsTrue (is_name n)) (sym new.0) named, subst (IsSoundVariant c.params b.nodes) new.1 fine)
      | inr old ↦ sound.variants w y old.1
    ];
    parents = λ w y e. opened_from-more b.variants v x keeps y.parent y.depth (elim (insert-cases b.variants v x w y e) [
      | inl new ↦ subst (λ (z : Variant). IsOpenedFrom b.variants z.parent z.depth) new.1 from
      | inr old ↦ sound.parents w y old.1
    ]);
    imports = λ s l import e. let fine = sound.imports s l import e in record {
      label = fine.label;
      supplier = fine.supplier;
      variant = contains-more b.variants v x import.variant fine.variant;
      bytes = fine.bytes;
      rows = fine.rows;
    };
    node_limit = sound.node_limit;
    variant_limit = len-within b.variants v x MAX_VARIANTS sound.variant_limit room;
    import_limit = sound.import_limit;
  }

  -- a variant that is there, changed or released
  pub changed-sound : (v : Name) (old x : Variant) → get b.variants v ≡ Some old → IsSoundVariant c.params b.nodes x → x.parent ≡ old.parent → x.depth ≡ old.depth →
      (IsTrue old.released → IsTrue x.released) → IsSound c (with_variant b v x)
  changed-sound v old x e fine parent depth released =
      with_variant-sound v x (sound.variants v old e).0 fine
      (subst (λ (k : Option Name × ℕ). IsOpenedFrom b.variants k.0 k.1) (λ i. (sym parent i, sym depth i)) (sound.parents v old e))
      (λ there found was. let same = same_some _ _ (sym e ∙ found) in (released (subst (λ (y : Variant). IsTrue y.released) (sym same) was), depth ∙ ap (λ (y : Variant). y.depth) same))
      (inl (some_there _ old e))

  pub more_nodes-sound : (s n : Name) → IsTrue (is_name n) → IsTrue (contains b.suppliers s) → len (own s b.nodes) < MAX_NODES → IsSound c (record b { nodes = insert b.nodes (s, n) tt })
  more_nodes-sound s n named known room = record {
    cluster = sound.cluster;
    nodes = λ t m h. elim (contains-cases b.nodes (s, n) tt (t, m) h) [
      | inl e ↦ (subst (λ x. IsTrue (is_name x)) (sym (ap (λ (k : Name × Name). k.1) e)) named, subst (λ x. IsTrue (contains b.suppliers x)) (sym (ap (λ (k : Name × Name). k.0) e)) known)
      | inr old ↦ sound.nodes t m old
    ];
    variants = λ v x e. ((sound.variants v x e).0, variant-more_nodes c.params b.nodes (insert b.nodes (s, n) tt) (λ t m h. contains-more b.nodes (s, n) tt (t, m) h) x (sound.variants v x e).1);
    parents = sound.parents;
    imports = sound.imports;
    node_limit = λ t. only-within owned (is_of t) b.nodes (s, n) tt MAX_NODES (sound.node_limit t) (λ own. inr (subst (λ x. len (only (λ k _. is_of x k) b.nodes) < MAX_NODES) (same_text-is s t own) room));
    variant_limit = sound.variant_limit;
    import_limit = sound.import_limit;
  }

  -- one import more
  pub more_imports-sound : (s l : Name) (one : Kept) → IsSoundImport b.suppliers b.variants s l one → len (own s b.imports) < MAX_IMPORTS → IsSound c (record b { imports = insert b.imports (s, l) one })
  more_imports-sound s l one fine room = record {
    cluster = sound.cluster;
    nodes = sound.nodes;
    variants = sound.variants;
    parents = sound.parents;
    imports = λ t m other e. elim (insert-cases b.imports (s, l) one (t, m) other e) [
      | inl new ↦ there t m other new.0 new.1
      | inr old ↦ sound.imports t m other old.1
    ];
    node_limit = sound.node_limit;
    variant_limit = sound.variant_limit;
    import_limit = λ t. only-within owned (is_of t) b.imports (s, l) one MAX_IMPORTS (sound.import_limit t) (λ own. inr (subst (λ x. len (only (λ k _. is_of x k) b.imports) < MAX_IMPORTS) (same_text-is s t own) room));
  }
    where
      there : (t m : Name) (other : Kept) → ◌≡◌ {A = Name × Name} (t, m) (s, l) → one ≡ other → IsSoundImport b.suppliers b.variants t m other
      there t m other key same =
          subst (λ (x : Name × Name). IsSoundImport b.suppliers b.variants x.0 x.1 other) (sym key) (subst (IsSoundImport b.suppliers b.variants s l) same fine)
