-- A variant in which a supplier has the frames that it has in another, where it has the same nodes and grants: it is sound.
use Rattle.std.proofs.Common.{◌≡◌, ◌≤◌, Bool, true, false, cond, List, [], ◌∷◌, Option, Some, None, is_some, IsTrue, refl, sym, ap, subst, ◌∙◌, inl, inr, true≢false}
use Rattle.std.specs.Prelude.{⊤}
use Rattle.std.specs.Ordering.{eq_by_cmp}
use Rattle.std.specs.FinMap.Entries.{find}
use Rattle.std.proofs.lemmas.Bool.{cases_Bool}
use Rattle.fr_base.specs.Tables.{Table, empty, get, contains, len, insert}
use Rattle.fr_base.specs.Keys.{owned}
use Rattle.fr_base.specs.Cells.{Cell}
use Rattle.fr_base.specs.Names.{same_text}
use Rattle.fr_base.specs.Book.{Frame, Variant, is_of, own, own_grants, granted}
use Rattle.fr_base.specs.Sound.{IsSent, IsSoundFrame, IsSoundVariant}
use Rattle.fr_base.specs.declared.limits.TheConstants.{MAX_FRAMES}
use Rattle.fr_base.specs.declared.name.Name.{Name}
use Rattle.fr_base.specs.declared.params.Params.{Params}
use Rattle.fr_base.specs.declared.placement.Placement.{Placement}
use Rattle.fr_base.proofs.TableLaws.{get-insert, get-only, get-empty, same_table, kept}
use Rattle.fr_base.proofs.SoundTables.{get-passing}
use Rattle.fr_base.proofs.SoundRows.{same_text-is}
use Rattle.fr_base.proofs.AloneCells.{same_text-itself, others_lack}
use Rattle.fr_base.proofs.AloneChanges.{own-granted}
use Rattle.fr_base.proofs.Filling.{granted-own}

-- ---- the frames of both

-- the table with these rows too
unfoldable pub insert_rows : List ((Name × Name) × Frame) → Table owned Frame → Table owned Frame
insert_rows [] t = t
insert_rows (e ∷ es) t = insert (insert_rows es t) e.0 e.1

-- what is there, or else what was
abbrev or_else : Option Frame → Option Frame → Option Frame
or_else (Some w) o = Some w
or_else None o = o

get-insert_rows : (es : List ((Name × Name) × Frame)) (t : Table owned Frame) (k : Name × Name) → get (insert_rows es t) k ≡ or_else (find owned.compare k es) (get t k)
unfolding insert_rows
get-insert_rows [] t k = refl
get-insert_rows (e ∷ es) t k = get-insert (insert_rows es t) e.0 e.1 k ∙ by (eq_by_cmp owned.compare k e.0) (get-insert_rows es t k)
  where
    by : (b : Bool) → get (insert_rows es t) k ≡ or_else (find owned.compare k es) (get t k) → cond b (Some e.1) (get (insert_rows es t) k) ≡ or_else (cond b (Some e.1) (find owned.compare k es)) (get t k)
    by true h = refl
    by false h = h

module _ (s : Name) (x y : Variant) (none : own s y.frames ≡ empty) where
  -- the supplier's of the one variant, and those of the others of the other
  pub full : Table owned Frame
  full = insert_rows (own s x.frames).rows y.frames

  kept_not : (k : Name × Name) (o : Option Frame) → is_of s k ≡ false → kept (λ j _. is_of s j) k o ≡ None
  kept_not k None other = refl
  kept_not k (Some w) other = ap (λ b. cond b (Some w) None) other

  pub full-mine : (k : Name × Name) → is_of s k ≡ true → get full k ≡ get x.frames k
  unfolding full get
  full-mine k mine =
      get-insert_rows (own s x.frames).rows y.frames k
      ∙ (λ i. or_else (get-passing owned (is_of s) x.frames k mine i) ((sym (get-passing owned (is_of s) y.frames k mine) ∙ ap (λ t. get t k) none ∙ get-empty owned k) i))
      ∙ same (get x.frames k)
    where
      same : (o : Option Frame) → or_else o None ≡ o
      same None = refl
      same (Some w) = refl

  pub full-others : (k : Name × Name) → is_of s k ≡ false → get full k ≡ get y.frames k
  unfolding full get
  full-others k other =
      get-insert_rows (own s x.frames).rows y.frames k
      ∙ ap (λ o. or_else o (get y.frames k)) (get-only owned (λ j _. is_of s j) x.frames k ∙ kept_not k (get x.frames k) other)

  pub full-own : own s full ≡ own s x.frames
  full-own = same_table _ _ (λ k. elim (cases_Bool (is_of s k)) [
    | inl mine ↦ get-passing owned (is_of s) full k mine ∙ full-mine k mine ∙ sym (get-passing owned (is_of s) x.frames k mine)
    | inr other ↦
        get-only owned (λ j _. is_of s j) full k ∙ kept_not k (get full k) other
        ∙ sym (get-only owned (λ j _. is_of s j) x.frames k ∙ kept_not k (get x.frames k) other)
  ])

  full-own_other : (t : Name) → same_text t s ≡ false → own t full ≡ own t y.frames
  full-own_other t apart = same_table _ _ (λ k. elim (cases_Bool (is_of t k)) [
    | inl theirs ↦
        let other : is_of s k ≡ false = ap (λ n. same_text n s) (same_text-is k.0 t theirs) ∙ apart in
        get-passing owned (is_of t) full k theirs ∙ full-others k other ∙ sym (get-passing owned (is_of t) y.frames k theirs)
    | inr not ↦ get-only owned (λ j _. is_of t j) full k ∙ hidden t k (get full k) not ∙ sym (get-only owned (λ j _. is_of t j) y.frames k ∙ hidden t k (get y.frames k) not)
  ])
    where
      hidden : (t : Name) (k : Name × Name) (o : Option Frame) → is_of t k ≡ false → kept (λ j _. is_of t j) k o ≡ None
      hidden t k None other = refl
      hidden t k (Some w) other = ap (λ b. cond b (Some w) None) other

  -- ---- it is sound

  module _ (p : Params) (nodes old : Table owned ⊤) (same_nodes : own s nodes ≡ own s old) (same_grants : own_grants s y.grants ≡ own_grants s x.grants)
      (here : IsSoundVariant p nodes y) (there : IsSoundVariant p old x) where
    still_granted : (n : Name) (q : Placement) → IsTrue (granted x.grants s n q) → IsTrue (granted y.grants s n q)
    still_granted n q h = own-granted y.grants s s n q (subst (λ grants. IsTrue (granted grants s n q)) (sym same_grants) (granted-own x.grants s n q h))

    still_node : (n : Name) → IsTrue (contains old (s, n)) → IsTrue (contains nodes (s, n))
    still_node n h =
        ap is_some (sym (get-passing owned (is_of s) nodes (s, n) (same_text-itself s)) ∙ ap (λ t. get t (s, n)) same_nodes ∙ get-passing owned (is_of s) old (s, n) (same_text-itself s)) ∙ h

    frame-sound : (f : Name) (w : Frame) → get x.frames (s, f) ≡ Some w → IsSoundFrame p nodes y.grants (s, f) w
    frame-sound f w found =
        let fine = there.frames (s, f) w found in
        record {
          name = fine.name;
          node = still_node w.node fine.node;
          fits = fine.fits;
          in_grants = λ q h. still_granted w.node q (fine.in_grants q h);
          limit = fine.limit;
          layout = fine.layout;
          signal_names = fine.signal_names;
        }

    abbrev all : Variant
    all = record y { frames = full }

    own_key : (k : Name × Name) → is_of s k ≡ true → k ≡ (s, k.1)
    own_key k mine = λ i. (same_text-is k.0 s mine i, k.1)

    frames-sound : (k : Name × Name) (w : Frame) → get full k ≡ Some w → IsSoundFrame p nodes y.grants k w
    frames-sound k w found = elim (cases_Bool (is_of s k)) [
      | inl mine ↦
          let key = own_key k mine in
          subst (λ j. IsSoundFrame p nodes y.grants j w) (sym key) (frame-sound k.1 w (ap (get x.frames) (sym key) ∙ sym (full-mine k mine) ∙ found))
      | inr other ↦ here.frames k w (sym (full-others k other) ∙ found)
    ]

    -- a cell of the supplier's is in no frame of another
    no_clash : (k l : Name × Name) (f g : Frame) (q r : Placement) (cell : Cell) → is_of s k ≡ true → is_of s l ≡ false → IsSent all k f q cell → IsSent all l g r cell → ⊥
    no_clash k l f g q r cell mine other one two =
        let fine = frames-sound k f one.frame in
        let holds : IsTrue (granted y.grants s f.node q) = subst (λ n. IsTrue (granted y.grants n f.node q)) (same_text-is k.0 s mine) (fine.in_grants q one.placement) in
        true≢false (sym two.has ∙ others_lack p nodes y here s f.node q holds cell one.has l g (sym (full-others l other) ∙ two.frame) other r two.placement)

    all-apart : (k l : Name × Name) (f g : Frame) (q r : Placement) (cell : Cell) → IsSent all k f q cell → IsSent all l g r cell → (k ≡ l) × (q ≡ r)
    all-apart k l f g q r cell one two = elim (cases_Bool (is_of s k)) [
      | inl mine ↦ elim (cases_Bool (is_of s l)) [
        | inl too ↦ there.apart k l f g q r cell (record { frame = sym (full-mine k mine) ∙ one.frame; placement = one.placement; has = one.has }) (record { frame = sym (full-mine l too) ∙ two.frame; placement = two.placement; has = two.has })
        | inr other ↦ absurd (no_clash k l f g q r cell mine other one two)
      ]
      | inr other ↦ elim (cases_Bool (is_of s l)) [
        | inl mine ↦ absurd (no_clash l k g f r q cell mine other two one)
        | inr too ↦ here.apart k l f g q r cell (record { frame = sym (full-others k other) ∙ one.frame; placement = one.placement; has = one.has }) (record { frame = sym (full-others l too) ∙ two.frame; placement = two.placement; has = two.has })
      ]
    ]

    few-frames : (t : Name) → len (own t full) ≤ MAX_FRAMES
    few-frames t = elim (cases_Bool (same_text t s)) [
      | inl mine ↦
          let same = same_text-is t s mine in
          subst (λ n. len (own n full) ≤ MAX_FRAMES) (sym same) (subst (λ u. len u ≤ MAX_FRAMES) (sym full-own) (there.frame_limit s))
      | inr other ↦ subst (λ u. len u ≤ MAX_FRAMES) (sym (full-own_other t other)) (here.frame_limit t)
    ]

    pub full-sound : IsSoundVariant p nodes all
    full-sound = record {
      grant_nodes = here.grant_nodes;
      grants_fit = here.grants_fit;
      frames = frames-sound;
      apart = all-apart;
      frame_limit = few-frames;
      depth = here.depth;
    }
