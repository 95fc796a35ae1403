-- An edit makes of a supplier's own rows in the register what it makes of the page, and leaves other suppliers' as they were.
use Rattle.std.proofs.Common.{◌≡◌, ℕ, true, false, cond, not, Option, Some, None, refl, sym, ap, subst, ◌∙◌, inl, inr, true≢false}
use Rattle.std.specs.Prelude.{◌||◌}
use Rattle.std.specs.Ordering.{eq_by_cmp}
use Rattle.std.proofs.lemmas.Bool.{cases_Bool}
use Rattle.fr_base.specs.Tables.{get}
use Rattle.fr_base.specs.Keys.{names, owned, channel_slots}
use Rattle.fr_base.specs.Alone.{is_another}
use Rattle.fr_base.specs.Cluster.{Cluster}
use Rattle.fr_base.specs.Names.{same_text}
use Rattle.fr_base.specs.Book.{Holder, Variant, Book, held_by, is_of, own_grants}
use Rattle.fr_base.specs.Step.{OwnRows, own_rows, with_variant, grants_after, changed}
use Rattle.fr_base.specs.Changes.{in_rows}
use Rattle.fr_base.specs.declared.channel.Channel.{Channel}
use Rattle.fr_base.specs.declared.name.Name.{Name}
use Rattle.fr_base.specs.declared.request.Change.{Change}
use Rattle.fr_base.specs.declared.request.Change.TheVariants.{Grant, Revoke, Frame}
use Rattle.fr_base.proofs.TableLaws.{equal, get-insert, kept}
use Rattle.fr_base.proofs.SoundTables.{same_some, same_key, only-insert, only-insert_other}
use Rattle.fr_base.proofs.SoundRows.{same_text-is}
use Rattle.fr_base.proofs.AloneCells.{same_text-itself}
use Rattle.fr_base.proofs.AloneTables.{only-put_other, only-remove_other}
use Rattle.fr_base.proofs.AloneChanges.{grants_after-own, frames_after-own, frames_after-other}
use Rattle.fr_world.specs.BookEdits.{SparesOthers, applied, changed_at}
use Rattle.fr_world.specs.Edits.{IsOf, edited, releases}
use Rattle.fr_world.specs.declared.edit.Edit.{Edit}
use Rattle.fr_world.specs.declared.edit.Edit.TheVariants.{NewVariant, NewFlat, SetReleased, NewSupplier, SetKey, NewNode, Rows, KeepImport}

module _ (b : Book) (v : Name) (x : Variant) (there : get b.variants v ≡ Some x) where
  -- an edit of the variant, which is there
  changed-there : (change : Variant → Variant) → changed_at b v change (get b.variants v) ≡ with_variant b v (change x)
  changed-there change = ap (changed_at b v change) there

-- ---- the supplier's own

-- what becomes of the variant is there, has the supplier's rows of the edited page, and is released by the edit or was before
abbrev Agrees : Cluster → Book → Name → Name → Variant → Edit → Type 0
Agrees c b s v x edit =
    (y : Variant) × (get (applied b edit).variants v ≡ Some y)
    × (own_rows c.params (applied b edit) s y ≡ edited (own_rows c.params b s x) edit)
    × (y.released ≡ (releases edit || x.released))

module _ (c : Cluster) (b : Book) (s v : Name) (x : Variant) (there : get b.variants v ≡ Some x) where
  abbrev page : OwnRows
  page = own_rows c.params b s x

  -- the variant that the book was changed to have is there
  put-there : (y : Variant) → get (with_variant b v y).variants v ≡ Some y
  put-there y = get-insert b.variants v y v ∙ ap (λ t. cond t (Some y) (get b.variants v)) (same_key names v)

  agree : (edit : Edit) (y : Variant) → applied b edit ≡ with_variant b v y → own_rows c.params b s y ≡ edited page edit → y.released ≡ (releases edit || x.released) → Agrees c b s v x edit
  unfolding own_rows
  agree edit y made shown released =
      (y, ap (λ d. get d.variants v) made ∙ put-there y, ap (λ d. own_rows c.params d s y) made ∙ shown, released)

  release-agrees : Agrees c b s v x (SetReleased v)
  unfolding applied edited own_rows
  release-agrees = agree (SetReleased v) (record x { released = true }) (changed-there b v x there (λ y. record y { released = true })) refl refl

  node-agrees : (n : Name) → Agrees c b s v x (NewNode s n)
  unfolding applied edited own_rows
  node-agrees n = (x, there, ap (λ t. record page { nodes = t }) (only-insert owned (is_of s) b.nodes (s, n) tt (same_text-itself s)), refl)

  rows-agree : (what : Change) → Agrees c b s v x (Rows (in_rows s v what))
  unfolding applied edited own_rows changed
  rows-agree what =
      agree (Rows (in_rows s v what)) (changed s what x) (changed-there b v x there (changed s what))
      (λ i. record page { grants = grants_after-own s what x.grants i; frames = frames_after-own s what x.frames i }) refl

  edit-agrees : (edit : Edit) → IsOf s v edit → Agrees c b s v x edit
  edit-agrees (NewFlat w from) is = absurd is
  edit-agrees (SetReleased w) is = subst (λ u. Agrees c b s v x (SetReleased u)) (sym is) release-agrees
  edit-agrees (NewNode t n) is = subst (λ u. Agrees c b s v x (NewNode u n)) (sym is) (node-agrees n)
  edit-agrees (Rows rows) is = subst (λ (u : Name × Name). Agrees c b s v x (Rows (in_rows u.0 u.1 rows.change))) (λ i. (sym is.0 i, sym is.1 i)) (rows-agree rows.change)
  edit-agrees (NewVariant w parent depth) is = absurd is
  edit-agrees (NewSupplier t key) is = absurd is
  edit-agrees (SetKey t key) is = absurd is
  edit-agrees (KeepImport t label w body rows) is = absurd is

pub edits-agree : (c : Cluster) (b : Book) (s v : Name) (x : Variant) (edit : Edit) → get b.variants v ≡ Some x → IsOf s v edit →
    (y : Variant) × (get (applied b edit).variants v ≡ Some y)
    × (own_rows c.params (applied b edit) s y ≡ edited (own_rows c.params b s x) edit)
    × (y.released ≡ (releases edit || x.released))
edits-agree c b s v x edit there is = edit-agrees c b s v x there edit is

-- ---- another supplier's

-- of the variant w something is there still, with the supplier's rows that stood there
abbrev Stays : Cluster → Book → Name → Name → Variant → Edit → Type 0
Stays c b t w y edit =
    (z : Variant) × (get (applied b edit).variants w ≡ Some z)
    × (own_rows c.params (applied b edit) t z ≡ own_rows c.params b t y)

-- what the supplier or nobody holds, another does not hold
not_held : (s t : Name) (at : ℕ × Channel) (o : Option Holder) → same_text s t ≡ false → is_another s o ≡ false → kept (λ _ h. held_by t (Some h)) at o ≡ None
not_held s t at None other free = refl
not_held s t at (Some h) other free = elim (cases_Bool (same_text h.supplier s)) [
  | inl own ↦ ap (λ r. cond r (Some h) None) (ap (λ u. same_text u t) (same_text-is h.supplier s own) ∙ other)
  | inr strange ↦ absurd (true≢false (ap not (sym strange) ∙ free))
]

module _ (c : Cluster) (b : Book) (s v : Name) (x : Variant) (there : get b.variants v ≡ Some x) (t : Name) (other : same_text s t ≡ false) (w : Name) (y : Variant) (beside : get b.variants w ≡ Some y) where
  stay : (edit : Edit) (z : Variant) → applied b edit ≡ with_variant b v z → own_rows c.params b t z ≡ own_rows c.params b t x → Stays c b t w y edit
  unfolding own_rows
  stay edit z made same = elim (cases_Bool (eq_by_cmp names.compare w v)) [
    | inl e ↦
        let one : x ≡ y = same_some x y (sym there ∙ ap (get b.variants) (sym (names.exact w v (equal _ e))) ∙ beside) in (
          z,
          ap (λ d. get d.variants w) made ∙ get-insert b.variants v z w ∙ ap (λ r. cond r (Some z) (get b.variants w)) e,
          ap (λ d. own_rows c.params d t z) made ∙ same ∙ ap (own_rows c.params b t) one,
        )
    | inr e ↦ (
      y,
      ap (λ d. get d.variants w) made ∙ get-insert b.variants v z w ∙ ap (λ r. cond r (Some z) (get b.variants w)) e ∙ beside,
      ap (λ d. own_rows c.params d t y) made,
    )
  ]

  release-stays : Stays c b t w y (SetReleased v)
  unfolding applied own_rows
  release-stays = stay (SetReleased v) (record x { released = true }) (changed-there b v x there (λ y. record y { released = true })) refl

  node-stays : (n : Name) → Stays c b t w y (NewNode s n)
  unfolding applied own_rows
  node-stays n = (y, beside, ap (λ u. record (own_rows c.params b t y) { nodes = u }) (only-insert_other owned (is_of t) b.nodes (s, n) tt other))

  grants-stay : (what : Change) → SparesOthers s x (Rows (in_rows s v what)) → own_grants t (grants_after s what x.grants) ≡ own_grants t x.grants
  unfolding grants_after
  grants-stay (Grant slot channel node) spares =
      let at : ℕ × Channel = (slot, channel) in
      only-put_other channel_slots (λ _ h. held_by t (Some h)) x.grants at (record { supplier = s; node = node }) other (not_held s t at (get x.grants at) other spares)
  grants-stay (Revoke slot channel) spares =
      let at : ℕ × Channel = (slot, channel) in
      only-remove_other channel_slots (λ _ h. held_by t (Some h)) x.grants at (not_held s t at (get x.grants at) other spares)
  grants-stay (Frame f what) spares = refl

  rows-stay : (what : Change) → SparesOthers s x (Rows (in_rows s v what)) → Stays c b t w y (Rows (in_rows s v what))
  unfolding applied own_rows changed
  rows-stay what spares =
      stay (Rows (in_rows s v what)) (changed s what x) (changed-there b v x there (changed s what))
      (λ i. record (own_rows c.params b t x) { grants = grants-stay what spares i; frames = frames_after-other t s other what x.frames i })

  edit-stays : (edit : Edit) → IsOf s v edit → SparesOthers s x edit → Stays c b t w y edit
  edit-stays (NewFlat u from) is spares = absurd is
  edit-stays (SetReleased u) is spares = subst (λ u. Stays c b t w y (SetReleased u)) (sym is) release-stays
  edit-stays (NewNode r n) is spares = subst (λ u. Stays c b t w y (NewNode u n)) (sym is) (node-stays n)
  edit-stays (Rows rows) is spares =
      let same : (rows.supplier, rows.variant) ≡ (s, v) = λ i. (is.0 i, is.1 i) in
      subst (λ (k : Name × Name). Stays c b t w y (Rows (in_rows k.0 k.1 rows.change))) (sym same) (rows-stay rows.change (subst (λ (k : Name × Name). SparesOthers s x (Rows (in_rows k.0 k.1 rows.change))) same spares))
  edit-stays (NewVariant u parent depth) is spares = absurd is
  edit-stays (NewSupplier r key) is spares = absurd is
  edit-stays (SetKey r key) is spares = absurd is
  edit-stays (KeepImport r label u body rows) is spares = absurd is

pub others-stay : (c : Cluster) (b : Book) (s t v w : Name) (x y : Variant) (edit : Edit) → get b.variants v ≡ Some x → IsOf s v edit →
    SparesOthers s x edit → same_text s t ≡ false → get b.variants w ≡ Some y →
    (z : Variant) × (get (applied b edit).variants w ≡ Some z)
    × (own_rows c.params (applied b edit) t z ≡ own_rows c.params b t y)
others-stay c b s t v w x y edit there is spares other beside = edit-stays c b s v x there t other w y beside edit is spares
