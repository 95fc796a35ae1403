-- Edits of frames that lead a supplier's page to the same rows make the same of the book.
use Rattle.std.proofs.Common.{◌≡◌, false, List, [], ◌∷◌, Some, refl, sym, ap, subst, ◌∙◌, inl, inr}
use Rattle.std.specs.List.{AllByRecursion}
use Rattle.std.proofs.lemmas.Bool.{cases_Bool}
use Rattle.fr_base.specs.Tables.{Table, get}
use Rattle.fr_base.specs.Keys.{owned}
use Rattle.fr_base.specs.Book.{Frame, Variant, Book, is_of, own}
use Rattle.fr_base.specs.Changes.{in_rows}
use Rattle.fr_base.specs.Step.{OwnRows, own_rows, with_variant, changed, grants_after, frames_after}
use Rattle.fr_base.specs.declared.name.Name.{Name}
use Rattle.fr_base.specs.declared.params.Params.{Params}
use Rattle.fr_base.specs.declared.request.Change.{Change}
use Rattle.fr_base.specs.declared.request.Change.TheVariants as change
use Rattle.fr_base.specs.declared.request.FrameChange.{FrameChange}
use Rattle.fr_base.proofs.AloneChanges.{frames_after-own}
use Rattle.fr_base.proofs.SettledRows.{not_mine, settle-other}
use Rattle.fr_base.proofs.SoundTables.{get-passing, get-put, insert-again}
use Rattle.fr_base.proofs.TableLaws.{insert-same, same_table}
use Rattle.fr_world.specs.BookEdits.{applied, all_applied, changed_at}
use Rattle.fr_world.specs.Edits.{IsOf, Leads, edited}
use Rattle.fr_world.specs.declared.edit.Edit.{Edit}
use Rattle.fr_world.specs.declared.edit.Edit.TheVariants.{NewVariant, NewFlat, SetReleased, NewSupplier, SetKey, NewNode, Rows, KeepImport}
use Rattle.fr_world.proofs.RowsLead.{IsFrameChange, IsOfFrame}

-- what a change of a frame makes of the book
pub one-applied : (s v f : Name) (b : Book) (x : Variant) → get b.variants v ≡ Some x → (what : FrameChange) →
    applied b (Rows (in_rows s v (change.Frame f what))) ≡ with_variant b v (record x { frames = frames_after s (change.Frame f what) x.frames })
unfolding applied changed grants_after
one-applied s v f b x there what = ap (changed_at b v (changed s (change.Frame f what))) there

module _ (p : Params) (s v : Name) where
  -- The edit is a change of a frame of the supplier in the variant.
  abbrev IsMine : Edit → Type 0
  IsMine edit = (f : Name) × (what : FrameChange) × (edit ≡ Rows (in_rows s v (change.Frame f what)))

  change-mine : (t w : Name) (what : Change) → IsFrameChange p what → t ≡ s → w ≡ v → IsMine (Rows (in_rows t w what))
  change-mine t w (change.Frame f what) of supplier variant = (f, what, λ i. Rows (in_rows (supplier i) (variant i) (change.Frame f what)))
  change-mine t w (change.Grant slot channel node) of supplier variant = absurd of
  change-mine t w (change.Revoke slot channel) of supplier variant = absurd of

  edit-mine : (edit : Edit) → IsOfFrame p edit → IsOf s v edit → IsMine edit
  edit-mine (Rows rows) of own = change-mine rows.supplier rows.variant rows.change of own.0 own.1
  edit-mine (NewVariant w parent depth) of own = absurd of
  edit-mine (NewFlat w from) of own = absurd of
  edit-mine (SetReleased w) of own = absurd of
  edit-mine (NewNode t n) of own = absurd of
  edit-mine (NewSupplier t key) of own = absurd of
  edit-mine (SetKey t key) of own = absurd of
  edit-mine (KeepImport t label w body rows) of own = absurd of

  -- The edits make another variant of this one. Its frames are those where the edits lead, and the other suppliers' as they were.
  pub record IsMade (b : Book) (x : Variant) (edits : List Edit) (last : OwnRows) : Type 0 where
    pub frames : Table owned Frame
    pub made : all_applied b edits ≡ with_variant b v (record x { frames = frames })
    pub mine : own s frames ≡ last.frames
    pub others : (k : Name × Name) → is_of s k ≡ false → get frames k ≡ get x.frames k

  book-made : (edits : List Edit) (b : Book) (x : Variant) (last : OwnRows) → get b.variants v ≡ Some x → AllByRecursion (IsOfFrame p) edits → Leads v (own_rows p b s x) edits last → IsMade b x edits last
  unfolding own_rows edited grants_after frames_after
  book-made [] b x last there of leads = record {
    frames = x.frames;
    made = ap (λ t. record b { variants = t }) (sym (insert-same b.variants v x there));
    mine = sym (ap (λ (r : OwnRows). r.frames) leads);
    others = λ k other. refl;
  }
  book-made (edit ∷ edits) b x last there of leads =
      let mine = edit-mine edit of.0 leads.0.own in
      let f = mine.0 in
      let what = mine.1 in
      let next : Variant = record x { frames = frames_after s (change.Frame f what) x.frames } in
      let shown : edited (own_rows p b s x) edit ≡ own_rows p (with_variant b v next) s next =
      ap (edited (own_rows p b s x)) mine.2 ∙ (λ i. record (own_rows p b s x) { frames = sym (frames_after-own s (change.Frame f what) x.frames) i }) in
      let rest = book-made edits (with_variant b v next) next last (get-put b.variants v next) of.1 (subst (λ m. Leads v m edits last) shown leads.2) in
      record {
        frames = rest.frames;
        made =
            ap (λ e. all_applied (applied b e) edits) mine.2
            ∙ ap (λ d. all_applied d edits) (one-applied s v f b x there what)
            ∙ rest.made
            ∙ ap (λ t. record b { variants = t }) (insert-again b.variants v next (record next { frames = rest.frames }));
        mine = rest.mine;
        others = λ k other. rest.others k other ∙ settle-other x.frames (s, f) k _ (not_mine s f k other);
      }

  pub led-alike : (b : Book) (x : Variant) (ones others : List Edit) (last : OwnRows) → get b.variants v ≡ Some x →
      AllByRecursion (IsOfFrame p) ones → Leads v (own_rows p b s x) ones last → AllByRecursion (IsOfFrame p) others → Leads v (own_rows p b s x) others last →
      all_applied b ones ≡ all_applied b others
  led-alike b x ones others last there of_one one of_other other =
      let a = book-made ones b x last there of_one one in
      let c = book-made others b x last there of_other other in
      let same : a.frames ≡ c.frames = same_table _ _ (λ k. elim (cases_Bool (is_of s k)) [
        | inl mine ↦ sym (get-passing owned (is_of s) a.frames k mine) ∙ ap (λ t. get t k) (a.mine ∙ sym c.mine) ∙ get-passing owned (is_of s) c.frames k mine
        | inr apart ↦ a.others k apart ∙ sym (c.others k apart)
      ]) in
      a.made ∙ ap (λ t. with_variant b v (record x { frames = t })) same ∙ sym c.made
