-- Pages that follow an edit of the register: which of them are left, and that none is stale.
use Rattle.std.proofs.Common.{◌≡◌, inl, inr, Bool, ◌&&◌, ◌||◌, true, false, not, true≢false, List, [], ◌∷◌, All, filter, Option, Some, None, refl, sym, ap, subst, ◌∙◌}
use Rattle.std.specs.Prelude.{IfSome, if◌then◌else◌}
use Rattle.std.specs.List.{list_any}
use Rattle.std.proofs.lemmas.List.Elements.{All-filter}
use Rattle.fr_base.specs.Book.{Book}
use Rattle.fr_base.specs.Cluster.{Cluster}
use Rattle.fr_base.specs.Names.{same_text}
use Rattle.fr_base.specs.Step.{OwnRows}
use Rattle.fr_base.specs.declared.name.Name.{Name}
use Rattle.fr_base.specs.declared.params.Params.{Params}
use Rattle.fr_base.specs.declared.request.RowsChange.{RowsChange}
use Rattle.fr_base.proofs.AloneCells.{same_text-itself}
use Rattle.fr_world.specs.BookEdits.{applied}
use Rattle.fr_world.specs.Edits.{IsOf, all_edited, edited, releases}
use Rattle.fr_world.specs.Fits.{Fits}
use Rattle.fr_world.specs.Pages.{PageData, own_rows_of}
use Rattle.fr_world.specs.declared.edit.Edit.{Edit}
use Rattle.fr_world.specs.declared.edit.Edit.TheVariants.{NewVariant, NewFlat, SetReleased, NewSupplier, SetKey, NewNode, Rows, KeepImport}
use Rattle.fr_world.specs.Held.{IsFresh}
use Rattle.fr_office.specs.Decided.{MayTake, TakesAll, TakesEach}
use Rattle.fr_office.specs.KeptPages.{Amends, AreFollowed, AreFresh, AreOf, FollowsAll, KeptData, kept_where, kept_without, lent_where, none_lent, touches}
use Rattle.fr_office.proofs.FreshLaws.{all_untouched, amended-fresh, edited_params, fit_spares, untouched-fresh}

-- ---- what each kind of edit does

-- those that it may change are let go
pub where-followed : (edit : Edit) (old new : KeptData) → new ≡ kept_where (λ page. not (touches edit page)) old → AreFollowed edit old new
where-followed edit old new is = subst (AreFollowed edit old) (sym is) (record { lent = lent old.lent; others = refl })
  where
    lent : (o : Option PageData) → Amends edit o (lent_where (λ page. not (touches edit page)) o)
    lent None = tt
    lent (Some page) = elim (touches edit page) as (λ b. touches edit page ≡ b → Amends edit (Some page) (if not b then Some page else None)) [
      | true ↦ λ yes. yes
      | false ↦ λ no. inr (no, refl)
    ] refl

all_pass : {A : Type 0} (test : A → Bool) → ((x : A) → test x ≡ true) → (xs : List A) → xs ≡ filter test xs
all_pass test passes [] = refl
all_pass test passes (x ∷ xs) = rw (passes x) (ap (λ rest. x ∷ rest) (all_pass test passes xs))

-- it changes none
pub same-followed : (edit : Edit) (kept : KeptData) → ((page : PageData) → touches edit page ≡ false) → AreFollowed edit kept kept
same-followed edit kept never = record {
  lent = lent kept.lent;
  others = λ i. record kept { lent = None; recent = all_pass (λ page. not (touches edit page)) passes kept.recent i; earlier = all_pass (λ page. not (touches edit page)) passes kept.earlier i };
}
  where
    passes : (page : PageData) → not (touches edit page) ≡ true
    passes page = ap not (never page)

    lent : (o : Option PageData) → Amends edit o o
    lent None = tt
    lent (Some page) = inr (never page, refl)

-- it is made in the page that is lent
pub rows-followed : (edit : Edit) (rows : RowsChange) (old new : KeptData) → edit ≡ Rows rows → Amends edit old.lent new.lent → none_lent new ≡ kept_without rows.supplier rows.variant (none_lent old) → AreFollowed edit old new
rows-followed edit rows old new is lent others = record {
  lent = lent;
  others = others ∙ (λ i. kept_where (λ page. not (touches (sym is i) page)) (none_lent old));
}

-- an edit of the page's rows is one that may change it
pub own-touched : (page : PageData) (edit : Edit) → IsOf page.supplier page.variant edit → touches edit page ≡ true
own-touched page (NewVariant v parent depth) own = absurd own
own-touched page (NewFlat v from) own = absurd own
own-touched page (SetReleased v) own = ap (same_text page.variant) own ∙ same_text-itself page.variant
own-touched page (NewSupplier s key) own = absurd own
own-touched page (SetKey s key) own = absurd own
own-touched page (NewNode s n) own = ap (same_text page.supplier) own ∙ same_text-itself page.supplier
own-touched page (Rows rows) own =
    (λ i. same_text page.supplier (own.0 i) && same_text page.variant (own.1 i)) ∙ (λ i. same_text-itself page.supplier i && same_text-itself page.variant i)
own-touched page (KeepImport s label v body rows) own = absurd own

-- ---- what is so of pages that follow it

-- the page that is lent takes the first of the edits that it takes
pub first_takes : (edit : Edit) (edits : List Edit) (lent : Option PageData) → IfSome lent (λ page. TakesAll page (edit ∷ edits)) → IfSome lent (λ page. MayTake page.variant (own_rows_of page) edit)
first_takes edit edits None takes = tt
first_takes edit edits (Some page) takes = takes.0

named-itself : (s t : Name) → s ≡ t → same_text t s ≡ false → ⊥
named-itself s t same other = true≢false (sym (same_text-itself t) ∙ ap (same_text t) (sym same) ∙ other)

-- an edit that leaves the page as it is leaves its rows
untouched-rows : (page : PageData) (edit : Edit) → touches edit page ≡ false → MayTake page.variant (own_rows_of page) edit → edited (own_rows_of page) edit ≡ own_rows_of page
unfolding edited
untouched-rows page (NewVariant v parent depth) other takes = refl
untouched-rows page (NewFlat v from) other takes = refl
untouched-rows page (SetReleased v) other takes = refl
untouched-rows page (NewSupplier s key) other takes = refl
untouched-rows page (SetKey s key) other takes = refl
untouched-rows page (NewNode s n) other takes = absurd (named-itself s page.supplier takes.own other)
untouched-rows page (Rows rows) other takes =
    absurd (true≢false (sym (own-touched page (Rows rows) takes.own) ∙ other))
untouched-rows page (KeepImport s label v body rows) other takes = refl

-- and it does not release the variant
untouched-releases : (page : PageData) (edit : Edit) → touches edit page ≡ false → MayTake page.variant (own_rows_of page) edit → releases edit ≡ false
untouched-releases page (NewVariant v parent depth) other takes = refl
untouched-releases page (NewFlat v from) other takes = refl
untouched-releases page (SetReleased v) other takes = absurd (named-itself v page.variant takes.own other)
untouched-releases page (NewSupplier s key) other takes = refl
untouched-releases page (SetKey s key) other takes = refl
untouched-releases page (NewNode s n) other takes = refl
untouched-releases page (Rows rows) other takes = refl
untouched-releases page (KeepImport s label v body rows) other takes = refl

or-moved : (a b c : Bool) → (b || (a || c)) ≡ ((a || b) || c)
or-moved true true c = refl
or-moved true false c = refl
or-moved false b c = refl

-- where there is no edit, the same page is lent
pub all-followed : (lent : Option PageData) → FollowsAll [] lent lent
all-followed None = refl
all-followed (Some page) = record { rows = refl; supplier = refl; variant = refl; released = refl }

module _ (edit : Edit) (old new : KeptData) (followed : AreFollowed edit old new) where
  left_recent : new.recent ≡ filter (λ page. not (touches edit page)) old.recent
  left_recent = ap (λ (k : KeptData). k.recent) followed.others

  left_earlier : new.earlier ≡ filter (λ page. not (touches edit page)) old.earlier
  left_earlier = ap (λ (k : KeptData). k.earlier) followed.others

  -- the page that is lent takes the edits behind it
  pub next_takes : (edits : List Edit) → IfSome old.lent (λ page. TakesAll page (edit ∷ edits)) → IfSome new.lent (λ page. TakesAll page edits)
  next_takes edits takes = next old.lent new.lent followed.lent takes
    where
      next : (o n : Option PageData) → Amends edit o n → IfSome o (λ page. TakesAll page (edit ∷ edits)) → IfSome n (λ page. TakesAll page edits)
      next None None lent takes = tt
      next (Some page) None lent takes = tt
      next None (Some now) lent takes = absurd lent
      next (Some page) (Some now) lent takes = elim lent [
        | inl made ↦ subst (λ v. TakesEach v (own_rows_of now) edits) (sym made.variant) (subst (λ (rows : OwnRows). TakesEach page.variant rows edits) (sym made.rows) takes.1)
        | inr same ↦ subst (λ page. TakesAll page edits) (sym same.1) (subst (λ (rows : OwnRows). TakesEach page.variant rows edits) (untouched-rows page edit same.0 takes.0) takes.1)
      ]

  -- the page that is lent after it and those behind it
  pub next_lent : (edits : List Edit) → IfSome old.lent (λ page. TakesAll page (edit ∷ edits)) → (last : Option PageData) → FollowsAll edits new.lent last → FollowsAll (edit ∷ edits) old.lent last
  next_lent edits takes last = next old.lent new.lent last followed.lent takes
    where
      next : (o n l : Option PageData) → Amends edit o n → IfSome o (λ page. TakesAll page (edit ∷ edits)) → FollowsAll edits n l → FollowsAll (edit ∷ edits) o l
      next None None l lent takes is = is
      next None (Some now) l lent takes is = absurd lent
      next (Some page) None l lent takes is =
          subst (FollowsAll (edit ∷ edits) (Some page)) (sym is) (ap (λ b. b || list_any (λ e. touches e page) edits) lent)
      next (Some page) (Some now) None lent takes is = elim lent [
        | inl made ↦ ap (λ b. b || list_any (λ e. touches e page) edits) (own-touched page edit made.own)
        | inr same ↦ ap (λ b. b || list_any (λ e. touches e page) edits) same.0 ∙ subst (λ p. FollowsAll edits (Some p) None) same.1 is
      ]
      next (Some page) (Some now) (Some l) lent takes is = elim lent [
        | inl made ↦ record {
          rows = is.rows ∙ ap (λ (rows : OwnRows). all_edited rows edits) made.rows;
          supplier = is.supplier ∙ made.supplier;
          variant = is.variant ∙ made.variant;
          released = is.released ∙ ap (λ b. list_any releases edits || b) made.released ∙ or-moved (releases edit) (list_any releases edits) page.released;
        }
        | inr same ↦ (
            let left = subst (λ p. FollowsAll edits (Some p) (Some l)) same.1 is in
            record {
              rows = left.rows ∙ ap (λ (rows : OwnRows). all_edited rows edits) (sym (untouched-rows page edit same.0 takes.0));
              supplier = left.supplier;
              variant = left.variant;
              released = left.released ∙ ap (λ b. (b || list_any releases edits) || page.released) (sym (untouched-releases page edit same.0 takes.0));
            }
            )
      ]

  -- they have the same parameters
  pub next_params : (p : Params) → AreOf p old → AreOf p new
  next_params p each = (
    next old.lent new.lent followed.lent each.0,
    subst (All (λ page. page.params ≡ p)) (sym left_recent) (All-filter (λ page. not (touches edit page)) (λ page. page.params ≡ p) old.recent each.1),
    subst (All (λ page. page.params ≡ p)) (sym left_earlier) (All-filter (λ page. not (touches edit page)) (λ page. page.params ≡ p) old.earlier each.2),
  )
    where
      next : (o n : Option PageData) → Amends edit o n → IfSome o (λ page. page.params ≡ p) → IfSome n (λ page. page.params ≡ p)
      next None None lent of = tt
      next (Some page) None lent of = tt
      next None (Some now) lent of = absurd lent
      next (Some page) (Some now) lent of = elim lent [
        | inl made ↦ ap (λ (r : OwnRows). r.params) made.rows ∙ edited_params (own_rows_of page) edit ∙ of
        | inr same ↦ ap (λ (q : PageData). q.params) same.1 ∙ of
      ]

  -- none is stale
  pub next_fresh : (c : Cluster) (b : Book) → Fits c.params b edit → AreFresh c.params b old → AreFresh c.params (applied b edit) new
  next_fresh c b fits each = (
    next old.lent new.lent followed.lent each.0,
    subst (All (IsFresh c.params (applied b edit))) (sym left_recent) (all_untouched c b edit (fit_spares c.params b edit fits) old.recent each.1),
    subst (All (IsFresh c.params (applied b edit))) (sym left_earlier) (all_untouched c b edit (fit_spares c.params b edit fits) old.earlier each.2),
  )
    where
      next : (o n : Option PageData) → Amends edit o n → IfSome o (IsFresh c.params b) → IfSome n (IsFresh c.params (applied b edit))
      next None None lent fresh = tt
      next (Some page) None lent fresh = tt
      next None (Some now) lent fresh = absurd lent
      next (Some page) (Some now) lent fresh = elim lent [
        | inl made ↦ amended-fresh c b page fresh edit now made.own made.kept made.rows made.supplier made.variant made.released
        | inr same ↦ subst (IsFresh c.params (applied b edit)) (sym same.1) (untouched-fresh c b page fresh edit same.0 (fit_spares c.params b edit fits))
      ]
