-- Pages that were the register's before an edit are the register's after it: those that it leaves alone, and the one that was amended.
use Rattle.std.proofs.Common.{◌≡◌, Bool, true, false, not, ◌&&◌, cond, map, List, [], ◌∷◌, ◌++◌, filter, Option, Some, None, Result, Ok, Err, refl, sym, ap, subst, ◌∙◌, inl, inr, true≢false, append-nil}
use Rattle.std.specs.Prelude.{◌||◌, All, IfSome, OnOk, is_err}
use Rattle.std.specs.List.{list_any}
use Rattle.std.specs.Ordering.{eq_by_cmp}
use Rattle.std.proofs.lemmas.Bool.{cases_Bool}
use Rattle.std.proofs.Math.Bool.{and-true}
use Rattle.std.proofs.lemmas.List.Elements.{All-cons, All-head, All-nil, All-tail}
use Rattle.fr_base.specs.Alone.{is_another}
use Rattle.fr_base.specs.Book.{Holder, Variant, Book, held_by, is_of}
use Rattle.fr_base.specs.Cluster.{Cluster}
use Rattle.fr_base.specs.Keys.{names, owned}
use Rattle.fr_base.specs.Names.{same_text}
use Rattle.fr_base.specs.Step.{OwnRows, own_rows, with_variant, changed}
use Rattle.fr_base.specs.Tables.{get}
use Rattle.fr_base.specs.Changes.{in_rows}
use Rattle.fr_base.specs.declared.name.Name.{Name}
use Rattle.fr_base.specs.declared.params.Params.{Params}
use Rattle.fr_base.specs.declared.request.Change.{Change}
use Rattle.fr_base.specs.declared.request.Change.TheVariants.{Grant, Revoke, Frame}
use Rattle.fr_base.proofs.AloneCells.{same_text-itself}
use Rattle.fr_base.proofs.SoundRows.{same_text-is}
use Rattle.fr_base.proofs.SoundTables.{only-insert_other, same_key, same_some}
use Rattle.fr_base.proofs.TableLaws.{equal, get-insert}
use Rattle.fr_world.specs.BookEdits.{SparesOthers, all_applied, applied, changed_at}
use Rattle.fr_world.specs.Edits.{IsOf, Leads, Takes, all_edited, edited, releases}
use Rattle.fr_world.specs.Fits.{Fits, FitsVariant}
use Rattle.fr_world.specs.Pages.{IsKept, PageData, nodes_in, own_rows_of, page_in}
use Rattle.fr_world.specs.declared.edit.Edit.{Edit}
use Rattle.fr_world.specs.declared.edit.Edit.TheVariants.{NewVariant, NewFlat, SetReleased, NewSupplier, SetKey, NewNode, Rows, KeepImport}
use Rattle.fr_world.proofs.AgreeLaws.{edits-agree, others-stay}
use Rattle.fr_world.proofs.PageLaws.{rows-registers}
use Rattle.fr_office.specs.KeptPages.{Spares, touches}
use Rattle.fr_office.specs.Decided.{LeadsTo, MayTake, TakesAll, TakesEach}
use Rattle.fr_world.specs.Held.{IsFresh}
use Rattle.fr_office.proofs.PageBack.{same-page, same-rows}

-- an edit leaves the parameters
pub edited_params : (rows : OwnRows) (edit : Edit) → (edited rows edit).params ≡ rows.params
unfolding edited
edited_params rows (NewVariant v parent depth) = refl
edited_params rows (NewFlat v from) = refl
edited_params rows (SetReleased v) = refl
edited_params rows (NewSupplier s key) = refl
edited_params rows (SetKey s key) = refl
edited_params rows (NewNode s n) = refl
edited_params page (Rows rows) = refl
edited_params rows (KeepImport s label v body rows-kept) = refl

-- a variant of another name stays
other_variant : (b : Book) (v w : Name) (y : Variant) → same_text w v ≡ false → get (with_variant b v y).variants w ≡ get b.variants w
other_variant b v w y other = get-insert b.variants v y w ∙ elim (cases_Bool (eq_by_cmp names.compare w v)) [
  | inl e ↦ absurd (true≢false (sym (same_text-itself w) ∙ ap (same_text w) (names.exact w v (equal _ e)) ∙ other))
  | inr e ↦ ap (λ r. cond r (Some y) (get b.variants w)) e
]

-- texts that differ, the other way round
differ : (s t : Name) → same_text t s ≡ false → same_text s t ≡ false
differ s t other = elim (cases_Bool (same_text s t)) [
  | inl e ↦ absurd (true≢false (sym (same_text-itself t) ∙ ap (same_text t) (sym (same_text-is s t e)) ∙ other))
  | inr e ↦ e
]

-- what becomes of a variant that is there
changed-there : (b : Book) (v : Name) (x : Variant) (change : Variant → Variant) → get b.variants v ≡ Some x → get (changed_at b v change (get b.variants v)).variants v ≡ Some (change x)
changed-there b v x change there =
    ap (λ o. get (changed_at b v change o).variants v) there ∙ get-insert b.variants v (change x) v
    ∙ ap (λ t. cond t (Some (change x)) (get b.variants v)) (same_key names v)

module _ (c : Cluster) (b : Book) (page : PageData) (fresh : IsFresh c.params b page) where
  abbrev p : Params
  p = c.params

  -- where the book has the page's variant and the supplier's nodes as before
  still : (d : Book) → get d.variants page.variant ≡ get b.variants page.variant → nodes_in d page.supplier ≡ nodes_in b page.supplier → IsFresh p d page
  still d variants nodes = record {
    variant = fresh.variant;
    there = variants ∙ fresh.there;
    same = fresh.same ∙ ap (λ n. record (page_in p b page.supplier page.variant fresh.variant) { nodes = n }) (sym nodes);
  }

  -- where another variant was changed
  other_changed : (v : Name) (change : Variant → Variant) → same_text page.variant v ≡ false → (o : Option Variant) → IsFresh p (changed_at b v change o) page
  unfolding nodes_in
  other_changed v change other None = fresh
  other_changed v change other (Some x) = still (with_variant b v (change x)) (other_variant b v page.variant (change x) other) refl

  -- a new node of another supplier
  node_fresh : (s n : Name) → same_text page.supplier s ≡ false → IsFresh p (applied b (NewNode s n)) page
  unfolding applied nodes_in
  node_fresh s n other = still _ refl (ap (λ u. map (λ e. e.0.1) u.rows) (only-insert_other owned (is_of page.supplier) b.nodes (s, n) tt (differ s page.supplier other)))

  -- rows of another supplier in the page's variant
  rows_fresh : (s : Name) (what : Change) → same_text page.supplier s ≡ false → Spares b (Rows (in_rows s page.variant what)) → IsFresh p (applied b (Rows (in_rows s page.variant what))) page
  unfolding applied changed
  rows_fresh s what other spares =
      let stays = others-stay c b s page.supplier page.variant page.variant fresh.variant fresh.variant (Rows (in_rows s page.variant what)) fresh.there (refl, refl)
      (spares fresh.variant fresh.there) (differ s page.supplier other) fresh.there in
      let is : stays.0 ≡ changed s what fresh.variant = same_some _ _ (sym stays.1 ∙ changed-there b page.variant fresh.variant (changed s what) fresh.there) in
      record {
        variant = stays.0;
        there = stays.1;
        same = fresh.same ∙ sym (same-rows p b (applied b (Rows (in_rows s page.variant what))) page.supplier page.variant fresh.variant stays.0 stays.2 (ap (λ (x : Variant). x.released) is));
      }

  pub untouched-fresh : (edit : Edit) → touches edit page ≡ false → Spares b edit → IsFresh p (applied b edit) page
  unfolding applied nodes_in
  untouched-fresh (NewVariant v parent depth) other spares = still _ (other_variant b v page.variant _ other) refl
  untouched-fresh (NewFlat v from) other spares = still _ (other_variant b v page.variant _ other) refl
  untouched-fresh (SetReleased v) other spares = other_changed v _ other (get b.variants v)
  untouched-fresh (NewSupplier s key) other spares = still _ refl refl
  untouched-fresh (SetKey s key) other spares = still _ refl refl
  untouched-fresh (NewNode s n) other spares = node_fresh s n other
  untouched-fresh (Rows rows) other spares = elim (cases_Bool (same_text page.variant rows.variant)) [
    | inl e ↦
        let is : page.variant ≡ rows.variant = same_text-is page.variant rows.variant e in
        let strange : same_text page.supplier rows.supplier ≡ false = sym (and-true (same_text page.supplier rows.supplier)) ∙ ap (λ t. same_text page.supplier rows.supplier && t) (sym e) ∙ other in
        subst (λ w. IsFresh p (applied b (Rows (in_rows rows.supplier w rows.change))) page) is (rows_fresh rows.supplier rows.change strange (subst (λ w. Spares b (Rows (in_rows rows.supplier w rows.change))) (sym is) spares))
    | inr e ↦ other_changed rows.variant (changed rows.supplier rows.change) e (get b.variants rows.variant)
  ]
  untouched-fresh (KeepImport s label v body rows) other spares = still _ refl refl

  -- the page that was amended
  pub amended-fresh : (edit : Edit) (new : PageData) → IsOf page.supplier page.variant edit → IsKept new → own_rows_of new ≡ edited (own_rows_of page) edit →
      new.supplier ≡ page.supplier → new.variant ≡ page.variant → new.released ≡ (releases edit || page.released) → IsFresh p (applied b edit) new
  amended-fresh edit new is kept rows supplier variant released =
      let agree = edits-agree c b page.supplier page.variant fresh.variant edit fresh.there is in
      let was : own_rows_of page ≡ own_rows p b page.supplier fresh.variant =
      ap own_rows_of fresh.same ∙ rows-registers c b page.supplier page.variant fresh.variant in
      let shown : own_rows_of new ≡ own_rows p (applied b edit) page.supplier agree.0 = rows ∙ ap (λ r. edited r edit) was ∙ sym agree.2 in
      let same_released : new.released ≡ agree.0.released = released ∙ ap (λ (d : PageData). releases edit || d.released) fresh.same ∙ sym agree.3 in
      record {
        variant = agree.0;
        there = ap (get (applied b edit).variants) variant ∙ agree.1;
        same = same-page new kept p (applied b edit) page.supplier agree.0 shown same_released ∙ ap (λ s. page_in p (applied b edit) s new.variant agree.0) (sym supplier);
      }

-- ---- edits that lead from page to page

no_either : (a b : Bool) → (a || b) ≡ false → (a ≡ false) × (b ≡ false)
no_either true b h = cc
no_either false b h = (refl, h)

-- edits leave the parameters
pub all_edited_params : (rows : OwnRows) (edits : List Edit) → (all_edited rows edits).params ≡ rows.params
all_edited_params rows [] = refl
all_edited_params rows (edit ∷ edits) = all_edited_params (edited rows edit) edits ∙ edited_params rows edit

module _ (c : Cluster) (s v : Name) where
  -- what becomes of the variant is there, has the supplier's rows of the edited page, and is released by the edits or was before
  abbrev Agrees : Book → Variant → Book → OwnRows → Bool → Type 0
  Agrees b x d rows freed = (y : Variant) × (get d.variants v ≡ Some y) × (own_rows c.params d s y ≡ rows) × (y.released ≡ (freed || x.released))

  one-agrees : (b : Book) (x : Variant) (edit : Edit) → get b.variants v ≡ Some x → MayTake v (own_rows c.params b s x) edit →
      Agrees b x (applied b edit) (edited (own_rows c.params b s x) edit) (releases edit)
  unfolding applied edited own_rows
  one-agrees b x (KeepImport t label w body count) there may = (x, there, refl, refl)
  one-agrees b x (NewVariant w parent depth) there may = absurd may.own
  one-agrees b x (NewFlat w from) there may = absurd may.own
  one-agrees b x (SetReleased w) there may = edits-agree c b s v x (SetReleased w) there may.own
  one-agrees b x (NewSupplier t key) there may = absurd may.own
  one-agrees b x (SetKey t key) there may = absurd may.own
  one-agrees b x (NewNode t n) there may = edits-agree c b s v x (NewNode t n) there may.own
  one-agrees b x (Rows rows) there may = edits-agree c b s v x (Rows rows) there may.own

  all-agree : (edits : List Edit) (b : Book) (x : Variant) → get b.variants v ≡ Some x → TakesEach v (own_rows c.params b s x) edits → list_any releases edits ≡ false →
      Agrees b x (all_applied b edits) (all_edited (own_rows c.params b s x) edits) false
  all-agree [] b x there takes still = (x, there, refl, refl)
  all-agree (edit ∷ edits) b x there takes still =
      let parts = no_either (releases edit) (list_any releases edits) still in
      let a = one-agrees b x edit there takes.0 in
      let rest = all-agree edits (applied b edit) a.0 a.1 (subst (λ r. TakesEach v r edits) (sym a.2) takes.1) parts.1 in
      (rest.0, rest.1, rest.2 ∙ ap (λ r. all_edited r edits) a.2, rest.3 ∙ a.3 ∙ ap (λ r. r || x.released) parts.0)

-- the page to which they lead
pub led-fresh : (c : Cluster) (b : Book) (page new : PageData) (edits : List Edit) → IsFresh c.params b page → IsKept new → LeadsTo page edits new → IsFresh c.params (all_applied b edits) new
led-fresh c b page new edits fresh kept led =
    let p = c.params in
    let last = all_applied b edits in
    let was : own_rows_of page ≡ own_rows p b page.supplier fresh.variant = ap own_rows_of fresh.same ∙ rows-registers c b page.supplier page.variant fresh.variant in
    let agree = all-agree c page.supplier page.variant edits b fresh.variant fresh.there (subst (λ r. TakesEach page.variant r edits) was led.takes) led.still in
    let shown : own_rows_of new ≡ own_rows p last page.supplier agree.0 = led.rows ∙ ap (λ r. all_edited r edits) was ∙ sym agree.2 in
    let same_released : new.released ≡ agree.0.released = led.released ∙ ap (λ (d : PageData). d.released) fresh.same ∙ sym agree.3 in
    record {
      variant = agree.0;
      there = ap (get last.variants) led.variant ∙ agree.1;
      same = same-page new kept p last page.supplier agree.0 shown same_released ∙ ap (λ s. page_in p last s new.variant agree.0) (sym led.supplier);
    }

-- pages that the edit leaves as they are
pub all_untouched : (c : Cluster) (b : Book) (edit : Edit) → Spares b edit → (pages : List PageData) → All (IsFresh c.params b) pages → All (IsFresh c.params (applied b edit)) (filter (λ page. not (touches edit page)) pages)
all_untouched c b edit spares [] fresh = All-nil (IsFresh c.params (applied b edit))
all_untouched c b edit spares (page ∷ pages) fresh =
    let rest = all_untouched c b edit spares pages (All-tail (IsFresh c.params b) page pages fresh) in
    elim (cases_Bool (touches edit page)) [
      | inl e ↦ rw e rest
      | inr e ↦ rw e (All-cons (IsFresh c.params (applied b edit)) page (filter (λ page. not (touches edit page)) pages) (untouched-fresh c b page (All-head (IsFresh c.params b) page pages fresh) edit e spares) rest)
    ]

-- ---- edits that fit

own_held : (s : Name) (o : Option Holder) → held_by s o ≡ true → is_another s o ≡ false
own_held s None held = cc
own_held s (Some h) held = ap not held

change_spares : (b : Book) (s v : Name) (x : Variant) (what : Change) → FitsVariant b.nodes s x what → SparesOthers s x (Rows (in_rows s v what))
change_spares b s v x (Grant slot channel node) fits = ap (is_another s) fits.1
change_spares b s v x (Revoke slot channel) fits = own_held s (get x.grants (slot, channel)) fits
change_spares b s v x (Frame f what) fits = tt

-- an edit that fits leaves other suppliers what they hold
pub fit_spares : (p : Params) (b : Book) (edit : Edit) → Fits p b edit → Spares b edit
fit_spares p b (NewVariant v parent depth) fits = tt
fit_spares p b (NewFlat v from) fits = tt
fit_spares p b (SetReleased v) fits = tt
fit_spares p b (NewSupplier s key) fits = tt
fit_spares p b (SetKey s key) fits = tt
fit_spares p b (NewNode s n) fits = tt
fit_spares p b (Rows rows) fits = λ x there.
    change_spares b rows.supplier rows.variant x rows.change (subst (λ y. FitsVariant b.nodes rows.supplier y rows.change) (same_some fits.0 x (sym fits.1.there ∙ there)) fits.2)
fit_spares p b (KeepImport s label v body rows) fits = tt

-- ---- edits that a page takes

-- what holds where it is Ok, at one that is
pub on_ok : {A E : Type 0} {P : Type 0} (r : Result A E) → is_err r ≡ false → OnOk r P → P
on_ok (Ok x) done holds = holds
on_ok (Err e) done holds = cc

-- an edit that it takes may be made
may_take : (v : Name) (rows : OwnRows) (edit : Edit) → Takes v rows edit → MayTake v rows edit
may_take v rows (NewVariant w parent depth) takes = takes
may_take v rows (NewFlat w from) takes = takes
may_take v rows (SetReleased w) takes = takes
may_take v rows (NewSupplier s key) takes = takes
may_take v rows (SetKey s key) takes = takes
may_take v rows (NewNode s n) takes = takes
may_take v page (Rows rows) takes = takes
may_take v rows (KeepImport s label w body count) takes = tt

-- edits that lead a page on are taken, and one more that keeps an import
pub lead-taken : (v : Name) (rows last : OwnRows) (edits more : List Edit) → Leads v rows edits last → ((rows : OwnRows) → TakesEach v rows more) → TakesEach v rows (edits ++ more)
lead-taken v rows last [] more leads next = next rows
lead-taken v rows last (edit ∷ edits) more leads next = (may_take v rows edit leads.0, lead-taken v (edited rows edit) last edits more leads.2 next)

-- edits that lead a page on are all taken
pub leads-taken : (page : PageData) (last : OwnRows) (edits : List Edit) → Leads page.variant (own_rows_of page) edits last → TakesAll page edits
leads-taken page last edits leads = subst (TakesEach page.variant (own_rows_of page)) (append-nil edits) (lead-taken page.variant (own_rows_of page) last edits [] leads (λ rows. tt))

-- and so they are where the page is lent
pub lent-takes : (lent : Option PageData) (page : PageData) (last : OwnRows) (edits given : List Edit) → lent ≡ Some page → given ≡ edits
    → Leads page.variant (own_rows_of page) edits last → IfSome lent (λ page. TakesAll page given)
lent-takes lent page last edits given is same leads = rw (is, same) (leads-taken page last edits leads)
