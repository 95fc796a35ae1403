-- A change of a supplier's rows: what the supplier's page and the grants of all decide.
use Rattle.std.proofs.Common.{◌≡◌, ℕ, Bool, true, false, not, List, Option, Some, None, Result, Ok, Err, refl, sym, ap, subst, ◌∙◌, ◌⊎◌, inl, inr}
use Rattle.std.specs.Prelude.{⊤, IfSome, is_some, option_map}
use Rattle.fr_base.specs.Refusing.{◌>>=◌, ◌>>◌, ◌or◌, refuse◌when◌}
use Rattle.fr_base.specs.Tables.{get, contains}
use Rattle.fr_base.specs.Cluster.{Cluster}
use Rattle.fr_base.specs.Book.{Variant, Book}
use Rattle.fr_base.specs.Sound.{IsSound}
use Rattle.fr_base.specs.Step.{change_rows}
use Rattle.fr_base.specs.declared.channel.Channel.{Channel}
use Rattle.fr_base.specs.declared.name.Name.{Name}
use Rattle.fr_base.specs.declared.params.Params.{Params}
use Rattle.fr_base.specs.declared.refusal.Refusal.{Refusal}
use Rattle.fr_base.specs.declared.refusal.Refusal.TheVariants.{NoVariant, Released, NoSupplier, Taken, Unavailable}
use Rattle.fr_base.specs.declared.request.Change.{Change}
use Rattle.fr_base.specs.declared.request.Change.TheVariants.{Grant, Revoke, Frame}
use Rattle.fr_world.specs.BookEdits.{all_applied}
use Rattle.fr_world.specs.Decisions.{IsChecked, decision}
use Rattle.fr_world.specs.Fits.{AllFit, IsUnheld}
use Rattle.fr_world.specs.declared.edit.Edit.{Edit}
use Rattle.fr_world.specs.Pages.{PageData, page_in}
use Rattle.fr_world.proofs.BookFits.{decision-fits}
use Rattle.fr_world.proofs.FitsLaws.{none_there}
use Rattle.fr_world.proofs.StepLaws.{grant-decides, revoke-decides, supplier-decides}
use Rattle.fr_office.specs.Carried.{Does}
use Rattle.fr_office.specs.Decided.{IsGrant, IsOfFrame, IsRevoke, Opens, open_page}
use Rattle.fr_world.specs.Held.{Applies, Standing, Tells, held_in, page_of}
use Rattle.fr_office.proofs.CommandLaws.{Known, carried}

-- ---- what is open to a supplier

module _ (p : Params) (b : Book) (s v : Name) where
  -- what is made of what is there
  abbrev open_of : Option PageData → Result PageData Refusal
  open_of there = (there or NoVariant) >>= λ page. (refuse Released when page.released) >> Ok page

  open-is : (there : Option PageData) → there ≡ page_of p b s v → open_page p b s v ≡ open_of there
  unfolding open_page
  open-is there is = ap open_of (sym is)

  pub open-none : None ≡ page_of p b s v → open_page p b s v ≡ Err NoVariant
  unfolding ◌or◌ ◌>>=◌
  open-none is = open-is None is

  module _ (page : PageData) (is : Some page ≡ page_of p b s v) where
    pub open-frozen : page.released ≡ true → open_page p b s v ≡ Err Released
    unfolding ◌or◌ ◌>>=◌ ◌>>◌ refuse◌when◌
    open-frozen frozen = open-is (Some page) is ∙ rw frozen refl

    pub opened : page.released ≡ false → open_page p b s v ≡ Ok page
    unfolding ◌or◌ ◌>>=◌ ◌>>◌ refuse◌when◌
    opened still = open-is (Some page) is ∙ rw still refl

-- a page that is open is the register's
pub opened-there : (p : Params) (b : Book) (s v : Name) (page : PageData) → open_page p b s v ≡ Ok page → (x : Variant) × (get b.variants v ≡ Some x) × (page_in p b s v x ≡ page)
unfolding open_page ◌or◌ ◌>>=◌ ◌>>◌ refuse◌when◌
opened-there p b s v page =
    elim (get b.variants v) as (λ o. get b.variants v ≡ o
    → ((option_map (page_in p b s v) o or NoVariant) >>= λ page. (refuse Released when page.released) >> Ok page) ≡ Ok page
    → (x : Variant) × (get b.variants v ≡ Some x) × (page_in p b s v x ≡ page)) [
      | None ↦ λ none is. cc
      | Some x ↦ λ found. elim x.released as (λ r. ((refuse Released when r) >> Ok (page_in p b s v x)) ≡ Ok page
          → (x : Variant) × (get b.variants v ≡ Some x) × (page_in p b s v x ≡ page)) [
            | true ↦ λ is. cc
            | false ↦ λ is. (x, found, (cc))
          ]
    ] refl

-- what there is
pub some_of : {A : Type 0} (o : Option A) → is_some o ≡ true → (x : A) × (o ≡ Some x)
some_of None some = cc
some_of (Some x) some = (x, refl)

-- what holds of what there is
module _ {A : Type 0} (P : A → Type 0) (o : Option A) (x : A) (is : o ≡ Some x) where
  pub some_has : IfSome o P → P x
  some_has has = subst (λ (o : Option A). IfSome o P) is has

  pub has_some : P x → IfSome o P
  has_some has = subst (λ (o : Option A). IfSome o P) (sym is) has

-- ---- what is lent

module _ (old new : Standing) (s v : Name) (lent : Option PageData) (lends : (c : Cluster) (b : Book) → old c b → new c b × (lent ≡ page_of c.params b s v)) where
  pub opens-none : is_some lent ≡ false → Opens lent s v old new (Err NoVariant)
  opens-none none c b stood sound =
      let told = lends c b stood in
      (told.0, inr (at_hand lent none told.1))
    where
      at_hand : (o : Option PageData) → is_some o ≡ false → o ≡ page_of c.params b s v → open_page c.params b s v ≡ Err NoVariant
      at_hand None none is = open-none c.params b s v is
      at_hand (Some page) none is = cc

  module _ (page : PageData) (is : lent ≡ Some page) where
    pub opens-frozen : page.released ≡ true → Opens lent s v old new (Err Released)
    opens-frozen frozen c b stood sound =
        let told = lends c b stood in
        (told.0, inr (open-frozen c.params b s v page (sym is ∙ told.1) frozen))

    pub opens-page : page.released ≡ false → Opens lent s v old new (Ok tt)
    opens-page still c b stood sound =
        let told = lends c b stood in
        (told.0, has_some (λ page. open_page c.params b s v ≡ Ok page) lent page is (opened c.params b s v page (sym is ∙ told.1) still))

-- ---- what the register's step is

-- whether somebody holds what is to be granted in the variant
abbrev is_taken : Book → Name → Change → Bool
is_taken b v (Grant slot channel node) = held_in b v (slot, channel)
is_taken b v (Revoke slot channel) = false
is_taken b v (Frame f of_frame) = false

-- whether slot and channel are held in a variant that is there
held-there : (b : Book) (v : Name) (x : Variant) (at : ℕ × Channel) → get b.variants v ≡ Some x → held_in b v at ≡ contains x.grants at
held-there b v x at found = rw found refl

module _ (c : Cluster) (b : Book) (s v : Name) (change : Change) (sound : IsSound c b) where
  -- what is made of a page
  abbrev made_of : PageData → Result Book Refusal
  made_of page = decision page change >>= λ edits. (refuse Taken when is_taken b v change) >> Ok (all_applied b edits)

  -- where the supplier is there
  abbrev made_of_known : PageData → Result Book Refusal
  made_of_known page = (refuse NoSupplier when not (contains b.suppliers s)) >> made_of page

  -- what is never taken
  never : (decided : Result (List Edit) Refusal) → (decided >>= λ edits. Ok (all_applied b edits)) ≡ (decided >>= λ edits. (refuse Taken when false) >> Ok (all_applied b edits))
  unfolding ◌>>=◌ ◌>>◌ refuse◌when◌
  never (Ok edits) = refl
  never (Err e) = refl

  rows-decide : (x : Variant) → get b.variants v ≡ Some x → contains b.suppliers s ≡ true → change_rows c.params b s v change ≡ made_of (page_in c.params b s v x)
  rows-decide x found known = by_kind change
    where
      by_kind : (kind : Change) → change_rows c.params b s v kind ≡ (decision (page_in c.params b s v x) kind >>= λ edits. (refuse Taken when is_taken b v kind) >> Ok (all_applied b edits))
      by_kind (Grant k channel n) =
          grant-decides c b s v n x k channel found known
          ∙ ap (λ t. decision (page_in c.params b s v x) (Grant k channel n) >>= λ edits. (refuse Taken when t) >> Ok (all_applied b edits)) (sym (held-there b v x (k, channel) found))
      by_kind (Revoke k channel) = revoke-decides c b s v x k channel found known ∙ never (decision (page_in c.params b s v x) (Revoke k channel))
      by_kind (Frame f what) = supplier-decides c b s v x f what sound found known ∙ never (decision (page_in c.params b s v x) (Frame f what))

  -- it is what the supplier's page decides, in an open variant and for a supplier that is there; but that it may be taken
  pub rows-told : change_rows c.params b s v change ≡ (open_page c.params b s v >>= made_of_known)
  unfolding change_rows open_page ◌or◌ ◌>>=◌ ◌>>◌ refuse◌when◌
  rows-told =
      elim (get b.variants v) as (λ o. get b.variants v ≡ o → change_rows c.params b s v change
      ≡ (((option_map (page_in c.params b s v) o or NoVariant) >>= λ page. (refuse Released when page.released) >> Ok page) >>= made_of_known)) [
        | None ↦ λ none. rw none refl
        | Some x ↦ λ found. elim x.released as (λ r. x.released ≡ r → change_rows c.params b s v change
            ≡ (((refuse Released when r) >> Ok (page_in c.params b s v x)) >>= made_of_known)) [
              | true ↦ λ frozen. rw (found, frozen) refl
              | false ↦ λ opened. elim (contains b.suppliers s) as (λ t. contains b.suppliers s ≡ t → change_rows c.params b s v change
                  ≡ ((refuse NoSupplier when not t) >> made_of (page_in c.params b s v x))) [
                    | true ↦ λ known. rows-decide x found known
                    | false ↦ λ unknown. rw (found, opened, unknown) refl
                  ] refl
            ] refl
      ] refl

-- ---- what was decided fits

-- nobody holds what is not taken
unheld : (b : Book) (v : Name) (x : Variant) (change : Change) → get b.variants v ≡ Some x → is_taken b v change ≡ false → IsUnheld x change
unheld b v x (Grant k channel n) found free = none_there (get x.grants (k, channel)) (sym (held-there b v x (k, channel) found) ∙ free)
unheld b v x (Revoke k channel) found free = tt
unheld b v x (Frame f what) found free = tt

-- ---- what was asked beside the page: whether it is taken

-- whether slot and channel are held
pub grant-asked : (old mid : Standing) (v : Name) (change : Change) (slot : ℕ) (channel : Channel) → IsGrant slot channel change → (taken : Bool)
    → Tells old mid (Ok taken) (λ c b is. is ≡ held_in b v (slot, channel)) → (c : Cluster) (b : Book) → old c b → mid c b × (taken ≡ is_taken b v change)
grant-asked old mid v change slot channel grants taken told c b stood =
    let t = told c b stood in
    (t.0, t.1 ∙ ap (is_taken b v) (sym grants.1))

-- the end of a grant needs nothing
pub revoke-asked : (old : Standing) (v : Name) (change : Change) → IsRevoke change → (c : Cluster) (b : Book) → old c b → old c b × (false ≡ is_taken b v change)
revoke-asked old v change revokes c b stood = (stood, ap (is_taken b v) (sym revokes.2))

-- a frame needs nothing
pub frame-asked : (old : Standing) (v : Name) (change : Change) → IsOfFrame change → (c : Cluster) (b : Book) → old c b → old c b × (false ≡ is_taken b v change)
frame-asked old v change frame c b stood = (stood, ap (is_taken b v) (sym frame.2))

-- what has no placement and no signal is checked
pub grant-checked : (p : Params) (change : Change) (slot : ℕ) (channel : Channel) → IsGrant slot channel change → IsChecked p change
grant-checked p change slot channel grants = subst (IsChecked p) (sym grants.1) tt

pub revoke-checked : (p : Params) (change : Change) → IsRevoke change → IsChecked p change
revoke-checked p change revokes = subst (IsChecked p) (sym revokes.2) tt

-- ---- the records, by what was asked of them

module _ (old mid : Standing) (s v : Name) (change : Change) where
  abbrev does : Cluster → Book → Result Book Refusal
  does c b = change_rows c.params b s v change

  module _ (taken : Bool) (asked : (c : Cluster) (b : Book) → old c b → mid c b × (taken ≡ is_taken b v change)) (next : Standing) where
    -- there is no page that is open
    pub rows_stopped : (lent : Option PageData) (r : Result ⊤ Refusal) (e : Refusal) → r ≡ Err e → Opens lent s v mid next (Err e) → Does old next r does
    unfolding ◌>>=◌
    rows_stopped lent (Ok x) e said stopped c b stood sound = cc
    rows_stopped lent (Err f) e said stopped c b stood sound =
        let t = stopped c b (asked c b stood).0 sound in
        let same : e ≡ f = cc in (
          t.0,
          elim t.1 [
            | inl lacked ↦ inl (sym same ∙ lacked)
            | inr refused ↦ inr (rows-told c b s v change sound ∙ ap (λ o. o >>= made_of_known c b s v change sound) refused ∙ ap Err same)
          ],
        )

    module _ (lent : Option PageData) (page : PageData) (is : lent ≡ Some page) (opens : Opens lent s v mid next (Ok tt)) where
      page_open : (c : Cluster) (b : Book) → old c b → IsSound c b → next c b × (open_page c.params b s v ≡ Ok page)
      page_open c b stood sound =
          let t = opens c b (asked c b stood).0 sound in
          (t.0, some_has (λ page. open_page c.params b s v ≡ Ok page) lent page is t.1)

      -- what is made of it, whether the supplier is there or not
      by_page : (c : Cluster) (b : Book) → old c b → (sound : IsSound c b) → (there : Bool) → contains b.suppliers s ≡ there
          → does c b ≡ ((refuse NoSupplier when not there) >> made_of c b s v change sound page)
      unfolding ◌>>=◌
      by_page c b stood sound there is =
          rows-told c b s v change sound ∙ ap (λ o. o >>= made_of_known c b s v change sound) (page_open c b stood sound).1
          ∙ ap (λ t. (refuse NoSupplier when not t) >> made_of c b s v change sound page) is

      -- the supplier is not there
      pub rows_unnamed : ((c : Cluster) (b : Book) → next c b → contains b.suppliers s ≡ false) → Does old next (Err NoSupplier) does
      unfolding ◌>>◌ refuse◌when◌
      rows_unnamed unknown c b stood sound =
          let stands = (page_open c b stood sound).0 in
          (stands, inr (by_page c b stood sound false (unknown c b stands)))

      module _ (known : (c : Cluster) (b : Book) → old c b → next c b → contains b.suppliers s ≡ true) where
        -- what is decided on it decides, but that it may be taken
        pub page_told : (decided : Result (List Edit) Refusal) → decision page change ≡ decided →
            Known old next (λ c b. does c b ≡ (decided >>= λ edits. (refuse Taken when taken) >> Ok (all_applied b edits)))
        unfolding ◌>>◌ refuse◌when◌
        page_told decided decides c b stood sound =
            let stands = (page_open c b stood sound).0 in (
              stands,
              by_page c b stood sound true (known c b stood stands)
                  ∙ (λ i. decides i >>= λ edits. (refuse Taken when sym (asked c b stood).1 i) >> Ok (all_applied b edits)),
            )

        -- the page refuses it, or is not known to allow it
        pub rows_refused : (r : Result ⊤ Refusal) (e : Refusal) → r ≡ Err e → (e ≡ Unavailable) ⊎ (decision page change ≡ Err e) → Does old next r does
        unfolding ◌>>=◌
        rows_refused (Ok x) e said refuses c b stood sound = cc
        rows_refused (Err f) e said refuses c b stood sound =
            let same : f ≡ e = cc in (
              (page_open c b stood sound).0,
              elim refuses [
                | inl lacked ↦ inl (same ∙ lacked)
                | inr refused ↦ inr ((page_told (Err e) refused c b stood sound).1 ∙ ap Err (sym same))
              ],
            )

        module _ (edits : List Edit) (decides : decision page change ≡ Ok edits) where
          -- it is taken
          pub rows_taken : taken ≡ true → Does old next (Err Taken) does
          unfolding ◌>>=◌ ◌>>◌ refuse◌when◌
          rows_taken held c b stood sound =
              let t = page_told (Ok edits) decides c b stood sound in
              (t.0, inr (t.1 ∙ ap (λ t. (refuse Taken when t) >> Ok (all_applied b edits)) held))

          -- the edits are made
          pub rows_made : taken ≡ false → IsChecked page.params change → (new : Standing) (r : Result ⊤ Refusal) → Applies next new r edits → Does old new r does
          unfolding ◌>>=◌ ◌>>◌ refuse◌when◌
          rows_made free checked new r = carried old next new does edits r (λ c b stood sound.
              let t = page_told (Ok edits) decides c b stood sound in
              let o = opened-there c.params b s v page (page_open c b stood sound).1 in
              let of_cluster : IsChecked c.params change = subst (λ (q : PageData). IsChecked q.params change) (sym o.2) checked in
              let fits : AllFit c.params b edits =
              decision-fits c b s v o.0 change edits sound o.1 of_cluster (unheld b v o.0 change o.1 (sym (asked c b stood).1 ∙ free))
              (ap (λ q. decision q change) o.2 ∙ decides) in
              (t.0, (fits, t.1 ∙ ap (λ t. (refuse Taken when t) >> Ok (all_applied b edits)) free)))
