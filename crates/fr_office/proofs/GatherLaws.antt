-- What was gathered from the suppliers' pages, one after another.
use Rattle.std.proofs.Common.{◌≡◌, ℕ, ◌≤◌, List, [], ◌∷◌, ◌++◌, length, take, Bool, true, false, not, ◌||◌, ◌==◌, ◌<◌, suc, arith, Some, None, Ok, refl, sym, ap, subst, ◌∙◌, append-nil}
use Rattle.std.specs.List.{flat_map}
use Rattle.std.proofs.lemmas.Grind.{flat_map-append}
use Rattle.std.proofs.lemmas.List.{take_all}
use Rattle.std.proofs.lemmas.Bool.{ne_eqb}
use Rattle.fr_base.specs.Book.{Book, Frame, Variant, own, own_grants}
use Rattle.fr_base.specs.Cluster.{Cluster}
use Rattle.fr_base.specs.Keys.{owned}
use Rattle.fr_base.specs.Queries.{named, signal_rows, signals_of}
use Rattle.fr_base.specs.Step.{own_rows}
use Rattle.fr_base.specs.Tables.{Table, get, len}
use Rattle.fr_base.specs.declared.name.Name.{Name}
use Rattle.fr_base.specs.declared.params.Params.{Params}
use Rattle.fr_base.proofs.SoundTables.{same_some}
use Rattle.fr_office.specs.Gathered.{AreNamed, IsPageOf, Takes}
use Rattle.fr_office.specs.Shown.{AreSignals, FindsPage, Gathers, frames_named}
use Rattle.fr_office.specs.declared.queries.layout.NamedSignals.{NamedSignals}
use Rattle.fr_office.proofs.SplitLaws.{flat-flat_map}
use Rattle.fr_world.specs.Held.{Standing}
use Rattle.fr_world.specs.Pages.{PageData, own_rows_of, page_in}
use Rattle.fr_world.proofs.PageLaws.{rows-registers}

-- The records stand for the same book as before, and this is so of the variant, if it is there.
abbrev pub IsSoFar : Standing → Standing → Name → (Params → Variant → Type 0) → Type 0
IsSoFar old now v says = (c : Cluster) (b : Book) → old c b → now c b × ((x : Variant) → get b.variants v ≡ Some x → says c.params x)

-- the supplier's page that was found has its rows of the variant
pub page-rows : (old mid new : Standing) (s v : Name) (page : PageData) (before says : Params → Variant → Type 0) →
    IsSoFar old mid v before → FindsPage (Some page) s v mid new (Ok tt) →
    ((x : Variant) → page.supplier ≡ s → IsPageOf x page → before page.params x → says page.params x) → IsSoFar old new v says
unfolding own_rows
page-rows old mid new s v page before says so finds next c b stood =
    let first = so c b stood in
    let found = finds c b first.0 in
    let y = found.1.0 in (
      found.0,
      λ x there.
          let same : y ≡ x = same_some y x (sym found.1.1 ∙ there) in
          let is : page ≡ page_in c.params b s v y = same_some page (page_in c.params b s v y) found.1.2 in
          let of_p : page.params ≡ c.params = ap (λ (p : PageData). p.params) is in
          let of_s : page.supplier ≡ s = ap (λ (p : PageData). p.supplier) is in
          let rows : own_rows_of page ≡ own_rows c.params b s x = ap own_rows_of is ∙ rows-registers c b s v y ∙ ap (own_rows c.params b s) same in
          subst (λ p. says p x) of_p
          (next x of_s
          (record {
            grants = (λ i. (rows i).grants) ∙ ap (λ t. own_grants t x.grants) (sym of_s);
            frames = (λ i. (rows i).frames) ∙ ap (λ t. own t x.frames) (sym of_s);
          })
          (subst (λ p. before p x) (sym of_p) (first.1 x there))),
    )

-- ---- what is gathered, page by page

module _ {G : Type 0} (gathered : Params → G → List Name → Variant → G → Type 0) (first : G) (old : Standing) (v : Name) where
  -- before the first page
  pub gathered-none : ((p : Params) (x : Variant) → gathered p first [] x first) → IsSoFar old old v (λ p x. gathered p first [] x first)
  gathered-none so c b stood = (stood, λ x there. so c.params x)

  -- one page more
  pub gathered-more : (mid new : Standing) (s : Name) (before after : List Name) (page : PageData) (now all : G) →
      IsSoFar old mid v (λ p x. gathered p first before x now) → FindsPage (Some page) s v mid new (Ok tt) → Takes gathered page now all → after ≡ before ++ s ∷ [] →
      IsSoFar old new v (λ p x. gathered p first after x all)
  gathered-more mid new s before after page now all so finds takes more =
      page-rows old mid new s v page (λ p x. gathered p first before x now) (λ p x. gathered p first after x all) so finds
      (λ x of_s has is.
      subst (λ ss. gathered page.params first ss x all) (ap (λ t. before ++ t ∷ []) of_s ∙ sym more) (takes first before x has is))

  -- after the last
  pub gathered-all : (new : Standing) (i : ℕ) (ss : List Name) (all : G) → length ss ≤ i → IsSoFar old new v (λ p x. gathered p first (take i ss) x all) →
      Gathers v (λ p x all. gathered p first ss x all) old new (Ok all)
  gathered-all new i ss all last so c b stood =
      let told = so c b stood in
      (told.0, λ x there. subst (λ ts. gathered c.params first ts x all) (take_all i ss last) (told.1 x there))

-- what is made of what was gathered
pub gathers-then : {X Y : Type 0} (old new : Standing) (v : Name) (says : Params → Variant → X → Type 0) (tells : Params → Variant → Y → Type 0) (found : X) (made : Y) →
    Gathers v says old new (Ok found) → ((p : Params) (x : Variant) → says p x found → tells p x made) → Gathers v tells old new (Ok made)
gathers-then old new v says tells found made gathers so c b stood =
    let told = gathers c b stood in
    (told.0, λ x there. so c.params x (told.1 x there))

-- ---- rows behind those of the suppliers before

-- what is made of the suppliers' frames, one supplier after another
abbrev pub each_own : {R : Type 0} → (Params → Table owned Frame → List R) → Params → Variant → List Name → List R
each_own made p x ss = flat_map (λ s. made p (own s x.frames)) ss

-- what is made of one more behind what is made of those before
pub flat-more : {X Y : Type 0} (f : X → List Y) (xs : List X) (x : X) → flat_map f xs ++ f x ≡ flat_map f (xs ++ x ∷ [])
flat-more f xs x = ap (λ last. flat_map f xs ++ last) (sym (append-nil (f x))) ∙ sym (flat_map-append f xs (x ∷ []))

pub takes-rows : {R : Type 0} (made : Params → Table owned Frame → List R) (page : PageData) (old new : List R) → new ≡ old ++ made page.params (own_rows_of page).frames →
    Takes (λ p first ss x rows. rows ≡ each_own made p x ss) page old new
takes-rows made page old new e first ss x has is =
    e ∙ (λ i. is i ++ made page.params (has.frames i)) ∙ flat-more (λ s. made page.params (own s x.frames)) ss page.supplier

-- ---- frames of one name

or_with : (a b : Bool) → b ≡ true → true ≡ (a || b)
or_with true b e = refl
or_with false b e = sym e

or_without : (a b : Bool) → b ≡ false → a ≡ (a || b)
or_without true b e = refl
or_without false b e = sym e

none_of : {A : Type 0} (xs ys : List A) (a b : Bool) → not a ≡ (length xs == 0) → not b ≡ (length ys == 0) → not (a || b) ≡ (length (xs ++ ys) == 0)
none_of [] ys true b e g = let no : false ≡ true = e in cc
none_of [] ys false b e g = g
none_of (x ∷ xs) ys true b e g = sym (ne_eqb (suc (length (xs ++ ys))) 0 (λ h. omega (arith, h)))
none_of (x ∷ xs) ys false b e g = let no : true ≡ false = e ∙ ne_eqb (suc (length xs)) 0 (λ h. omega (arith, h)) in cc

module _ (page : PageData) (old new : NamedSignals) (has : Bool) (name : new.name ≡ old.name) (rows : new.rows ≡ old.rows ++ signals_of (named old.name (own_rows_of page).frames))
    (there : not has ≡ (len (named old.name (own_rows_of page).frames) == 0)) where
  takes-named : new.found ≡ (old.found || has) → Takes (λ p (first : NamedSignals) ss x all. AreNamed first.name ss x all) page old new
  unfolding len
  takes-named found first ss x has_page so =
      let f = first.name in
      let of_f : old.name ≡ f = so.name in
      record {
        name = name ∙ of_f;
        rows = rows ∙ (λ i. so.rows i ++ signals_of (named (of_f i) (has_page.frames i))) ∙ flat-more (λ s. signals_of (named f (own s x.frames))) ss page.supplier;
        found = ap not found
            ∙ none_of (frames_named f ss x) (named f (own page.supplier x.frames)).rows old.found has so.found (there ∙ (λ i. length (named (of_f i) (has_page.frames i)).rows == 0))
            ∙ ap (λ es. length es == 0) (flat-more (λ s. (named f (own s x.frames)).rows) ss page.supplier);
      }

  -- where there is such a frame
  pub takes-found : has ≡ true → new.found ≡ true → Takes (λ p (first : NamedSignals) ss x all. AreNamed first.name ss x all) page old new
  takes-found is found = takes-named (found ∙ or_with old.found has is)

  -- where there is none
  pub takes-none : has ≡ false → new.found ≡ old.found → Takes (λ p (first : NamedSignals) ss x all. AreNamed first.name ss x all) page old new
  takes-none is found = takes-named (found ∙ or_without old.found has is)

no_rows : {A : Type 0} (xs : List A) → true ≡ (length xs == 0) → xs ≡ []
no_rows [] e = refl
no_rows (x ∷ xs) e = let no : true ≡ false = e ∙ ne_eqb (suc (length xs)) 0 (λ h. omega (arith, h)) in cc

some_rows : {A : Type 0} (xs : List A) → false ≡ (length xs == 0) → 0 < length xs
some_rows [] e = let no : false ≡ true = e in cc
some_rows (x ∷ xs) e = omega arith

module _ (f : Name) (ss : List Name) (x : Variant) (signals : NamedSignals) (so : AreNamed f ss x signals) where
  pub named-some : signals.found ≡ true → AreSignals f ss x (Some signals.rows)
  unfolding signals_of
  named-some found = (
    some_rows (frames_named f ss x) (ap not (sym found) ∙ so.found),
    so.rows ∙ flat-flat_map signal_rows (λ s. (named f (own s x.frames)).rows) ss,
  )

  pub named-none : signals.found ≡ false → AreSignals f ss x None
  named-none found = no_rows (frames_named f ss x) (ap not (sym found) ∙ so.found)
