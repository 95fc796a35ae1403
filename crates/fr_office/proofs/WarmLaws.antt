-- Records and the pages beside them: what is read of the records and changed in them.
use Rattle.std.proofs.Common.{◌≡◌, ℕ, ◌-◌, ◌&&◌, Bool, true, false, not, List, [], ◌∷◌, sum_by, Option, Some, None, Result, Ok, Err, All, Less, Equal, Greater, refl, sym, ap, subst, ◌∙◌, inl, inr}
use Rattle.std.specs.Prelude.{⊤, IfSome, MatchResult, OnErr, OnOk, if◌then◌else◌, is_some, nat_le, option_map}
use Rattle.std.specs.Option.{option_or}
use Rattle.std.specs.Ordering.{match_ordering}
use Rattle.std.proofs.lemmas.List.Elements.{All-cons, All-filter, All-head, All-nil, All-tail}
use Rattle.fr_base.specs.Book.{Variant, Book, own}
use Rattle.fr_base.specs.Cluster.{Cluster}
use Rattle.fr_base.specs.Keys.{owned}
use Rattle.fr_base.specs.Names.{same_text}
use Rattle.fr_base.specs.Tables.{get, len}
use Rattle.fr_base.specs.declared.name.Name.{Name}
use Rattle.fr_base.specs.declared.params.Params.{Params}
use Rattle.fr_base.specs.declared.refusal.Refusal.{Refusal}
use Rattle.fr_base.specs.declared.refusal.Refusal.TheVariants.{Unavailable}
use Rattle.fr_base.proofs.SoundRows.{same_text-is}
use Rattle.fr_world.specs.BookEdits.{all_applied}
use Rattle.fr_world.specs.Fits.{AllFit}
use Rattle.fr_world.specs.Pages.{PageData, page_in}
use Rattle.fr_world.specs.declared.edit.Edit.{Edit}
use Rattle.fr_world.specs.Held.{Applies, IsFresh, Leaving, Reads, Standing, Tells, page_of}
use Rattle.fr_office.specs.KeptPages.{AreFresh, EachKept, TurnsFrom, KeptData, StandsWarm, WarmData, bytes_of, given_back, given_up, is_page_of, kept_at, kept_without, lent_at, none_lent, page_at, put_away, put_back, shelved_at, whose, with_page, with_room}
use Rattle.fr_office.specs.ImportCounts.{AreCounted, count_of}
use Rattle.fr_office.specs.declared.import_counts.ImportCount.{ImportCount}
use Rattle.fr_office.proofs.CountLaws.{counted_of, found_all}

-- the book's page is fresh, and what is fresh is the book's page
pub page-fresh : (p : Params) (b : Book) (s v : Name) (x : Variant) (page : PageData) → get b.variants v ≡ Some x → page ≡ page_in p b s v x → IsFresh p b page
page-fresh p b s v x page there is = subst (IsFresh p b) (sym is) (record { variant = x; there = there; same = refl })

pub told-fresh : (p : Params) (b : Book) (s v : Name) (page : PageData) → Some page ≡ page_of p b s v → IsFresh p b page
told-fresh p b s v page = elim (get b.variants v) as (λ o. get b.variants v ≡ o → Some page ≡ option_map (page_in p b s v) o → IsFresh p b page) [
  | None ↦ λ none is. cc
  | Some x ↦ λ there is. let same : page ≡ page_in p b s v x = cc in page-fresh p b s v x page there same
] refl

pub both_true : (a b : Bool) → (a && b) ≡ true → (a ≡ true) × (b ≡ true)
both_true true b h = (refl, h)
both_true false b h = cc

fresh-told : (p : Params) (b : Book) (s v : Name) (page : PageData) → is_page_of s v page ≡ true → IsFresh p b page → Some page ≡ page_of p b s v
fresh-told p b s v page named fresh =
    let both = both_true (same_text page.supplier s) (same_text page.variant v) named in
    let supplier : page.supplier ≡ s = same_text-is page.supplier s both.0 in
    let variant : page.variant ≡ v = same_text-is page.variant v both.1 in
    let there : get b.variants v ≡ Some fresh.variant = subst (λ w. get b.variants w ≡ Some fresh.variant) variant fresh.there in
    ap Some (fresh.same ∙ (λ i. page_in p b (supplier i) (variant i) fresh.variant)) ∙ sym (ap (option_map (page_in p b s v)) there)

-- ---- what holds of all pages

module _ (P : PageData → Type 0) where
  -- of one that is found among those that are not lent, which is the one that was looked for
  shelved_found : (s v : Name) (kept : KeptData) (page : PageData) → shelved_at s v kept ≡ Some page → EachKept P kept → (is_page_of s v page ≡ true) × P page
  shelved_found s v kept page found each = elim (page_at s v kept.recent) as (λ o. page_at s v kept.recent ≡ o → option_or o (page_at s v kept.earlier) ≡ Some page → (is_page_of s v page ≡ true) × P page) [
    | Some x ↦ λ at is. found_all (is_page_of s v) P kept.recent page (at ∙ is) each.1
    | None ↦ λ at is. found_all (is_page_of s v) P kept.earlier page is each.2
  ] refl found

  found_if : (s v : Name) (kept : KeptData) (o : Option PageData) → o ≡ shelved_at s v kept → EachKept P kept → IfSome o P
  found_if s v kept None is each = tt
  found_if s v kept (Some page) is each = (shelved_found s v kept page (sym is) each).1

  -- of one that is found
  pub kept_found : (s v : Name) (kept : KeptData) (page : PageData) → kept_at s v kept ≡ Some page → EachKept P kept → (is_page_of s v page ≡ true) × P page
  kept_found s v kept page found each = at_hand kept.lent found each.0
    where
      at_hand : (lent : Option PageData) → option_or (lent_at s v lent) (shelved_at s v kept) ≡ Some page → IfSome lent P → (is_page_of s v page ≡ true) × P page
      at_hand None is here = shelved_found s v kept page is each
      at_hand (Some x) is here = elim (is_page_of s v x) as (λ b. is_page_of s v x ≡ b → option_or (if b then Some x else None) (shelved_at s v kept) ≡ Some page → (is_page_of s v page ≡ true) × P page) [
        | true ↦ λ named same. let one : x ≡ page = cc in (subst (λ p. is_page_of s v p ≡ true) one named, subst P one here)
        | false ↦ λ other same. shelved_found s v kept page same each
      ] refl is

  others_all : (s v : Name) (kept : KeptData) → EachKept P kept → EachKept P (kept_without s v kept)
  others_all s v kept each = (each.0, All-filter (λ page. not (is_page_of s v page)) P kept.recent each.1, All-filter (λ page. not (is_page_of s v page)) P kept.earlier each.2)

  room_all : (bytes : ℕ) (kept : KeptData) → EachKept P kept → EachKept P (with_room bytes kept)
  room_all bytes kept each = elim (nat_le (sum_by bytes_of kept.recent) (kept.most - bytes)) as (λ b. EachKept P (if b then kept else record kept { recent = []; earlier = kept.recent })) [
    | true ↦ each
    | false ↦ (each.0, All-nil P, each.1)
  ]

  placed_all : (page : PageData) (pages : List PageData) → P page → All P pages → All P (with_page page pages)
  placed_all page [] here all = All-cons P page [] here (All-nil P)
  placed_all page (other ∷ pages) here all =
      let later = placed_all page pages here (All-tail P other pages all) in
      elim (owned.compare (whose page) (whose other)) as (λ r. All P (match_ordering r (page ∷ other ∷ pages) (page ∷ pages) (other ∷ with_page page pages))) [
        | Less ↦ All-cons P page (other ∷ pages) here all
        | Equal ↦ All-cons P page pages here (All-tail P other pages all)
        | Greater ↦ All-cons P other (with_page page pages) (All-head P other pages all) later
      ]

  put_all : (lent : Option PageData) (kept : KeptData) → IfSome lent P → EachKept P kept → EachKept P (put_back lent kept)
  put_all None kept here each = each
  put_all (Some page) kept here each =
      let roomy = room_all (bytes_of page) kept each in
      (roomy.0, placed_all page (with_room (bytes_of page) kept).recent here roomy.1, roomy.2)

  given_all : (lent : Option PageData) (kept : KeptData) → EachKept P kept → EachKept P (given_back lent kept)
  given_all None kept each = each
  given_all (Some page) kept each = room_all (bytes_of page) kept each

  -- where the one that was lent was put away
  pub away_all : {E : Type 0} (kept later : KeptData) (r : Result ⊤ E) → OnOk r (later ≡ put_away kept) → OnErr r (later ≡ given_up kept) → EachKept P kept → EachKept P later
  away_all kept later (Ok x) ok err each = subst (EachKept P) (sym ok) (put_all kept.lent (none_lent kept) each.0 (tt, each.1, each.2))
  away_all kept later (Err e) ok err each = subst (EachKept P) (sym err) (given_all kept.lent (none_lent kept) (tt, each.1, each.2))

  -- and another is lent
  pub lent_all : {E : Type 0} (s v : Name) (kept taken later : KeptData) (page : Option PageData) (r : Result ⊤ E) → page ≡ shelved_at s v kept → taken ≡ kept_without s v kept →
      OnOk r (later ≡ put_away taken) → OnErr r (later ≡ given_up taken) → EachKept P kept → EachKept P (record later { lent = page })
  lent_all s v kept taken later page r is left ok err each =
      let away = away_all taken later r ok err (subst (EachKept P) (sym left) (others_all s v kept each)) in
      (found_if s v kept page is each, away.1, away.2)

-- ---- which page is lent

-- the one that was lent before
pub still_lent : (s v : Name) (kept : KeptData) → is_some (lent_at s v kept.lent) ≡ true → (is_some kept.lent ≡ true) × (kept.lent ≡ kept_at s v kept)
still_lent s v kept has = at_hand kept.lent has
  where
    at_hand : (lent : Option PageData) → is_some (lent_at s v lent) ≡ true → (is_some lent ≡ true) × (lent ≡ option_or (lent_at s v lent) (shelved_at s v kept))
    at_hand None has = cc
    at_hand (Some x) has = elim (is_page_of s v x) as (λ b. is_some (if b then Some x else None) ≡ true → (true ≡ true) × (Some x ≡ option_or (if b then Some x else None) (shelved_at s v kept))) [
      | true ↦ λ yes. (refl, refl)
      | false ↦ λ no. cc
    ] has

-- or one of the others
pub now_lent : (s v : Name) (kept : KeptData) → is_some (lent_at s v kept.lent) ≡ false → shelved_at s v kept ≡ kept_at s v kept
now_lent s v kept has = at_hand (lent_at s v kept.lent) has
  where
    at_hand : (o : Option PageData) → is_some o ≡ false → shelved_at s v kept ≡ option_or o (shelved_at s v kept)
    at_hand None has = refl
    at_hand (Some x) has = cc

-- which others there are then
pub as_they_were : (at : Option PageData) (old others : KeptData) → is_some at ≡ true → TurnsFrom at old others old
as_they_were None old others some = cc
as_they_were (Some page) old others some = refl

pub turned : {E : Type 0} (at : Option PageData) (old others taken away new : KeptData) → taken ≡ others → (r : Result ⊤ E) → OnOk r (away ≡ put_away taken) → OnErr r (away ≡ given_up taken) →
    none_lent new ≡ none_lent away → is_some at ≡ false → TurnsFrom at old others new
turned (Some page) old others taken away new left r ok err same none = cc
turned None old others taken away new left (Ok x) ok err same none = inl (same ∙ ap none_lent (ok ∙ ap put_away left))
turned None old others taken away new left (Err e) ok err same none = inr (same ∙ ap none_lent (err ∙ ap given_up left))

-- ---- records and the pages beside them

pub same_params : {R : Type 0} (params : R → Params) (inside warm : WarmData R) → inside ≡ warm → params inside.records ≡ params warm.records
same_params params inside warm is = ap (λ w. params w.records) is

-- what was read of the records
pub reads_inside : {R : Type 0} (clean : R → Type 0) (params : R → Params) (leaves : R → Leaving) (inside warm : WarmData R) → inside ≡ warm → (new : WarmData R) → Reads clean params leaves inside.records new.records →
    Reads (λ w. clean w.records) (λ w. params w.records) (λ w. leaves w.records) warm new
reads_inside clean params leaves inside warm is new reads =
    subst (λ w. Reads (λ w. clean w.records) (λ w. params w.records) (λ w. leaves w.records) w new) is (record { falls = reads.falls; same = reads.same; leaves = reads.leaves })

-- records beside these pages and counts
abbrev pub Beside : Standing → KeptData → List ImportCount → Standing
Beside stands pages counts c b = stands c b × AreFresh c.params b pages × AreCounted b counts

module _ {R : Type 0} (stands : R → Standing) (inside warm : WarmData R) (is : inside ≡ warm) where
  stood-inside : (c : Cluster) (b : Book) → StandsWarm stands warm c b → StandsWarm stands inside c b
  stood-inside c b stood = subst (λ w. StandsWarm stands w c b) (sym is) stood

  -- what the records tell
  pub warm_tells : {X : Type 0} (new : Standing) (r : Result X Refusal) (says : Cluster → Book → X → Type 0) →
      Tells (stands inside.records) new r says → Tells (StandsWarm stands warm) (Beside new inside.pages inside.counts) r says
  warm_tells new r says told c b stood =
      let s = stood-inside c b stood in
      let t = told c b s.0 in
      ((t.0, s.1, s.2), t.1)

  module _ (s v : Name) (left : KeptData) (lends : left.lent ≡ kept_at s v inside.pages)
      (fresh : (p : Params) (b : Book) → AreFresh p b inside.pages → AreFresh p b left) where
    -- the page is kept
    pub page_lent : is_some left.lent ≡ true → (there : Bool) →
        Tells (StandsWarm stands warm) (Beside (stands inside.records) left inside.counts) (Ok there) (λ c b _. left.lent ≡ page_of c.params b s v)
    page_lent some there c b stood =
        let here = stood-inside c b stood in
        let now = fresh c.params b here.1 in
        ((here.0, now, here.2), at_hand left.lent some lends)
      where
        at_hand : (lent : Option PageData) → is_some lent ≡ true → lent ≡ kept_at s v inside.pages → lent ≡ page_of c.params b s v
        at_hand None some is = cc
        at_hand (Some page) some is =
            let here = stood-inside c b stood in
            let kept = kept_found (IsFresh c.params b) s v inside.pages page (sym is) here.1 in
            fresh-told c.params b s v page kept.0 kept.1

    -- it is not, and was read
    pub page_read : (new : Standing) (r : Result (Option PageData) Refusal) → Tells (stands inside.records) new r (λ c b found. found ≡ page_of c.params b s v) →
        (found : Option PageData) → r ≡ Ok found → (there : Bool) →
        Tells (StandsWarm stands warm) (Beside new (record left { lent = found }) inside.counts) (Ok there) (λ c b _. found ≡ page_of c.params b s v)
    page_read new r told found is there c b stood =
        let here = stood-inside c b stood in
        let now = fresh c.params b here.1 in
        let t = subst (λ r. new c b × MatchResult r (λ found. found ≡ page_of c.params b s v) (λ e. e ≡ Unavailable)) is (told c b here.0) in
        ((t.0, (read_fresh found t.1, now.1, now.2), here.2), t.1)
      where
        read_fresh : (found : Option PageData) → found ≡ page_of c.params b s v → IfSome found (IsFresh c.params b)
        read_fresh None is = tt
        read_fresh (Some page) is = told-fresh c.params b s v page is

    -- it could not be read
    pub page_lacked : (new : Standing) (r : Result (Option PageData) Refusal) → Tells (stands inside.records) new r (λ c b found. found ≡ page_of c.params b s v) →
        (said : Result Bool Refusal) (e : Refusal) → said ≡ Err e → r ≡ Err e →
        Tells (StandsWarm stands warm) (Beside new left inside.counts) said (λ c b _. left.lent ≡ page_of c.params b s v)
    page_lacked new r told said e is lacks c b stood =
        let here = stood-inside c b stood in
        let t = subst (λ r. new c b × MatchResult r (λ found. found ≡ page_of c.params b s v) (λ e. e ≡ Unavailable)) lacks (told c b here.0) in
        ((t.0, fresh c.params b here.1, here.2), subst (λ r. MatchResult r (λ _. left.lent ≡ page_of c.params b s v) (λ e. e ≡ Unavailable)) (sym is) t.1)

  module _ (s : Name) where
    -- the supplier's imports were counted before
    pub count_known : (count : ℕ) → count_of s inside.counts ≡ Some count →
        Tells (StandsWarm stands warm) (StandsWarm stands warm) (Ok count) (λ c b n. n ≡ len (own s b.imports))
    count_known count known c b stood = (stood, counted_of b s inside.counts count known (stood-inside c b stood).2)

    -- they are not counted
    pub count_lacked : (new : Standing) (said r : Result ℕ Refusal) (e : Refusal) → said ≡ Err e → r ≡ Err e → Tells (stands inside.records) new r (λ c b n. n ≡ len (own s b.imports)) →
        Tells (StandsWarm stands warm) (Beside new inside.pages inside.counts) said (λ c b n. n ≡ len (own s b.imports))
    count_lacked new said r e is lacks told =
        subst (λ r. Tells (StandsWarm stands warm) (Beside new inside.pages inside.counts) r (λ c b n. n ≡ len (own s b.imports))) (lacks ∙ sym is) (warm_tells new r (λ c b n. n ≡ len (own s b.imports)) told)

    -- they are counted now
    pub count_read : (new : Standing) (r : Result ℕ Refusal) (count : ℕ) → r ≡ Ok count → Tells (stands inside.records) new r (λ c b n. n ≡ len (own s b.imports)) →
        (later : List ImportCount) → ((b : Book) → AreCounted b inside.counts → count ≡ len (own s b.imports) → AreCounted b later) →
        Tells (StandsWarm stands warm) (Beside new inside.pages later) (Ok count) (λ c b n. n ≡ len (own s b.imports))
    count_read new r count is told later noted c b stood =
        let here = stood-inside c b stood in
        let t = subst (λ r. new c b × MatchResult r (λ n. n ≡ len (own s b.imports)) (λ e. e ≡ Unavailable)) is (told c b here.0) in
        ((t.0, here.1, noted b here.2 t.1), t.1)

  -- edits were carried out
  pub warm_applied : (new : Standing) (edits : List Edit) (left : KeptData) → ((c : Cluster) (b : Book) → AllFit c.params b edits → AreFresh c.params b inside.pages → AreFresh c.params (all_applied b edits) left) →
      (counts : List ImportCount) → ((p : Params) (b : Book) → AllFit p b edits → AreCounted b inside.counts → AreCounted (all_applied b edits) counts) →
      (r : Result ⊤ Refusal) → r ≡ Ok tt → Applies (stands inside.records) new r edits →
      (c : Cluster) (b : Book) → StandsWarm stands warm c b → AllFit c.params b edits → Beside new left counts c (all_applied b edits)
  warm_applied new edits left fresh counts followed (Ok x) made applies c b stood fits =
      let here = stood-inside c b stood in
      (applies c b here.0 fits, fresh c b fits here.1, followed c.params b fits here.2)
  warm_applied new edits left fresh counts followed (Err e) made applies c b stood fits = cc

  -- they were not
  pub warm_lacked : (new : Standing) (edits : List Edit) (said r : Result ⊤ Refusal) (e : Refusal) → said ≡ Err e → r ≡ Err e → Applies (stands inside.records) new r edits →
      Applies (StandsWarm stands warm) (Beside new inside.pages inside.counts) said edits
  warm_lacked new edits said (Ok x) e is lacks applies c b stood fits = cc
  warm_lacked new edits (Ok x) (Err f) e is lacks applies c b stood fits = cc
  warm_lacked new edits (Err g) (Err f) e is lacks applies c b stood fits =
      let here = stood-inside c b stood in
      let m = applies c b here.0 fits in
      let same : g ≡ f = cc in
      (same ∙ m.0, (m.1, here.1, here.2))
