-- Frames that wishes free, and how many placements count.
use Rattle.std.proofs.Common.{◌≡◌, ℕ, suc, ◌+◌, ◌<◌, ◌≤◌, Bool, true, false, not, ◌&&◌, ◌||◌, cond, List, [], ◌∷◌, ◌++◌, length, map, filter, Option, Some, None, is_some, option_map, Result, Ok, Err, refl, sym, ap, subst, ◌∙◌, ◌⊎◌, inl, inr, arith, true≢false, T, Ordering, Less, Equal, Greater}
use Rattle.std.specs.List.{flat_map, list_any}
use Rattle.std.specs.Ordering.{eq_by_cmp, is_eq, nat_cmp}
use Rattle.std.specs.Cmp.Lexicographic.{slice_cmp}
use Rattle.std.specs.Map.{lookup}
use Rattle.std.specs.BTreeMap.{is_at}
use Rattle.std.specs.Option.{option_or}
use Rattle.std.specs.FinMap.Entries.{length-put}
use Rattle.std.proofs.lemmas.Bool.{cases_Bool}
use Rattle.fr_base.specs.Book.{Frame}
use Rattle.fr_base.specs.Keys.{names, owned}
use Rattle.fr_base.specs.Names.{same_text}
use Rattle.fr_base.specs.OwnRows.{OwnRows}
use Rattle.fr_base.specs.RefusedWishes.{Counted, count_wish, counted_frames, emptied, frames_beside, free_wish, free_wishes, one_more}
use Rattle.fr_base.specs.Tables.{Table, empty, get, contains, insert, len, only, remove, settle, Becomes, Gone, left_by}
use Rattle.fr_base.specs.declared.name.Name.{Name}
use Rattle.fr_base.specs.declared.refusal.Refusal.{Refusal}
use Rattle.fr_base.specs.declared.wish.Wish.{Wish}
use Rattle.fr_base.specs.declared.wish.WishRead.{WishRead}
use Rattle.fr_base.proofs.AloneCells.{same_text-itself}
use Rattle.fr_base.proofs.AloneTables.{get-each, get-remove, len-each}
use Rattle.fr_base.proofs.SoundRows.{same_text-is}
use Rattle.fr_base.proofs.SoundTables.{same_key}
use Rattle.fr_base.proofs.TableLaws.{equal, get-insert, kept, same_table}
use Rattle.fr_world.specs.Counts.{ShowCounts, count_of, counted_of, freed_if, is_freed, names_frame}
use Rattle.fr_world.specs.Pages.{PageData, own_rows_of}
use Rattle.fr_world.specs.declared.proposal.refused.Counted as rt
use Rattle.fr_world.specs.declared.proposal.refused.Counts.{Counts}

-- of one supplier keys tie where the names are the same text
pub key-test : (s f g : Name) → eq_by_cmp owned.compare (s, f) (s, g) ≡ same_text g f
key-test s f g = elim (cases_Bool (eq_by_cmp owned.compare (s, f) (s, g))) [
  | inl same ↦
      let keys : (s, f) ≡ (s, g) = owned.exact (s, f) (s, g) (equal _ same) in
      let names : f ≡ g = ap (λ k. k.1) keys in
      same ∙ sym (same_text-itself g) ∙ ap (same_text g) (sym names)
  | inr other ↦ elim (cases_Bool (same_text g f)) [
    | inl same ↦ absurd (true≢false (sym (same_key owned (s, f)) ∙ ap (λ n. eq_by_cmp owned.compare (s, f) (s, n)) (sym (same_text-is g f same)) ∙ other))
    | inr apart ↦ other ∙ sym apart
  ]
]

-- ---- what is freed

kept_all : {K V : Type 0} (p : K → V → Bool) (q : K) (o : Option V) → ((v : V) → p q v ≡ true) → kept p q o ≡ o
kept_all p q None e = refl
kept_all p q (Some v) e = ap (λ b. cond b (Some v) None) (e v)

module _ {V : Type 0} (t : Table owned V) (k : Name × Name) (none : get t k ≡ None) where
  -- a row that is not there is taken out of nothing
  pub remove-none : remove t k ≡ t
  remove-none = same_table _ _ (λ q. get-remove owned (λ _ _. true) t k q ∙ by q (cases_Bool (eq_by_cmp owned.compare k q)))
    where
      by : (q : Name × Name) → (eq_by_cmp owned.compare k q ≡ true) ⊎ (eq_by_cmp owned.compare k q ≡ false) → kept (λ j _. not (eq_by_cmp owned.compare k j)) q (get t q) ≡ get t q
      by q (inl same) =
          let here : get t q ≡ None = ap (get t) (sym (owned.exact k q (equal _ same))) ∙ none in
          ap (kept (λ j _. not (eq_by_cmp owned.compare k j)) q) here ∙ sym here
      by q (inr other) = kept_all (λ j _. not (eq_by_cmp owned.compare k j)) q (get t q) (λ v. ap not other)

abbrev pub freed_with : Bool → Option Frame → Option Frame
freed_with b o = option_map (freed_if b) o

freed_not : (o : Option Frame) → freed_with false o ≡ o
freed_not None = refl
freed_not (Some frame) = refl

freed_twice : (b a : Bool) (o : Option Frame) → freed_with a (freed_with b o) ≡ freed_with (b || a) o
freed_twice b a None = refl
freed_twice true true (Some frame) = refl
freed_twice true false (Some frame) = refl
freed_twice false a (Some frame) = refl

module _ (s : Name) where
  get-free : (read : Result Wish Refusal) (frames : Table owned Frame) (f : Name) → get (free_wish s read frames) (s, f) ≡ freed_with (names_frame f read) (get frames (s, f))
  unfolding free_wish settle
  get-free (Err refusal) frames f = sym (freed_not (get frames (s, f)))
  get-free (Ok wish) frames f = by (get frames (s, wish.frame)) refl
    where
      here : same_text wish.frame f ≡ true → get frames (s, f) ≡ get frames (s, wish.frame)
      here same = ap (λ n. get frames (s, n)) (sym (same_text-is wish.frame f same))

      some : (frame : Frame) → get frames (s, wish.frame) ≡ Some frame → (b : Bool) → same_text wish.frame f ≡ b → cond b (Some (record frame { placements = empty })) (get frames (s, f)) ≡ freed_with b (get frames (s, f))
      some frame at true same = ap (freed_with true) (sym (here same ∙ at))
      some frame at false other = sym (freed_not (get frames (s, f)))

      none : get frames (s, wish.frame) ≡ None → (b : Bool) → same_text wish.frame f ≡ b → get frames (s, f) ≡ freed_with b (get frames (s, f))
      none at true same = let nothing : get frames (s, f) ≡ None = here same ∙ at in nothing ∙ ap (freed_with true) (sym nothing)
      none at false other = sym (freed_not (get frames (s, f)))

      by : (o : Option Frame) → get frames (s, wish.frame) ≡ o → get (settle frames (s, wish.frame) (emptied o)) (s, f) ≡ freed_with (same_text wish.frame f) (get frames (s, f))
      by (Some frame) at =
          get-insert frames (s, wish.frame) (record frame { placements = empty }) (s, f)
          ∙ ap (λ b. cond b (Some (record frame { placements = empty })) (get frames (s, f))) (key-test s f wish.frame)
          ∙ some frame at (same_text wish.frame f) refl
      by None at = ap (λ t. get t (s, f)) (remove-none frames (s, wish.frame) at) ∙ none at (same_text wish.frame f) refl

  len-free : (read : Result Wish Refusal) (frames : Table owned Frame) → len (free_wish s read frames) ≡ len frames
  unfolding free_wish settle len get insert
  len-free (Err refusal) frames = refl
  len-free (Ok wish) frames = by (get frames (s, wish.frame)) refl
    where
      by : (o : Option Frame) → get frames (s, wish.frame) ≡ o → len (settle frames (s, wish.frame) (emptied o)) ≡ len frames
      by (Some frame) at = length-put owned.compare owned.total (s, wish.frame) (record frame { placements = empty }) frames.rows frames.sorted ∙ ap (λ o. cond (is_some o) (length frames.rows) (length frames.rows + 1)) at
      by None at = ap (λ t. length t.rows) (remove-none frames (s, wish.frame) at)

  get-frees : (reads : List WishRead) (frames : Table owned Frame) (f : Name) → get (free_wishes s reads frames) (s, f) ≡ freed_with (list_any (λ read. names_frame f read.wish) reads) (get frames (s, f))
  unfolding free_wishes
  get-frees [] frames f = sym (freed_not (get frames (s, f)))
  get-frees (read ∷ reads) frames f =
      get-frees reads (free_wish s read.wish frames) f
      ∙ ap (freed_with (list_any (λ read. names_frame f read.wish) reads)) (get-free read.wish frames f)
      ∙ freed_twice (names_frame f read.wish) (list_any (λ read. names_frame f read.wish) reads) (get frames (s, f))

  len-frees : (reads : List WishRead) (frames : Table owned Frame) → len (free_wishes s reads frames) ≡ len frames
  unfolding free_wishes
  len-frees [] frames = refl
  len-frees (read ∷ reads) frames = len-frees reads (free_wish s read.wish frames) ∙ len-free read.wish frames

module _ (own : OwnRows) (reads : List WishRead) where
  pub get-beside : (replace : Bool) (f : Name) → get (frames_beside own replace reads) (own.supplier, f) ≡ freed_with (is_freed replace reads f) (get own.frames (own.supplier, f))
  unfolding frames_beside
  get-beside true f = get-frees own.supplier reads own.frames f
  get-beside false f = sym (freed_not (get own.frames (own.supplier, f)))

  pub len-beside : (replace : Bool) → len (frames_beside own replace reads) ≡ len own.frames
  unfolding frames_beside
  len-beside true = len-frees own.supplier reads own.frames
  len-beside false = refl

-- ---- what counts

counts-freed : (b : Bool) (frame : Frame) → len (cond b empty frame.placements) ≡ cond b 0 (len frame.placements)
unfolding len empty
counts-freed true frame = refl
counts-freed false frame = refl

abbrev as_counted : Frame → Counted
as_counted frame = record { node = frame.node; placements = len frame.placements }

counted-freed : (b : Bool) (o : Option Frame) → option_map as_counted (freed_with b o) ≡ option_map (count_of b) o
counted-freed b None = refl
counted-freed b (Some frame) = λ i. Some (record { node = frame.node; placements = counts-freed b frame i })

-- before any wish
pub counts-begin : (rows : PageData) (replace : Bool) (reads : List WishRead) (counts : Counts) → counts.wished.entries ≡ [] → counts.frames ≡ len (own_rows_of rows).frames → ShowCounts rows (is_freed replace reads) counts (counted_frames (frames_beside (own_rows_of rows) replace reads))
unfolding counted_frames
counts-begin rows replace reads counts none all =
    let own = own_rows_of rows in
    record {
      frames = len-each owned as_counted (frames_beside own replace reads) ∙ len-beside own reads replace ∙ sym all;
      each = λ f.
          get-each owned as_counted (frames_beside own replace reads) (rows.supplier, f)
          ∙ ap (option_map as_counted) (get-beside own reads replace f)
          ∙ counted-freed (is_freed replace reads f) (get own.frames (rows.supplier, f))
          ∙ ap (λ es. option_or (option_map counted_of (lookup (is_at (slice_cmp nat_cmp f)) es)) (option_map (count_of (is_freed replace reads f)) (get own.frames (rows.supplier, f)))) (sym none);
    }

-- names compare as equal where they are the same text
pub name-test : (f g : Name) → is_eq (slice_cmp nat_cmp f g) ≡ same_text f g
unfolding names
name-test f g = elim (cases_Bool (is_eq (slice_cmp nat_cmp f g))) [
  | inl same ↦ same ∙ sym (same_text-itself f) ∙ ap (same_text f) (names.exact f g (equal _ same))
  | inr other ↦ elim (cases_Bool (same_text f g)) [
    | inl same ↦ absurd (true≢false (sym (same_key names f) ∙ ap (λ n. is_eq (slice_cmp nat_cmp f n)) (same_text-is f g same) ∙ other))
    | inr apart ↦ other ∙ sym apart
  ]
]

-- with one wish more
pub counts-more : (rows : PageData) (freed : Name → Bool) (old new : Counts) (counted : Table owned Counted) (wish : Wish) (there : Option Counted) (one : rt.Counted)
    → ShowCounts rows freed old counted → get counted (rows.supplier, wish.frame) ≡ there → counted_of one ≡ one_more wish there
    → new.frames ≡ cond (is_some there) old.frames (old.frames + 1)
    → ((q : Name) → lookup (is_at (slice_cmp nat_cmp q)) new.wished.entries ≡ cond (is_at (slice_cmp nat_cmp wish.frame) q) (Some one) (lookup (is_at (slice_cmp nat_cmp q)) old.wished.entries))
    → ShowCounts rows freed new (count_wish rows.supplier counted (Ok wish))
unfolding len get insert
counts-more rows freed old new counted wish there one shows at is frames puts = record { frames = all; each = each }
  where
    k : Name × Name
    k = (rows.supplier, wish.frame)

    now : Counted
    now = one_more wish (get counted k)

    all : len (insert counted k now) ≡ new.frames
    all =
        length-put owned.compare owned.total k now counted.rows counted.sorted
        ∙ (λ i. cond (is_some (at i)) (shows.frames i) (shows.frames i + 1))
        ∙ sym frames

    page_has : Name → Option Counted
    page_has f = option_map (count_of (freed f)) (get (own_rows_of rows).frames (rows.supplier, f))

    by : (f : Name) (b : Bool) → cond b (Some now) (get counted (rows.supplier, f)) ≡ option_or (option_map counted_of (cond b (Some one) (lookup (is_at (slice_cmp nat_cmp f)) old.wished.entries))) (page_has f)
    by f true = ap Some (ap (one_more wish) at ∙ sym is)
    by f false = shows.each f

    each : (f : Name) → get (insert counted k now) (rows.supplier, f) ≡ option_or (option_map counted_of (lookup (is_at (slice_cmp nat_cmp f)) new.wished.entries)) (page_has f)
    each f =
        get-insert counted k now (rows.supplier, f)
        ∙ ap (λ b. cond b (Some now) (get counted (rows.supplier, f))) (key-test rows.supplier f wish.frame ∙ sym (name-test wish.frame f))
        ∙ by f (is_eq (slice_cmp nat_cmp wish.frame f))
        ∙ ap (λ o. option_or (option_map counted_of o) (page_has f)) (sym (puts f))
