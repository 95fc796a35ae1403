-- The rows of the suppliers whom an actor sees, one supplier's after another's, are the rows that it sees.
use Rattle.std.proofs.Common.{◌≡◌, Bool, true, false, cond, ◌||◌, List, [], ◌∷◌, map, filter, Some, refl, sym, ap, ◌∙◌, inl, inr, append-nil}
use Rattle.std.specs.List.{flat_map}
use Rattle.fr_base.specs.Book as book
use Rattle.fr_base.specs.Book.{Book, Variant, own, own_grants, is_of, placements_of}
use Rattle.fr_base.specs.Cluster.{Cluster}
use Rattle.fr_base.specs.Keys.{channel_slots}
use Rattle.fr_base.specs.Names.{same_text}
use Rattle.fr_base.specs.Queries.{frame_row, frames_of, gap_row, gaps_of, named}
use Rattle.fr_base.specs.Seen.{seen_frames, seen_grants}
use Rattle.fr_base.specs.Sound.{IsSound}
use Rattle.fr_base.specs.Tables.{Table, get, only}
use Rattle.fr_base.specs.declared.actor.Actor.{Actor}
use Rattle.fr_base.specs.declared.actor.Actor.TheVariants.{Integrator, Supplier}
use Rattle.fr_base.specs.declared.name.Name.{Name}
use Rattle.fr_base.specs.declared.params.Params.{Params}
use Rattle.fr_office.specs.Shared.{grants_among, placements_among}
use Rattle.fr_office.specs.Shown.{frames_named, seen_names}
use Rattle.fr_office.proofs.GrantLaws.{grants-all}
use Rattle.fr_office.proofs.PageRows.{FrameEntry}
use Rattle.fr_office.proofs.SplitLaws.{frames-split, flat-flat_map, map-flat_map}
use Rattle.fr_office.proofs.SupplierMerges.{rows_in}
use Rattle.fr_world.specs.Sendings.{filled_by}
use Rattle.fr_world.proofs.AmongLaws.{In}

-- ---- frames of one name

module _ {X : Type 0} (p q : X → Bool) where
  swap-by_tests : (x : X) (xs : List X) (a b : Bool) → p x ≡ a → q x ≡ b → filter p (filter q xs) ≡ filter q (filter p xs) → filter p (filter q (x ∷ xs)) ≡ filter q (filter p (x ∷ xs))
  swap-by_tests x xs true true e f rest =
      (λ i. filter p (cond (f i) (x ∷ filter q xs) (filter q xs))) ∙ (λ i. cond (e i) (x ∷ filter p (filter q xs)) (filter p (filter q xs))) ∙ ap (λ rs. x ∷ rs) rest
      ∙ (λ i. cond (sym f i) (x ∷ filter q (filter p xs)) (filter q (filter p xs))) ∙ (λ i. filter q (cond (sym e i) (x ∷ filter p xs) (filter p xs)))
  swap-by_tests x xs true false e f rest =
      (λ i. filter p (cond (f i) (x ∷ filter q xs) (filter q xs))) ∙ rest
      ∙ (λ i. cond (sym f i) (x ∷ filter q (filter p xs)) (filter q (filter p xs))) ∙ (λ i. filter q (cond (sym e i) (x ∷ filter p xs) (filter p xs)))
  swap-by_tests x xs false true e f rest =
      (λ i. filter p (cond (f i) (x ∷ filter q xs) (filter q xs))) ∙ (λ i. cond (e i) (x ∷ filter p (filter q xs)) (filter p (filter q xs))) ∙ rest
      ∙ (λ i. filter q (cond (sym e i) (x ∷ filter p xs) (filter p xs)))
  swap-by_tests x xs false false e f rest =
      (λ i. filter p (cond (f i) (x ∷ filter q xs) (filter q xs))) ∙ rest ∙ (λ i. filter q (cond (sym e i) (x ∷ filter p xs) (filter p xs)))

  filter-swap : (xs : List X) → filter p (filter q xs) ≡ filter q (filter p xs)
  filter-swap [] = refl
  filter-swap (x ∷ xs) = swap-by_tests x xs (p x) (q x) refl refl (filter-swap xs)

  -- what is left was there
  pub In-filter : (x : X) (xs : List X) → In x (filter p xs) → In x xs
  In-filter x [] i = absurd i
  In-filter x (y ∷ ys) i = by_test (p y) i (In-filter x ys)
    where
      by_test : (b : Bool) → In x (cond b (y ∷ filter p ys) (filter p ys)) → (In x (filter p ys) → In x ys) → In x (y ∷ ys)
      by_test true (inl same) rest = inl same
      by_test true (inr j) rest = inr (rest j)
      by_test false j rest = inr (rest j)

same-flat : {A R : Type 0} (f g : A → List R) (xs : List A) → ((x : A) → f x ≡ g x) → flat_map f xs ≡ flat_map g xs
same-flat f g xs same = ap (λ h. flat_map h xs) (λ i x. same x i)

-- ---- grants

or_none : (b : Bool) → (b || false) ≡ b
or_none true = refl
or_none false = refl

own-among : (s : Name) (grants : Table channel_slots book.Holder) → grants_among (s ∷ []) grants ≡ own_grants s grants
unfolding grants_among
own-among s grants = ap (λ test. only test grants) (λ i k h. or_none (same_text h.supplier s) i)

-- ---- all rows of a variant that the actor sees

module _ (c : Cluster) (b : Book) (v : Name) (x : Variant) (sound : IsSound c b) (there : get b.variants v ≡ Some x) where
  pub grants-seen : (actor : Actor) → grants_among (seen_names actor b) x.grants ≡ seen_grants actor x.grants
  unfolding seen_names
  grants-seen Integrator = grants-all c b v x sound there
  grants-seen (Supplier s) = own-among s x.grants

  pub rows-seen : (actor : Actor) → flat_map (λ s. (own s x.frames).rows) (seen_names actor b) ≡ (seen_frames actor x.frames).rows
  unfolding seen_names
  rows-seen Integrator = frames-split c b v x sound there x.frames (λ e i. i)
  rows-seen (Supplier s) = append-nil (own s x.frames).rows

  -- what is made of each frame
  pub frames-seen : {X : Type 0} (actor : Actor) (rows : FrameEntry → List X) → flat_map (rows_in rows x) (seen_names actor b) ≡ flat_map rows (seen_frames actor x.frames).rows
  frames-seen actor rows = flat-flat_map rows (λ s. (own s x.frames).rows) (seen_names actor b) ∙ ap (flat_map rows) (rows-seen actor)

  pub listed-seen : (actor : Actor) → flat_map (λ s. frames_of (own s x.frames)) (seen_names actor b) ≡ frames_of (seen_frames actor x.frames)
  unfolding frames_of
  listed-seen actor = map-flat_map frame_row (λ s. (own s x.frames).rows) (seen_names actor b) ∙ ap (map frame_row) (rows-seen actor)

  pub gaps-seen : (actor : Actor) (p : Params) → flat_map (λ s. gaps_of p (own s x.frames)) (seen_names actor b) ≡ gaps_of p (seen_frames actor x.frames)
  unfolding gaps_of
  gaps-seen actor p = map-flat_map (gap_row p) (λ s. (own s x.frames).rows) (seen_names actor b) ∙ ap (map (gap_row p)) (rows-seen actor)

  pub placements-seen : (actor : Actor) → placements_among (seen_names actor b) x ≡ placements_of (seen_frames actor x.frames)
  unfolding placements_of
  placements-seen actor = frames-seen actor (λ row. filled_by row.0 row.1)

  pub named-seen : (actor : Actor) (f : Name) → frames_named f (seen_names actor b) x ≡ (named f (seen_frames actor x.frames)).rows
  unfolding named only seen_names
  named-seen Integrator f =
      same-flat (λ s. (named f (own s x.frames)).rows) (λ s. (own s (named f x.frames)).rows) (seen_names Integrator b) (λ s. filter-swap (λ e. same_text e.0.1 f) (λ e. is_of s e.0) x.frames.rows)
      ∙ frames-split c b v x sound there (named f x.frames) (λ e i. In-filter (λ e. same_text e.0.1 f) (λ _. true) e x.frames.rows i)
  named-seen (Supplier s) f = append-nil (named f (own s x.frames)).rows
