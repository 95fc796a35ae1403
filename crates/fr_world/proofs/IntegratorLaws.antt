-- What the integrator's commands make of a book: nodes, by the supplier's nodes; and what is common, by the list of variants.
use Rattle.std.proofs.Common.{◌≡◌, ℕ, suc, Bool, true, false, not, cond, List, [], ◌∷◌, map, length, find, Option, Some, None, is_some, Result, Ok, Err, IsTrue, refl, sym, ap, ◌∙◌, Ordering, Less, Equal, Greater, subst}
use Rattle.std.specs.Prelude.{nat_le, ⊤}
use Rattle.std.specs.List.{list_any}
use Rattle.std.specs.Option.{option_map}
use Rattle.std.specs.Ordering.{nat_cmp, is_eq, ordering_reverse}
use Rattle.std.specs.Cmp.Lexicographic.{slice_cmp, nat_list_cmp_total}
use Rattle.std.specs.FinMap.Entries as entries
use Rattle.std.proofs.lemmas.List.{length-map}
use Rattle.std.proofs.lemmas.Map.Text.{is_eq-slice_cmp}
use Rattle.fr_base.specs.Refusing.{◌>>=◌, ◌>>◌, ◌or◌, refuse◌when◌}
use Rattle.fr_base.specs.declared.limits.TheConstants.{MAX_NODES, MAX_VARIANTS, MAX_DEPTH}
use Rattle.fr_base.specs.Tables.{get, contains, len, insert}
use Rattle.fr_base.specs.Keys.{names, owned}
use Rattle.fr_base.specs.Names.{same_text}
use Rattle.fr_base.specs.Book.{Variant, Book, empty_variant, is_of, own}
use Rattle.fr_base.specs.Step.{with_variant, begun, common, add_node}
use Rattle.fr_base.specs.declared.name.Name.{Name}
use Rattle.fr_base.specs.declared.refusal.Refusal.{Refusal}
use Rattle.fr_base.specs.declared.refusal.Refusal.TheVariants.{NoVariant, Released, NotReleased, TooDeep, NoSupplier, Exists, Limit}
use Rattle.fr_base.specs.declared.beginning.Beginning.{Beginning}
use Rattle.fr_base.specs.declared.beginning.Beginning.TheVariants.{Empty, From, Flat}
use Rattle.fr_base.specs.declared.request.CommonCommand.{CommonCommand}
use Rattle.fr_base.specs.declared.request.CommonCommand.TheVariants.{OpenVariant, Release}
use Rattle.fr_base.proofs.SoundRows.{same_text-is}
use Rattle.fr_base.proofs.AloneCells.{same_text-itself}
use Rattle.fr_base.proofs.AloneTables.{get-own}
use Rattle.fr_world.specs.BookEdits.{applied, changed_at, or_empty, copied, variants_in}
use Rattle.fr_world.specs.Common.{row_of, allows_flat, depth_after, opening, common_edit}
use Rattle.fr_world.specs.Nodes.{new_node}
use Rattle.fr_world.specs.Pages.{nodes_in}
use Rattle.fr_world.specs.declared.edit.Edit.{Edit}
use Rattle.fr_world.specs.declared.edit.Edit.TheVariants.{NewVariant, NewFlat, SetReleased, NewNode}
use Rattle.fr_base.specs.declared.answer.VariantRow.{VariantRow}
use Rattle.fr_world.proofs.KeyLaws.{name_cmp, own_alike}
use Rattle.fr_world.proofs.MapLaws.{contains-set_of}
use Rattle.fr_world.proofs.PageLaws.{nodes-back}

-- ---- a node

is_eq-reverse : (r : Ordering) → is_eq (ordering_reverse r) ≡ is_eq r
is_eq-reverse Less = refl
is_eq-reverse Equal = refl
is_eq-reverse Greater = refl

-- two texts are the same, whichever is named first
same_text-turned : (a b : Name) → same_text a b ≡ same_text b a
same_text-turned a b = sym (is_eq-slice_cmp a b) ∙ ap is_eq (nat_list_cmp_total.antisymm a b) ∙ is_eq-reverse (slice_cmp nat_cmp b a) ∙ is_eq-slice_cmp b a

module _ (b : Book) (s : Name) where
  pub node-listed : (n : Name) → contains b.nodes (s, n) ≡ list_any (λ other. same_text other n) (nodes_in b s)
  node-listed n =
      ap is_some (sym (get-own owned (is_of s) b.nodes (s, n) (same_text-itself s)))
      ∙ ap (λ t. contains t (s, n)) (sym (nodes-back b s))
      ∙ contains-set_of name_cmp owned (λ m. (s, m)) (own_alike s) (nodes_in b s) n
      ∙ ap (λ f. list_any f (nodes_in b s)) (λ i other. (is_eq-slice_cmp n other ∙ same_text-turned n other) i)

  nodes-counted : len (own s b.nodes) ≡ length (nodes_in b s)
  unfolding nodes_in len
  nodes-counted = sym (length-map (own s b.nodes).rows (λ e. e.0.1))

  node-alike : (n : Name) (known has full : Bool) → IsTrue known →
      ((refuse NoSupplier when not known) >> ((refuse Exists when has) >> ((refuse Limit when full) >> Ok (record b { nodes = insert b.nodes (s, n) tt }))))
      ≡ (((refuse Exists when has) >> ((refuse Limit when full) >> Ok (NewNode s n))) >>= λ edit. Ok (applied b edit))
  unfolding ◌>>◌ ◌>>=◌ refuse◌when◌ applied
  node-alike n false has full is = cc
  node-alike n true true full is = refl
  node-alike n true false true is = refl
  node-alike n true false false is = refl

pub node-decides : (b : Book) (s n : Name) → IsTrue (contains b.suppliers s) → add_node b s n ≡ (new_node s (nodes_in b s) n >>= λ edit. Ok (applied b edit))
unfolding add_node new_node
node-decides b s n known =
    (λ i. (refuse NoSupplier when not (contains b.suppliers s)) >> ((refuse Exists when node-listed b s n i) >> ((refuse Limit when nat_le MAX_NODES (nodes-counted b s i)) >> Ok (record b { nodes = insert b.nodes (s, n) tt }))))
    ∙ node-alike b s n (contains b.suppliers s) _ _ known

-- ---- what is common

-- a variant's row
abbrev pub row : Name → Variant → VariantRow
row v x = record { variant = v; parent = x.parent; depth = x.depth; released = x.released }

row-found : (es : List (Name × Variant)) (v : Name) → find (λ r. same_text r.variant v) (map (λ e. row e.0 e.1) es) ≡ option_map (row v) (entries.find names.compare v es)
unfolding names
row-found [] v = refl
row-found (e ∷ es) v =
    by_test _ _ (same_text e.0 v) refl (row-found es v)
    ∙ ap (λ t. option_map (row v) (cond t (Some e.1) (entries.find (slice_cmp nat_cmp) v es))) (same_text-turned e.0 v ∙ sym (is_eq-slice_cmp v e.0))
  where
    by_test : (r : Option VariantRow) (u : Option Variant) (t : Bool) → same_text e.0 v ≡ t → r ≡ option_map (row v) u → cond t (Some (row e.0 e.1)) r ≡ option_map (row v) (cond t (Some e.1) u)
    by_test r u true same rest = ap (λ k. Some (row k e.1)) (same_text-is e.0 v same)
    by_test r u false same rest = rest

module _ (b : Book) where
  pub row-of : (v : Name) → row_of (variants_in b) v ≡ option_map (row v) (get b.variants v)
  unfolding variants_in get
  row-of v = row-found b.variants.rows v

  is_some-row : (v : Name) (o : Option Variant) → is_some o ≡ is_some (option_map (row v) o)
  is_some-row v None = refl
  is_some-row v (Some x) = refl

  pub row-there : (v : Name) → contains b.variants v ≡ is_some (row_of (variants_in b) v)
  row-there v = is_some-row v (get b.variants v) ∙ ap is_some (sym (row-of v))

  rows-counted : len b.variants ≡ length (variants_in b)
  unfolding variants_in len
  rows-counted = sym (length-map b.variants.rows (λ e. row e.0 e.1))

  -- a variant that begins with these rows
  abbrev made : Option Name → Variant → ℕ → Variant
  made parent x d = record x { parent = parent; depth = d; released = false }

  from-alike : (p : Name) (x : Variant) (y : Variant) (held deep : Bool) →
      ((refuse NotReleased when held) >> ((refuse TooDeep when deep) >> Ok (made (Some p) x (suc y.depth)))) ≡ (((refuse NotReleased when held) >> ((refuse TooDeep when deep) >> Ok (suc y.depth))) >>= λ d. Ok (made (Some p) x d))
  unfolding ◌>>◌ ◌>>=◌ refuse◌when◌
  from-alike p x y true deep = refl
  from-alike p x y false true = refl
  from-alike p x y false false = refl

  parent-alike : (p : Name) (o : Option Variant) →
      ((o or NoVariant) >>= λ x. (refuse NotReleased when not x.released) >> ((refuse TooDeep when nat_le MAX_DEPTH x.depth) >> Ok (made (Some p) x (suc x.depth))))
      ≡ (((option_map (row p) o or NoVariant) >>= λ r. (refuse NotReleased when not r.released) >> ((refuse TooDeep when nat_le MAX_DEPTH r.depth) >> Ok (suc r.depth))) >>= λ d. Ok (made (Some p) (or_empty o) d))
  unfolding ◌or◌ ◌>>=◌
  parent-alike p None = refl
  parent-alike p (Some x) = from-alike p x x (not x.released) (nat_le MAX_DEPTH x.depth)

  from-made : (p : Name) → begun b (From p) ≡ (depth_after (variants_in b) (Some p) >>= λ d. Ok (made (Some p) (copied b (Some p)) d))
  unfolding begun depth_after ◌>>=◌
  from-made p =
      parent-alike p (get b.variants p)
      ∙ ap (λ o. ((o or NoVariant) >>= λ r. (refuse NotReleased when not r.released) >> ((refuse TooDeep when nat_le MAX_DEPTH r.depth) >> Ok (suc r.depth))) >>= λ d. Ok (made (Some p) (or_empty (get b.variants p)) d)) (sym (row-of p))

  flat-alike : (o : Option Variant) (p : Name) →
      ((o or NoVariant) >>= λ x. (refuse NotReleased when not x.released) >> Ok (made None x 1))
      ≡ (((option_map (row p) o or NoVariant) >>= λ r. refuse NotReleased when not r.released) >> Ok (made None (or_empty o) 1))
  unfolding ◌or◌ ◌>>=◌ ◌>>◌
  flat-alike None p = refl
  flat-alike (Some x) p = refl

  flat-made : (p : Name) → begun b (Flat p) ≡ (allows_flat (variants_in b) p >> Ok (made None (copied b (Some p)) 1))
  unfolding begun allows_flat
  flat-made p =
      flat-alike (get b.variants p) p
      ∙ ap (λ o. ((o or NoVariant) >>= λ r. refuse NotReleased when not r.released) >> Ok (made None (or_empty (get b.variants p)) 1)) (sym (row-of p))

  -- what is begun is what the edit makes
  unfoldable Alike : Name → Result Variant Refusal → Result Edit Refusal → Type 0
  Alike v begun edit = (begun >>= λ x. Ok (with_variant b v x)) ≡ (edit >>= λ e. Ok (applied b e))

  from-edit : (v p : Name) (depth : Result ℕ Refusal) → Alike v (depth >>= λ d. Ok (made (Some p) (copied b (Some p)) d)) (depth >>= λ d. Ok (NewVariant v (Some p) d))
  unfolding ◌>>=◌ applied Alike
  from-edit v p (Err e) = refl
  from-edit v p (Ok d) = refl

  flat-edit : (v p : Name) (allowed : Result ⊤ Refusal) → Alike v (allowed >> Ok (made None (copied b (Some p)) 1)) (allowed >> Ok (NewFlat v p))
  unfolding ◌>>=◌ ◌>>◌ applied Alike
  flat-edit v p (Err e) = refl
  flat-edit v p (Ok d) = refl

  empty-made : (v : Name) → Alike v (begun b Empty) (Ok (NewVariant v None 1))
  unfolding begun ◌>>=◌ applied empty_variant Alike
  empty-made v = refl

  begun-made : (v : Name) (beginning : Beginning Name) → Alike v (begun b beginning) (opening (variants_in b) v beginning)
  unfolding opening
  begun-made v Empty = empty-made v
  begun-made v (From p) = subst (λ r. Alike v r (opening (variants_in b) v (From p))) (sym (from-made p)) (from-edit v p (depth_after (variants_in b) (Some p)))
  begun-made v (Flat p) = subst (λ r. Alike v r (opening (variants_in b) v (Flat p))) (sym (flat-made p)) (flat-edit v p (allows_flat (variants_in b) p))

  open-alike : (v : Name) (begun : Result Variant Refusal) (edit : Result Edit Refusal) (there full : Bool) → Alike v begun edit →
      (begun >>= λ x. (refuse Exists when there) >> ((refuse Limit when full) >> Ok (with_variant b v x)))
      ≡ ((edit >>= λ e. (refuse Exists when there) >> ((refuse Limit when full) >> Ok e)) >>= λ edit. Ok (applied b edit))
  unfolding ◌>>◌ ◌>>=◌ refuse◌when◌ Alike
  open-alike v (Err e) (Err f) there full is = is
  open-alike v (Err e) (Ok f) there full is = cc
  open-alike v (Ok x) (Err f) there full is = cc
  open-alike v (Ok x) (Ok e) true full is = refl
  open-alike v (Ok x) (Ok e) false true is = refl
  open-alike v (Ok x) (Ok e) false false is = is

  open-decides : (v : Name) (beginning : Beginning Name) → common b (OpenVariant v beginning) ≡ (common_edit (variants_in b) (OpenVariant v beginning) >>= λ edit. Ok (applied b edit))
  unfolding common common_edit
  open-decides v beginning =
      (λ i. begun b beginning >>= λ x. (refuse Exists when row-there v i) >> ((refuse Limit when nat_le MAX_VARIANTS (rows-counted i)) >> Ok (with_variant b v x)))
      ∙ open-alike v (begun b beginning) (opening (variants_in b) v beginning) _ _ (begun-made v beginning)

  freed-alike : (v : Name) (released : Bool) (last : Book) → last ≡ applied b (SetReleased v) → ((refuse Released when released) >> Ok last) ≡ (((refuse Released when released) >> Ok (SetReleased v)) >>= λ edit. Ok (applied b edit))
  unfolding ◌>>◌ ◌>>=◌ refuse◌when◌
  freed-alike v true last e = refl
  freed-alike v false last e = ap Ok e

  release-alike : (v : Name) (o : Option Variant) → get b.variants v ≡ o →
      ((o or NoVariant) >>= λ x. (refuse Released when x.released) >> Ok (with_variant b v (record x { released = true })))
      ≡ (((option_map (row v) o or NoVariant) >>= λ r. (refuse Released when r.released) >> Ok (SetReleased v)) >>= λ edit. Ok (applied b edit))
  unfolding ◌or◌ ◌>>=◌ applied
  release-alike v None e = refl
  release-alike v (Some x) e = freed-alike v x.released _ (ap (changed_at b v (λ y. record y { released = true })) (sym e))

  release-decides : (v : Name) → common b (Release v) ≡ (common_edit (variants_in b) (Release v) >>= λ edit. Ok (applied b edit))
  unfolding common common_edit
  release-decides v =
      release-alike v (get b.variants v) refl
      ∙ ap (λ o. ((o or NoVariant) >>= λ r. (refuse Released when r.released) >> Ok (SetReleased v)) >>= λ edit. Ok (applied b edit)) (sym (row-of v))

pub common-decides : (b : Book) (command : CommonCommand) → common b command ≡ (common_edit (variants_in b) command >>= λ edit. Ok (applied b edit))
common-decides b (OpenVariant v beginning) = open-decides b v beginning
common-decides b (Release v) = release-decides b v
