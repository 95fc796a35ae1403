-- What wishes are given, node by node, and the rows of a proposal.
use Rattle.std.proofs.Common.{◌≡◌, ℕ, ◌+◌, ◌<◌, Bool, true, false, ◌&&◌, cond, eqb, List, [], ◌∷◌, ◌++◌, length, map, filter, get_or, take, Option, Some, None, is_some, Result, Ok, Err, refl, sym, ap, subst, ◌∙◌, inl, inr, append_assoc, append-nil}
use Rattle.std.specs.Prelude.{⊤, is_none}
use Rattle.std.specs.List.{filter_map, flat_map}
use Rattle.std.specs.List.Sorted.{IsStrictlySortedBy}
use Rattle.std.proofs.lemmas.Bool.{cases_Bool}
use Rattle.std.proofs.lemmas.List.{map-append, take_more}
use Rattle.std.proofs.lemmas.List.Elements.{filter-append, filter_map-append}
use Rattle.fr_base.specs.Keys.{owned}
use Rattle.fr_base.specs.Names.{same_text}
use Rattle.fr_base.specs.Proposals.{either, given_beside, given_to, given_with, is_of_node, node_names, place_at, proposal_row}
use Rattle.fr_base.specs.KeptPlaces.{keep}
use Rattle.fr_base.specs.Refusing.{◌>>=◌, ◌or◌}
use Rattle.fr_base.specs.RefusedWishes.{asked_at, asked_of}
use Rattle.fr_base.specs.OwnRows.{OwnRows}
use Rattle.fr_base.specs.Turns.{all_placed, in_turn, places_given, take_places, take_turns, turns_on, with_place}
use Rattle.fr_base.specs.declared.channel.Channels.TheVariants as channels
use Rattle.fr_base.specs.declared.name.Name.{Name}
use Rattle.fr_base.specs.declared.params.Params.{Params}
use Rattle.fr_base.specs.declared.placement.Placement.{Placement}
use Rattle.fr_base.specs.declared.proposal.Given.{Given}
use Rattle.fr_base.specs.declared.proposal.ProposedPlacement.{ProposedPlacement}
use Rattle.fr_base.specs.declared.refusal.Refusal.{Refusal}
use Rattle.fr_base.specs.declared.refusal.Refusal.TheVariants.{NoRoom}
use Rattle.fr_base.specs.declared.wish.Asked.{Asked}
use Rattle.fr_base.specs.declared.wish.Wish.{Wish}
use Rattle.fr_base.specs.declared.wish.WishRead.{WishRead}
use Rattle.fr_world.specs.Pages.{PageData, own_rows_of}
use Rattle.fr_world.specs.Plans.{Takes}
use Rattle.fr_world.proofs.KeyLaws.{name_cmp, own_alike}
use Rattle.fr_world.proofs.MapLaws.{rows-set_of}
use Rattle.fr_world.proofs.TurnLaws.{takes-more}

-- ---- rows

module _ (given : List Given) (read : WishRead) where
  pub row-refused : (e : Refusal) → read.wish ≡ Err e → Err e ≡ (proposal_row given read).proposed
  unfolding proposal_row ◌>>=◌ ◌or◌
  row-refused e is = rw is refl

  module _ (wish : Wish) (is : read.wish ≡ Ok wish) where
    pub row-without : place_at given read.line ≡ None → Err NoRoom ≡ (proposal_row given read).proposed
    unfolding proposal_row ◌>>=◌ ◌or◌
    row-without none = rw (is, none) refl

    pub row-placed : (q : Placement) → place_at given read.line ≡ Some q → Ok (record { frame = wish.frame; node = wish.node; placement = q }) ≡ (proposal_row given read).proposed
    unfolding proposal_row ◌>>=◌ ◌or◌
    row-placed q some = rw (is, some) refl

-- what is not read as a wish was refused
pub refused-read : (r : Result Wish Refusal) → ((wish : Wish) → ¬ (r ≡ Ok wish)) → (e : Refusal) × (r ≡ Err e)
refused-read (Ok wish) never = absurd (never wish refl)
refused-read (Err e) never = (e, refl)

-- ---- a node's wishes

module _ (n : Name) (reads : List WishRead) (i : ℕ) (read : WishRead) (low : i < length reads) (is : read ≡ get_or reads i read) where
  one-more : filter (is_of_node n) (asked_of (take (i + 1) reads)) ≡ filter (is_of_node n) (asked_of (take i reads)) ++ filter (is_of_node n) (asked_of (read ∷ []))
  one-more =
      ap (λ rs. filter (is_of_node n) (asked_of rs)) (take_more reads i read low ∙ ap (λ r. take i reads ++ r ∷ []) (sym is))
      ∙ ap (filter (is_of_node n)) (filter_map-append (λ r. asked_at r.line r.wish) (take i reads) (read ∷ []))
      ∙ filter-append (is_of_node n) (asked_of (take i reads)) (asked_of (read ∷ []))

  pub asked-refused : (e : Refusal) → read.wish ≡ Err e → (olds : List Asked) → olds ≡ filter (is_of_node n) (asked_of (take i reads)) → olds ≡ filter (is_of_node n) (asked_of (take (i + 1) reads))
  asked-refused e err olds was = was ∙ sym (append-nil (filter (is_of_node n) (asked_of (take i reads)))) ∙ ap (λ w. filter (is_of_node n) (asked_of (take i reads)) ++ filter (is_of_node n) (asked_of (record { line = read.line; wish = w } ∷ []))) (sym err) ∙ sym one-more

  module _ (wish : Wish) (ok : read.wish ≡ Ok wish) where
    next_wish : filter (is_of_node n) (asked_of (take i reads)) ++ cond (same_text wish.node n) (record { line = read.line; wish = wish } ∷ []) [] ≡ filter (is_of_node n) (asked_of (take (i + 1) reads))
    next_wish = ap (λ w. filter (is_of_node n) (asked_of (take i reads)) ++ filter (is_of_node n) (asked_of (record { line = read.line; wish = w } ∷ []))) (sym ok) ∙ sym one-more

    pub asked-elsewhere : same_text wish.node n ≡ false → (olds : List Asked) → olds ≡ filter (is_of_node n) (asked_of (take i reads)) → olds ≡ filter (is_of_node n) (asked_of (take (i + 1) reads))
    asked-elsewhere other olds was = was ∙ sym (append-nil (filter (is_of_node n) (asked_of (take i reads)))) ∙ ap (λ b. filter (is_of_node n) (asked_of (take i reads)) ++ cond b (record { line = read.line; wish = wish } ∷ []) []) (sym other) ∙ next_wish

    pub asked-more : same_text wish.node n ≡ true → (olds news : List Asked) → olds ≡ filter (is_of_node n) (asked_of (take i reads)) → news ≡ olds ++ record { line = read.line; wish = wish } ∷ [] → news ≡ filter (is_of_node n) (asked_of (take (i + 1) reads))
    asked-more own olds news was e = e ∙ ap (λ es. es ++ record { line = read.line; wish = wish } ∷ []) was ∙ ap (λ b. filter (is_of_node n) (asked_of (take i reads)) ++ cond b (record { line = read.line; wish = wish } ∷ []) []) (sym own) ∙ next_wish

-- ---- the nodes

in_set : (s : Name) (ks : List Name) → map {B = Name} (λ (row : (Name × Name) × ⊤). row.0.1) (map {B = (Name × Name) × ⊤} (λ k. ((s, k), tt)) ks) ≡ ks
in_set s [] = refl
in_set s (k ∷ ks) = ap (λ rest. k ∷ rest) (in_set s ks)

pub page-nodes : (page : PageData) (ks : List Name) → ks ≡ page.nodes → IsStrictlySortedBy name_cmp ks → node_names (own_rows_of page) ≡ ks
page-nodes page ks is rise =
    ap (λ ns. map {B = Name} (λ (row : (Name × Name) × ⊤). row.0.1) (own_rows_of (record page { nodes = ns })).nodes.rows) (sym is)
    ∙ ap (map {B = Name} (λ (row : (Name × Name) × ⊤). row.0.1)) (rows-set_of name_cmp owned (λ n. (page.supplier, n)) (own_alike page.supplier) ks rise)
    ∙ in_set page.supplier ks

-- ---- the plan of a node

pub three-turns : (x y z : List Asked) → (x ++ y) ++ z ≡ x ++ (y ++ (z ++ []))
three-turns x y z = append_assoc x y z ∙ ap (λ r. x ++ (y ++ r)) (sym (append-nil z))

pub turned-all : (p : Params) (wishes : List Asked) → (turns_on p wishes channels.AB ++ turns_on p wishes channels.A) ++ turns_on p wishes channels.B ≡ in_turn p wishes
unfolding in_turn
turned-all p wishes = three-turns (turns_on p wishes channels.AB) (turns_on p wishes channels.A) (turns_on p wishes channels.B)

module _ (own : OwnRows) (n : Name) (cells : List (Name × Placement)) (wishes : List Asked) where
  pub plan-without : (replace : Bool) → replace ≡ false → (plan : List Given) → plan ≡ given_beside own n cells wishes → plan ≡ given_to own replace cells n wishes
  unfolding given_to
  plan-without replace is plan e = e ∙ ap (λ b. given_to own b cells n wishes) (sym is)

  module _ (replace : Bool) (is : replace ≡ true) (first : List Given) (with : first ≡ given_with own n cells (keep own.supplier own.frames [] wishes)) where
    eithered : (anew : List Given) → anew ≡ given_beside own n cells wishes → either first anew ≡ given_to own replace cells n wishes
    unfolding given_to
    eithered anew e = (λ i. either (with i) (e i)) ∙ ap (λ b. given_to own b cells n wishes) (sym is)

    pub plan-first : all_placed first ≡ true → first ≡ given_to own replace cells n wishes
    plan-first whole = ap (λ b. cond b first (cond (all_placed (given_beside own n cells wishes)) (given_beside own n cells wishes) first)) (sym whole) ∙ eithered (given_beside own n cells wishes) refl

    module _ (short : all_placed first ≡ false) (anew : List Given) (beside : anew ≡ given_beside own n cells wishes) where
      pub plan-anew : all_placed anew ≡ true → anew ≡ given_to own replace cells n wishes
      plan-anew whole = ap (λ b. cond b anew first) (sym whole) ∙ ap (λ b. cond b first (cond (all_placed anew) anew first)) (sym short) ∙ eithered anew beside

      pub plan-kept : all_placed anew ≡ false → first ≡ given_to own replace cells n wishes
      plan-kept less = ap (λ b. cond b anew first) (sym less) ∙ ap (λ b. cond b first (cond (all_placed anew) anew first)) (sym short) ∙ eithered anew beside
