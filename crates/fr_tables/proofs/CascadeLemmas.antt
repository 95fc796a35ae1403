-- What a DELETE from frames does to the placements and signals that refer to them.
use Rattle.std.proofs.Common.{None, ◌≡◌, ◌≢◌, ◌⊎◌, inl, inr, zero, suc, ℕ, ℤ, List, [], ◌∷◌, ◌++◌, length, length-append, append-nil, arith, true, Ok, refl, sym, ap, subst, subst₂, ◌∙◌}
use Rattle.std.specs.List.{AllByRecursion, list_any}
use Rattle.std.proofs.lemmas.Bool.{cases_Bool}
use Rattle.sqlite.specs.Order.{Row}
use Rattle.sqlite.specs.Table.{Table}
use Rattle.sqlite.specs.Tree.{Trees, rowid}
use Rattle.sqlite.specs.declared.types.Value.TheVariants.{Int}
use Rattle.sqlite.specs.Edit.{Edit, edit_of, edited, without_all}
use Rattle.sqlite.specs.Rowids.TheVariants.{Given}
use Rattle.sqlite_value.specs.Keys.{plain}
use Rattle.sqlite_schema.specs.declared.schema.Keys.TheVariants.{Enforced}
use Rattle.sqlite_rules.specs.Lists.{Has}
use Rattle.sqlite_rules.specs.declared.action.Deed.TheVariants.{Delete}
use Rattle.sqlite_rules.specs.Edit.{taken_by}
use Rattle.sqlite_rules.specs.Action.{Work, End, Writes, Goes, Acts, ActsOn, Leads, Settles, AreChildren, action_edit, works, pairs, loses, is_child_of}
use Rattle.sqlite_trees.proofs.ListLemmas.{all_of}
use Rattle.sqlite_tied.specs.Compute.{everything}
use Rattle.fr_tables.proofs.BehindLemmas.{works_same}
use Rattle.fr_tables.specs.Schema.{Layout, old_schema, register_schema, tables_at, frames, placements, signals, by_frame}

abbrev pub frame_key : List ℕ
frame_key = 1 ∷ 2 ∷ 3 ∷ []

-- what is to be done to the children of the frames that are gone
abbrev pub work : Table → List Row → Work
work child olds = record { depth = 0; child = child; ref = by_frame; places = frame_key; order = plain; deed = Delete; moves = pairs olds [] }

works_alone : (olds : List Row) → (works (old_schema None None) Enforced 0 11 olds [] ≡ []) ⊎ (works (old_schema None None) Enforced 0 11 olds [] ≡ work placements olds ∷ work signals olds ∷ [])
unfolding everything
works_alone olds = elim (cases_Bool (list_any (loses plain frame_key) (pairs olds []))) [ inl some ↦ inr (rw some) | inr none ↦ inl (rw none) ]

works_are : (l : Layout) (olds : List Row) → (works (register_schema l) Enforced 0 11 olds [] ≡ []) ⊎ (works (register_schema l) Enforced 0 11 olds [] ≡ work placements olds ∷ work signals olds ∷ [])
works_are l olds = elim (works_alone olds) [ inl none ↦ inl (works_same l 0 11 olds [] ∙ none) | inr some ↦ inr (works_same l 0 11 olds [] ∙ some) ]

-- no table refers to placements or to signals
placements_end : (l : Layout) (depth : ℕ) (olds : List Row) → works (register_schema l) Enforced depth 13 olds [] ≡ []
unfolding everything
placements_end l depth olds = works_same l depth 13 olds []

signals_end : (l : Layout) (depth : ℕ) (olds : List Row) → works (register_schema l) Enforced depth 15 olds [] ≡ []
unfolding everything
signals_end l depth olds = works_same l depth 15 olds []

-- the children of the frames that are gone are taken out, and no other table is touched
pub record Acted (l : Layout) (child : Table) (mid next : Trees) (olds : List Row) : Type 0 where
  pub others : AllByRecursion (λ t. t.tree ≢ child.tree → next t.tree ≡ mid t.tree) (tables_at l)
  pub ids : List ℤ
  pub left : next child.tree ≡ without_all (mid child.tree) ids
  pub children : (id : ℤ) → Has ids id → (r : Row) × Has (mid child.tree) r × (list_any (is_child_of (work child olds) r) (pairs olds []) ≡ true) × (rowid r ≡ Int id)

unacted : (l : Layout) (child : Table) (mid : Trees) (olds : List Row) → Acted l child mid mid olds
unacted l child mid olds = record { others = all_of (λ (t : Table). t.tree ≢ child.tree → mid t.tree ≡ mid t.tree) (λ t other. refl) (tables_at l); ids = []; left = refl; children = λ id h. absurd h }

module _ (l : Layout) (child : Table) (ends : (depth : ℕ) (olds : List Row) → works (register_schema l) Enforced depth child.tree olds [] ≡ []) (Then : Trees → List Work → End → Type 0) (mid next : Trees) (olds : List Row)
    (below : List Work) where
  -- the action is carried out, and then those below it
  abbrev Goes_on : Type 0
  Goes_on = (after : Trees) × Acted l child mid after olds × Then after below (Ok next)

  removed : (ids : List ℤ) → AreChildren mid (work child olds) ids → Goes (register_schema l) Enforced Then mid (action_edit mid (work child olds) ids) 1 below (Ok next) → Goes_on
  removed ids are (inl refused) = absurd (let e = refused.2 in cc)
  removed ids are (inr (inl big)) = absurd (let e = big.3 in cc)
  removed ids are (inr (inr went)) = (
    went.0,
    record { others = went.1.tables; ids = ids; left = went.1.rows; children = are.sound },
    subst (λ ws. Then went.0 ws (Ok next)) (ap (λ ws. below ++ ws) (ends 1 (taken_by mid (action_edit mid (work child olds) ids))) ∙ append-nil below) went.2,
  )

  acted_on : (ids : List ℤ) → AreChildren mid (work child olds) ids → ActsOn (register_schema l) Enforced Then mid (work child olds) below (Ok next) ids → Goes_on
  acted_on [] are h = (mid, unacted l child mid olds, h)
  acted_on (id ∷ ids) are h = removed (id ∷ ids) are h

  acts : Acts (register_schema l) Enforced Then mid (work child olds) below (Ok next) → Goes_on
  acts h = acted_on h.0 h.1 h.2

settled : (l : Layout) (n : ℕ) (now next : Trees) → Leads (register_schema l) Enforced n now [] (Ok next) → now ≡ next
settled l zero now next h = let e = h.1 in cc
settled l (suc n) now next h = absurd (omega (arith, ap length h.2, length-append h.0 (h.1 ∷ [])))

-- the last of a list of one or of two
last_of_one : (w other : Work) (below : List Work) → w ∷ [] ≡ below ++ other ∷ [] → (below ≡ []) × (other ≡ w)
last_of_one w other [] h = (refl, let e : w ≡ other = cc in sym e)
last_of_one w other (b ∷ below) h = absurd (omega (arith, ap length h, length-append below (other ∷ [])))

last_of_two : (v w other : Work) (below : List Work) → v ∷ w ∷ [] ≡ below ++ other ∷ [] → (below ≡ v ∷ []) × (other ≡ w)
last_of_two v w other [] h = absurd (omega (arith, ap length h))
last_of_two v w other (b ∷ below) h =
    let first : b ≡ v = cc in
    let rest : w ∷ [] ≡ below ++ other ∷ [] = cc in
    let one = last_of_one w other below rest in
    (λ i. first i ∷ one.0 i, one.1)

-- the signals go first, and then the placements
pub record Cascaded (l : Layout) (mid next : Trees) (olds : List Row) : Type 0 where
  pub between : Trees
  pub of_signals : Acted l signals mid between olds
  pub of_placements : Acted l placements between next olds

leads_one : (l : Layout) (n : ℕ) (mid next : Trees) (olds : List Row) → Leads (register_schema l) Enforced n mid (work placements olds ∷ []) (Ok next) → Acted l placements mid next olds
leads_one l zero mid next olds h = absurd (let e = h.0 in cc)
leads_one l (suc n) mid next olds h =
    let one = last_of_one (work placements olds) h.1 h.0 h.2 in
    let did = acts l placements (placements_end l) (Leads (register_schema l) Enforced n) mid next olds []
    (subst₂ (λ w below. Acts (register_schema l) Enforced (Leads (register_schema l) Enforced n) mid w below (Ok next)) one.1 one.0 h.3) in
    subst (λ t. Acted l placements mid t olds) (settled l n did.0 next did.2) did.1

leads_two : (l : Layout) (n : ℕ) (mid next : Trees) (olds : List Row) → Leads (register_schema l) Enforced n mid (work placements olds ∷ work signals olds ∷ []) (Ok next) → Cascaded l mid next olds
leads_two l zero mid next olds h = absurd (let e = h.0 in cc)
leads_two l (suc n) mid next olds h =
    let two = last_of_two (work placements olds) (work signals olds) h.1 h.0 h.2 in
    let did = acts l signals (signals_end l) (Leads (register_schema l) Enforced n) mid next olds (work placements olds ∷ [])
    (subst₂ (λ w below. Acts (register_schema l) Enforced (Leads (register_schema l) Enforced n) mid w below (Ok next)) two.1 two.0 h.3) in
    record { between = did.0; of_signals = did.1; of_placements = leads_one l n did.0 next olds did.2 }

settles : (l : Layout) (mid next : Trees) (olds : List Row) → Settles (register_schema l) Enforced mid ([] ++ works (register_schema l) Enforced 0 11 olds []) (Ok next) → Cascaded l mid next olds
settles l mid next olds h = elim (works_are l olds) [
  | inl none ↦ record { between = mid; of_signals = unacted l signals mid olds; of_placements = subst (λ t. Acted l placements mid t olds) (settled l h.0 mid next (rw none at h.1)) (unacted l placements mid olds) }
  | inr some ↦ leads_two l h.0 mid next olds (rw some at h.1)
]

-- the frames are taken out, and then their children
pub record Cascades (l : Layout) (db next : Trees) (edit : Edit) : Type 0 where
  pub mid : Trees
  pub frames_left : mid 11 ≡ edited db edit
  pub others : AllByRecursion (λ t. t.tree ≢ 11 → mid t.tree ≡ db t.tree) (tables_at l)
  pub children : Cascaded l mid next (taken_by db edit)

pub cascades : (l : Layout) (db next : Trees) (gone : List ℤ) → Writes (register_schema l) Enforced db (edit_of db frames gone Given 0 []) (Ok next) → Cascades l db next (edit_of db frames gone Given 0 [])
cascades l db next gone (inl refused) = absurd (let e = refused.2 in cc)
cascades l db next gone (inr (inl big)) = absurd (let e = big.3 in cc)
cascades l db next gone (inr (inr went)) =
    record { mid = went.0; frames_left = went.1.rows; others = went.1.tables; children = settles l went.0 next (taken_by db (edit_of db frames gone Given 0 [])) went.2 }
