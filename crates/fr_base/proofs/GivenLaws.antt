-- What wishes are given is told at their lines: in turn each takes the fittest place beside those before it.
use Rattle.std.proofs.Common.{◌≡◌, ◌≢◌, ◌⊎◌, ◌≤◌, ◌∙◌, ℕ, suc, Bool, true, false, List, [], ◌∷◌, ◌++◌, map, find, flat_map, Option, Some, None, option_map, is_some, Result, Ok, Err, IfOk, IsTrue, refl, sym, ap, subst, inl, inr, arith, true≢false}
use Rattle.std.specs.Prelude.{◌==◌}
use Rattle.std.specs.Ordering.{eq_by_cmp}
use Rattle.std.specs.Option.{option_and_then}
use Rattle.std.specs.List.{cons_option, list_any}
use Rattle.std.specs.FinMap.Entries as entries
use Rattle.std.proofs.lemmas.Bool.{cases_Bool, eqb-true, eq-eqb, ne_eqb}
use Rattle.fr_base.specs.Refusing.{◌>>=◌, ◌or◌}
use Rattle.fr_base.specs.Tables.{Table, get, contains}
use Rattle.fr_base.specs.Keys.{owned}
use Rattle.fr_base.specs.Cells.{slots_of}
use Rattle.fr_base.specs.Names.{same_text}
use Rattle.fr_base.specs.OwnRows.{OwnRows}
use Rattle.fr_base.specs.Turns.{in_turn, with_place, fittest_for, take_places, take_turns}
use Rattle.fr_base.specs.RefusedWishes.{Counted, counted_frames, frames_beside, count_wish, holds, has_another_node, is_full, admits_wish, judged, judge, asked_at, asked_of}
use Rattle.fr_base.specs.Proposals.{held_slots, given_to, given_all, is_of_node, node_names, place_at, proposal_row, proposal_of, proposal, judged_wishes, given_wishes, filled_places}
use Rattle.fr_base.specs.ProposalLaws.{told_at, asked_of_node}
use Rattle.fr_base.specs.declared.channel.Channels.{Channels}
use Rattle.fr_base.specs.declared.name.Name.{Name}
use Rattle.fr_base.specs.declared.params.Params.{Params}
use Rattle.fr_base.specs.declared.placement.Placement.{Placement}
use Rattle.fr_base.specs.declared.proposal.Given.{Given}
use Rattle.fr_base.specs.declared.proposal.ProposedPlacement.{ProposedPlacement}
use Rattle.fr_base.specs.declared.refusal.Refusal.{Refusal}
use Rattle.fr_base.specs.declared.refusal.Refusal.TheVariants.{NoNode, NodeDiffers, NotGranted, Limit, NoRoom}
use Rattle.fr_base.specs.declared.wish.Asked.{Asked}
use Rattle.fr_base.specs.declared.wish.Wish.{Wish}
use Rattle.fr_base.specs.declared.wish.WishRead.{WishRead}
use Rattle.fr_base.proofs.SoundRefusing.{gives_each, gives_then, gives_unless, gives_when, gives_when_last}
use Rattle.fr_base.proofs.SoundRows.{same_text-is}
use Rattle.fr_base.proofs.AloneCells.{same_text-itself}
use Rattle.fr_base.proofs.TableLaws.{equal}
use Rattle.fr_base.proofs.AskedLines.{Member, member-filter, AreNumbered, judge-numbered, IsRead, asked-read, line-from, one-asked}
use Rattle.fr_base.proofs.TurnOrder.{Pairs, pairs-filter, each-of, of-each, IsBefore, AreByLine, turns-in_order, turn-member, turn_of}

-- ---- what is not refused

-- what holds of a wish that the rows do not refuse
pub record IsAdmitted (own : OwnRows) (counted : Table owned Counted) (wish : Wish) : Type 0 where
  pub node : IsTrue (contains own.nodes (own.supplier, wish.node))
  pub one_node : has_another_node wish.node (get counted (own.supplier, wish.frame)) ≡ false
  pub held : IsTrue (list_any (holds own wish.node wish.channels) (slots_of own.params))
  pub room : is_full counted (get counted (own.supplier, wish.frame)) ≡ false

-- where a definition gave a value
gave : {A B : Type 0} (P : A → Type 0) (r : Result A B) (x : A) → IfOk r P → r ≡ Ok x → P x
gave P (Ok y) x h e = subst P (same_ok y x e) h
  where
    same_ok : {A B : Type 0} (y x : A) → ◌≡◌ {A = Result A B} (Ok y) (Ok x) → y ≡ x
    same_ok y x e = cc
gave P (Err e) x h k = cc

pub judged-admitted : (own : OwnRows) (counted : Table owned Counted) (read : Result Wish Refusal) (wish : Wish) → judged own counted read ≡ Ok wish → (read ≡ Ok wish) × IsAdmitted own counted wish
unfolding judged admits_wish
judged-admitted own counted read wish e =
    gave (λ w. (read ≡ Ok w) × IsAdmitted own counted w) (judged own counted read) wish
    (gives_each (λ w. (read ≡ Ok w) × IsAdmitted own counted w) read _ (λ w is.
    gives_then (λ v. (read ≡ Ok v) × IsAdmitted own counted v) (admits_wish own counted w) (Ok w) (λ u passed. (
      is,
      gave (λ u. IsAdmitted own counted w) (admits_wish own counted w) u
          (gives_unless (λ u. IsAdmitted own counted w) NoNode _ _ (λ node.
          gives_when (λ u. IsAdmitted own counted w) NodeDiffers _ _ (λ one_node.
          gives_unless (λ u. IsAdmitted own counted w) NotGranted _ _ (λ held.
          gives_when_last (λ u. IsAdmitted own counted w) Limit _ (λ room. record { node = node; one_node = one_node; held = held; room = room }))))) passed,
    )))) e

pub asked-admitted : (own : OwnRows) (counted : Table owned Counted) (reads : List WishRead) (read : WishRead) (wish : Wish) → Member read (judge own counted reads) → read.wish ≡ Ok wish → (t : Table owned Counted) × IsAdmitted own t wish
unfolding judge
asked-admitted own counted [] read wish at e = absurd at
asked-admitted own counted (first ∷ reads) read wish at e = elim at [
  | inl here ↦ (counted, (judged-admitted own counted first.wish wish (sym (ap (λ (z : WishRead). z.wish) here) ∙ e)).1)
  | inr later ↦ asked-admitted own (count_wish own.supplier counted (judged own counted first.wish)) reads read wish later e
]

-- ---- by line

asked-above : (k : ℕ) (reads : List WishRead) (a : Asked) → AreNumbered k reads → Member a (asked_of reads) → k ≤ a.line
asked-above k reads a h at = let x = asked-read reads a at in omega (arith, lines k reads x.0 h x.1, x.2.line)
  where
    lines : (k : ℕ) (reads : List WishRead) (read : WishRead) → AreNumbered k reads → Member read reads → k ≤ read.line
    lines k [] read h at = absurd at
    lines k (x ∷ reads) read h at = elim at [
      | inl here ↦ omega (arith, ap (λ (z : WishRead). z.line) here, h.0)
      | inr later ↦ omega (arith, lines (suc k) reads read h.1 later)
    ]

pub asked-by_line : (k : ℕ) (reads : List WishRead) → AreNumbered k reads → AreByLine (asked_of reads)
asked-by_line k [] h = tt
asked-by_line k (read ∷ reads) h =
    elim read.wish as (λ w. AreByLine (cons_option (asked_at read.line w) (asked_of reads))) [
      | Ok wish ↦ (each-of _ (asked_of reads) (λ a at. omega (arith, asked-above (suc k) reads a h.1 at, h.0)), asked-by_line (suc k) reads h.1)
      | Err refusal ↦ asked-by_line (suc k) reads h.1
    ]

-- ---- a table's keys

key-member : {V : Type 0} (rows : List ((Name × Name) × V)) (k : Name × Name) → is_some (entries.find owned.compare k rows) ≡ true → Member k.1 (map (λ row. row.0.1) rows)
key-member [] k h = absurd (true≢false (sym h))
key-member (row ∷ rows) k h = elim (cases_Bool (eq_by_cmp owned.compare k row.0)) [
  | inl here ↦ inl (ap (λ (j : Name × Name). j.1) (owned.exact k row.0 (equal _ here)))
  | inr other ↦ inr (key-member rows k (rw other at h))
]

pub node-member : (own : OwnRows) (n : Name) → IsTrue (contains own.nodes (own.supplier, n)) → Member n (node_names own)
unfolding get
node-member own n h = key-member own.nodes.rows (own.supplier, n) h

-- ---- found by line

-- found by its line
abbrev pub is_at : ℕ → Given → Bool
is_at line g = g.asked.line == line

find-append_none : (t : Given → Bool) (xs ys : List Given) → find t xs ≡ None → find t (xs ++ ys) ≡ find t ys
find-append_none t [] ys e = refl
find-append_none t (x ∷ xs) ys e = elim (cases_Bool (t x)) [
  | inl holds ↦ let no = rw holds at e in cc
  | inr lacks ↦ rw lacks (find-append_none t xs ys (rw lacks at e))
]

find-append_some : (t : Given → Bool) (xs ys : List Given) (g : Given) → find t xs ≡ Some g → find t (xs ++ ys) ≡ Some g
find-append_some t [] ys g e = cc
find-append_some t (x ∷ xs) ys g e = elim (cases_Bool (t x)) [
  | inl holds ↦ rw holds (rw holds at e)
  | inr lacks ↦ rw lacks (find-append_some t xs ys g (rw lacks at e))
]

find-none : (t : Given → Bool) (xs : List Given) → ((g : Given) → Member g xs → t g ≡ true → ⊥) → find t xs ≡ None
find-none t [] f = refl
find-none t (x ∷ xs) f = elim (cases_Bool (t x)) [
  | inl holds ↦ absurd (f x (inl refl) holds)
  | inr lacks ↦ rw lacks (find-none t xs (λ g at. f g (inr at)))
]

-- lists of several keys, of which one alone has such a one
find-flat : {Y : Type 0} (t : Given → Bool) (f : Y → List Given) (ys : List Y) (y : Y) (g : Given) → ((z : Y) → (z ≡ y) ⊎ (find t (f z) ≡ None)) → Member y ys → find t (f y) ≡ Some g → find t (flat_map f ys) ≡ Some g
find-flat t f [] y g other at e = absurd at
find-flat t f (z ∷ ys) y g other at e = elim (other z) [
  | inl same ↦ find-append_some t (f z) (flat_map f ys) g (ap (λ k. find t (f k)) same ∙ e)
  | inr none ↦ elim at [
    | inl here ↦ find-append_some t (f z) (flat_map f ys) g (ap (λ k. find t (f k)) (sym here) ∙ e)
    | inr later ↦ find-append_none t (f z) (flat_map f ys) none ∙ find-flat t f ys y g other later e
  ]
]

-- no two of one line
abbrev pub HaveOwnLines : List Given → Type 0
HaveOwnLines = Pairs (λ g h. g.asked.line ≢ h.asked.line)

find-own : (xs : List Given) (g : Given) → HaveOwnLines xs → Member g xs → find (is_at g.asked.line) xs ≡ Some g
find-own [] g h at = absurd at
find-own (x ∷ xs) g h at = elim (cases_Bool (is_at g.asked.line x)) [
  | inl same ↦ elim at [
    | inl here ↦ rw same (ap Some (sym here))
    | inr later ↦ absurd (of-each (λ y. x.asked.line ≢ y.asked.line) xs g h.0 later (eqb-true _ _ same))
  ]
  | inr other ↦ elim at [
    | inl here ↦ absurd (true≢false (sym (eq-eqb _ _ (ap (λ (z : Given). z.asked.line) (sym here))) ∙ other))
    | inr later ↦ rw other (find-own xs g h.1 later)
  ]
]

-- ---- in turn

pub asked-taken : (p : Params) (slots : Channels → List ℕ) (filled : List (Name × Placement)) (asked : List Asked) → map (λ g. g.asked) (take_places p slots filled asked) ≡ asked
unfolding take_places
asked-taken p slots filled [] = refl
asked-taken p slots filled (a ∷ asked) = ap (λ xs. a ∷ xs) (asked-taken p slots (with_place filled a.wish.frame (fittest_for p slots filled a.wish)) asked)

pub member-map : {X Y : Type 0} (f : X → Y) (x : X) (xs : List X) → Member x xs → Member (f x) (map f xs)
member-map f x [] h = absurd h
member-map f x (y ∷ xs) h = elim h [ inl here ↦ inl (ap f here) | inr later ↦ inr (member-map f x xs later) ]

pub pairs-from_map : (xs : List Given) → Pairs (λ a b. a.line ≢ b.line) (map (λ g. g.asked) xs) → HaveOwnLines xs
pairs-from_map [] h = tt
pairs-from_map (x ∷ xs) h =
    (each-of _ xs (λ g at. of-each (λ b. x.asked.line ≢ b.line) (map (λ g. g.asked) xs) g.asked h.0 (member-map (λ g. g.asked) g xs at)), pairs-from_map xs h.1)

pub not_before_itself : (a b : Asked) → a ≡ b → IsBefore a b → ⊥
not_before_itself a b e h = elim h [
  | inl less ↦ omega (arith, less, ap (λ (z : Asked). turn_of z.wish.channels) e)
  | inr more ↦ elim more.1 [
    | inl less ↦ omega (arith, less, ap (λ (z : Asked). z.wish.repetition) e)
    | inr last ↦ omega (arith, last.1, ap (λ (z : Asked). z.line) e)
  ]
]

pub pairs-lines : (xs : List Asked) → ((a b : Asked) → Member a xs → Member b xs → a.line ≡ b.line → a ≡ b) → Pairs IsBefore xs → Pairs (λ a b. a.line ≢ b.line) xs
pairs-lines [] one h = tt
pairs-lines (x ∷ xs) one h =
    (each-of _ xs (λ b at same. not_before_itself x b (one x b (inl refl) (inr at) same) (of-each (IsBefore x) xs b h.0 at)), pairs-lines xs (λ a b at in_too. one a b (inr at) (inr in_too)) h.1)

module _ (own : OwnRows) (replace : Bool) (reads : List WishRead) (first : ℕ) (numbered : AreNumbered first reads) where
  -- the wishes, each or what refuses it, and those of a node
  abbrev pub the_judged : List WishRead
  the_judged = judged_wishes own replace reads

  abbrev pub of_node : Name → List Asked
  of_node n = asked_of_node own replace reads n

  abbrev pub there : List (Name × Placement)
  there = filled_places (frames_beside own replace reads)

  abbrev pub taken : Name → List Given
  taken n = take_places own.params (held_slots own n) there (in_turn own.params (of_node n))

  abbrev pub all_given : List Given
  all_given = given_wishes own replace reads

  pub judged-lines : AreNumbered first the_judged
  judged-lines = judge-numbered own (counted_frames (frames_beside own replace reads)) first reads numbered

  pub one-wish : (a b : Asked) → Member a (asked_of the_judged) → Member b (asked_of the_judged) → a.line ≡ b.line → a ≡ b
  one-wish a b at in_too same = one-asked first the_judged a b judged-lines at in_too same

  pub turn-asked : (n : Name) (a : Asked) → Member a (in_turn own.params (of_node n)) → Member a (asked_of the_judged) × (a.wish.node ≡ n)
  turn-asked n a at =
      let mine = member-filter (is_of_node n) a (asked_of the_judged) (turn-member own.params (of_node n) a at).0 in
      (mine.0, same_text-is a.wish.node n mine.1)

  pub turns-before : (n : Name) → Pairs IsBefore (in_turn own.params (of_node n))
  turns-before n = turns-in_order own.params (of_node n) (pairs-filter _ (is_of_node n) (asked_of the_judged) (asked-by_line first the_judged judged-lines))

  pub taken-asked : (n : Name) (g : Given) → Member g (taken n) → Member g.asked (in_turn own.params (of_node n))
  taken-asked n g at = subst (Member g.asked) (asked-taken own.params (held_slots own n) there (in_turn own.params (of_node n))) (member-map (λ g. g.asked) g (taken n) at)

  pub own_lines : (n : Name) → HaveOwnLines (taken n)
  own_lines n =
      pairs-from_map (taken n) (subst (Pairs (λ a b. a.line ≢ b.line)) (sym (asked-taken own.params (held_slots own n) there (in_turn own.params (of_node n))))
      (pairs-lines (in_turn own.params (of_node n)) (λ a b at in_too same. one-wish a b (turn-asked n a at).0 (turn-asked n b in_too).0 same) (turns-before n)))

  pub wish-admitted : (a : Asked) → Member a (asked_of the_judged) → (t : Table owned Counted) × IsAdmitted own t a.wish
  wish-admitted a at =
      let read = asked-read the_judged a at in
      asked-admitted own (counted_frames (frames_beside own replace reads)) reads read.0 a.wish read.1 read.2.wish

  -- what the wishes of a node are given
  abbrev pub given_node : Name → List Given
  given_node n = given_to own replace there n (of_node n)

  pub node-asked : (n : Name) (a : Asked) → Member a (of_node n) → Member a (asked_of the_judged) × (a.wish.node ≡ n)
  node-asked n a at =
      let mine = member-filter (is_of_node n) a (asked_of the_judged) at in
      (mine.0, same_text-is a.wish.node n mine.1)

  -- each is found by its line, where what a node is given is of its wishes
  pub given-at_line : ((m : Name) (g : Given) → Member g (given_node m) → Member g.asked (of_node m)) → (n : Name) (g : Given) → Member g (given_node n) → HaveOwnLines (given_node n) → place_at all_given g.asked.line ≡ g.place
  unfolding given_all
  given-at_line of n g at lines =
      let mine = node-asked n g.asked (of n g at) in
      let node = subst (λ k. Member k (node_names own)) mine.1 (node-member own g.asked.wish.node (wish-admitted g.asked mine.0).1.node) in
      let found = find-flat (is_at g.asked.line) given_node (node_names own) n g (λ m. other m mine) node (find-own (given_node n) g lines at) in
      ap (option_and_then (λ h. h.place)) found
    where
      other : (m : Name) → Member g.asked (asked_of the_judged) × (g.asked.wish.node ≡ n) → (m ≡ n) ⊎ (find (is_at g.asked.line) (given_node m) ≡ None)
      other m mine = elim (cases_Bool (same_text m n)) [
        | inl same ↦ inl (same_text-is m n same)
        | inr differ ↦ inr (find-none (is_at g.asked.line) (given_node m) (λ h in_m line.
            let its = node-asked m h.asked (of m h in_m) in
            let one = one-wish h.asked g.asked its.0 mine.0 (eqb-true _ _ line) in
            let nodes : m ≡ n = sym its.1 ∙ ap (λ (z : Asked). z.wish.node) one ∙ mine.1 in
            true≢false (sym (ap (λ k. same_text k n) nodes ∙ same_text-itself n) ∙ differ)))
      ]

  -- ---- what is told at a line

  abbrev pub proposed_for : Wish → Option Placement → Result ProposedPlacement Refusal
  proposed_for wish None = Err NoRoom
  proposed_for wish (Some q) = Ok (record { frame = wish.frame; node = wish.node; placement = q })

  proposed-is : (wish : Wish) (place : Option Placement) →
      ((place or NoRoom) >>= (λ q. Ok (record { frame = wish.frame; node = wish.node; placement = q }))) ≡ proposed_for wish place
  unfolding ◌>>=◌ ◌or◌
  proposed-is wish None = refl
  proposed-is wish (Some q) = refl

  abbrev proposed_by : List Given → Result Wish Refusal → ℕ → Result ProposedPlacement Refusal
  proposed_by given read line = read >>= (λ wish. (place_at given line or NoRoom) >>= (λ q. Ok (record { frame = wish.frame; node = wish.node; placement = q })))

  row-is : (given : List Given) (read : WishRead) (a : Asked) → IsRead a read → (proposal_row given read).proposed ≡ proposed_for a.wish (place_at given a.line)
  unfolding proposal_row ◌>>=◌
  row-is given read a is =
      ap (λ (z : Result Wish Refusal × ℕ). proposed_by given z.0 z.1) (λ i. (is.wish i, is.line i)) ∙ proposed-is a.wish (place_at given a.line)

  find-row : (given : List Given) (k : ℕ) (rs : List WishRead) (read : WishRead) → AreNumbered k rs → Member read rs → find (λ row. row.line == read.line) (map (proposal_row given) rs) ≡ Some (proposal_row given read)
  unfolding proposal_row
  find-row given k [] read h at = absurd at
  find-row given k (x ∷ rs) read h at = elim at [
    | inl here ↦
        let same : (x.line == read.line) ≡ true = eq-eqb x.line read.line (ap (λ (z : WishRead). z.line) (sym here)) in
        rw same (ap (λ z. Some (proposal_row given z)) (sym here))
    | inr later ↦
        let other : (x.line == read.line) ≡ false = ne_eqb x.line read.line (λ e. omega (arith, e, h.0, line-from (suc k) rs read h.1 later)) in
        rw other (find-row given (suc k) rs read h.1 later)
  ]

  pub told-is : (a : Asked) → Member a (asked_of the_judged) → told_at (proposal own replace reads) a.line ≡ Some (proposed_for a.wish (place_at all_given a.line))
  unfolding proposal proposal_of
  told-is a at =
      let read = asked-read the_judged a at in
      subst (λ line. option_map (λ row. row.proposed) (find (λ row. row.line == line) (map (proposal_row all_given) the_judged)) ≡ Some (proposed_for a.wish (place_at all_given a.line))) read.2.line
      (ap (option_map (λ row. row.proposed)) (find-row all_given first the_judged read.0 judged-lines read.1) ∙ ap Some (row-is all_given read.0 a read.2))

-- without `replace` what a wish took in turn is what is given at its line
pub taken-at : (own : OwnRows) (reads : List WishRead) (first : ℕ) (numbered : AreNumbered first reads) (n : Name) (g : Given) → Member g (taken own false reads first numbered n) →
    place_at (all_given own false reads first numbered) g.asked.line ≡ g.place
unfolding given_to take_turns
taken-at own reads first numbered n g at =
    given-at_line own false reads first numbered (λ m h in_m. (turn-member own.params (of_node own false reads first numbered m) h.asked (taken-asked own false reads first numbered m h in_m)).0) n g at (own_lines own false reads first numbered n)
