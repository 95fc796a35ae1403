-- The lines of a room, as they are written one placement after another.
use Rattle.std.proofs.Common.{◌≡◌, ℕ, suc, ◌+◌, ◌-◌, ◌<◌, ◌≤◌, ◌∙◌, Bool, true, false, List, [], ◌∷◌, ◌++◌, map, length, take, drop, get_or, refl, sym, ap, append_assoc, append-nil, arith, add-one, drop-cons, if◌then◌else◌}
use Rattle.std.specs.Prelude.{codes}
use Rattle.std.proofs.lemmas.Grind.{flat_map-append}
use Rattle.std.proofs.lemmas.List.{drop_all, take_all}
use Rattle.fr_base.specs.Channels.{text_of_channels}
use Rattle.fr_base.specs.declared.placement.Placement.{Placement}
use Rattle.fr_text.specs.declared.style.Style.{Style}
use Rattle.fr_text.specs.RoomLines.{share_line, groups_of, base_word, group_line, room_lines}
use Rattle.fr_text.specs.Styles.{before_mark, between_mark, after_mark, joined, marked, set_in}
use Rattle.fr_text.specs.Words.{two_digits, four_digits, line, behind}
use Rattle.fr_text.proofs.ReportLemmas.{joined-cons, set_below, set_in-nil}

-- a line with more words
line-more : (w : List ℕ) (ws more : List (List ℕ)) → line (w ∷ (ws ++ more)) ≡ line (w ∷ ws) ++ behind more
line-more w ws more =
    ap (λ text. w ++ text) (flat_map-append (λ word. codes " " ++ word) ws more) ∙ sym (append_assoc w (behind ws) (behind more))

-- a group's line is that of its first placement, and the other bases
group_line-more : (q : Placement) (others : List Placement) → group_line (q ∷ others) ≡ group_line (q ∷ []) ++ behind (map base_word others)
group_line-more q others =
    line-more (four_digits q.slot) (text_of_channels q.channels ∷ two_digits q.cycles.repetition ∷ base_word q ∷ []) (map base_word others)

-- what is written for a placement behind another
abbrev pub next_text : List ℕ → Placement → Placement → List ℕ
next_text mark q r = if share_line q r then codes " " ++ base_word r else mark ++ group_line (r ∷ [])

-- what is written for the placements behind one
unfoldable pub text_behind : List ℕ → Placement → List Placement → List ℕ
text_behind mark q [] = []
text_behind mark q (r ∷ rest) = next_text mark q r ++ text_behind mark r rest

-- The placements behind one: some are in its group, and the groups of the others follow.
record Behind (mark : List ℕ) (q : Placement) (rest : List Placement) : Type 0 where
  others : List Placement
  groups : List (List Placement)
  is : groups_of (q ∷ rest) ≡ (q ∷ others) ∷ groups
  text : text_behind mark q rest ≡ behind (map base_word others) ++ marked mark (map group_line groups)

behind_next : (mark : List ℕ) (q r : Placement) (rest : List Placement) → Behind mark r rest → (shared : Bool) → share_line q r ≡ shared → Behind mark q (r ∷ rest)
unfolding groups_of text_behind marked
behind_next mark q r rest next true same = record {
  others = r ∷ next.others;
  groups = next.groups;
  is = rw (next.is, same) refl;
  text = rw (same, next.text) (sym (append_assoc (codes " " ++ base_word r) (behind (map base_word next.others)) (marked mark (map group_line next.groups))));
}
behind_next mark q r rest next false other = record {
  others = [];
  groups = (r ∷ next.others) ∷ next.groups;
  is = rw (next.is, other) refl;
  text = rw (other, next.text)
      (sym (append_assoc (mark ++ group_line (r ∷ [])) (behind (map base_word next.others)) (marked mark (map group_line next.groups)))
      ∙ ap (λ text. text ++ marked mark (map group_line next.groups))
      (append_assoc mark (group_line (r ∷ [])) (behind (map base_word next.others)) ∙ ap (λ text. mark ++ text) (sym (group_line-more r next.others))));
}

all_behind : (mark : List ℕ) (q : Placement) (rest : List Placement) → Behind mark q rest
unfolding groups_of text_behind marked
all_behind mark q [] = record { others = []; groups = []; is = refl; text = refl }
all_behind mark q (r ∷ rest) = behind_next mark q r rest (all_behind mark r rest) (share_line q r) refl

-- the first line of some placements, and those behind it
pub room_lines-some : (q : Placement) (rest : List Placement) → (l : List ℕ) × (ls : List (List ℕ)) × (room_lines (q ∷ rest) ≡ l ∷ ls)
unfolding room_lines
room_lines-some q rest =
    let b = all_behind [] q rest in
    (group_line (q ∷ b.others), map group_line b.groups, ap (map group_line) b.is)

-- the lines of some placements are what is written for the first, and for those behind it
pub room_lines-text : (mark : List ℕ) (q : Placement) (rest : List Placement) → joined mark (room_lines (q ∷ rest)) ≡ group_line (q ∷ []) ++ text_behind mark q rest
unfolding room_lines
room_lines-text mark q rest =
    let b = all_behind mark q rest in
    ap (λ groups. joined mark (map group_line groups)) b.is
    ∙ joined-cons mark (group_line (q ∷ b.others)) (map group_line b.groups)
    ∙ ap (λ text. text ++ marked mark (map group_line b.groups)) (group_line-more q b.others)
    ∙ append_assoc (group_line (q ∷ [])) (behind (map base_word b.others)) (marked mark (map group_line b.groups))
    ∙ ap (λ text. group_line (q ∷ []) ++ text) (sym b.text)

-- at the start the first is written
pub starts : (mark : List ℕ) (q : Placement) (rest : List Placement) (old new : List ℕ) → new ≡ old ++ group_line (q ∷ [])
    → new ++ text_behind mark q (drop 0 rest) ≡ old ++ joined mark (room_lines (q ∷ rest))
starts mark q rest old new is =
    ap (λ front. front ++ text_behind mark q rest) is ∙ append_assoc old (group_line (q ∷ [])) (text_behind mark q rest)
    ∙ ap (λ text. old ++ text) (sym (room_lines-text mark q rest))

-- one more is written
pub goes_on : (mark : List ℕ) (q r : Placement) (rest : List Placement) (i : ℕ) (front new whole : List ℕ) → i < length rest → r ≡ get_or rest i r
    → front ++ text_behind mark q (drop i rest) ≡ whole → new ≡ front ++ next_text mark q r
    → new ++ text_behind mark r (drop (i + 1) rest) ≡ whole
unfolding text_behind
goes_on mark q r rest i front new whole within read before is =
    let split : drop i rest ≡ r ∷ drop (i + 1) rest = rw (add-one, drop-cons rest i r) (ap (λ x. x ∷ drop (suc i) rest) (sym read)) in
    ap (λ text. text ++ text_behind mark r (drop (i + 1) rest)) is
    ∙ append_assoc front (next_text mark q r) (text_behind mark r (drop (i + 1) rest))
    ∙ ap (λ places. front ++ text_behind mark q places) (sym split) ∙ before

-- and at the end all are
pub ends : (mark : List ℕ) (q : Placement) (rest : List Placement) (i : ℕ) (new whole : List ℕ) → length rest ≤ i
    → new ++ text_behind mark q (drop i rest) ≡ whole → new ≡ whole
unfolding text_behind
ends mark q rest i new whole end is =
    sym (append-nil new) ∙ ap (λ places. new ++ text_behind mark q places) (sym (drop_all i rest end)) ∙ is

-- The lines of some placements are set by the marks of a style.
set_some : (style : Style) (q : Placement) (rest : List Placement) (old one two new : List ℕ)
    → one ≡ old ++ before_mark style → two ≡ one ++ joined (between_mark style) (room_lines (q ∷ rest)) → new ≡ two ++ after_mark style
    → new ≡ old ++ set_in style (room_lines (q ∷ rest))
set_some style q rest old one two new e1 e2 e3 =
    let some = room_lines-some q rest in
    let l = some.0 in
    let ls = some.1 in
    let mark = between_mark style in
    let written : two ≡ one ++ (l ++ marked mark ls) =
    e2 ∙ ap (λ lines. one ++ joined mark lines) some.2 ∙ ap (λ text. one ++ text) (joined-cons mark l ls) in
    let whole : new ≡ old ++ set_in style (l ∷ ls) =
    set_below style l ls old one (one ++ l) two new e1 refl (written ∙ sym (append_assoc one l (marked mark ls))) e3 in
    whole ∙ ap (λ lines. old ++ set_in style lines) (sym some.2)

-- so what is written for a first placement and for those behind it is the lines of all
pub set_room : (style : Style) (places : List Placement) (place : Placement) (old one two new : List ℕ)
    → 1 ≤ length places → place ≡ get_or places 0 place
    → one ≡ old ++ before_mark style → two ≡ one ++ joined (between_mark style) (room_lines (place ∷ take (length places - 1) (drop 1 places)))
    → new ≡ two ++ after_mark style → new ≡ old ++ set_in style (room_lines places)
set_room style [] place old one two new some read e1 e2 e3 = absurd (omega (arith, some))
set_room style (q ∷ rest) place old one two new some read e1 e2 e3 =
    let all : place ∷ take (length (q ∷ rest) - 1) rest ≡ q ∷ rest =
    ap (λ places. place ∷ places) (take_all (length (q ∷ rest) - 1) rest (omega arith)) ∙ ap (λ first. first ∷ rest) read in
    set_some style q rest old one two new e1 (e2 ∙ ap (λ places. one ++ joined (between_mark style) (room_lines places)) all) e3

-- and no placements make no lines
pub set_none : (style : Style) (places : List Placement) (old : List ℕ) → length places < 1 → old ≡ old ++ set_in style (room_lines places)
unfolding room_lines groups_of
set_none style [] old none = sym (append-nil old) ∙ ap (λ text. old ++ text) (sym (set_in-nil style))
set_none style (q ∷ places) old none = absurd (omega (arith, none))
