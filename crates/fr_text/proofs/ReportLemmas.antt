-- The lines of rows, as they are written one after another.
use Rattle.std.proofs.Common.{◌≡◌, ℕ, Bool, List, [], ◌∷◌, ◌++◌, map, refl, sym, ap, ◌∙◌, ◌<◌, ◌≤◌, ◌+◌, ◌-◌, length, get_or, take, drop, append_assoc, append-nil, arith}
use Rattle.std.specs.Prelude.{codes}
use Rattle.std.specs.List.{flat_map}
use Rattle.std.proofs.lemmas.List.{take_all, take_more}
use Rattle.std.proofs.lemmas.List.Concat.{flat_map_single}
use Rattle.std.proofs.lemmas.Grind.{flat_map-append, common_steps}
use Rattle.fr_text.specs.declared.style.Style.{Style}
use Rattle.fr_text.specs.declared.style.Style.TheVariants.{Json, Plain}
use Rattle.fr_text.proofs.WordsLemmas.{adds}
use Rattle.fr_text.specs.Styles.{before_mark, between_mark, after_mark, joined, marked, json_lines, plain_lines, set_in, lines_in}

-- a line for each row
pub lines_in-single : {R : Type 0} (line : Bool → R → List ℕ) (all : Bool) (rows : List R) → lines_in line (λ _ _. []) all rows ≡ map (line all) rows
lines_in-single line all rows = flat_map_single (line all) rows

-- lines with marks between are the first, and the others with a mark before each
pub joined-cons : (mark l : List ℕ) (ls : List (List ℕ)) → joined mark (l ∷ ls) ≡ l ++ marked mark ls
unfolding joined marked
joined-cons mark l ls = refl

pub marked-append : (mark : List ℕ) (ls ms : List (List ℕ)) → marked mark (ls ++ ms) ≡ marked mark ls ++ marked mark ms
unfolding marked
marked-append mark ls ms = flat_map-append (λ line. mark ++ line) ls ms

-- a mark and then the joined lines are the lines with a mark before each
pub mark-joined : (mark l : List ℕ) (ls : List (List ℕ)) → mark ++ joined mark (l ∷ ls) ≡ marked mark (l ∷ ls)
unfolding joined marked
mark-joined mark l ls = sym (append_assoc mark l _)

framed_json : (l : List ℕ) (ls : List (List ℕ)) → codes "\"" ++ ((l ++ marked (codes "\",\"") ls) ++ codes "\"") ≡ json_lines (l ∷ ls)
unfolding marked json_lines
framed_json l [] = grind (arith, common_steps, append_assoc, append-nil)
framed_json l (m ∷ ms) = grind (arith, common_steps, append_assoc, append-nil, framed_json m ms)

framed_plain : (l : List ℕ) (ls : List (List ℕ)) → (l ++ marked (codes "\n") ls) ++ codes "\n" ≡ plain_lines (l ∷ ls)
unfolding marked plain_lines
framed_plain l [] = grind (arith, common_steps, append_assoc, append-nil)
framed_plain l (m ∷ ms) = grind (arith, common_steps, append_assoc, append-nil, framed_plain m ms)

-- the marks of a style about the lines set them so
pub framed : (style : Style) (l : List ℕ) (ls : List (List ℕ))
    → before_mark style ++ ((l ++ marked (between_mark style) ls) ++ after_mark style) ≡ set_in style (l ∷ ls)
unfolding set_in
framed Json l ls = framed_json l ls
framed Plain l ls = framed_plain l ls

pub set_in-nil : (style : Style) → set_in style [] ≡ []
unfolding set_in json_lines plain_lines
set_in-nil Json = refl
set_in-nil Plain = refl

pub plain_lines-nil : plain_lines [] ≡ []
unfolding plain_lines
plain_lines-nil = refl

-- the lines of one row more
pub marked-more : {R : Type 0} (mark : List ℕ) (first : Bool → R → List ℕ) (others : Bool → R → List (List ℕ)) (all : Bool) (rows : List R) (i : ℕ) (row : R)
    → i < length rows → row ≡ get_or rows i row
    → marked mark (lines_in first others all (take (i + 1) rows))
    ≡ marked mark (lines_in first others all (take i rows)) ++ (mark ++ joined mark (first all row ∷ others all row))
marked-more {R = R} mark first others all rows i row within read =
    let lines : R → List (List ℕ) = λ r. first all r ∷ others all r in
    let one_more : take (i + 1) rows ≡ take i rows ++ (row ∷ []) = take_more rows i row within ∙ ap (λ r. take i rows ++ (r ∷ [])) (sym read) in
    ap (λ rs. marked mark (flat_map lines rs)) one_more
    ∙ ap (marked mark) (flat_map-append lines (take i rows) (row ∷ []))
    ∙ marked-append mark (flat_map lines (take i rows)) (flat_map lines (row ∷ []))
    ∙ ap (λ ls. marked mark (flat_map lines (take i rows)) ++ marked mark ls) (append-nil (lines row))
    ∙ ap (λ text. marked mark (flat_map lines (take i rows)) ++ text) (sym (mark-joined mark (first all row) (others all row)))

-- so are they when the row's lines are put behind the others
pub puts_row : {R : Type 0} (mark : List ℕ) (first : Bool → R → List ℕ) (others : Bool → R → List (List ℕ)) (all : Bool) (rows : List R) (i : ℕ) (row : R)
    (old front one new : List ℕ) → i < length rows → row ≡ get_or rows i row
    → front ≡ old ++ marked mark (lines_in first others all (take i rows)) → one ≡ front ++ mark
    → new ≡ one ++ joined mark (first all row ∷ others all row) → new ≡ old ++ marked mark (lines_in first others all (take (i + 1) rows))
puts_row mark first others all rows i row old front one new within read before e1 e2 =
    adds old _ front _ new before (adds front mark one _ new e1 e2)
    ∙ ap (λ more. old ++ more) (sym (marked-more mark first others all rows i row within read))

-- the lines of a first row and of the others are set by the marks of the style
pub set_in-rows : {R : Type 0} (style : Style) (first : Bool → R → List ℕ) (others : Bool → R → List (List ℕ)) (all : Bool) (row : R) (rows : List R)
    → before_mark style ++ (joined (between_mark style) (first all row ∷ others all row)
    ++ (marked (between_mark style) (lines_in first others all rows) ++ after_mark style))
    ≡ set_in style (lines_in first others all (row ∷ rows))
set_in-rows style first others all row rows =
    let mark = between_mark style in
    let behind = lines_in first others all rows in
    ap (λ text. before_mark style ++ text)
    (sym (append_assoc (joined mark (first all row ∷ others all row)) (marked mark behind) (after_mark style))
    ∙ ap (λ text. text ++ after_mark style)
    (ap (λ text. text ++ marked mark behind) (joined-cons mark (first all row) (others all row))
    ∙ append_assoc (first all row) (marked mark (others all row)) (marked mark behind)
    ∙ ap (λ text. first all row ++ text) (sym (marked-append mark (others all row) behind))))
    ∙ framed style (first all row) (others all row ++ behind)

-- so what is written piece by piece is the rows' lines
pub set_rows : {R : Type 0} (style : Style) (first : Bool → R → List ℕ) (others : Bool → R → List (List ℕ)) (all : Bool) (rows : List R) (row : R)
    (old one two three new : List ℕ) → 1 ≤ length rows → row ≡ get_or rows 0 row
    → one ≡ old ++ before_mark style → two ≡ one ++ joined (between_mark style) (first all row ∷ others all row)
    → three ≡ two ++ marked (between_mark style) (lines_in first others all (take (length rows - 1) (drop 1 rows))) → new ≡ three ++ after_mark style
    → new ≡ old ++ set_in style (lines_in first others all rows)
set_rows style first others all [] row old one two three new some read e1 e2 e3 e4 = absurd (omega (arith, some))
set_rows style first others all (r ∷ rows) row old one two three new some read e1 e2 e3 e4 =
    let rest : take (length (r ∷ rows) - 1) rows ≡ rows = take_all (length (r ∷ rows) - 1) rows (omega arith) in
    let last = adds two _ three _ new (e3 ∙ ap (λ rs. two ++ marked (between_mark style) (lines_in first others all rs)) rest) e4 in
    let middle = adds one _ two _ new e2 last in
    let whole = adds old _ one _ new e1 middle in
    whole ∙ ap (λ text. old ++ text) (set_in-rows style first others all row rows)
    ∙ ap (λ r. old ++ set_in style (lines_in first others all (r ∷ rows))) read

-- a first line and those of rows behind it are set by the marks of a style
pub set_below : (style : Style) (l : List ℕ) (ls : List (List ℕ)) (old one two three new : List ℕ)
    → one ≡ old ++ before_mark style → two ≡ one ++ l → three ≡ two ++ marked (between_mark style) ls → new ≡ three ++ after_mark style
    → new ≡ old ++ set_in style (l ∷ ls)
set_below style l ls old one two three new e1 e2 e3 e4 =
    let mark = between_mark style in
    adds old _ one _ new e1 (adds one _ two _ new e2 (adds two _ three _ new e3 e4))
    ∙ ap (λ text. old ++ (before_mark style ++ text)) (sym (append_assoc l (marked mark ls) (after_mark style)))
    ∙ ap (λ text. old ++ text) (framed style l ls)

-- and no rows make no lines
pub set_in-none : {R : Type 0} (style : Style) (first : Bool → R → List ℕ) (others : Bool → R → List (List ℕ)) (all : Bool) (rows : List R) (old : List ℕ)
    → length rows < 1 → old ≡ old ++ set_in style (lines_in first others all rows)
set_in-none style first others all [] old none = sym (append-nil old) ∙ ap (λ text. old ++ text) (sym (set_in-nil style))
set_in-none style first others all (r ∷ rows) old none = absurd (omega (arith, none))

pub ruleset rows = (lines_in-single, plain_lines-nil)
