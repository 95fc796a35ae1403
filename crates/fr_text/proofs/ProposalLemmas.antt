-- The lines of a proposal, as they are written: all of them, those of its file, and the others.
use Rattle.std.proofs.Common.{◌≡◌, ℕ, Bool, false, List, [], ◌∷◌, ◌++◌, map, Option, refl, sym, ap, ◌∙◌, ◌<◌, ◌≤◌, ◌+◌, ◌-◌, length, get_or, take, drop, append_assoc, append-nil, arith}
use Rattle.std.specs.List.{cons_option, filter_map, flat_map}
use Rattle.std.proofs.lemmas.List.{take_all, take_more}
use Rattle.std.proofs.lemmas.List.Elements.{filter_map-append}
use Rattle.std.proofs.lemmas.Grind.{flat_map-append}
use Rattle.std.specs.Prelude.{codes}
use Rattle.fr_base.specs.ImportRows.{spelled}
use Rattle.fr_base.specs.declared.import.Header.TheVariants.{Placements}
use Rattle.fr_base.specs.declared.proposal.LackRow.{LackRow}
use Rattle.fr_base.specs.declared.proposal.Proposal.{Proposal}
use Rattle.fr_base.specs.declared.proposal.ProposalRow.{ProposalRow}
use Rattle.fr_text.specs.declared.style.Style.{Style}
use Rattle.fr_text.specs.declared.style.Style.TheVariants.{Plain}
use Rattle.fr_text.specs.ProposalFiles.{file_lines, other_lines, record_of, refused_line}
use Rattle.fr_text.specs.Report.{header_line, lack_line, proposal_line, proposal_lines}
use Rattle.fr_text.specs.Styles.{before_mark, between_mark, after_mark, joined, marked, plain_lines, set_in, lines_in}
use Rattle.fr_text.specs.Words.{comma_line}
use Rattle.fr_text.proofs.ReportLemmas.{joined-cons, lines_in-single, marked-append, set_below}

-- ---- all lines

-- the lines of lacks, one for each
lacks_are : (lacks : List LackRow) → lines_in (λ _ lack. lack_line lack) (λ _ _. []) false lacks ≡ map lack_line lacks
lacks_are lacks = lines_in-single (λ _ lack. lack_line lack) false lacks

rows_are : (rows : List ProposalRow) → lines_in (λ _ row. proposal_line row) (λ _ _. []) false rows ≡ map proposal_line rows
rows_are rows = lines_in-single (λ _ row. proposal_line row) false rows

-- where there is no wish, those of the lacks are all
pub no_wishes : (rows : List ProposalRow) (lacks : List LackRow) → length rows < 1
    → lines_in (λ _ lack. lack_line lack) (λ _ _. []) false lacks ≡ map proposal_line rows ++ map lack_line lacks
no_wishes [] lacks none = lacks_are lacks
no_wishes (r ∷ rows) lacks none = absurd (omega (arith, none))

alone : (mark l : List ℕ) → joined mark (l ∷ []) ≡ l
unfolding marked
alone mark l = joined-cons mark l [] ∙ append-nil l

-- what is written piece by piece is the lines of the wishes, and then those of the lacks
pub set_wishes : (style : Style) (rows : List ProposalRow) (lacks : List LackRow) (row : ProposalRow) (old one two three four new : List ℕ) → 1 ≤ length rows → row ≡ get_or rows 0 row
    → one ≡ old ++ before_mark style → two ≡ one ++ joined (between_mark style) (proposal_line row ∷ [])
    → three ≡ two ++ marked (between_mark style) (lines_in (λ _ row. proposal_line row) (λ _ _. []) false (take (length rows - 1) (drop 1 rows)))
    → four ≡ three ++ marked (between_mark style) (lines_in (λ _ lack. lack_line lack) (λ _ _. []) false lacks) → new ≡ four ++ after_mark style
    → new ≡ old ++ set_in style (map proposal_line rows ++ map lack_line lacks)
set_wishes style [] lacks row old one two three four new some read e1 e2 e3 e4 e5 = absurd (omega (arith, some))
set_wishes style (r ∷ rows) lacks row old one two three four new some read e1 e2 e3 e4 e5 =
    let mark = between_mark style in
    let rest : take (length (r ∷ rows) - 1) rows ≡ rows = take_all (length (r ∷ rows) - 1) rows (omega arith) in
    let wishes : three ≡ two ++ marked mark (map proposal_line rows) =
    e3 ∙ ap (λ rs. two ++ marked mark (lines_in (λ _ row. proposal_line row) (λ _ _. []) false rs)) rest ∙ ap (λ ls. two ++ marked mark ls) (rows_are rows) in
    let all : four ≡ two ++ marked mark (map proposal_line rows ++ map lack_line lacks) =
    e4 ∙ ap (λ ls. three ++ marked mark ls) (lacks_are lacks) ∙ ap (λ text. text ++ marked mark (map lack_line lacks)) wishes
    ∙ append_assoc two (marked mark (map proposal_line rows)) (marked mark (map lack_line lacks))
    ∙ ap (λ text. two ++ text) (sym (marked-append mark (map proposal_line rows) (map lack_line lacks))) in
    let first : two ≡ one ++ proposal_line row = e2 ∙ ap (λ text. one ++ text) (alone mark (proposal_line row)) in
    set_below style (proposal_line row) (map proposal_line rows ++ map lack_line lacks) old one two four new e1 first all e5
    ∙ ap (λ x. old ++ set_in style (proposal_line x ∷ (map proposal_line rows ++ map lack_line lacks))) read

-- ---- lines of some of the rows

plain-append : (ls ms : List (List ℕ)) → plain_lines (ls ++ ms) ≡ plain_lines ls ++ plain_lines ms
unfolding plain_lines
plain-append ls ms = flat_map-append (λ line. line ++ codes "\n") ls ms

-- the lines with that of one row more, if it has one
pub lines_more : {X : Type 0} (f : X → Option (List ℕ)) (rows : List X) (i : ℕ) (row : X) (old front new : List ℕ) → i < length rows → row ≡ get_or rows i row
    → front ≡ old ++ plain_lines (filter_map f (take i rows)) → new ≡ front ++ plain_lines (filter_map f (row ∷ []))
    → new ≡ old ++ plain_lines (filter_map f (take (i + 1) rows))
lines_more f rows i row old front new within read so more =
    let grown : take (i + 1) rows ≡ take i rows ++ row ∷ [] = take_more rows i row within ∙ ap (λ r. take i rows ++ (r ∷ [])) (sym read) in
    more
    ∙ ap (λ text. text ++ plain_lines (filter_map f (row ∷ []))) so
    ∙ append_assoc old (plain_lines (filter_map f (take i rows))) (plain_lines (filter_map f (row ∷ [])))
    ∙ ap (λ text. old ++ text) (sym (plain-append (filter_map f (take i rows)) (filter_map f (row ∷ []))))
    ∙ ap (λ ls. old ++ plain_lines ls) (sym (filter_map-append f (take i rows) (row ∷ [])))
    ∙ ap (λ rs. old ++ plain_lines (filter_map f rs)) (sym grown)

-- a header's line, a line feed and the records are the file
pub file_is : (proposal : Proposal) (one two new : List ℕ) → one ≡ [] ++ comma_line (spelled Placements) → two ≡ one ++ codes "\n"
    → new ≡ two ++ plain_lines (filter_map (λ row. record_of row.proposed) proposal.rows) → new ≡ plain_lines (file_lines proposal)
unfolding file_lines header_line plain_lines
file_is proposal one two new e1 e2 e3 = e3 ∙ ap (λ text. text ++ plain_lines (filter_map (λ row. record_of row.proposed) proposal.rows)) (e2 ∙ ap (λ text. text ++ codes "\n") e1)

-- the lines of wishes without a placement, and those of the lacks, are the others
pub others_are : (proposal : Proposal) (one new : List ℕ) → one ≡ [] ++ plain_lines (filter_map refused_line proposal.rows)
    → new ≡ one ++ set_in Plain (lines_in (λ _ lack. lack_line lack) (λ _ _. []) false proposal.lacks) → new ≡ plain_lines (other_lines proposal)
unfolding other_lines set_in
others_are proposal one new e1 e2 =
    e2 ∙ ap (λ ls. one ++ plain_lines ls) (lacks_are proposal.lacks) ∙ ap (λ text. text ++ plain_lines (map lack_line proposal.lacks)) e1
    ∙ sym (plain-append (filter_map refused_line proposal.rows) (map lack_line proposal.lacks))
