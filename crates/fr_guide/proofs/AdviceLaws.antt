-- Advice: from what is told of a text's lines. There is advice on each text. It tells nothing exactly where the text has no fault.
use Rattle.std.proofs.Common.{◌≡◌, ◌∙◌, ◌+◌, ◌++◌, ◌&&◌, ◌≤◌, ap, ap₂, sym, refl, arith, ℕ, Bool, true, false, cond, List, [], ◌∷◌, map}
use Rattle.std.specs.Prelude.{String}
use Rattle.std.specs.Global.{Global}
use Rattle.std.specs.List.{AllByRecursion, flat_map, list_all}
use Rattle.std.specs.Str.Lines.{lines}
use Rattle.std.specs.String.{string_bytes}
use Rattle.std.proofs.lemmas.List.Folds.{list_all-map}
use Rattle.fr_guide.specs.Advice.{AdviceIsExact, AreRemarks, AreTold, IsAdvice, IsFault, Remarks, is_fine_text, lines_in, printed}
use Rattle.fr_guide.specs.Faults.{all_lines, are_none, fault_line, is_fine}
use Rattle.fr_guide.specs.RequestFile.{HasFault, bad_lines, is_fine_line}
use Rattle.fr_guide.specs.Rows.{AreInOrder, fine_file, line_count, numbers_of}
use Rattle.fr_guide.specs.declared.advice.Subject.{Subject}
use Rattle.fr_guide.specs.declared.advice.Subject.TheVariants.{Rows, Requests}
use Rattle.fr_guide.specs.declared.line_faults.LineFaults.{LineFaults}

-- ---- from what is told of lines

remarks_of : LineFaults → Remarks
remarks_of told = record { line = told.line; faults = map (λ (fault : String Global). string_bytes fault) told.faults.items }

none_said : (faults : List (String Global)) → are_none (map (λ (fault : String Global). string_bytes fault) faults) ≡ are_none faults
none_said [] = refl
none_said (f ∷ fs) = refl

same_fine : (told : List LineFaults) → map (λ (r : Remarks). are_none r.faults) (map remarks_of told) ≡ map is_fine told
unfolding remarks_of
same_fine [] = refl
same_fine (t ∷ ts) = ap₂ (λ (b : Bool) (bs : List Bool). b ∷ bs) (none_said t.faults.items) (same_fine ts)

same_lines : (told : List LineFaults) → lines_in (map remarks_of told) ≡ numbers_of told
unfolding remarks_of
same_lines [] = refl
same_lines (t ∷ ts) = ap (λ ns. t.line ∷ ns) (same_lines ts)

same_faults : (line : ℕ) (faults : List (String Global))
    → flat_map (λ fault. fault_line line fault) (map (λ (fault : String Global). string_bytes fault) faults) ≡ flat_map (λ fault. fault_line line (string_bytes fault)) faults
same_faults line [] = refl
same_faults line (f ∷ fs) = ap (λ text. fault_line line (string_bytes f) ++ text) (same_faults line fs)

same_print : (told : List LineFaults) → all_lines told ≡ printed (map remarks_of told)
unfolding remarks_of
same_print [] = refl
same_print (t ∷ ts) = ap₂ (λ (x y : List ℕ). x ++ y) (sym (same_faults t.line t.faults.items)) (same_print ts)

same_has : (told : List LineFaults) → AllByRecursion HasFault told → AllByRecursion IsFault (map remarks_of told)
unfolding remarks_of
same_has [] all = tt
same_has (t ∷ ts) all = (none_said t.faults.items ∙ all.0, same_has ts all.1)

remarks_told : (subject : Subject) (text : List ℕ) (told : List LineFaults) → AreTold subject text told → AreRemarks subject text (map remarks_of told)
remarks_told Rows text told are = (same_fine told ∙ are.0, rw (same_lines told) are.1)
remarks_told Requests text told are = (same_lines told ∙ are.0, same_has told are.1)

-- the printed lines of what is told are advice
pub advice_told : (subject : Subject) (text : List ℕ) (told : List LineFaults) (lines : List ℕ) → AreTold subject text told → lines ≡ all_lines told → IsAdvice subject text lines
unfolding IsAdvice
advice_told subject text told lines are is = (map remarks_of told, remarks_told subject text told are, is ∙ same_print told)

pub ruleset telling = (advice_told)

-- ---- there is advice on each text

-- a remark that tells a fault, without words, unless there is none
remark : ℕ → Bool → Remarks
remark line fine = record { line = line; faults = if_fine fine }
  where
    if_fine : Bool → List (List ℕ)
    if_fine true = []
    if_fine false = [] ∷ []

fine_as : (flags : List Bool) → map (λ (r : Remarks). are_none r.faults) (map (remark 1) flags) ≡ flags
unfolding remark
fine_as [] = refl
fine_as (true ∷ flags) = ap (λ bs. true ∷ bs) (fine_as flags)
fine_as (false ∷ flags) = ap (λ bs. false ∷ bs) (fine_as flags)

in_order : (flags : List Bool) (most : ℕ) → 1 ≤ most → AreInOrder 1 most (lines_in (map (remark 1) flags))
unfolding remark AreInOrder
in_order [] most some = some
in_order (f ∷ flags) most some = (omega arith, in_order flags most some)

bad_as : (numbers : List ℕ) → lines_in (map (λ n. remark n false) numbers) ≡ numbers
unfolding remark
bad_as [] = refl
bad_as (n ∷ numbers) = ap (λ ns. n ∷ ns) (bad_as numbers)

all_bad : (numbers : List ℕ) → AllByRecursion IsFault (map (λ n. remark n false) numbers)
unfolding remark
all_bad [] = tt
all_bad (n ∷ numbers) = (refl, all_bad numbers)

pub some_advice : (subject : Subject) (text : List ℕ) → (lines : List ℕ) × IsAdvice subject text lines
unfolding IsAdvice
some_advice Rows text =
    let remarks = map (remark 1) (fine_file text) in
    (printed remarks, (remarks, (fine_as (fine_file text), in_order (fine_file text) (line_count text) (omega arith)), refl))
some_advice Requests text =
    let remarks = map (λ n. remark n false) (bad_lines 1 (lines text)) in
    (printed remarks, (remarks, (bad_as (bad_lines 1 (lines text)), all_bad (bad_lines 1 (lines text))), refl))

-- ---- what advice tells

-- nothing is printed exactly where no remark tells a fault
none_printed : (remarks : List Remarks) → are_none (printed remarks) ≡ list_all (λ r. are_none r.faults) remarks
none_printed [] = refl
none_printed (r ∷ rs) = by (none_printed rs) r.faults
  where
    by : are_none (printed rs) ≡ list_all (λ (r : Remarks). are_none r.faults) rs → (faults : List (List ℕ)) → are_none (flat_map (λ fault. fault_line r.line fault) faults ++ printed rs) ≡ (are_none faults && list_all (λ (r : Remarks). are_none r.faults) rs)
    by rest [] = rest
    by rest (f ∷ fs) = refl

-- where each remark tells a fault, none does exactly where there is none
none_there : (remarks : List Remarks) → AllByRecursion IsFault remarks → list_all (λ r. are_none r.faults) remarks ≡ are_none (lines_in remarks)
none_there [] all = refl
none_there (r ∷ rs) all = ap (λ b. b && list_all (λ (r : Remarks). are_none r.faults) rs) all.0

-- no line is bad exactly where each is fine
none_bad : (number : ℕ) (ls : List (List ℕ)) → are_none (bad_lines number ls) ≡ list_all is_fine_line ls
unfolding bad_lines
none_bad number [] = refl
none_bad number (l ∷ ls) = by (none_bad (number + 1) ls) (is_fine_line l)
  where
    by : are_none (bad_lines (number + 1) ls) ≡ list_all is_fine_line ls → (fine : Bool) → are_none (cond fine (bad_lines (number + 1) ls) (number ∷ bad_lines (number + 1) ls)) ≡ (fine && list_all is_fine_line ls)
    by rest true = rest
    by rest false = refl

exact : (subject : Subject) (text lines : List ℕ) → IsAdvice subject text lines → are_none lines ≡ is_fine_text subject text
unfolding IsAdvice
exact Rows text lines (remarks, are, is) =
    ap are_none is ∙ none_printed remarks ∙ sym (list_all-map (λ (fine : Bool). fine) (λ (r : Remarks). are_none r.faults) remarks) ∙ ap (list_all (λ (fine : Bool). fine)) are.0
exact Requests text told (remarks, are, is) =
    ap are_none is ∙ none_printed remarks ∙ none_there remarks are.1 ∙ ap are_none are.0 ∙ none_bad 1 (lines text)

pub advice_is_exact : AdviceIsExact
advice_is_exact = exact
