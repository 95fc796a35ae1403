-- Fates: how the fates of a file's rows tell the answer to an import or a replacement of the file.
use Rattle.std.specs.Prelude.{ℕ, List, [], ◌∷◌, length, Option, Some, None}
use Rattle.fr_base.specs.declared.answer.Answer.{Answer}
use Rattle.fr_base.specs.declared.answer.Answer.TheVariants.{Report, RefusedRow}
use Rattle.fr_base.specs.declared.answer.FateRow.{FateRow}
use Rattle.fr_base.specs.declared.answer.ReportRows.TheVariants.{Fates}
use Rattle.fr_base.specs.declared.refusal.Refusal.{Refusal}

-- the refusal of a row at this line; where there is none, the answer that the others give
abbrev pub refused_or : ℕ → Option Refusal → Answer → Answer
refused_or line (Some refusal) others = RefusedRow line refusal
refused_or line None others = others

-- the first row that is refused; where each row is done, the answer to them all
abbrev pub told_by : Answer → List FateRow → Answer
told_by all [] = all
told_by all (row ∷ rest) = refused_or row.line row.refusal (told_by all rest)

-- the answer to a file, from the answer to its trial. Where the trial tells fates, it is what they
-- tell; `done` answers a file of so many rows of which each is done. Where the trial is refused, it
-- is that refusal.
abbrev pub answer_told : (ℕ → Answer) → Answer → Answer
answer_told done (Report for_all (Fates rows)) = told_by (done (length rows)) rows
answer_told done refused = refused
