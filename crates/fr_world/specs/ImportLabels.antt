-- Label: what the label of an import decides. The import is new; or it is the one that is kept, and
-- has its answer again; or another is kept, and it is `LabelUsed`.
use Rattle.std.specs.Prelude.{ℕ, ◌&&◌, not, Option, Some, None, Result, Ok}
use Rattle.fr_base.specs.Refusing.{◌>>◌, refuse◌when◌}
use Rattle.fr_base.specs.Names.{same_text}
use Rattle.fr_base.specs.Book.{Kept, Book}
use Rattle.fr_base.specs.Step.{Outcome, import}
use Rattle.fr_base.specs.declared.answer.Answer.TheVariants.{Imported}
use Rattle.fr_base.specs.declared.name.Name.{Name}
use Rattle.fr_base.specs.declared.params.Params.{Params}
use Rattle.fr_base.specs.declared.refusal.Refusal.{Refusal}
use Rattle.fr_base.specs.declared.refusal.Refusal.TheVariants.{LabelUsed}
use Rattle.fr_base.specs.declared.delivery.Delivery.{Delivery}
use Rattle.fr_world.specs.declared.kept_import.KeptImport.{KeptImport}

-- an import that the code keeps, as the register's
abbrev pub kept_of : KeptImport → Kept
kept_of k = record { variant = k.variant; body = k.body; rows = k.rows }

-- how many rows the kept import has, if one is kept and it is this one, in bytes and variant
unfoldable pub label_decision : Option Kept → Delivery → Result (Option ℕ) Refusal
label_decision None d = Ok None
label_decision (Some kept) d = do
  refuse LabelUsed when not (same_text kept.variant d.variant && same_text kept.body d.body)
  Ok (Some kept.rows)

-- the answer to an import after its label: that of the kept one again, or that of a new one
abbrev pub after_label : Params → Book → Delivery → Name → Option ℕ → Result Outcome Refusal
after_label p b d label None = import p b d label None
after_label p b d label (Some rows) = Ok (record { book = b; answer = Imported rows })
