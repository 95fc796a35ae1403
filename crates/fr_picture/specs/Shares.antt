-- Suppliers of a page: their numbers, marks and looks; how many lanes each holds and in how many cells it sends; the text of the
-- legend.
use Rattle.std.specs.Prelude.{ℕ, ◌-◌, ◌*◌, ◌/◌, ◌%◌, ◌^◌, ◌==◌, min, List, [], ◌∷◌, ◌++◌, count_by, codes, decimal, if◌then◌else◌}
use Rattle.std.specs.List.{flat_map, position}
use Rattle.std.specs.Option.{unwrap_or}
use Rattle.fr_base.specs.Names.{same_text}
use Rattle.fr_base.specs.declared.answer.GrantRow.{GrantRow}
use Rattle.fr_base.specs.declared.answer.Sending.{Sending}
use Rattle.fr_base.specs.declared.name.Name.{Name}
use Rattle.fr_picture.specs.declared.shares.Share.{Share}
use Rattle.fr_picture.specs.declared.texts.Fixed.TheVariants.{KeyStart, TagEnd}
use Rattle.fr_picture.specs.Styles.{letter_of}
use Rattle.fr_picture.specs.Texts.{together, fixed_text}

-- the part in a hundred of the whole, rounded down; 0 of nothing
abbrev pub percent : ℕ → ℕ → ℕ
percent part whole = if whole == 0 then 0 else min (part * 100) (2 ^ 64 - 1) / whole

-- the number of the supplier of this name, from 0 on
abbrev pub number_of : List Name → Name → ℕ
number_of names supplier = unwrap_or (position (λ name. same_text name supplier) names) 0

-- a supplier's number, the lanes that it holds, the cells in which it sends, and the cells that its
-- lanes have
unfoldable pub share_of : List Name → ℕ → List GrantRow → List Sending → Name → Share
share_of names cycles grants cells supplier = record {
  number = number_of names supplier;
  supplier = supplier;
  held = count_by (λ g. same_text g.supplier supplier) grants;
  sent = count_by (λ s. same_text s.supplier supplier) cells;
  room = min (count_by (λ g. same_text g.supplier supplier) grants * cycles) (2 ^ 64 - 1);
}

-- ---- their texts

unfoldable pub round_text : ℕ → List ℕ
round_text round = if round == 0 then [] else decimal round

-- a supplier's mark: the letter of its colour, and how often the colours came before it
unfoldable pub mark_text : ℕ → List ℕ
mark_text number = letter_of (number % 8) ++ round_text (number / 8)

-- a supplier's colour, and over it, where the colours came before, a pattern: no two of 64 suppliers have both the same
unfoldable pub look_text : ℕ → List ℕ
look_text number =
    if number / 8 == 0 then together (codes "c" ∷ decimal (number % 8) ∷ [])
    else together (codes "\"c" ∷ decimal (number % 8) ∷ codes " t" ∷ decimal (number / 8) ∷ codes "\"" ∷ [])

unfoldable pub holds_text : Share → ℕ → List ℕ
holds_text s hundredths =
    together (codes "</i> " ∷ s.supplier ∷ codes ": lanes " ∷ decimal s.held ∷ codes ", cells " ∷ decimal s.room ∷ codes ", sent in " ∷ decimal s.sent
    ∷ codes " of them (" ∷ decimal hundredths ∷ codes " %)</li>\n" ∷ [])

unfoldable pub share_text : Share → List ℕ
share_text s = fixed_text KeyStart ++ look_text s.number ++ fixed_text TagEnd ++ mark_text s.number ++ holds_text s (percent s.sent s.room)

unfoldable pub legend_text : List Share → List ℕ
legend_text shares = flat_map share_text shares
