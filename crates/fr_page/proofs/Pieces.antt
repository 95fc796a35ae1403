-- Pieces one behind another.
use Rattle.std.proofs.Common.{◌≡◌, ℕ, ◌+◌, ◌<◌, List, ◌++◌, ◌∷◌, [], take, length, get_or, refl, sym, ap, ◌∙◌, append_assoc}
use Rattle.std.proofs.lemmas.List.{append-nil, take_more}
use Rattle.std.specs.List.{flat_map}
use Rattle.fr_page.specs.Page.{text_of_piece}
use Rattle.fr_page.specs.declared.Piece.{Piece}

-- the bytes of the pieces
abbrev pub text : List Piece → List ℕ
text pieces = flat_map text_of_piece pieces

text_more : (pieces : List Piece) (piece : Piece) → text (pieces ++ piece ∷ []) ≡ text pieces ++ text_of_piece piece
text_more [] piece = append-nil (text_of_piece piece)
text_more (p ∷ pieces) piece = ap (λ r. text_of_piece p ++ r) (text_more pieces piece) ∙ sym (append_assoc (text_of_piece p) (text pieces) (text_of_piece piece))

-- the pieces so far, and one more
pub one_more : (pieces : List Piece) (i : ℕ) (piece : Piece) {so_far bytes read : List ℕ} → i < length pieces → so_far ≡ text (take i pieces)
    → bytes ≡ read → read ≡ text_of_piece (get_or pieces i piece) → so_far ++ bytes ≡ text (take (i + 1) pieces)
one_more pieces i piece {so_far} {bytes} {read} more were same is =
    ap (λ t. t ++ bytes) were ∙ ap (λ t. text (take i pieces) ++ t) (same ∙ is)
    ∙ sym (ap text (take_more pieces i piece more) ∙ text_more (take i pieces) (get_or pieces i piece))
