-- Page: the parts of the planner's page, and their pieces; these are constants, and no more is said of them.
use Rattle.std.specs.Prelude.{ℕ, List, [], ◌∷◌}
use Rattle.std.specs.List.{flat_map}
use Rattle.fr_page.specs.declared.Part.{Part}
use Rattle.fr_page.specs.declared.Part.TheVariants as part
use Rattle.fr_page.specs.declared.Piece.{Piece}
use Rattle.fr_page.specs.declared.Piece.TheVariants as piece
use Rattle.fr_page.specs.declared.page.TheConstants.{DOCUMENT, STYLE, PROGRAM_1, PROGRAM_2, PROGRAM_3, PROGRAM_4}

-- the bytes of a piece
unfoldable pub text_of_piece : Piece → List ℕ
text_of_piece piece.Document = DOCUMENT.now
text_of_piece piece.Style = STYLE.now
text_of_piece piece.Program1 = PROGRAM_1.now
text_of_piece piece.Program2 = PROGRAM_2.now
text_of_piece piece.Program3 = PROGRAM_3.now
text_of_piece piece.Program4 = PROGRAM_4.now

-- the pieces of a part
abbrev pub pieces_of : Part → List Piece
pieces_of part.Document = piece.Document ∷ []
pieces_of part.Style = piece.Style ∷ []
pieces_of part.Program = piece.Program1 ∷ piece.Program2 ∷ piece.Program3 ∷ piece.Program4 ∷ []

-- the bytes of a part: those of its pieces, one behind another
unfoldable pub text_of : Part → List ℕ
text_of part = flat_map text_of_piece (pieces_of part)
