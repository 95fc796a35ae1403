-- Index of frames: the frames by name, each with its supplier's mark and with its number in the table of frames. The
-- number of the frame that is sent in a cell.
use Rattle.std.specs.Prelude.{ℕ, Bool, ◌&&◌, List, [], ◌∷◌, ◌++◌, map, codes, decimal, IsPermutation, Option, option_map}
use Rattle.std.specs.Cmp.Lexicographic.{slice_cmp}
use Rattle.std.specs.List.{enumerate_from, find, flat_map}
use Rattle.std.specs.List.Sorted.{IsSortedByKey, IsStableByKey}
use Rattle.std.specs.Ordering.{nat_cmp}
use Rattle.fr_base.specs.Names.{same_text}
use Rattle.fr_base.specs.declared.answer.Sending.{Sending}
use Rattle.fr_base.specs.declared.name.Name.{Name}
use Rattle.fr_picture.specs.declared.frame_index.Entry.{Entry}
use Rattle.fr_picture.specs.declared.frame_table.DrawnFrame.{DrawnFrame}
use Rattle.fr_picture.specs.Shares.{mark_text, number_of}
use Rattle.fr_picture.specs.Texts.{together}

-- a frame with its number
abbrev pub entry_of : ℕ → DrawnFrame → Entry
entry_of number f = record { frame = f.row.frame; node = f.row.node; supplier = f.row.supplier; number = number }

-- the frames with their numbers, in the order of the table
unfoldable pub entries_of : List DrawnFrame → List Entry
entries_of frames = map (λ p. entry_of p.0 p.1) (enumerate_from 1 frames)

-- the entries stand in byte order of the names
abbrev pub AreByName : List Entry → Type 0
AreByName index = IsSortedByKey (λ e. e.frame) (slice_cmp nat_cmp) index

-- The index has each frame of the table once, in byte order of the names. Frames of one name stay
-- in the order of the table.
pub record IsIndex (frames : List DrawnFrame) (index : List Entry) : Type 0 where
  pub same : IsPermutation (entries_of frames) index
  pub sorted : AreByName index
  pub stable : IsStableByKey (λ e. e.frame) (slice_cmp nat_cmp) (entries_of frames) index

-- whether the entry is of the frame that is sent in the cell
unfoldable pub is_entry_of : Sending → Entry → Bool
is_entry_of s e = same_text e.frame s.frame && same_text e.node s.node && same_text e.supplier s.supplier

-- the number that the table gives the frame of a cell; none where it has no such frame
unfoldable pub number_in : List Entry → Sending → Option ℕ
number_in index s = option_map (λ e. e.number) (find (is_entry_of s) index)

-- ---- its text

unfoldable pub link_text : ℕ → Name → List ℕ
link_text number frame = together (codes "<li><a href=#r" ∷ decimal number ∷ codes ">" ∷ frame ∷ codes "</a> " ∷ [])

unfoldable pub number_text : ℕ → List ℕ
number_text number = together (codes " " ∷ decimal number ∷ codes "\n" ∷ [])

unfoldable pub entry_text : List Name → Entry → List ℕ
entry_text names e = link_text e.number e.frame ++ mark_text (number_of names e.supplier) ++ number_text e.number

unfoldable pub index_text : List Name → List Entry → List ℕ
index_text names index = flat_map (entry_text names) index
