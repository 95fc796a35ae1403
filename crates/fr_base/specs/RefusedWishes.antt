-- Refused wishes: what of the supplier's rows refuses a wish, in the order of lines. There is no such node; the frame is there, or a wish before names
-- it, with another node; there is no slot that the node holds on all of the channels; or with the wish the supplier would have too many frames, or
-- the frame too many placements, where wishes before that are not refused count. Where the frames that are named are freed, they count without
-- their placements. Each wish that its text does not refuse names its frame, also one that is refused here.
use Rattle.std.specs.Prelude.{ℕ, suc, Bool, true, false, not, List, [], ◌∷◌, nat_le, Option, Some, None, Result, Ok, Err, ⊤}
use Rattle.std.specs.List.{filter_map, list_all, list_any}
use Rattle.fr_base.specs.Refusing.{◌>>=◌, ◌>>◌, refuse◌when◌}
use Rattle.fr_base.specs.Tables.{Table, Fate, Becomes, Gone, empty, get, contains, len, insert, each, settle}
use Rattle.fr_base.specs.Keys.{owned}
use Rattle.fr_base.specs.Cells.{slots_of}
use Rattle.fr_base.specs.Channels.{channels_in}
use Rattle.fr_base.specs.Names.{same_text}
use Rattle.fr_base.specs.Book.{Frame, held_by_node}
use Rattle.fr_base.specs.OwnRows.{OwnRows}
use Rattle.fr_base.specs.declared.limits.TheConstants.{MAX_FRAMES, MAX_PLACEMENTS}
use Rattle.fr_base.specs.declared.channel.Channels.{Channels}
use Rattle.fr_base.specs.declared.name.Name.{Name}
use Rattle.fr_base.specs.declared.refusal.Refusal.{Refusal}
use Rattle.fr_base.specs.declared.refusal.Refusal.TheVariants.{NoNode, NodeDiffers, NotGranted, Limit}
use Rattle.fr_base.specs.declared.wish.Asked.{Asked}
use Rattle.fr_base.specs.declared.wish.Wish.{Wish}
use Rattle.fr_base.specs.declared.wish.WishRead.{WishRead}

-- ---- frames that are freed

-- a frame that is there is left without placements
abbrev pub emptied : Option Frame → Fate Frame
emptied (Some frame) = Becomes (record frame { placements = empty })
emptied None = Gone

-- the frames after that of a wish was freed; a wish that its text refuses names none
unfoldable pub free_wish : Name → Result Wish Refusal → Table owned Frame → Table owned Frame
free_wish s (Ok wish) frames = settle frames (s, wish.frame) (emptied (get frames (s, wish.frame)))
free_wish s (Err refusal) frames = frames

-- and after those of all wishes were
unfoldable pub free_wishes : Name → List WishRead → Table owned Frame → Table owned Frame
free_wishes s [] frames = frames
free_wishes s (read ∷ rest) frames = free_wishes s rest (free_wish s read.wish frames)

-- the frames beside which the wishes are: where they are to replace, those that they name are freed
unfoldable pub frames_beside : OwnRows → Bool → List WishRead → Table owned Frame
frames_beside own true reads = free_wishes own.supplier reads own.frames
frames_beside own false reads = own.frames

-- ---- what counts

-- a frame's node, and how many placements count
pub record Counted : Type 0 where
  pub node : Name
  pub placements : ℕ

-- the frames as they count before the first wish
unfoldable pub counted_frames : Table owned Frame → Table owned Counted
counted_frames frames = each (λ frame. record { node = frame.node; placements = len frame.placements }) frames

-- what counts of the frame with one wish more
abbrev pub one_more : Wish → Option Counted → Counted
one_more wish None = record { node = wish.node; placements = 1 }
one_more wish (Some counted) = record counted { placements = suc counted.placements }

-- what counts behind a wish; one that is refused does not count
abbrev pub count_wish : Name → Table owned Counted → Result Wish Refusal → Table owned Counted
count_wish s counted (Ok wish) = insert counted (s, wish.frame) (one_more wish (get counted (s, wish.frame)))
count_wish s counted (Err refusal) = counted

-- ---- what refuses a wish

-- whether the supplier's node holds the slot on all of these channels
abbrev pub holds : OwnRows → Name → Channels → ℕ → Bool
holds own n cs slot = list_all (λ c. held_by_node own.supplier n (get own.grants (slot, c))) (channels_in cs)

-- whether what counts at the frame's name has another node
abbrev pub has_another_node : Name → Option Counted → Bool
has_another_node n None = false
has_another_node n (Some counted) = not (same_text counted.node n)

-- whether there may be no more: of frames, where the frame is not there, or of its placements
abbrev pub is_full : Table owned Counted → Option Counted → Bool
is_full counted None = nat_le MAX_FRAMES (len counted)
is_full counted (Some frame) = nat_le MAX_PLACEMENTS frame.placements

-- the first refusal that a wish meets, or none, where these frames count
unfoldable pub admits_wish : OwnRows → Table owned Counted → Wish → Result ⊤ Refusal
admits_wish own counted wish = do
  refuse NoNode when not (contains own.nodes (own.supplier, wish.node))
  refuse NodeDiffers when has_another_node wish.node (get counted (own.supplier, wish.frame))
  refuse NotGranted when not (list_any (holds own wish.node wish.channels) (slots_of own.params))
  refuse Limit when is_full counted (get counted (own.supplier, wish.frame))

-- the wish, or what refuses it: its own text, or the rows
unfoldable pub judged : OwnRows → Table owned Counted → Result Wish Refusal → Result Wish Refusal
judged own counted read = do
  wish ← read
  admits_wish own counted wish
  Ok wish

-- the wishes in the order of lines, each or what refuses it
unfoldable pub judge : OwnRows → Table owned Counted → List WishRead → List WishRead
judge own counted [] = []
judge own counted (read ∷ rest) =
    let wish = judged own counted read.wish in
    record { line = read.line; wish = wish } ∷ judge own (count_wish own.supplier counted wish) rest

-- the wish at a line, if it is not refused
abbrev pub asked_at : ℕ → Result Wish Refusal → Option Asked
asked_at line (Ok wish) = Some (record { line = line; wish = wish })
asked_at line (Err refusal) = None

-- the wishes that are not refused
abbrev pub asked_of : List WishRead → List Asked
asked_of reads = filter_map (λ read. asked_at read.line read.wish) reads
