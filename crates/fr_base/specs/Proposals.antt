-- Proposal: what is proposed for the wishes of a supplier's file, by its own rows: for each wish a placement, or what refuses it; and what its nodes
-- lack. Each node's wishes are for themselves, since one node holds a slot on a channel. Without `replace` they take places in turn beside what is there.
-- Where they are to replace, the frames that they name lose their placements, and a wish first keeps one that its frame had. If the other wishes, in turn
-- beside what is kept, all take one, that is proposed; else, if all wishes in turn take one where nothing is kept, that; else what is kept, and what the
-- others take beside it.
use Rattle.std.specs.Prelude.{ℕ, ◌==◌, Bool, true, false, if◌then◌else◌, List, [], ◌++◌, map, filter, find, Option, is_none, is_some, Ok}
use Rattle.std.specs.List.{flat_map}
use Rattle.std.specs.Option.{option_and_then}
use Rattle.fr_base.specs.Refusing.{◌>>=◌, ◌or◌}
use Rattle.fr_base.specs.Tables.{Table}
use Rattle.fr_base.specs.Keys.{owned}
use Rattle.fr_base.specs.Cells.{slots_of}
use Rattle.fr_base.specs.Names.{same_text}
use Rattle.fr_base.specs.Book.{Frame}
use Rattle.fr_base.specs.OwnRows.{OwnRows}
use Rattle.fr_base.specs.RefusedWishes.{frames_beside, counted_frames, holds, judge, asked_of}
use Rattle.fr_base.specs.Turns.{take_turns, all_placed, places_given}
use Rattle.fr_base.specs.KeptPlaces.{keep}
use Rattle.fr_base.specs.Lacks.{lack_rows}
use Rattle.fr_base.specs.declared.channel.Channels.{Channels}
use Rattle.fr_base.specs.declared.name.Name.{Name}
use Rattle.fr_base.specs.declared.placement.Placement.{Placement}
use Rattle.fr_base.specs.declared.proposal.Given.{Given}
use Rattle.fr_base.specs.declared.proposal.Proposal.{Proposal}
use Rattle.fr_base.specs.declared.proposal.ProposalRow.{ProposalRow}
use Rattle.fr_base.specs.declared.refusal.Refusal.TheVariants.{NoRoom}
use Rattle.fr_base.specs.declared.wish.Asked.{Asked}
use Rattle.fr_base.specs.declared.wish.WishRead.{WishRead}

-- ---- beside what the wishes stand

-- the frames' names with their placements, frame by frame
unfoldable pub filled_places : Table owned Frame → List (Name × Placement)
filled_places frames = flat_map (λ row. map (λ q. (row.0.1, q.0)) row.1.placements.rows) frames.rows

-- the slots that the supplier's node holds on all of these channels
unfoldable pub held_slots : OwnRows → Name → Channels → List ℕ
held_slots own n cs = filter (holds own n cs) (slots_of own.params)

-- ---- one node's wishes

-- what the node's wishes take in turn beside what is filled
abbrev pub given_beside : OwnRows → Name → List (Name × Placement) → List Asked → List Given
given_beside own n filled wishes = take_turns own.params (held_slots own n) filled wishes

-- what is kept, and what the other wishes take in turn beside it
unfoldable pub given_with : OwnRows → Name → List (Name × Placement) → List Given → List Given
given_with own n filled kept =
    filter (λ g. is_some g.place) kept
    ++ given_beside own n (filled ++ places_given kept) (map (λ g. g.asked) (filter (λ g. is_none g.place) kept))

-- the first, where each wish has a placement in it or not each has one in the second; else the second
abbrev pub either : List Given → List Given → List Given
either first anew = if all_placed first then first else if all_placed anew then anew else first

-- what the node's wishes are given; a replacement sees which placements their frames have
unfoldable pub given_to : OwnRows → Bool → List (Name × Placement) → Name → List Asked → List Given
given_to own false filled n wishes = given_beside own n filled wishes
given_to own true filled n wishes = either (given_with own n filled (keep own.supplier own.frames [] wishes)) (given_beside own n filled wishes)

-- ---- all wishes

-- the names of the supplier's nodes, in order
abbrev pub node_names : OwnRows → List Name
node_names own = map (λ row. row.0.1) own.nodes.rows

abbrev pub is_of_node : Name → Asked → Bool
is_of_node n asked = same_text asked.wish.node n

-- what the wishes are given, node by node
unfoldable pub given_all : OwnRows → Bool → List (Name × Placement) → List Asked → List Given
given_all own replace filled wishes = flat_map (λ n. given_to own replace filled n (filter (is_of_node n) wishes)) (node_names own)

-- the placement that was given at a line
abbrev pub place_at : List Given → ℕ → Option Placement
place_at given line = option_and_then (λ g. g.place) (find (λ g. g.asked.line == line) given)

-- the row of a wish: what refuses it, or the placement that it was given; without one it has no room
unfoldable pub proposal_row : List Given → WishRead → ProposalRow
proposal_row given read = record {
  line = read.line;
  proposed = do
    wish ← read.wish
    place ← place_at given read.line or NoRoom
    Ok (record { frame = wish.frame; node = wish.node; placement = place });
}

-- a row for each wish, and what the nodes lack
unfoldable pub proposal_of : OwnRows → List WishRead → List Given → Proposal
proposal_of own reads given = record { rows = map (proposal_row given) reads; lacks = lack_rows own.params given (node_names own) }

-- the wishes, each or what refuses it by its text or by the supplier's rows
abbrev pub judged_wishes : OwnRows → Bool → List WishRead → List WishRead
judged_wishes own replace reads = judge own (counted_frames (frames_beside own replace reads)) reads

-- what those that are not refused are given
abbrev pub given_wishes : OwnRows → Bool → List WishRead → List Given
given_wishes own replace reads = given_all own replace (filled_places (frames_beside own replace reads)) (asked_of (judged_wishes own replace reads))

-- what is proposed to the supplier that has these rows
unfoldable pub proposal : OwnRows → Bool → List WishRead → Proposal
proposal own replace reads = proposal_of own (judged_wishes own replace reads) (given_wishes own replace reads)
