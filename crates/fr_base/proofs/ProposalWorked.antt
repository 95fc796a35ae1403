-- Proposals computed on small registers.
use Rattle.std.proofs.Common.{◌≡◌, ℕ, List, [], ◌∷◌, false, true, Bool, Some, Ok, Err, None, map, refl, codes}
use Rattle.std.specs.Prelude.{⊤}
use Rattle.std.specs.List.{range_with_len}
use Rattle.fr_base.specs.Refusing.{◌>>=◌, ◌>>◌, ◌or◌, refuse◌when◌}
use Rattle.fr_base.specs.Tables.{empty, get, len, insert, only, remove, from_rows, settle, each}
use Rattle.fr_base.specs.Keys.{numbers, names, channel_order, channels_order, owned, channel_slots, placement_order}
use Rattle.fr_base.specs.Names.{is_name}
use Rattle.fr_base.specs.Cycles.{all_cycles, cycles_of}
use Rattle.fr_base.specs.Cells.{cells_of, has_cell}
use Rattle.fr_base.specs.Schedule.{fill, first_taken}
use Rattle.fr_base.specs.Room.{places_on}
use Rattle.fr_base.specs.Checks.{name, channels}
use Rattle.fr_base.specs.Book.{Frame}
use Rattle.fr_base.specs.OwnRows.{OwnRows}
use Rattle.fr_base.specs.Wishes.{wish}
use Rattle.fr_base.specs.Fittest.{least, is_free, free_places, broken, rated, fittest_of, fittest}
use Rattle.fr_base.specs.Turns.{turns_on, in_turn, take_places, take_turns}
use Rattle.fr_base.specs.RefusedWishes.{free_wish, free_wishes, frames_beside, counted_frames, admits_wish, judged, judge}
use Rattle.fr_base.specs.KeptPlaces.{keep}
use Rattle.fr_base.specs.Lacks.{short_wishes, fill_up, slots_lacking, lack_row, lack_rows}
use Rattle.fr_base.specs.Proposals.{filled_places, held_slots, given_with, given_to, given_all, proposal_row, proposal_of, proposal}
use Rattle.fr_base.specs.declared.channel.Channel.TheVariants as ch
use Rattle.fr_base.specs.declared.channel.Channels.{Channels}
use Rattle.fr_base.specs.declared.channel.Channels.TheVariants as chs
use Rattle.fr_base.specs.declared.name.Name.{Name}
use Rattle.fr_base.specs.declared.params.Params.{Params}
use Rattle.fr_base.specs.declared.placement.Placement.{Placement}
use Rattle.fr_base.specs.declared.proposal.Proposal.{Proposal}
use Rattle.fr_base.specs.declared.proposal.ProposalRow.{ProposalRow}
use Rattle.fr_base.specs.declared.proposal.LackRow.{LackRow}
use Rattle.fr_base.specs.declared.wish.WishRead.{WishRead}
use Rattle.fr_base.specs.declared.refusal.Refusal.{Refusal}
use Rattle.fr_base.specs.declared.refusal.Refusal.TheVariants.{BadText, BadName, BadCycles, BadChannel, NoNode, NodeDiffers, NotGranted, Limit, NoRoom}

-- two channels, four slots, so many cycles
abbrev params_of : ℕ → Params
params_of cycles = record { channels = chs.AB; static_slots = 4; slot_macroticks = 10; dynamic_macroticks = 40; symbol_macroticks = 10; idle_macroticks = 10; macroticks_per_cycle = 100; payload_words = 1; cycles = cycles }

abbrev place : ℕ → ℕ → Channels → ℕ → ℕ → Placement
place cycles slot cs base repetition = record { slot = slot; channels = cs; cycles = record { count = cycles; base = base; repetition = repetition } }

-- what is computed
unfoldable pub a_small_proposal : ⊤
unfolding ◌>>=◌ ◌>>◌ ◌or◌ refuse◌when◌ empty get len insert only remove from_rows settle each numbers names channel_order channels_order owned channel_slots placement_order is_name all_cycles cycles_of cells_of has_cell fill first_taken places_on name channels wish least is_free free_places broken rated fittest_of fittest turns_on in_turn take_places take_turns free_wish free_wishes frames_beside counted_frames admits_wish judged judge keep short_wishes fill_up slots_lacking lack_row lack_rows filled_places held_slots given_with given_to given_all proposal_row proposal_of proposal
a_small_proposal = tt

-- the supplier s1 has the node n1, which holds slot 1 on A, and these frames, of so many cycles
unfoldable pub rows_with : ℕ → List ((Name × Name) × Frame) → OwnRows
rows_with cycles frames = record {
  params = params_of cycles;
  supplier = codes "s1";
  nodes = from_rows (((codes "s1", codes "n1"), tt) ∷ []);
  grants = from_rows (((1, ch.A), record { supplier = codes "s1"; node = codes "n1" }) ∷ []);
  frames = from_rows frames;
}

-- a frame of n1 with these placements
unfoldable pub framed : List ℕ → List Placement → (Name × Name) × Frame
framed frame places = ((codes "s1", frame), record { node = codes "n1"; placements = from_rows (map (λ q. (q, tt)) places); signals = [] })

-- a wish, as its text is read among 64 cycles, or 12
abbrev wished_of : ℕ → ℕ → List ℕ → List ℕ → List ℕ → ℕ → WishRead
wished_of cycles line frame node channels repetition = record { line = line; wish = wish (params_of cycles) frame node channels repetition }

abbrev wished : ℕ → List ℕ → List ℕ → List ℕ → ℕ → WishRead
wished = wished_of 64

-- rows of a proposal
abbrev told : ℕ → List ℕ → List ℕ → Placement → ProposalRow
told line frame node q = record { line = line; proposed = Ok (record { frame = frame; node = node; placement = q }) }

abbrev refused : ℕ → Refusal → ProposalRow
refused line refusal = record { line = line; proposed = Err refusal }

-- the node n1 lacks so many slots
abbrev lacks_of : Channels → ℕ → LackRow
lacks_of cs slots = record { node = codes "n1"; channels = cs; slots = slots }

-- in slot 1 on A, of 64 cycles
abbrev on_a : ℕ → ℕ → Placement
on_a base repetition = place 64 1 chs.A base repetition

-- what wishes of n1 on A are told
abbrev given : ℕ → List ℕ → ℕ → ℕ → ProposalRow
given line frame base repetition = told line frame (codes "n1") (on_a base repetition)

abbrev n1 : ℕ → List ℕ → ℕ → WishRead
n1 line frame repetition = wished line frame (codes "n1") (codes "A") repetition

-- ---- without replace

-- the coarse one takes its cells first; f and g find places that break nothing more
pub the_coarse_one_first :
    proposal (rows_with 64 []) false (n1 2 (codes "f") 64 ∷ n1 3 (codes "g") 64 ∷ n1 4 (codes "h") 2 ∷ [])
    ≡ record { rows = given 2 (codes "f") 1 64 ∷ given 3 (codes "g") 33 64 ∷ given 4 (codes "h") 0 2 ∷ []; lacks = [] }
unfolding a_small_proposal rows_with
the_coarse_one_first = refl

-- f at base 0 of 4 and g at base 3 of 8
unfoldable pub two_frames : OwnRows
unfolding rows_with framed
two_frames = rows_with 64 (framed (codes "f") (on_a 0 4 ∷ []) ∷ framed (codes "g") (on_a 3 8 ∷ []) ∷ [])

pub beside_what_is_there :
    proposal two_frames false (n1 2 (codes "a") 8 ∷ n1 3 (codes "b") 4 ∷ n1 4 (codes "f") 4 ∷ [])
    ≡ record { rows = given 2 (codes "a") 7 8 ∷ given 3 (codes "b") 1 4 ∷ given 4 (codes "f") 2 4 ∷ []; lacks = [] }
unfolding a_small_proposal rows_with framed two_frames
beside_what_is_there = refl

pub with_two_more :
    proposal two_frames false (n1 2 (codes "a") 8 ∷ n1 3 (codes "b") 4 ∷ n1 4 (codes "f") 4 ∷ n1 5 (codes "c") 2 ∷ n1 6 (codes "d") 64 ∷ [])
    ≡ record {
      rows = given 2 (codes "a") 7 8 ∷ given 3 (codes "b") 1 4 ∷ given 4 (codes "f") 2 4 ∷ refused 5 NoRoom ∷ refused 6 NoRoom ∷ [];
      lacks = lacks_of chs.A 1 ∷ [];
    }
unfolding a_small_proposal rows_with framed two_frames
with_two_more = refl

pub coarse_before_fine :
    proposal two_frames false (n1 2 (codes "a") 8 ∷ n1 3 (codes "c") 2 ∷ n1 4 (codes "b") 4 ∷ n1 5 (codes "d") 64 ∷ n1 6 (codes "f") 4 ∷ [])
    ≡ record {
      rows = given 2 (codes "a") 7 8 ∷ refused 3 NoRoom ∷ given 4 (codes "b") 1 4 ∷ refused 5 NoRoom ∷ given 6 (codes "f") 2 4 ∷ [];
      lacks = lacks_of chs.A 1 ∷ [];
    }
unfolding a_small_proposal rows_with framed two_frames
coarse_before_fine = refl

pub what_is_lacking :
    proposal (rows_with 64 (framed (codes "f") (on_a 0 2 ∷ []) ∷ [])) false (n1 2 (codes "a") 1 ∷ n1 3 (codes "b") 2 ∷ n1 4 (codes "c") 2 ∷ n1 5 (codes "d") 1 ∷ [])
    ≡ record { rows = refused 2 NoRoom ∷ given 3 (codes "b") 1 2 ∷ refused 4 NoRoom ∷ refused 5 NoRoom ∷ []; lacks = lacks_of chs.A 3 ∷ [] }
unfolding a_small_proposal rows_with framed
what_is_lacking = refl

-- f has eight placements
unfoldable pub a_full_frame : OwnRows
unfolding rows_with framed
a_full_frame = rows_with 64 (framed (codes "f") (map (λ base. on_a base 16) (range_with_len 0 8)) ∷ [])

pub limits :
    proposal a_full_frame false (n1 2 (codes "f") 64 ∷ n1 3 (codes "g") 64 ∷ [])
    ≡ record { rows = refused 2 Limit ∷ given 3 (codes "g") 8 64 ∷ []; lacks = [] }
unfolding a_small_proposal rows_with framed a_full_frame
limits = refl

-- where they are to replace, f counts without its placements
pub freed_limits :
    proposal a_full_frame true (n1 2 (codes "f") 64 ∷ n1 3 (codes "g") 64 ∷ [])
    ≡ record { rows = given 2 (codes "f") 0 64 ∷ given 3 (codes "g") 32 64 ∷ []; lacks = [] }
unfolding a_small_proposal rows_with framed a_full_frame
freed_limits = refl

-- ---- channels

-- n1 holds slot 1 on A and B, and slot 3 on B
unfoldable pub both_channels : OwnRows
unfolding framed
both_channels = record {
  params = params_of 64;
  supplier = codes "s1";
  nodes = from_rows (((codes "s1", codes "n1"), tt) ∷ ((codes "s1", codes "n2"), tt) ∷ []);
  grants =
      from_rows (((1, ch.A), record { supplier = codes "s1"; node = codes "n1" })
      ∷ ((1, ch.B), record { supplier = codes "s1"; node = codes "n1" })
      ∷ ((3, ch.B), record { supplier = codes "s1"; node = codes "n1" })
      ∷ []);
  frames =
      from_rows (framed (codes "e") (place 64 1 chs.A 3 4 ∷ [])
      ∷ framed (codes "f") (place 64 1 chs.AB 0 2 ∷ [])
      ∷ framed (codes "g") (place 64 1 chs.B 1 4 ∷ [])
      ∷ framed (codes "h") []
      ∷ []);
}

pub on_channels :
    proposal both_channels false (
    wished 2 (codes "h") (codes "n1") (codes "B") 8
    ∷ wished 3 (codes "h") (codes "n1") (codes "A") 8
    ∷ wished 4 (codes "h") (codes "n1") (codes "AB") 8
    ∷ wished 5 (codes "h") (codes "n1") (codes "B") 2
    ∷ [])
    ≡ record {
      rows =
          told 2 (codes "h") (codes "n1") (place 64 1 chs.B 3 8)
          ∷ told 3 (codes "h") (codes "n1") (place 64 1 chs.A 1 8)
          ∷ refused 4 NoRoom
          ∷ told 5 (codes "h") (codes "n1") (place 64 3 chs.B 0 2)
          ∷ [];
      lacks = lacks_of chs.AB 1 ∷ [];
    }
unfolding a_small_proposal framed both_channels
on_channels = refl

-- ---- refused wishes

-- n2 holds nothing, and f has no placement
unfoldable pub two_nodes : OwnRows
unfolding framed
two_nodes = record {
  params = params_of 64;
  supplier = codes "s1";
  nodes = from_rows (((codes "s1", codes "n1"), tt) ∷ ((codes "s1", codes "n2"), tt) ∷ []);
  grants = from_rows (((1, ch.A), record { supplier = codes "s1"; node = codes "n1" }) ∷ []);
  frames = from_rows (framed (codes "f") [] ∷ []);
}

pub refused_wishes :
    proposal two_nodes false (
    wished 2 (codes "f") (codes "n2") (codes "A") 2
    ∷ wished 3 (codes "g") (codes "n9") (codes "A") 2
    ∷ wished 4 (codes "g") (codes "n1") (codes "B") 2
    ∷ wished 5 (codes "g") (codes "n2") (codes "A") 2
    ∷ wished 6 (codes "g") (codes "n1") (codes "A") 3
    ∷ wished 7 (codes "g") (codes "n1") (codes "AC") 2
    ∷ wished 8 (codes "1g") (codes "n1") (codes "A") 2
    ∷ record { line = 9; wish = Err BadText }
    ∷ n1 10 (codes "g") 2
    ∷ n1 11 (codes "f") 4
    ∷ [])
    ≡ record {
      rows =
          refused 2 NodeDiffers
          ∷ refused 3 NoNode
          ∷ refused 4 NotGranted
          ∷ refused 5 NotGranted
          ∷ refused 6 BadCycles
          ∷ refused 7 BadChannel
          ∷ refused 8 BadName
          ∷ refused 9 BadText
          ∷ given 10 (codes "g") 0 2
          ∷ given 11 (codes "f") 1 4
          ∷ [];
      lacks = [];
    }
unfolding a_small_proposal framed two_nodes
refused_wishes = refl

-- ---- with replace

-- each of f, g and h at a base of 4
pub nothing_moves :
    proposal (rows_with 64 (framed (codes "f") (on_a 0 4 ∷ []) ∷ framed (codes "g") (on_a 1 4 ∷ []) ∷ framed (codes "h") (on_a 2 4 ∷ []) ∷ [])) true
    (n1 2 (codes "f") 4 ∷ n1 3 (codes "k") 8 ∷ n1 4 (codes "g") 4 ∷ [])
    ≡ record { rows = given 2 (codes "f") 0 4 ∷ given 3 (codes "k") 3 8 ∷ given 4 (codes "g") 1 4 ∷ []; lacks = [] }
unfolding a_small_proposal rows_with framed
nothing_moves = refl

-- f and g at bases of 4
unfoldable pub f_and_g : OwnRows
unfolding rows_with framed
f_and_g = rows_with 64 (framed (codes "f") (on_a 0 4 ∷ []) ∷ framed (codes "g") (on_a 1 4 ∷ []) ∷ [])

pub something_must_move :
    proposal f_and_g true (n1 2 (codes "f") 4 ∷ n1 3 (codes "g") 4 ∷ n1 4 (codes "k") 2 ∷ [])
    ≡ record { rows = given 2 (codes "f") 1 4 ∷ given 3 (codes "g") 3 4 ∷ given 4 (codes "k") 0 2 ∷ []; lacks = [] }
unfolding a_small_proposal rows_with framed f_and_g
something_must_move = refl

-- without replace
pub nothing_may_move :
    proposal f_and_g false (n1 2 (codes "f") 4 ∷ n1 3 (codes "g") 4 ∷ n1 4 (codes "k") 2 ∷ [])
    ≡ record { rows = given 2 (codes "f") 2 4 ∷ given 3 (codes "g") 3 4 ∷ refused 4 NoRoom ∷ []; lacks = lacks_of chs.A 1 ∷ [] }
unfolding a_small_proposal rows_with framed f_and_g
nothing_may_move = refl

-- with a wish that has no room either way, what is there is kept
pub moving_does_not_help :
    proposal f_and_g true (n1 2 (codes "f") 4 ∷ n1 3 (codes "g") 4 ∷ n1 4 (codes "k") 1 ∷ [])
    ≡ record { rows = given 2 (codes "f") 0 4 ∷ given 3 (codes "g") 1 4 ∷ refused 4 NoRoom ∷ []; lacks = lacks_of chs.A 1 ∷ [] }
unfolding a_small_proposal rows_with framed f_and_g
moving_does_not_help = refl

-- ---- of 12 cycles

abbrev of_12 : ℕ → List ℕ → ℕ → WishRead
of_12 line frame repetition = wished_of 12 line frame (codes "n1") (codes "A") repetition

abbrev given_12 : ℕ → List ℕ → ℕ → ℕ → ProposalRow
given_12 line frame base repetition = told line frame (codes "n1") (place 12 1 chs.A base repetition)

pub other_counts :
    proposal (rows_with 12 []) false (of_12 2 (codes "f") 4 ∷ of_12 3 (codes "g") 6 ∷ of_12 4 (codes "h") 12 ∷ [])
    ≡ record { rows = given_12 2 (codes "f") 0 4 ∷ given_12 3 (codes "g") 1 6 ∷ given_12 4 (codes "h") 2 12 ∷ []; lacks = [] }
unfolding a_small_proposal rows_with
other_counts = refl

pub no_chain :
    proposal (rows_with 12 []) false (of_12 2 (codes "f") 4 ∷ of_12 3 (codes "g") 3 ∷ [])
    ≡ record { rows = refused 2 NoRoom ∷ given_12 3 (codes "g") 0 3 ∷ []; lacks = lacks_of chs.A 1 ∷ [] }
unfolding a_small_proposal rows_with
no_chain = refl
