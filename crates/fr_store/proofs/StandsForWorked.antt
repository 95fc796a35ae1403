-- The rows of small registers, computed.
use Rattle.std.proofs.Common.{◌≡◌, ℕ, pos, List, [], ◌∷◌, false, true, Some, None, Option, map, refl, codes}
use Rattle.std.specs.Prelude.{⊤}
use Rattle.std.specs.List.{flat_map}
use Rattle.fr_base.specs.Tables.{empty, get, insert, remove}
use Rattle.fr_base.specs.Keys.{numbers, names, channel_order, channels_order, owned, channel_slots, placement_order}
use Rattle.fr_base.specs.Book.{Book, Frame, empty_variant, opening, suppliers_of}
use Rattle.fr_base.specs.Step.{changed, grants_after, frames_after, frame_after}
use Rattle.fr_base.specs.Tables.{settle, from_rows, only}
use Rattle.fr_base.specs.Changes.{in_rows}
use Rattle.fr_base.specs.declared.channel.Channel.TheVariants as ch
use Rattle.fr_base.specs.declared.channel.Channels.TheVariants as chs
use Rattle.fr_base.specs.declared.request.Change.TheVariants.{Grant, Frame as OfFrame}
use Rattle.fr_base.specs.declared.request.FrameChange.TheVariants.{Add, Place, AddSignal}
use Rattle.fr_base.specs.declared.signal.Order.TheVariants.{Little}
use Rattle.fr_base.proofs.WorkedRows.{file}
use Rattle.fr_world.specs.BookEdits.{applied, all_applied, or_empty}
use Rattle.fr_world.specs.declared.edit.Edit.TheVariants.{NewVariant, SetReleased, NewNode, Rows}
use Rattle.fr_tables.specs.Rows.{DroppedRow}
use Rattle.fr_store.specs.StandsFor.{Stored, node_row, variant_row, grant_rows, frame_row, placement_rows, signal_rows, of_frames, of_parent, seen}

-- what the rows below unfold
unfoldable pub rows_of_a_small_register : ⊤
unfolding file opening suppliers_of applied empty get insert remove only from_rows settle numbers names channel_order channels_order owned channel_slots placement_order empty_variant changed grants_after frames_after frame_after of_frames of_parent seen
rows_of_a_small_register = tt

-- the register of the first script: a variant, a node, a grant to it, and a frame with a placement and a signal
unfoldable pub register : Book
register = all_applied (opening file) (
    NewVariant (codes "v1") None 1
    ∷ NewNode (codes "s1") (codes "n1")
    ∷ Rows (in_rows (codes "s1") (codes "v1") (Grant 1 ch.A (codes "n1")))
    ∷ Rows (in_rows (codes "s1") (codes "v1") (OfFrame (codes "f1") (Add (codes "n1"))))
    ∷ Rows (in_rows (codes "s1") (codes "v1") (OfFrame (codes "f1") (Place (record { slot = 1; channels = chs.A; cycles = record { count = 64; base = 0; repetition = 64 } }))))
    ∷ Rows (in_rows (codes "s1") (codes "v1") (OfFrame (codes "f1") (AddSignal (record { name = codes "x"; start = 4; length = 8; order = Little }))))
    ∷ [])

-- a variant's own frames are all that it shows
abbrev by_itself : Book → List ℕ → Stored
by_itself b v = record { overlay = false; own = (or_empty (get b.variants v)).frames }

pub its_nodes : map node_row register.nodes.rows ≡ record { supplier = codes "s1"; name = codes "n1" } ∷ []
unfolding rows_of_a_small_register register
its_nodes = refl

pub its_variants : map (variant_row (by_itself register)) register.variants.rows ≡ record { name = codes "v1"; parent = None; depth = pos 1; released = pos 0; overlay = pos 0 } ∷ []
unfolding rows_of_a_small_register register
its_variants = refl

pub its_grants : flat_map grant_rows register.variants.rows ≡ record { variant = codes "v1"; slot = pos 1; channel = codes "A"; supplier = codes "s1"; node = codes "n1" } ∷ []
unfolding rows_of_a_small_register register
its_grants = refl

pub its_frames :
    of_frames (λ v f. frame_row v f ∷ []) (by_itself register) register.variants ≡ record { variant = codes "v1"; supplier = codes "s1"; name = codes "f1"; node = codes "n1" } ∷ []
unfolding rows_of_a_small_register register
its_frames = refl

pub its_placements :
    of_frames placement_rows (by_itself register) register.variants
    ≡ record { variant = codes "v1"; supplier = codes "s1"; frame = codes "f1"; slot = pos 1; channels = codes "A"; base = pos 0; repetition = pos 64 } ∷ []
unfolding rows_of_a_small_register register
its_placements = refl

pub its_signals :
    of_frames signal_rows (by_itself register) register.variants
    ≡ record { variant = codes "v1"; supplier = codes "s1"; frame = codes "f1"; name = codes "x"; start = pos 4; length = pos 8; big = pos 0 } ∷ []
unfolding rows_of_a_small_register register
its_signals = refl

-- ---- a variant over its parent

-- a frame without placements
abbrev bare : List ℕ → Frame
bare node = record { node = node; placements = empty; signals = [] }

-- released, with the frames f1, f2 and f3 of s1
unfoldable pub parents : Book
parents = all_applied (opening file) (
    NewVariant (codes "v1") None 1
    ∷ Rows (in_rows (codes "s1") (codes "v1") (OfFrame (codes "f1") (Add (codes "n1"))))
    ∷ Rows (in_rows (codes "s1") (codes "v1") (OfFrame (codes "f2") (Add (codes "n1"))))
    ∷ Rows (in_rows (codes "s1") (codes "v1") (OfFrame (codes "f3") (Add (codes "n1"))))
    ∷ SetReleased (codes "v1")
    ∷ [])

-- f2 is the child's own with another node; f3 was dropped in it, and f4 of another variant's rows is not its own
abbrev child : Stored
child = record { overlay = true; own = insert empty (codes "s1", codes "f2") (bare (codes "n2")) }

abbrev gone : List DroppedRow
gone = record { variant = codes "v2"; supplier = codes "s1"; frame = codes "f3" } ∷ record { variant = codes "v3"; supplier = codes "s1"; frame = codes "f1" } ∷ []

abbrev shows : Stored → List ℕ → Option Frame
shows stored f = seen gone parents.variants (codes "v2") (Some (codes "v1")) stored (codes "s1", f)

pub the_view :
    shows child (codes "f1") ∷ shows child (codes "f2") ∷ shows child (codes "f3") ∷ shows child (codes "f4") ∷ []
    ≡ Some (bare (codes "n1")) ∷ Some (bare (codes "n2")) ∷ None ∷ None ∷ []
unfolding rows_of_a_small_register parents
the_view = refl

-- without the overlay its own frames are all
pub no_view :
    shows (record child { overlay = false }) (codes "f1") ∷ shows (record child { overlay = false }) (codes "f2") ∷ [] ≡ None ∷ Some (bare (codes "n2")) ∷ []
unfolding rows_of_a_small_register parents
no_view = refl
