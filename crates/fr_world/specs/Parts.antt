-- Part: which frames a part of an export takes, and which of their records. The frames come one
-- after another, with their records.
use Rattle.std.specs.Prelude.{ℕ, zero, suc, ◌-◌, Bool, true, false, nat_le, List, [], if◌then◌else◌}
use Rattle.fr_base.specs.Exports.{fitting, part_of}
use Rattle.fr_base.specs.declared.limits.TheConstants.{MAX_ROWS}
use Rattle.fr_world.specs.declared.part.Part.{Part}
use Rattle.fr_world.specs.declared.part.Part.TheVariants.{Filling, Ended}

-- the part of this number, before the first frame
unfoldable pub begun : ℕ → Part
begun number = Filling number MAX_ROWS

-- how far the frames have come after one more frame with so many records, for which the part before
-- had no room
unfoldable pub next_part : ℕ → ℕ → Part
next_part zero count = Ended
next_part (suc ahead) count = if nat_le count MAX_ROWS then Filling ahead (MAX_ROWS - count) else Ended

-- how far the frames have come after one more frame with so many records
unfoldable pub after : Part → ℕ → Part
after Ended count = Ended
after (Filling ahead room) count = if nat_le count room then Filling ahead (room - count) else next_part ahead count

-- whether the frames fill the part now, so that the frame that came last is in it
unfoldable pub has_begun : Part → Bool
has_begun (Filling zero room) = true
has_begun (Filling (suc ahead) room) = false
has_begun Ended = false

-- the records that the part has of the frames that are still to come
unfoldable pub in_part : {R : Type 0} → Part → List (List R) → List R
in_part Ended frames = []
in_part (Filling zero room) frames = (fitting room frames).0
in_part (Filling (suc ahead) room) frames = part_of ahead (fitting room frames).1
