-- The rows of a variant of a small register, and in what two variants differ: for each supplier its own rows, for the integrator those of all.
use Rattle.std.proofs.Common.{◌≡◌, List, [], ◌∷◌, false, true, Some, refl, codes}
use Rattle.fr_base.specs.Tables.{each}
use Rattle.fr_base.specs.Differences.{differ, keys_of_both, between, placed_frames, starts, all_placements, all_signals, rows_of_frames, seen_rows, grants_differ, frames_differ, differences}
use Rattle.fr_base.specs.declared.answer.Answer.TheVariants.{Done, Refused, Report as Told}
use Rattle.fr_base.specs.declared.answer.ReportRows.TheVariants as rows
use Rattle.fr_base.specs.declared.answer.DifferenceRow.{DifferenceRow}
use Rattle.fr_base.specs.declared.answer.SeenRow.{SeenRow}
use Rattle.fr_base.specs.declared.answer.SeenRow.TheVariants as row
use Rattle.fr_base.specs.declared.channel.Channel.TheVariants as ch
use Rattle.fr_base.specs.declared.channel.Channels.TheVariants as chs
use Rattle.fr_base.specs.declared.refusal.Refusal.TheVariants.{BadName, NoVariant}
use Rattle.fr_base.specs.declared.request.Request.{Request}
use Rattle.fr_base.specs.declared.beginning.Beginning.TheVariants.{Empty, From, Flat}
use Rattle.fr_base.specs.declared.request.Request.TheVariants.{OpenVariant, Release, AddNode, Grant, Revoke, AddFrame, DropFrame, Place, Unplace, AddSignal, DropSignal, Query}
use Rattle.fr_base.specs.declared.query.Query.TheVariants.{Variant as OfVariant, Difference}
use Rattle.fr_base.specs.declared.report.Report.TheVariants.{Rows}
use Rattle.fr_base.specs.declared.signal.Order.TheVariants as order
use Rattle.fr_base.proofs.WorkedRows.{answers, a_small_register, integrator, s1, s2}

-- the rows of all kinds of a frame with one placement
abbrev its_rows : List SeenRow
its_rows =
    row.Grant (record { slot = 1; channel = ch.A; node = codes "n1"; supplier = codes "s1" })
    ∷ row.Frame (record { frame = codes "f1"; node = codes "n1"; supplier = codes "s1" })
    ∷ row.Placement (codes "f1") (record { slot = 1; channels = chs.A; cycles = record { count = 64; base = 0; repetition = 64 } }) (codes "s1")
    ∷ row.Gap (record { frame = codes "f1"; supplier = codes "s1"; gap = Some 6400 })
    ∷ []

pub what_a_variant_has :
    answers (
    integrator (OpenVariant (codes "v1") Empty)
    ∷ integrator (AddNode (codes "s1") (codes "n1"))
    ∷ integrator (Grant (codes "v1") 1 (codes "A") (codes "s1") (codes "n1"))
    ∷ s1 (AddFrame (codes "v1") (codes "f1") (codes "n1"))
    ∷ s1 (Place (codes "v1") (codes "f1") 1 (codes "A") 0 64)
    ∷ s1 (Query (OfVariant (codes "v1") Rows))
    ∷ integrator (Query (OfVariant (codes "v1") Rows))
    ∷ s2 (Query (OfVariant (codes "v1") Rows))
    ∷ s1 (Query (OfVariant (codes "v9") Rows))
    ∷ s1 (Query (OfVariant (codes "1x") Rows))
    ∷ [])
    ≡ Done ∷ Done ∷ Done ∷ Done ∷ Done
    ∷ Told false (rows.Seen its_rows)
    ∷ Told true (rows.Seen its_rows)
    ∷ Told false (rows.Seen [])
    ∷ Refused NoVariant
    ∷ Refused BadName
    ∷ []
unfolding a_small_register each all_placements all_signals placed_frames starts rows_of_frames seen_rows
what_a_variant_has = refl

abbrev asked : Request
asked = Query (Difference (codes "v2") (codes "v1"))

-- `s1` holds a lane in the one variant, and `s2` in the other
abbrev its_lane : DifferenceRow
its_lane = record { is_new = false; row = row.Grant (record { slot = 2; channel = ch.A; node = codes "n1"; supplier = codes "s1" }) }

abbrev others_lane : DifferenceRow
others_lane = record { is_new = true; row = row.Grant (record { slot = 2; channel = ch.A; node = codes "m1"; supplier = codes "s2" }) }

-- the rows of the frames of `s1`
abbrev its_frames : List DifferenceRow
its_frames =
    record { is_new = false; row = row.Frame (record { frame = codes "g"; node = codes "n1"; supplier = codes "s1" }) }
    ∷ record { is_new = true; row = row.Frame (record { frame = codes "g"; node = codes "n2"; supplier = codes "s1" }) }
    ∷ record { is_new = false; row = row.Placement (codes "f") (record { slot = 2; channels = chs.A; cycles = record { count = 64; base = 2; repetition = 4 } }) (codes "s1") }
    ∷ record { is_new = false; row = row.Signal (record { frame = codes "f"; signal = record { name = codes "y"; start = 3; length = 8; order = order.Big }; supplier = codes "s1" }) }
    ∷ record { is_new = true; row = row.Signal (record { frame = codes "f"; signal = record { name = codes "x"; start = 3; length = 8; order = order.Big }; supplier = codes "s1" }) }
    ∷ record { is_new = false; row = row.Gap (record { frame = codes "f"; supplier = codes "s1"; gap = Some 210 }) }
    ∷ record { is_new = true; row = row.Gap (record { frame = codes "f"; supplier = codes "s1"; gap = Some 400 }) }
    ∷ []

-- a lane that went from one supplier to another, a frame of another node, a placement less, and another signal; nothing where the one was just opened flat from the other
pub what_differs :
    answers (
    integrator (OpenVariant (codes "v1") Empty)
    ∷ integrator (AddNode (codes "s1") (codes "n1"))
    ∷ integrator (AddNode (codes "s1") (codes "n2"))
    ∷ integrator (AddNode (codes "s2") (codes "m1"))
    ∷ integrator (Grant (codes "v1") 1 (codes "A") (codes "s1") (codes "n1"))
    ∷ integrator (Grant (codes "v1") 2 (codes "A") (codes "s1") (codes "n1"))
    ∷ s1 (AddFrame (codes "v1") (codes "g") (codes "n1"))
    ∷ s1 (AddFrame (codes "v1") (codes "f") (codes "n1"))
    ∷ s1 (Place (codes "v1") (codes "f") 2 (codes "A") 2 4)
    ∷ s1 (Place (codes "v1") (codes "f") 1 (codes "A") 0 4)
    ∷ s1 (AddSignal (codes "v1") (codes "f") (codes "y") 3 8 (codes "big"))
    ∷ integrator (Release (codes "v1"))
    ∷ integrator (OpenVariant (codes "v2") (From (codes "v1")))
    ∷ integrator asked
    ∷ s1 (Unplace (codes "v2") (codes "f") 2 (codes "A") 2 4)
    ∷ integrator (Revoke (codes "v2") 2 (codes "A") (codes "s1"))
    ∷ integrator (Grant (codes "v2") 2 (codes "A") (codes "s2") (codes "m1"))
    ∷ s1 (DropFrame (codes "v2") (codes "g"))
    ∷ s1 (AddFrame (codes "v2") (codes "g") (codes "n2"))
    ∷ s1 (DropSignal (codes "v2") (codes "f") (codes "y"))
    ∷ s1 (AddSignal (codes "v2") (codes "f") (codes "x") 3 8 (codes "big"))
    ∷ integrator asked
    ∷ s1 asked
    ∷ s2 asked
    ∷ s1 (Query (Difference (codes "v2") (codes "v2")))
    ∷ s2 (Query (Difference (codes "v1") (codes "v2")))
    ∷ s1 (Query (Difference (codes "v1") (codes "v9")))
    ∷ s1 (Query (Difference (codes "v9") (codes "v1")))
    ∷ s1 (Query (Difference (codes "1x") (codes "v9")))
    ∷ integrator (OpenVariant (codes "w") (Flat (codes "v1")))
    ∷ integrator (Query (Difference (codes "w") (codes "v1")))
    ∷ [])
    ≡ Done ∷ Done ∷ Done ∷ Done ∷ Done ∷ Done ∷ Done ∷ Done ∷ Done ∷ Done ∷ Done ∷ Done ∷ Done
    ∷ Told true (rows.Difference [])
    ∷ Done ∷ Done ∷ Done ∷ Done ∷ Done ∷ Done ∷ Done
    ∷ Told true (rows.Difference (its_lane ∷ others_lane ∷ its_frames))
    ∷ Told false (rows.Difference (its_lane ∷ its_frames))
    ∷ Told false (rows.Difference (others_lane ∷ []))
    ∷ Told false (rows.Difference [])
    ∷ Told false (rows.Difference (record others_lane { is_new = false } ∷ []))
    ∷ Refused NoVariant
    ∷ Refused NoVariant
    ∷ Refused BadName
    ∷ Done
    ∷ Told true (rows.Difference [])
    ∷ []
unfolding a_small_register each differ keys_of_both between placed_frames starts all_placements all_signals grants_differ frames_differ differences
what_differs = refl
