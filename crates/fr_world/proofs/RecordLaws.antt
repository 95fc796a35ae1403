-- The records of a frame on a page: those of its set of placements, in order.
use Rattle.std.proofs.Common.{◌≡◌, ◌∙◌, ◌++◌, List, [], map, length, sym, ap, append-nil}
use Rattle.std.proofs.lemmas.List.{length-map}
use Rattle.std.proofs.lemmas.Simd.{map-map}
use Rattle.std.specs.Prelude.{⊤}
use Rattle.std.specs.List.Sorted.{IsStrictlySortedBy}
use Rattle.fr_base.specs.Exports.{placement_records}
use Rattle.fr_base.specs.declared.name.Name.{Name}
use Rattle.fr_base.specs.declared.placement.Placement.{Placement}
use Rattle.fr_base.specs.declared.answer.PlacementRecord.{PlacementRecord}
use Rattle.fr_world.specs.Pages.{FrameData, frame_of}
use Rattle.fr_world.proofs.KeyLaws.{placement_cmp}
use Rattle.fr_world.proofs.TriggeringLaws.{placements_in-keys}

-- the record of a placement
abbrev pub record_of : Name → Name → Name → Placement → PlacementRecord
record_of s n node q = record { frame = n; node = node; placement = q; supplier = s }

module _ (s n : Name) (f : FrameData) (ordered : IsStrictlySortedBy placement_cmp f.placements) where
  pub records-keys : placement_records ((s, n), frame_of f) ≡ map (record_of s n f.node) f.placements
  records-keys = sym (map-map (record_of s n f.node) (λ (q : Placement × ⊤). q.0) (frame_of f).placements.rows) ∙ ap (map (record_of s n f.node)) (placements_in-keys f ordered)

  pub records-count : length f.placements ≡ length (placement_records ((s, n), frame_of f))
  records-count = sym (ap length records-keys ∙ length-map f.placements (record_of s n f.node))

  -- all of them were appended
  pub records-all : (left : List Placement) (old new : List PlacementRecord) → left ≡ [] → new ++ map (record_of s n f.node) left ≡ old ++ map (record_of s n f.node) f.placements →
      new ≡ old ++ placement_records ((s, n), frame_of f)
  records-all left old new none h =
      sym (append-nil new) ∙ ap (λ rest. new ++ map (record_of s n f.node) rest) (sym none) ∙ h ∙ ap (λ rest. old ++ rest) (sym records-keys)
