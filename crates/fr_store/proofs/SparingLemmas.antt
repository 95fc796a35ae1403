-- What a statement leaves of the rows of frames, and statements after one another.
use Rattle.std.proofs.Common.{◌∙◌, List, refl, sym, subst}
use Rattle.sqlite.specs.State.{State}
use Rattle.fr_tables.specs.Changes.{Changes, tables_of}
use Rattle.fr_tables.specs.Rows.{GrantRow, VariantRow}
use Rattle.fr_tables.specs.Statements.{with_grants, with_variant}
use Rattle.fr_tables.specs.Tables.{Tables}
use Rattle.fr_store.specs.Sparing.{HasSameFrames}

pub same_frames_then : (a b c : Tables) → HasSameFrames a b → HasSameFrames b c → HasSameFrames a c
same_frames_then a b c first second = record {
  frames = second.frames ∙ first.frames;
  placements = second.placements ∙ first.placements;
  signals = second.signals ∙ first.signals;
  dropped = second.dropped ∙ first.dropped;
}

-- a change of other tables
pub frames_spared : (change : Tables → Tables) (old new : State) → ((t : Tables) → HasSameFrames t (change t)) → Changes change old new → HasSameFrames (tables_of old) (tables_of new)
frames_spared change old new each h = subst (HasSameFrames (tables_of old)) (sym h.now) (each (tables_of old))

-- a variant that is opened, with its grants
pub opened_spares : (row : VariantRow) (grants : List GrantRow) (old mid new : State) → Changes (with_variant row) old mid → Changes (with_grants grants) mid new → HasSameFrames (tables_of old) (tables_of new)
opened_spares row grants old mid new first second =
    same_frames_then (tables_of old) (tables_of mid) (tables_of new)
    (frames_spared (with_variant row) old mid (λ t. record { frames = refl; placements = refl; signals = refl; dropped = refl }) first)
    (frames_spared (with_grants grants) mid new (λ t. record { frames = refl; placements = refl; signals = refl; dropped = refl }) second)
