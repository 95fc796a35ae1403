-- A frame added to a sound variant, a placement to a frame whose cells are free, a placement taken back, and other signals.
use Rattle.std.proofs.Common.{◌≡◌, ◌<◌, ◌≤◌, List, [], All, Some, None, IsTrue, sym, subst, inl, inr, arith}
use Rattle.std.specs.Prelude.{⊤}
use Rattle.fr_base.specs.Tables.{Table, empty, get, contains, len, insert, only, remove}
use Rattle.fr_base.specs.declared.limits.TheConstants.{MAX_FRAMES, MAX_PLACEMENTS}
use Rattle.fr_base.specs.Keys.{owned, placement_order}
use Rattle.fr_base.specs.Cells.{cells_of}
use Rattle.fr_base.specs.Schedule.{first_taken}
use Rattle.fr_base.specs.Names.{is_name}
use Rattle.fr_base.specs.Book.{Frame, Variant, granted, is_of, schedule_of}
use Rattle.fr_base.specs.Signals.{SignalData}
use Rattle.fr_base.specs.Layouts.{IsLayout}
use Rattle.fr_base.specs.Sound.{FitsCluster, IsSoundFrame, IsSoundVariant}
use Rattle.fr_base.specs.declared.name.Name.{Name}
use Rattle.fr_base.specs.declared.params.Params.{Params}
use Rattle.fr_base.specs.declared.placement.Placement.{Placement}
use Rattle.fr_base.proofs.LayoutLaws.{empty-layout}
use Rattle.fr_base.proofs.SoundTables.{some_there, contains-cases, len-within, contains-fewer, len-remove}
use Rattle.fr_base.proofs.SoundApart.{new_frame-apart, placed-apart}
use Rattle.fr_base.proofs.SoundRows.{variant-apart, more_frames-sound, lesser_frame-sound}

-- ---- a frame without placements is added

new_frame : Name → Frame
new_frame n = record { node = n; placements = empty; signals = [] }

module _ (p : Params) (nodes : Table owned ⊤) (v : Variant) (sound : IsSoundVariant p nodes v) (k : Name × Name) (n : Name) where
  new_frame-sound : p.payload_words ≤ 127 → IsTrue (is_name k.1) → IsTrue (contains nodes (k.0, n)) → IsSoundFrame p nodes v.grants k (new_frame n)
  unfolding new_frame empty get len
  new_frame-sound few named has = record {
    name = named;
    node = has;
    fits = λ q h. cc;
    in_grants = λ q h. cc;
    limit = omega arith;
    layout = empty-layout p.payload_words few;
    signal_names = λ k d h. absurd (omega arith);
  }

  pub added_variant-sound : p.payload_words ≤ 127 → IsTrue (is_name k.1) → IsTrue (contains nodes (k.0, n)) → len (only (λ j _. is_of k.0 j) v.frames) < MAX_FRAMES → IsSoundVariant p nodes (record v { frames = insert v.frames k (record { node = n; placements = empty; signals = [] }) })
  unfolding new_frame
  added_variant-sound few named has room = more_frames-sound p nodes v sound k (new_frame n) (new_frame-sound few named has) (new_frame-apart v.frames k n) (inr room)

-- ---- a frame gets a placement, in cells of which none is filled

module _ (p : Params) (nodes : Table owned ⊤) (v : Variant) (sound : IsSoundVariant p nodes v) (k : Name × Name) (f : Frame) (found : get v.frames k ≡ Some f) (q : Placement) where
  placed : Frame
  placed = record f { placements = insert f.placements q tt }

  placed-sound : FitsCluster p q → IsTrue (granted v.grants k.0 f.node q) → len f.placements < MAX_PLACEMENTS → IsSoundFrame p nodes v.grants k placed
  unfolding placed
  placed-sound fits holds few =
      let old = sound.frames k f found in
      record {
        name = old.name;
        node = old.node;
        fits = λ r h. elim (contains-cases f.placements q tt r h) [ inl e ↦ subst (FitsCluster p) (sym e) fits | inr there ↦ old.fits r there ];
        in_grants = λ r h. elim (contains-cases f.placements q tt r h) [ inl e ↦ subst (λ x. IsTrue (granted v.grants k.0 f.node x)) (sym e) holds | inr there ↦ old.in_grants r there ];
        limit = len-within f.placements q tt MAX_PLACEMENTS old.limit (inr few);
        layout = old.layout;
        signal_names = old.signal_names;
      }

  pub placed_variant-sound : FitsCluster p q → IsTrue (granted v.grants k.0 f.node q) → len f.placements < MAX_PLACEMENTS → first_taken (schedule_of v.frames) (cells_of q) ≡ None → IsSoundVariant p nodes (record v { frames = insert v.frames k (record f { placements = insert f.placements q tt }) })
  unfolding placed
  placed_variant-sound fits holds few free = more_frames-sound p nodes v sound k placed (placed-sound fits holds few) (placed-apart v.frames (variant-apart p nodes v sound) k f found q free) (inl (some_there _ f found))

-- ---- placements of a frame are taken back, or its signals are others

module _ (p : Params) (nodes : Table owned ⊤) (v : Variant) (sound : IsSoundVariant p nodes v) (k : Name × Name) (f : Frame) (found : get v.frames k ≡ Some f) where
  pub unplaced_variant-sound : (q : Placement) → IsSoundVariant p nodes (record v { frames = insert v.frames k (record f { placements = remove f.placements q }) })
  unplaced_variant-sound q =
      let old = sound.frames k f found in
      let had = contains-fewer placement_order f.placements q in
      lesser_frame-sound p nodes v sound k f (record f { placements = remove f.placements q }) found had (record {
        name = old.name;
        node = old.node;
        fits = λ r h. old.fits r (had r h);
        in_grants = λ r h. old.in_grants r (had r h);
        limit = len-remove placement_order f.placements q MAX_PLACEMENTS old.limit;
        layout = old.layout;
        signal_names = old.signal_names;
      })

  -- all of its placements are taken back
  pub bared_variant-sound : IsSoundVariant p nodes (record v { frames = insert v.frames k (record f { placements = empty }) })
  unfolding empty get len
  bared_variant-sound =
      let old = sound.frames k f found in
      lesser_frame-sound p nodes v sound k f (record f { placements = empty }) found (λ q h. cc) (record {
        name = old.name;
        node = old.node;
        fits = λ q h. cc;
        in_grants = λ q h. cc;
        limit = omega arith;
        layout = old.layout;
        signal_names = old.signal_names;
      })

  pub signals_variant-sound : (signals : List SignalData) → IsLayout (record { words = p.payload_words; signals = signals }) → All (λ s. IsTrue (is_name s.name)) signals → IsSoundVariant p nodes (record v { frames = insert v.frames k (record f { signals = signals }) })
  signals_variant-sound signals fine named =
      let old = sound.frames k f found in
      lesser_frame-sound p nodes v sound k f (record f { signals = signals }) found (λ q h. h) (record {
        name = old.name;
        node = old.node;
        fits = old.fits;
        in_grants = old.in_grants;
        limit = old.limit;
        layout = fine;
        signal_names = named;
      })

  -- all of its signals are dropped
  pub unsignalled_variant-sound : p.payload_words ≤ 127 → IsSoundVariant p nodes (record v { frames = insert v.frames k (record f { signals = [] }) })
  unsignalled_variant-sound few = signals_variant-sound [] (empty-layout p.payload_words few) (λ i d h. absurd (omega arith))
