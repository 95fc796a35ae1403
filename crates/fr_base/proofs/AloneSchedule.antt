-- In a sound variant a supplier's schedule is what is the supplier's of the schedule of all.
use Rattle.std.proofs.Common.{◌≡◌, true, false, cond, List, [], ◌∷◌, ◌++◌, map, filter, flat_map, Some, None, is_some, IsTrue, refl, sym, ap, ◌∙◌, inl, inr, true≢false}
use Rattle.std.specs.Prelude.{⊤, T}
use Rattle.std.specs.FinMap.Entries.{find, is_sorted}
use Rattle.std.proofs.lemmas.Bool.{cases_Bool}
use Rattle.fr_base.specs.TableRows.{second}
use Rattle.fr_base.specs.Tables.{Table, get, contains, only}
use Rattle.fr_base.specs.Keys.{owned, placement_order}
use Rattle.fr_base.specs.Cells.{Cell, has_cell}
use Rattle.fr_base.specs.Schedule.{fill}
use Rattle.fr_base.specs.Cluster.{Cluster}
use Rattle.fr_base.specs.Names.{same_text}
use Rattle.fr_base.specs.Book.{Frame, Variant, Book, Sender, is_of, own, placements_of, schedule_of}
use Rattle.fr_base.specs.Sound.{IsSoundVariant, IsSound}
use Rattle.fr_base.specs.Alone.{own_variant, own_sender}
use Rattle.fr_base.specs.declared.name.Name.{Name}
use Rattle.fr_base.specs.declared.params.Params.{Params}
use Rattle.fr_base.specs.declared.placement.Placement.{Placement}
use Rattle.fr_base.proofs.AloneCells.{entries_of, Lacks, later, further, found_first, placement_first, none_of}

module _ (s : Name) (c : Cell) where
  -- no frame of the supplier has the cell
  pub own_lack : (rows : List ((Name × Name) × Frame)) → T (is_sorted owned.compare rows) → ((k : Name × Name) (f : Frame) → find owned.compare k rows ≡ Some f → is_of s k ≡ true → Lacks c f) →
      fill (flat_map entries_of (filter (λ e. is_of s e.0) rows)) c ≡ None
  unfolding fill get
  own_lack [] sorted lacks = refl
  own_lack (row ∷ rows) sorted lacks =
      let rest = own_lack rows (second _ _ sorted) (λ k f there. lacks k f (later rows row sorted k f there)) in
      elim (cases_Bool (is_of s row.0)) [
        | inl own ↦ rw own (none_of _ row.1.placements.rows c _ (lacks row.0 row.1 (found_first row rows) own) ∙ rest)
        | inr other ↦ rw other rest
      ]

  fill_own : (o : Sender) → same_text o.supplier s ≡ true → (ps : List (Placement × ⊤)) (mine all : List (Sender × Placement)) → fill mine c ≡ own_sender s (fill all c) →
      fill (map (λ q. (o, q.0)) ps ++ mine) c ≡ own_sender s (fill (map (λ q. (o, q.0)) ps ++ all) c)
  unfolding fill
  fill_own o own [] mine all e = e
  fill_own o own (p ∷ ps) mine all e = elim (cases_Bool (has_cell p.0 c)) [
    | inl has ↦ rw has (sym (ap (λ b. cond b (Some o) None) own))
    | inr free ↦ rw free (fill_own o own ps mine all e)
  ]

  fill_other : (o : Sender) → same_text o.supplier s ≡ false → (ps : List (Placement × ⊤)) (mine all : List (Sender × Placement)) → fill mine c ≡ own_sender s (fill all c) →
      ((q : Placement) → is_some (find placement_order.compare q ps) ≡ true → has_cell q c ≡ true → fill mine c ≡ None) → fill mine c ≡ own_sender s (fill (map (λ q. (o, q.0)) ps ++ all) c)
  unfolding fill
  fill_other o other [] mine all e none = e
  fill_other o other (p ∷ ps) mine all e none = elim (cases_Bool (has_cell p.0 c)) [
    | inl has ↦ rw has (none p.0 (placement_first p ps) has ∙ sym (ap (λ b. cond b (Some o) None) other))
    | inr free ↦ rw free (fill_other o other ps mine all e (λ q there. none q (further ps p q there)))
  ]

  -- no frame of the supplier has a cell that a frame of another has
  abbrev Apart : List ((Name × Name) × Frame) → Type 0
  Apart rows = (k l : Name × Name) (f g : Frame) (q : Placement) → find owned.compare k rows ≡ Some f → find owned.compare l rows ≡ Some g → is_of s k ≡ false → is_of s l ≡ true →
      IsTrue (contains f.placements q) → has_cell q c ≡ true → Lacks c g

  own_fill : (rows : List ((Name × Name) × Frame)) → T (is_sorted owned.compare rows) → Apart rows → fill (flat_map entries_of (filter (λ e. is_of s e.0) rows)) c ≡ own_sender s (fill (flat_map entries_of rows) c)
  unfolding get fill
  own_fill [] sorted apart = refl
  own_fill (row ∷ rows) sorted apart =
      let rest = own_fill rows (second _ _ sorted) (λ k l f g q at_k at_l. apart k l f g q (later rows row sorted k f at_k) (later rows row sorted l g at_l)) in
      elim (cases_Bool (is_of s row.0)) [
        | inl own ↦ rw own (fill_own _ own row.1.placements.rows _ _ rest)
        | inr other ↦ rw other (fill_other _ other row.1.placements.rows _ _ rest (λ q there has.
            own_lack rows (second _ _ sorted) (λ l g at own. apart row.0 l row.1 g q (found_first row rows) (later rows row sorted l g at) other own there has)))
      ]

  -- in each cell the supplier's schedule has what the schedule of all has there of the supplier's
  pub own_schedule : (p : Params) (nodes : Table owned ⊤) (v : Variant) → IsSoundVariant p nodes v → schedule_of (own s v.frames) c ≡ own_sender s (schedule_of v.frames c)
  unfolding schedule_of placements_of only get
  own_schedule p nodes v sound = own_fill v.frames.rows v.frames.sorted (λ k l f g q at_k at_l other own in_f has r in_g. elim (cases_Bool (has_cell r c)) [
    | inl clash ↦
        let same = (sound.apart k l f g q r c (record { frame = at_k; placement = in_f; has = has }) (record { frame = at_l; placement = in_g; has = clash })).0 in
        absurd (true≢false (sym own ∙ ap (is_of s) (sym same) ∙ other))
    | inr free ↦ free
  ])

pub schedule-alone : (c : Cluster) (b : Book) (v : Name) (x : Variant) (s : Name) (cell : Cell) → IsSound c b → get b.variants v ≡ Some x →
    schedule_of (own_variant s x).frames cell ≡ own_sender s (schedule_of x.frames cell)
unfolding own_variant
schedule-alone c b v x s cell sound there = own_schedule s cell c.params b.nodes x (sound.variants v x there).1
