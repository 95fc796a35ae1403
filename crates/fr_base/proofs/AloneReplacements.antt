-- A supplier's replacement, over all rows and over its own; and another supplier's.
use Rattle.std.proofs.Common.{Bool, ◌≡◌, ℕ, false, not, List, [], ◌∷◌, length, map, Option, Some, None, Result, Ok, Err, IfOk, refl, sym, ap, ◌∙◌, nat_lt}
use Rattle.std.specs.List.{AllByRecursion}
use Rattle.fr_base.specs.Refusing.{◌>>=◌}
use Rattle.fr_base.specs.Tables.{Table, get, contains, settle}
use Rattle.fr_base.specs.Keys.{owned}
use Rattle.fr_base.specs.Names.{same_text}
use Rattle.fr_base.specs.Cluster.{Cluster}
use Rattle.fr_base.specs.Book.{Frame, Variant, Book, is_of, own}
use Rattle.fr_base.specs.ImportRows.{header_of_body, rows_of_body}
use Rattle.fr_base.specs.Step.{Outcome, RefusedAt, frame_at, with_frame, at_line, with_variant, kind_of_row, freed, frame_of_row, free_row, free_rows, cleared, clear_frames, frame_names, clear_all, whole_of, with_freed, replace_row, replace_rows, replaced, replace}
use Rattle.fr_base.specs.Sound.{IsSound}
use Rattle.fr_base.specs.Alone.{own_variant, rows_of}
use Rattle.fr_base.specs.declared.limits.TheConstants.{MAX_IMPORT_BYTES}
use Rattle.fr_base.specs.declared.import.Header.{Header}
use Rattle.fr_base.specs.declared.import.Row.{Row}
use Rattle.fr_base.specs.declared.import.Row.TheVariants as row
use Rattle.fr_base.specs.declared.import.RowRead.{RowRead}
use Rattle.fr_base.specs.declared.name.Name.{Name}
use Rattle.fr_base.specs.declared.params.Params.{Params}
use Rattle.fr_base.specs.declared.refusal.Refusal.{Refusal}
use Rattle.fr_base.specs.declared.refusal.Refusal.TheVariants.{NoVariant, Released, NoNode, Limit}
use Rattle.fr_base.specs.declared.delivery.Delivery.{Delivery}
use Rattle.fr_base.proofs.SoundRefusing.{gives_or, gives_bind, gives_bind_last, gives_each, gives_when, gives_unless}
use Rattle.fr_base.proofs.ImportForms.{IsFormedRow, IsFormedRead, body-form}
use Rattle.fr_base.proofs.SoundImports.{at_line-gives}
use Rattle.fr_base.proofs.SoundReplacements.{with_freed-sound, replace_read-sound, replaced-gives}
use Rattle.fr_base.proofs.AloneCells.{same_text-itself}
use Rattle.fr_base.proofs.AloneTables.{get-own, only-only, only-settle, only-settle_other}
use Rattle.fr_base.proofs.AloneRefusing.{map_ok, alike_or, alike_when, alike_map}
use Rattle.fr_base.proofs.AloneRows.{rows_of-variant, rows_of-node, rows_of-frame, rows_of-with, rows_of-still}
use Rattle.fr_base.proofs.AloneImports.{of_ok, Like, framed-own, row-own, line-own, framed-other, row-other}
use Rattle.fr_base.proofs.AloneOutcomes.{seen}

-- ---- frames that are freed

module _ (s : Name) where
  free_row-own : (r : Result Row Refusal) (frames : Table owned Frame) → own s (free_row s r frames) ≡ free_row s r (own s frames)
  unfolding free_row
  free_row-own (Ok r) frames =
      only-settle owned (is_of s) frames (s, frame_of_row r) (freed (kind_of_row r) (get frames (s, frame_of_row r))) (same_text-itself s)
      ∙ ap (λ there. settle (own s frames) (s, frame_of_row r) (freed (kind_of_row r) there)) (sym (get-own owned (is_of s) frames (s, frame_of_row r) (same_text-itself s)))
  free_row-own (Err e) frames = refl

  free_rows-own : (reads : List RowRead) (frames : Table owned Frame) → own s (free_rows s reads frames) ≡ free_rows s reads (own s frames)
  unfolding free_rows
  free_rows-own [] frames = refl
  free_rows-own (read ∷ rest) frames = free_rows-own rest (free_row s read.row frames) ∙ ap (free_rows s rest) (free_row-own read.row frames)

  clear_frames-own : (kind : Header) (reads : List RowRead) (names : List Name) (frames : Table owned Frame) → own s (clear_frames s kind reads names frames) ≡ clear_frames s kind reads names (own s frames)
  unfolding clear_frames
  clear_frames-own kind reads [] frames = refl
  clear_frames-own kind reads (f ∷ rest) frames =
      clear_frames-own kind reads rest (settle frames (s, f) (cleared kind reads f (get frames (s, f))))
      ∙ ap (clear_frames s kind reads rest) (
      only-settle owned (is_of s) frames (s, f) (cleared kind reads f (get frames (s, f))) (same_text-itself s)
      ∙ ap (λ there. settle (own s frames) (s, f) (cleared kind reads f there)) (sym (get-own owned (is_of s) frames (s, f) (same_text-itself s))))

  -- the names of the supplier's frames are told by its own
  clear_all-own : (whole : Option Header) (reads : List RowRead) (frames : Table owned Frame) → own s (clear_all s whole reads frames) ≡ clear_all s whole reads (own s frames)
  unfolding clear_all
  clear_all-own None reads frames = refl
  clear_all-own (Some kind) reads frames =
      clear_frames-own kind reads (frame_names s frames) frames
      ∙ ap (λ (mine : Table owned Frame). clear_frames s kind reads (map (λ row. row.0.1) mine.rows) (own s frames)) (sym (only-only owned (λ k _. is_of s k) frames))

  freed_variant-own : (whole : Option Header) (reads : List RowRead) (x : Variant) →
      own_variant s (record x { frames = free_rows s reads (clear_all s whole reads x.frames) }) ≡ record (own_variant s x) { frames = free_rows s reads (clear_all s whole reads (own_variant s x).frames) }
  unfolding own_variant
  freed_variant-own whole reads x = λ i. record (own_variant s x) { frames = (free_rows-own reads (clear_all s whole reads x.frames) ∙ ap (free_rows s reads) (clear_all-own whole reads x.frames)) i }

  pub with_freed-own : (b : Book) (v : Name) (x : Variant) (whole : Option Header) (reads : List RowRead) → rows_of s (with_freed b s v x whole reads) ≡ with_freed (rows_of s b) s v (own_variant s x) whole reads
  with_freed-own b v x whole reads = rows_of-with s b v _ ∙ ap (with_variant (rows_of s b) v) (freed_variant-own whole reads x)

-- ---- the supplier's own rows

module _ (c : Cluster) (s v : Name) where
  pub replace_row-own : (b : Book) → IsSound c b → (r : Row) → IsFormedRow c.params r → Like c s v (replace_row c.params b s v r) (replace_row c.params (rows_of s b) s v r)
  unfolding replace_row
  replace_row-own b sound (row.AddFrame f n) form =
      alike_when (Like c s v) (λ e. refl) NoNode (not (contains b.nodes (s, n))) _ (ap not (rows_of-node s b n)) _ _ (λ _.
      framed-own c s v b sound f n (frame_at b s v f) ∙ sym (ap (with_frame c.params (rows_of s b) s v f n) (rows_of-frame s b v f)))
  replace_row-own b sound (row.Place f n q) form = row-own c s v b sound (row.Place f n q) form
  replace_row-own b sound (row.AddSignal f signal) form = row-own c s v b sound (row.AddSignal f signal) form

  replace_read-own : (b : Book) → IsSound c b → (r : Result Row Refusal) → IfOk r (IsFormedRow c.params) → Like c s v (r >>= replace_row c.params b s v) (r >>= replace_row c.params (rows_of s b) s v)
  unfolding ◌>>=◌
  replace_read-own b sound (Ok r) form = replace_row-own b sound r form
  replace_read-own b sound (Err e) form = refl

  replace_rows-own : (reads : List RowRead) (b : Book) → IsSound c b → AllByRecursion (IsFormedRead c.params) reads → Like c s v (replace_rows c.params b s v reads) (replace_rows c.params (rows_of s b) s v reads)
  unfolding replace_rows
  replace_rows-own [] b sound forms = refl
  replace_rows-own (read ∷ rest) b sound forms =
      alike_map (Like c s v) (λ e. refl) (rows_of s) (at_line read.line (read.row >>= replace_row c.params b s v)) _
      (ap (at_line read.line) (sym (replace_read-own b sound read.row forms.0)) ∙ sym (line-own c s v read.line (read.row >>= replace_row c.params b s v))) _ _ (λ d found.
      replace_rows-own rest d (of_ok (IsSound c) _ d found (replace_read-sound c s v b sound read.line read.row forms.0)) forms.1)

-- ---- the supplier's own replacement

module _ (r : Delivery) (all : Bool) where
  replaced-own : (b : Book) (count : ℕ) (u : Result Book RefusedAt) → seen r.supplier (replaced b count u) ≡ replaced (rows_of r.supplier b) count (map_ok (rows_of r.supplier) u)
  unfolding replaced seen
  replaced-own b count (Ok d) = refl
  replaced-own b count (Err fault) = refl

  abbrev LikeOutcome : Result Outcome Refusal → Result Outcome Refusal → Type 0
  LikeOutcome u w = map_ok (seen r.supplier) u ≡ w

  -- in a sound book it is refused as alone, and does the same to the supplier's rows
  pub replace-own : (c : Cluster) (b : Book) → IsSound c b → LikeOutcome (replace c.params b r all) (replace c.params (rows_of r.supplier b) r all)
  unfolding replace seen own_variant
  replace-own c b sound =
      let s : Name = r.supplier in
      let reads : List RowRead = rows_of_body c.params r.body in
      let whole : Option Header = whole_of all (header_of_body r.body) in
      alike_or LikeOutcome (λ e. refl) (own_variant s) (get b.variants r.variant) _ (rows_of-variant s b r.variant) NoVariant _ _ (λ x found.
      alike_when LikeOutcome (λ e. refl) Released x.released _ refl _ _ (λ _.
      alike_when LikeOutcome (λ e. refl) Limit (nat_lt MAX_IMPORT_BYTES (length r.body)) _ refl _ _ (λ _.
      ap Ok (replaced-own b (length reads) (replace_rows c.params (with_freed b s r.variant x whole reads) s r.variant reads)
      ∙ ap (replaced (rows_of s b) (length reads)) (
      replace_rows-own c s r.variant reads (with_freed b s r.variant x whole reads) (with_freed-sound c b sound s r.variant x found whole reads) (body-form c.params r.body)
      ∙ ap (λ d. replace_rows c.params d s r.variant reads) (with_freed-own s b r.variant x whole reads))))))

-- ---- another supplier's replacement

module _ (s t : Name) (other : same_text t s ≡ false) where
  free_row-other : (r : Result Row Refusal) (frames : Table owned Frame) → own s (free_row t r frames) ≡ own s frames
  unfolding free_row
  free_row-other (Ok r) frames = only-settle_other owned (is_of s) frames (t, frame_of_row r) (freed (kind_of_row r) (get frames (t, frame_of_row r))) other
  free_row-other (Err e) frames = refl

  free_rows-other : (reads : List RowRead) (frames : Table owned Frame) → own s (free_rows t reads frames) ≡ own s frames
  unfolding free_rows
  free_rows-other [] frames = refl
  free_rows-other (read ∷ rest) frames = free_rows-other rest (free_row t read.row frames) ∙ free_row-other read.row frames

  clear_frames-other : (kind : Header) (reads : List RowRead) (names : List Name) (frames : Table owned Frame) → own s (clear_frames t kind reads names frames) ≡ own s frames
  unfolding clear_frames
  clear_frames-other kind reads [] frames = refl
  clear_frames-other kind reads (f ∷ rest) frames =
      clear_frames-other kind reads rest (settle frames (t, f) (cleared kind reads f (get frames (t, f))))
      ∙ only-settle_other owned (is_of s) frames (t, f) (cleared kind reads f (get frames (t, f))) other

  clear_all-other : (whole : Option Header) (reads : List RowRead) (frames : Table owned Frame) → own s (clear_all t whole reads frames) ≡ own s frames
  unfolding clear_all
  clear_all-other None reads frames = refl
  clear_all-other (Some kind) reads frames = clear_frames-other kind reads (frame_names t frames) frames

  freed_variant-other : (whole : Option Header) (reads : List RowRead) (x : Variant) → own_variant s (record x { frames = free_rows t reads (clear_all t whole reads x.frames) }) ≡ own_variant s x
  unfolding own_variant
  freed_variant-other whole reads x = λ i. record (own_variant s x) { frames = (free_rows-other reads (clear_all t whole reads x.frames) ∙ clear_all-other whole reads x.frames) i }

  module _ (p : Params) (v : Name) where
    abbrev Leaves : Book → Book → Type 0
    Leaves b d = rows_of s d ≡ rows_of s b

    replace_row-other : (b : Book) (r : Row) → IfOk (replace_row p b t v r) (Leaves b)
    unfolding replace_row
    replace_row-other b (row.AddFrame f n) = gives_unless _ _ _ _ (λ _. framed-other p s t v other b f n (frame_at b t v f))
    replace_row-other b (row.Place f n q) = row-other p s t v other b (row.Place f n q)
    replace_row-other b (row.AddSignal f signal) = row-other p s t v other b (row.AddSignal f signal)

    replace_rows-other : (reads : List RowRead) (b : Book) → IfOk (replace_rows p b t v reads) (Leaves b)
    unfolding replace_rows
    replace_rows-other [] b = refl
    replace_rows-other (read ∷ rest) b =
        gives_bind _ (Leaves b) _ _ (at_line-gives _ read.line _ (gives_each _ read.row _ (λ r _. replace_row-other b r))) (λ d mid.
        gives_bind_last _ (Leaves d) _ (replace_rows-other rest d) (λ e last. last ∙ mid))

-- it leaves the supplier's rows as they were
pub replace-other : (p : Params) (b : Book) (s : Name) (r : Delivery) (all : Bool) → same_text r.supplier s ≡ false → IfOk (replace p b r all) (λ o. rows_of s o.book ≡ rows_of s b)
unfolding replace
replace-other p b s r all other =
    gives_or _ (get b.variants r.variant) _ _ (λ x found.
    gives_when _ _ _ _ (λ _.
    gives_when _ _ _ _ (λ _.
    let reads : List RowRead = rows_of_body p r.body in
    let whole : Option Header = whole_of all (header_of_body r.body) in
    let mid = rows_of-still s b r.variant x _ found (freed_variant-other s r.supplier other whole reads x) in
    replaced-gives (λ d. rows_of s d ≡ rows_of s b) b refl _ _ (
    gives_bind_last _ (λ e. rows_of s e ≡ rows_of s (with_freed b r.supplier r.variant x whole reads)) _ (replace_rows-other s r.supplier other p r.variant reads _) (λ e last. last ∙ mid)))))
