-- A replacement leaves a sound book sound, and its suppliers, nodes and kept imports as they were.
use Rattle.std.proofs.Common.{Bool, ◌≡◌, ℕ, ◌≤◌, List, [], ◌∷◌, Option, Some, None, Result, Ok, Err, IfOk, refl, inl, inr}
use Rattle.std.specs.Prelude.{⊤}
use Rattle.std.specs.List.{AllByRecursion, list_any}
use Rattle.std.proofs.lemmas.Bool.{cases_Bool}
use Rattle.fr_base.specs.Refusing.{◌>>=◌}
use Rattle.fr_base.specs.Tables.{Table, get, settle}
use Rattle.fr_base.specs.Keys.{owned}
use Rattle.fr_base.specs.Cluster.{Cluster}
use Rattle.fr_base.specs.Book.{Frame, Variant, Book}
use Rattle.fr_base.specs.ImportRows.{header_of_body, rows_of_body}
use Rattle.fr_base.specs.Step.{RefusedAt, frame_at, at_line, kind_of_row, freed, frame_of_row, free_row, free_rows, names_with, cleared, clear_frames, frame_names, clear_all, whole_of, with_freed, replace_row, replace_rows, replaced, replace}
use Rattle.fr_base.specs.Sound.{IsSoundVariant, IsSound}
use Rattle.fr_base.specs.declared.import.Header.{Header}
use Rattle.fr_base.specs.declared.import.Header.TheVariants.{Frames, Placements, Signals}
use Rattle.fr_base.specs.declared.import.Row.{Row}
use Rattle.fr_base.specs.declared.import.Row.TheVariants as row
use Rattle.fr_base.specs.declared.import.RowRead.{RowRead}
use Rattle.fr_base.specs.declared.name.Name.{Name}
use Rattle.fr_base.specs.declared.params.Params.{Params}
use Rattle.fr_base.specs.declared.refusal.Refusal.{Refusal}
use Rattle.fr_base.specs.declared.delivery.Delivery.{Delivery}
use Rattle.fr_base.proofs.ParametersLaws.{few_words}
use Rattle.fr_base.proofs.SoundTables.{contains-more}
use Rattle.fr_base.proofs.SoundRows.{dropped-sound, lesser_frame-sound, changed-sound}
use Rattle.fr_base.proofs.SoundFrames.{bared_variant-sound, unsignalled_variant-sound}
use Rattle.fr_base.proofs.SoundRefusing.{gives_or, gives_bind, gives_each, gives_when, gives_unless, gives_bind_last}
use Rattle.fr_base.proofs.ImportForms.{IsFormedRow, IsFormedRead, body-form}
use Rattle.fr_base.proofs.SoundImports.{Keeps, keeps_all, keeps_on, at_line-gives, framed-keeps, row-keeps, framed-sound, row-sound}

-- ---- frames that are freed

module _ (p : Params) (nodes : Table owned ⊤) (few : p.payload_words ≤ 127) where
  abbrev IsFine : Variant → Type 0
  IsFine = IsSoundVariant p nodes

  freed-sound : (v : Variant) → IsFine v → (k : Name × Name) (kind : Header) (there : Option Frame) → get v.frames k ≡ there → IsFine (record v { frames = settle v.frames k (freed kind there) })
  unfolding freed settle
  freed-sound v sound k Frames (Some frame) found = lesser_frame-sound p nodes v sound k frame frame found (λ q h. h) (sound.frames k frame found)
  freed-sound v sound k Placements (Some frame) found = bared_variant-sound p nodes v sound k frame found
  freed-sound v sound k Signals (Some frame) found = unsignalled_variant-sound p nodes v sound k frame found few
  freed-sound v sound k kind None found = dropped-sound p nodes v sound k

  free_row-sound : (s : Name) (v : Variant) → IsFine v → (r : Result Row Refusal) → IsFine (record v { frames = free_row s r v.frames })
  unfolding free_row
  free_row-sound s v sound (Ok r) = freed-sound v sound (s, frame_of_row r) (kind_of_row r) (get v.frames (s, frame_of_row r)) refl
  free_row-sound s v sound (Err e) = sound

  free_rows-sound : (s : Name) (reads : List RowRead) (v : Variant) → IsFine v → IsFine (record v { frames = free_rows s reads v.frames })
  unfolding free_rows
  free_rows-sound s [] v sound = sound
  free_rows-sound s (read ∷ rest) v sound = free_rows-sound s rest (record v { frames = free_row s read.row v.frames }) (free_row-sound s v sound read.row)

  -- ---- all frames of a supplier, each cleared

  cleared-sound : (v : Variant) → IsFine v → (s f : Name) (kind : Header) (reads : List RowRead) (there : Option Frame) → get v.frames (s, f) ≡ there →
      IsFine (record v { frames = settle v.frames (s, f) (cleared kind reads f there) })
  unfolding cleared settle
  cleared-sound v sound s f Frames reads (Some frame) found = elim (cases_Bool (list_any (λ read. names_with f frame.node read.row) reads)) [
    | inl stays ↦ rw stays (lesser_frame-sound p nodes v sound (s, f) frame frame found (λ q h. h) (sound.frames (s, f) frame found))
    | inr goes ↦ rw goes (dropped-sound p nodes v sound (s, f))
  ]
  cleared-sound v sound s f Frames reads None found = dropped-sound p nodes v sound (s, f)
  cleared-sound v sound s f Placements reads there found = freed-sound v sound (s, f) Placements there found
  cleared-sound v sound s f Signals reads there found = freed-sound v sound (s, f) Signals there found

  clear_frames-sound : (s : Name) (kind : Header) (reads : List RowRead) (names : List Name) (v : Variant) → IsFine v → IsFine (record v { frames = clear_frames s kind reads names v.frames })
  unfolding clear_frames
  clear_frames-sound s kind reads [] v sound = sound
  clear_frames-sound s kind reads (f ∷ rest) v sound =
      clear_frames-sound s kind reads rest (record v { frames = settle v.frames (s, f) (cleared kind reads f (get v.frames (s, f))) }) (cleared-sound v sound s f kind reads (get v.frames (s, f)) refl)

  clear_all-sound : (s : Name) (whole : Option Header) (reads : List RowRead) (v : Variant) → IsFine v → IsFine (record v { frames = clear_all s whole reads v.frames })
  unfolding clear_all
  clear_all-sound s None reads v sound = sound
  clear_all-sound s (Some kind) reads v sound = clear_frames-sound s kind reads (frame_names s v.frames) v sound

pub with_freed-keeps : (b : Book) (s v : Name) (x : Variant) (whole : Option Header) (reads : List RowRead) → Keeps b (with_freed b s v x whole reads)
with_freed-keeps b s v x whole reads = record { suppliers = refl; nodes = refl; imports = refl; variants = λ w h. contains-more b.variants v _ w h }

-- a sound book is sound where frames were freed
pub with_freed-sound : (c : Cluster) (b : Book) → IsSound c b → (s v : Name) (x : Variant) → get b.variants v ≡ Some x → (whole : Option Header) (reads : List RowRead) → IsSound c (with_freed b s v x whole reads)
with_freed-sound c b sound s v x found whole reads =
    let few = few_words c.params sound.cluster.params in
    let cleared_all : Table owned Frame = clear_all s whole reads x.frames in
    changed-sound c b sound v x (record x { frames = free_rows s reads cleared_all }) found
    (free_rows-sound c.params b.nodes few s reads (record x { frames = cleared_all }) (clear_all-sound c.params b.nodes few s whole reads x (sound.variants v x found).1)) refl refl (λ was. was)

-- ---- rows

module _ (p : Params) (s v : Name) where
  replace_row-keeps : (b : Book) (r : Row) → IfOk (replace_row p b s v r) (Keeps b)
  unfolding replace_row
  replace_row-keeps b (row.AddFrame f n) = gives_unless _ _ _ _ (λ _. framed-keeps p s v b f n (frame_at b s v f))
  replace_row-keeps b (row.Place f n q) = row-keeps p s v b (row.Place f n q)
  replace_row-keeps b (row.AddSignal f signal) = row-keeps p s v b (row.AddSignal f signal)

  pub replace_rows-keep : (reads : List RowRead) (b : Book) → IfOk (replace_rows p b s v reads) (Keeps b)
  unfolding replace_rows
  replace_rows-keep [] b = keeps_all b
  replace_rows-keep (read ∷ rest) b =
      gives_bind _ (Keeps b) _ _ (at_line-gives _ read.line _ (gives_each _ read.row _ (λ r _. replace_row-keeps b r))) (λ d mid.
      gives_bind_last _ (Keeps d) _ (replace_rows-keep rest d) (λ e last. keeps_on b d e mid last))

module _ (c : Cluster) (s v : Name) where
  pub replace_row-sound : (b : Book) → IsSound c b → (r : Row) → IsFormedRow c.params r → IfOk (replace_row c.params b s v r) (IsSound c)
  unfolding replace_row
  replace_row-sound b sound (row.AddFrame f n) form = gives_unless _ _ _ _ (λ _. framed-sound c s v b sound f n form (frame_at b s v f))
  replace_row-sound b sound (row.Place f n q) form = row-sound c s v b sound (row.Place f n q) form
  replace_row-sound b sound (row.AddSignal f signal) form = row-sound c s v b sound (row.AddSignal f signal) form

  pub replace_read-sound : (b : Book) → IsSound c b → (line : ℕ) (r : Result Row Refusal) → IfOk r (IsFormedRow c.params) → IfOk (at_line line (r >>= replace_row c.params b s v)) (IsSound c)
  unfolding ◌>>=◌
  replace_read-sound b sound line (Ok r) form = at_line-gives _ line _ (replace_row-sound b sound r form)
  replace_read-sound b sound line (Err e) form = at_line-gives _ line (Err e) tt

  replace_rows-sound : (reads : List RowRead) (b : Book) → IsSound c b → AllByRecursion (IsFormedRead c.params) reads → IfOk (replace_rows c.params b s v reads) (IsSound c)
  unfolding replace_rows
  replace_rows-sound [] b sound forms = sound
  replace_rows-sound (read ∷ rest) b sound forms =
      gives_bind _ (IsSound c) _ _ (replace_read-sound b sound read.line read.row forms.0) (λ d mid.
      replace_rows-sound rest d mid forms.1)

-- ---- the replacement

module _ (P : Book → Type 0) (b : Book) (old : P b) where
  -- what holds of the old book, and of the book after the rows where all were carried out
  pub replaced-gives : (count : ℕ) (r : Result Book RefusedAt) → IfOk r P → P (replaced b count r).book
  unfolding replaced
  replaced-gives count (Ok d) h = h
  replaced-gives count (Err fault) h = old

pub replace-sound : (c : Cluster) (b : Book) → IsSound c b → (r : Delivery) (whole : Bool) → IfOk (replace c.params b r whole) (λ o. IsSound c o.book)
unfolding replace
replace-sound c b sound r whole =
    gives_or _ (get b.variants r.variant) _ _ (λ x found.
    gives_when _ _ _ _ (λ _.
    gives_when _ _ _ _ (λ _.
    let reads : List RowRead = rows_of_body c.params r.body in
    replaced-gives (IsSound c) b sound _ _ (replace_rows-sound c r.supplier r.variant reads _ (with_freed-sound c b sound r.supplier r.variant x found (whole_of whole (header_of_body r.body)) reads) (body-form c.params r.body)))))

pub replace-keeps : (p : Params) (b : Book) (r : Delivery) (whole : Bool) → IfOk (replace p b r whole) (λ o. Keeps b o.book)
unfolding replace
replace-keeps p b r whole =
    gives_or _ (get b.variants r.variant) _ _ (λ x _.
    gives_when _ _ _ _ (λ _.
    gives_when _ _ _ _ (λ _.
    let reads : List RowRead = rows_of_body p r.body in
    replaced-gives (Keeps b) b (keeps_all b) _ _ (
    gives_bind_last _ (Keeps (with_freed b r.supplier r.variant x (whole_of whole (header_of_body r.body)) reads)) _ (replace_rows-keep p r.supplier r.variant reads _) (λ e last.
    keeps_on b _ e (with_freed-keeps b r.supplier r.variant x (whole_of whole (header_of_body r.body)) reads) last)))))
