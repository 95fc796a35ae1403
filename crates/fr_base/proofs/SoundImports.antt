-- An import leaves a sound book sound.
use Rattle.std.proofs.Common.{◌≡◌, ℕ, ◌<◌, ◌≤◌, List, [], ◌∷◌, false, length, Option, Some, None, Result, Ok, Err, is_err, IfOk, IsTrue, refl, ◌∙◌, ap, subst, sym, leb-false}
use Rattle.std.proofs.lemmas.Bool.{ltb-false}
use Rattle.std.specs.List.{AllByRecursion}
use Rattle.fr_base.specs.Refusing.{◌>>=◌}
use Rattle.fr_base.specs.Tables.{get, contains, len}
use Rattle.fr_base.specs.Names.{is_name, same_text}
use Rattle.fr_base.specs.Cluster.{Cluster}
use Rattle.fr_base.specs.Book.{Frame, Kept, Book, own}
use Rattle.fr_base.specs.ImportRows.{rows_of_body}
use Rattle.fr_base.specs.Step.{RefusedAt, own_rows, shared_by, admits, change_rows, frame_at, with_frame, act_row, at_line, act_rows, imported, import}
use Rattle.fr_base.specs.Sound.{IsSound}
use Rattle.fr_base.specs.declared.limits.TheConstants.{MAX_ROWS, MAX_IMPORTS, MAX_IMPORT_BYTES}
use Rattle.fr_base.specs.declared.import.Row.{Row}
use Rattle.fr_base.specs.declared.import.Row.TheVariants as row
use Rattle.fr_base.specs.declared.import.RowRead.{RowRead}
use Rattle.fr_base.specs.declared.name.Name.{Name}
use Rattle.fr_base.specs.declared.params.Params.{Params}
use Rattle.fr_base.specs.declared.refusal.Refusal.{Refusal}
use Rattle.fr_base.specs.declared.request.Change.{Change}
use Rattle.fr_base.specs.declared.request.Change.TheVariants as change
use Rattle.fr_base.specs.declared.request.FrameChange.TheVariants.{Add, Place, AddSignal}
use Rattle.fr_base.specs.declared.delivery.Delivery.{Delivery}
use Rattle.fr_base.proofs.SoundTables.{some_there, contains-more}
use Rattle.fr_base.proofs.SoundRows.{more_imports-sound}
use Rattle.fr_base.proofs.SoundRefusing.{gives_or, gives_bind, gives_each, gives_then, gives_when, gives_unless, gives_bind_last}
use Rattle.fr_base.proofs.SoundCommands.{change_rows-sound}
use Rattle.fr_base.proofs.ImportForms.{IsFormedRow, IsFormedRead, IsRead, body-form, few_rows}

-- ---- what rows leave as it was

-- the suppliers, the nodes and the imports stay, and each variant is there still
pub record Keeps (b d : Book) : Type 0 where
  pub suppliers : d.suppliers ≡ b.suppliers
  pub nodes : d.nodes ≡ b.nodes
  pub imports : d.imports ≡ b.imports
  pub variants : (v : Name) → IsTrue (contains b.variants v) → IsTrue (contains d.variants v)

pub keeps_all : (b : Book) → Keeps b b
keeps_all b = record { suppliers = refl; nodes = refl; imports = refl; variants = λ v h. h }

pub keeps_on : (b d e : Book) → Keeps b d → Keeps d e → Keeps b e
keeps_on b d e one two = record {
  suppliers = two.suppliers ∙ one.suppliers;
  nodes = two.nodes ∙ one.nodes;
  imports = two.imports ∙ one.imports;
  variants = λ v h. two.variants v (one.variants v h);
}

both_ok : {A E : Type 0} (P Q : A → Type 0) (r : Result A E) → IfOk r P → IfOk r Q → IfOk r (λ x. P x × Q x)
both_ok P Q (Ok x) p q = (p, q)
both_ok P Q (Err e) p q = tt

module _ (p : Params) where
  pub change_rows-keeps : (b : Book) (s v : Name) (what : Change) → IfOk (change_rows p b s v what) (Keeps b)
  unfolding change_rows
  change_rows-keeps b s v what =
      gives_or _ (get b.variants v) _ _ (λ x _.
      gives_when _ _ _ _ (λ _.
      gives_unless _ _ _ _ (λ _.
      gives_then _ (admits (own_rows p b s x) (shared_by x.grants x.frames) what) _ (λ _ _.
      record { suppliers = refl; nodes = refl; imports = refl; variants = λ w h. contains-more b.variants v _ w h }))))

-- ---- rows

pub at_line-gives : {A : Type 0} (P : A → Type 0) (line : ℕ) (r : Result A Refusal) → IfOk r P → IfOk (at_line line r) P
unfolding at_line
at_line-gives P line (Ok x) h = h
at_line-gives P line (Err e) h = tt

module _ (p : Params) (s v : Name) where
  pub framed-keeps : (b : Book) (f n : Name) (there : Option Frame) → IfOk (with_frame p b s v f n there) (Keeps b)
  unfolding with_frame
  framed-keeps b f n None = change_rows-keeps p b s v (change.Frame f (Add n))
  framed-keeps b f n (Some frame) = gives_unless _ _ (same_text frame.node n) _ (λ _. keeps_all b)

  pub row-keeps : (b : Book) (r : Row) → IfOk (act_row p b s v r) (Keeps b)
  unfolding act_row
  row-keeps b (row.AddFrame f n) = change_rows-keeps p b s v (change.Frame f (Add n))
  row-keeps b (row.Place f n q) =
      gives_unless _ _ _ _ (λ _.
      gives_bind _ _ (with_frame p b s v f n (frame_at b s v f)) _ (framed-keeps b f n (frame_at b s v f)) (λ d mid.
      gives_bind_last _ (Keeps d) _ (change_rows-keeps p d s v (change.Frame f (Place q))) (λ e last. keeps_on b d e mid last)))
  row-keeps b (row.AddSignal f signal) = change_rows-keeps p b s v (change.Frame f (AddSignal signal))

  pub rows-keep : (reads : List RowRead) (b : Book) → IfOk (act_rows p b s v reads) (Keeps b)
  unfolding act_rows
  rows-keep [] b = keeps_all b
  rows-keep (read ∷ rest) b =
      gives_bind _ (Keeps b) _ _ (at_line-gives _ read.line _ (gives_each _ read.row _ (λ r _. row-keeps b r))) (λ d mid.
      gives_bind_last _ (Keeps d) _ (rows-keep rest d) (λ e last. keeps_on b d e mid last))

module _ (c : Cluster) (s v : Name) where
  pub framed-sound : (b : Book) → IsSound c b → (f n : Name) → IsTrue (is_name f) → (there : Option Frame) → IfOk (with_frame c.params b s v f n there) (IsSound c)
  unfolding with_frame
  framed-sound b sound f n named None = change_rows-sound c b sound s v (change.Frame f (Add n)) named
  framed-sound b sound f n named (Some frame) = gives_unless _ _ (same_text frame.node n) _ (λ _. sound)

  pub row-sound : (b : Book) → IsSound c b → (r : Row) → IsFormedRow c.params r → IfOk (act_row c.params b s v r) (IsSound c)
  unfolding act_row
  row-sound b sound (row.AddFrame f n) form = change_rows-sound c b sound s v (change.Frame f (Add n)) form
  row-sound b sound (row.Place f n q) form =
      gives_unless _ _ _ _ (λ _.
      gives_bind _ _ (with_frame c.params b s v f n (frame_at b s v f)) _ (framed-sound b sound f n form.0 (frame_at b s v f)) (λ d mid.
      change_rows-sound c d mid s v (change.Frame f (Place q)) form.1))
  row-sound b sound (row.AddSignal f signal) form = change_rows-sound c b sound s v (change.Frame f (AddSignal signal)) form

  -- a row that was carried out was not refused by its own text
  pub read-sound : (b : Book) → IsSound c b → (line : ℕ) (r : Result Row Refusal) → IfOk r (IsFormedRow c.params) → IfOk (at_line line (r >>= act_row c.params b s v)) (λ d. IsSound c d × (is_err r ≡ false))
  unfolding ◌>>=◌
  read-sound b sound line (Ok r) form = at_line-gives _ line _ (gives_bind_last _ (IsSound c) _ (row-sound b sound r form) (λ d fine. (fine, refl)))
  read-sound b sound line (Err e) form = at_line-gives _ line (Err e) tt

  rows-sound : (reads : List RowRead) (b : Book) → IsSound c b → AllByRecursion (IsFormedRead c.params) reads → IfOk (act_rows c.params b s v reads) (λ d. IsSound c d × AllByRecursion IsRead reads)
  unfolding act_rows
  rows-sound [] b sound forms = (sound, tt)
  rows-sound (read ∷ rest) b sound forms =
      gives_bind _ (λ d. IsSound c d × IsRead read) _ _ (read-sound b sound read.line read.row forms.0) (λ d mid.
      gives_bind_last _ (λ e. IsSound c e × AllByRecursion IsRead rest) _ (rows-sound rest d mid.0 forms.1) (λ e last. (last.0, (mid.1, last.1))))

-- ---- the import

module _ (c : Cluster) (b : Book) (sound : IsSound c b) (i : Delivery) (label : Name) (labelled : IsTrue (is_name label)) (known : IsTrue (contains b.suppliers i.supplier)) where
  imported-sound : (there : IsTrue (contains b.variants i.variant)) → length i.body ≤ MAX_IMPORT_BYTES → len (own i.supplier b.imports) < MAX_IMPORTS → (count : ℕ) (r : Result Book RefusedAt) →
      IfOk r (λ d. IsSound c d × (Keeps b d × (count ≤ MAX_ROWS))) → IsSound c (imported b i label count r).book
  unfolding imported
  imported-sound there short room count (Ok d) h =
      more_imports-sound c d h.0 i.supplier label (record { variant = i.variant; body = i.body; rows = count })
      (record {
        label = labelled;
        supplier = ap (λ t. contains t i.supplier) h.1.0.suppliers ∙ known;
        variant = h.1.0.variants i.variant there;
        bytes = short;
        rows = h.1.1;
      })
      (subst (λ t. len (own i.supplier t) < MAX_IMPORTS) (sym h.1.0.imports) room)
  imported-sound there short room count (Err fault) h = sound

  rows-fine : IfOk (act_rows c.params b i.supplier i.variant (rows_of_body c.params i.body)) (λ d. IsSound c d × (Keeps b d × (length (rows_of_body c.params i.body) ≤ MAX_ROWS)))
  rows-fine =
      let reads : List RowRead = rows_of_body c.params i.body in
      let all = rows-sound c i.supplier i.variant reads b sound (body-form c.params i.body) in
      both_ok (IsSound c) (λ d. Keeps b d × (length reads ≤ MAX_ROWS)) _
      (gives_bind_last (IsSound c) (λ e. IsSound c e × AllByRecursion IsRead reads) _ all (λ d h. h.0))
      (both_ok (Keeps b) (λ _. length reads ≤ MAX_ROWS) _ (rows-keep c.params i.supplier i.variant reads b)
      (gives_bind_last (λ _. length reads ≤ MAX_ROWS) (λ e. IsSound c e × AllByRecursion IsRead reads) _ all (λ d h. few_rows c.params i.body h.1)))

  pub import-sound : (kept : Option Kept) → IfOk (import c.params b i label kept) (λ o. IsSound c o.book)
  unfolding import
  import-sound None =
      gives_or _ (get b.variants i.variant) _ _ (λ x found.
      gives_when _ _ _ _ (λ _.
      gives_when _ _ _ _ (λ short.
      gives_when _ _ _ _ (λ room.
      imported-sound (some_there _ x found) (ltb-false _ _ short) (leb-false _ _ room) (length (rows_of_body c.params i.body)) (act_rows c.params b i.supplier i.variant (rows_of_body c.params i.body)) rows-fine))))
  import-sound (Some kept) = gives_unless _ _ _ _ (λ _. sound)
