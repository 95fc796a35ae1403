-- A supplier's import, over all rows and over its own; and another supplier's.
use Rattle.std.proofs.Common.{◌≡◌, ℕ, false, not, List, [], ◌∷◌, length, Option, Some, None, Result, Ok, Err, IfOk, refl, sym, ap, subst, ◌∙◌, nat_le, nat_lt}
use Rattle.std.specs.Prelude.{◌&&◌}
use Rattle.std.specs.List.{AllByRecursion}
use Rattle.fr_base.specs.Refusing.{◌>>=◌}
use Rattle.fr_base.specs.Tables.{get, contains, len}
use Rattle.fr_base.specs.Names.{same_text}
use Rattle.fr_base.specs.Cluster.{Cluster}
use Rattle.fr_base.specs.Book.{Frame, Kept, Book, own}
use Rattle.fr_base.specs.ImportRows.{rows_of_body}
use Rattle.fr_base.specs.Step.{Outcome, RefusedAt, change_rows, frame_at, with_frame, act_row, at_line, act_rows, imported, import}
use Rattle.fr_base.specs.Sound.{IsSound}
use Rattle.fr_base.specs.Alone.{own_variant, rows_of}
use Rattle.fr_base.specs.declared.limits.TheConstants.{MAX_IMPORTS, MAX_IMPORT_BYTES}
use Rattle.fr_base.specs.declared.import.Row.{Row}
use Rattle.fr_base.specs.declared.import.Row.TheVariants as row
use Rattle.fr_base.specs.declared.import.RowRead.{RowRead}
use Rattle.fr_base.specs.declared.answer.Answer.TheVariants as answer
use Rattle.fr_base.specs.declared.name.Name.{Name}
use Rattle.fr_base.specs.declared.params.Params.{Params}
use Rattle.fr_base.specs.declared.refusal.Refusal.{Refusal}
use Rattle.fr_base.specs.declared.refusal.Refusal.TheVariants.{LabelUsed, NoVariant, Released, NoNode, NodeDiffers, Limit}
use Rattle.fr_base.specs.declared.request.Change.TheVariants as change
use Rattle.fr_base.specs.declared.request.FrameChange.{FrameChange}
use Rattle.fr_base.specs.declared.request.FrameChange.TheVariants.{Add, Place, AddSignal}
use Rattle.fr_base.specs.declared.delivery.Delivery.{Delivery}
use Rattle.fr_base.proofs.SoundRefusing.{gives_or, gives_bind, gives_bind_last, gives_each, gives_when, gives_unless}
use Rattle.fr_base.proofs.ImportForms.{IsFormedRow, IsFormedRead, IsRead, body-form}
use Rattle.fr_base.proofs.SoundImports.{at_line-gives, framed-sound, read-sound}
use Rattle.fr_base.proofs.AloneRefusing.{map_ok, alike_or, alike_when, alike_map}
use Rattle.fr_base.proofs.AloneRows.{rows_of-variant, rows_of-node, rows_of-frame, rows_of-imports, rows_of-more_imports, rows_of-more_imports_other}
use Rattle.fr_base.proofs.AloneChanges.{unless_none, change_rows-own, change_rows-other}
use Rattle.fr_base.proofs.AloneCommands.{admits-beside}
use Rattle.fr_base.proofs.AloneOutcomes.{seen}

-- what a result is, where each value has it
pub of_ok : {A E : Type 0} (P : A → Type 0) (r : Result A E) (x : A) → r ≡ Ok x → IfOk r P → P x
of_ok P r x e h = subst (λ z. IfOk z P) e h

-- ---- the supplier's own rows

module _ (c : Cluster) (s v : Name) where
  abbrev pub Like : {E : Type 0} → Result Book E → Result Book E → Type 0
  Like r u = map_ok (rows_of s) r ≡ u

  frame_change-own : (b : Book) → IsSound c b → (f : Name) (what : FrameChange) → Like (change_rows c.params b s v (change.Frame f what)) (change_rows c.params (rows_of s b) s v (change.Frame f what))
  frame_change-own b sound f what =
      change_rows-own c.params b v (change.Frame f what) s (Ok tt) (admits-beside c b s v (change.Frame f what) (λ _. sound)) ∙ unless_none _

  pub framed-own : (b : Book) → IsSound c b → (f n : Name) (there : Option Frame) → Like (with_frame c.params b s v f n there) (with_frame c.params (rows_of s b) s v f n there)
  unfolding with_frame
  framed-own b sound f n None = frame_change-own b sound f (Add n)
  framed-own b sound f n (Some frame) = alike_when Like (λ e. refl) NodeDiffers (not (same_text frame.node n)) _ refl _ _ (λ _. refl)

  pub row-own : (b : Book) → IsSound c b → (r : Row) → IsFormedRow c.params r → Like (act_row c.params b s v r) (act_row c.params (rows_of s b) s v r)
  unfolding act_row
  row-own b sound (row.AddFrame f n) form = frame_change-own b sound f (Add n)
  row-own b sound (row.Place f n q) form =
      alike_when Like (λ e. refl) NoNode (not (contains b.nodes (s, n))) _ (ap not (rows_of-node s b n)) _ _ (λ _.
      alike_map Like (λ e. refl) (rows_of s) (with_frame c.params b s v f n (frame_at b s v f)) _
      (ap (with_frame c.params (rows_of s b) s v f n) (rows_of-frame s b v f) ∙ sym (framed-own b sound f n (frame_at b s v f))) _ _ (λ d found.
      frame_change-own d (of_ok _ _ d found (framed-sound c s v b sound f n form.0 (frame_at b s v f))) f (Place q)))
  row-own b sound (row.AddSignal f signal) form = frame_change-own b sound f (AddSignal signal)

  pub line-own : (line : ℕ) (r : Result Book Refusal) → Like (at_line line r) (at_line line (map_ok (rows_of s) r))
  unfolding at_line
  line-own line (Ok d) = refl
  line-own line (Err e) = refl

  read-own : (b : Book) → IsSound c b → (r : Result Row Refusal) → IfOk r (IsFormedRow c.params) → Like (r >>= act_row c.params b s v) (r >>= act_row c.params (rows_of s b) s v)
  unfolding ◌>>=◌
  read-own b sound (Ok r) form = row-own b sound r form
  read-own b sound (Err e) form = refl

  rows-own : (reads : List RowRead) (b : Book) → IsSound c b → AllByRecursion (IsFormedRead c.params) reads → Like (act_rows c.params b s v reads) (act_rows c.params (rows_of s b) s v reads)
  unfolding act_rows
  rows-own [] b sound forms = refl
  rows-own (read ∷ rest) b sound forms =
      alike_map Like (λ e. refl) (rows_of s) (at_line read.line (read.row >>= act_row c.params b s v)) _
      (ap (at_line read.line) (sym (read-own b sound read.row forms.0)) ∙ sym (line-own read.line (read.row >>= act_row c.params b s v))) _ _ (λ d found.
      rows-own rest d (of_ok (λ e. IsSound c e × IsRead read) _ d found (read-sound c s v b sound read.line read.row forms.0)).0 forms.1)

-- ---- the supplier's own import

module _ (i : Delivery) (label : Name) where
  imported-own : (b : Book) (count : ℕ) (r : Result Book RefusedAt) → seen i.supplier (imported b i label count r) ≡ imported (rows_of i.supplier b) i label count (map_ok (rows_of i.supplier) r)
  unfolding imported seen
  imported-own b count (Ok d) = λ j. record { book = rows_of-more_imports i.supplier d label (record { variant = i.variant; body = i.body; rows = count }) j; answer = answer.Imported count }
  imported-own b count (Err fault) = refl

  abbrev LikeOutcome : Result Outcome Refusal → Result Outcome Refusal → Type 0
  LikeOutcome r u = map_ok (seen i.supplier) r ≡ u

  -- in a sound book it is refused as alone, and does the same to the supplier's rows
  pub import-own : (c : Cluster) (b : Book) → IsSound c b → (kept : Option Kept) → LikeOutcome (import c.params b i label kept) (import c.params (rows_of i.supplier b) i label kept)
  unfolding import seen own_variant
  import-own c b sound None =
      alike_or LikeOutcome (λ e. refl) (own_variant i.supplier) (get b.variants i.variant) _ (rows_of-variant i.supplier b i.variant) NoVariant _ _ (λ x found.
      alike_when LikeOutcome (λ e. refl) Released x.released _ refl _ _ (λ _.
      alike_when LikeOutcome (λ e. refl) Limit (nat_lt MAX_IMPORT_BYTES (length i.body)) _ refl _ _ (λ _.
      alike_when LikeOutcome (λ e. refl) Limit (nat_le MAX_IMPORTS (len (own i.supplier b.imports))) _ (ap (λ t. nat_le MAX_IMPORTS (len t)) (rows_of-imports i.supplier b)) _ _ (λ _.
      ap Ok (imported-own b _ (act_rows c.params b i.supplier i.variant (rows_of_body c.params i.body))
      ∙ ap (imported (rows_of i.supplier b) i label _) (rows-own c i.supplier i.variant (rows_of_body c.params i.body) b sound (body-form c.params i.body)))))))
  import-own c b sound (Some one) =
      alike_when LikeOutcome (λ e. refl) LabelUsed (not (same_text one.variant i.variant && same_text one.body i.body)) _ refl _ _ (λ _. refl)

-- ---- another supplier's import

module _ (p : Params) (s t v : Name) (other : same_text t s ≡ false) where
  abbrev Leaves : Book → Book → Type 0
  Leaves b d = rows_of s d ≡ rows_of s b

  pub framed-other : (b : Book) (f n : Name) (there : Option Frame) → IfOk (with_frame p b t v f n there) (Leaves b)
  unfolding with_frame
  framed-other b f n None = change_rows-other p b v (change.Frame f (Add n)) s t other
  framed-other b f n (Some frame) = gives_unless _ _ (same_text frame.node n) _ (λ _. refl)

  pub row-other : (b : Book) (r : Row) → IfOk (act_row p b t v r) (Leaves b)
  unfolding act_row
  row-other b (row.AddFrame f n) = change_rows-other p b v (change.Frame f (Add n)) s t other
  row-other b (row.Place f n q) =
      gives_unless _ _ _ _ (λ _.
      gives_bind _ _ (with_frame p b t v f n (frame_at b t v f)) _ (framed-other b f n (frame_at b t v f)) (λ d mid.
      gives_bind_last _ (Leaves d) _ (change_rows-other p d v (change.Frame f (Place q)) s t other) (λ e last. last ∙ mid)))
  row-other b (row.AddSignal f signal) = change_rows-other p b v (change.Frame f (AddSignal signal)) s t other

  rows-other : (reads : List RowRead) (b : Book) → IfOk (act_rows p b t v reads) (Leaves b)
  unfolding act_rows
  rows-other [] b = refl
  rows-other (read ∷ rest) b =
      gives_bind _ (Leaves b) _ _ (at_line-gives _ read.line _ (gives_each _ read.row _ (λ r _. row-other b r))) (λ d mid.
      gives_bind_last _ (Leaves d) _ (rows-other rest d) (λ e last. last ∙ mid))

module _ (p : Params) (b : Book) (s : Name) (i : Delivery) (label : Name) (other : same_text i.supplier s ≡ false) where
  imported-other : (count : ℕ) (r : Result Book RefusedAt) → IfOk r (λ d. rows_of s d ≡ rows_of s b) → rows_of s (imported b i label count r).book ≡ rows_of s b
  unfolding imported
  imported-other count (Ok d) h = rows_of-more_imports_other s d i.supplier label _ other ∙ h
  imported-other count (Err fault) h = refl

  -- it leaves the supplier's rows as they were
  pub import-other : (kept : Option Kept) → IfOk (import p b i label kept) (λ o. rows_of s o.book ≡ rows_of s b)
  unfolding import
  import-other None =
      gives_or _ (get b.variants i.variant) _ _ (λ x _.
      gives_when _ _ _ _ (λ _.
      gives_when _ _ _ _ (λ _.
      gives_when _ _ _ _ (λ _.
      imported-other _ _ (rows-other p s i.supplier i.variant other (rows_of_body p i.body) b)))))
  import-other (Some one) = gives_unless _ _ _ _ (λ _. refl)
