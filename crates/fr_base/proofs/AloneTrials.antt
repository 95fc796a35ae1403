-- A supplier's trial, over all rows and over its own.
use Rattle.std.proofs.Common.{◌≡◌, ℕ, false, List, [], ◌∷◌, length, Option, Some, Result, Ok, Err, IfOk, refl, ap, ◌∙◌, nat_lt}
use Rattle.std.specs.List.{AllByRecursion}
use Rattle.fr_base.specs.Refusing.{◌>>=◌}
use Rattle.fr_base.specs.Tables.{get}
use Rattle.fr_base.specs.Cluster.{Cluster}
use Rattle.fr_base.specs.Book.{Variant, Book}
use Rattle.fr_base.specs.ImportRows.{header_of_body, rows_of_body, all_rows_of_body}
use Rattle.fr_base.specs.Step.{Outcome, try_row, fate_of, fates_of, tried, try, whole_of}
use Rattle.fr_base.specs.Sound.{IsSound}
use Rattle.fr_base.specs.Alone.{own_variant, rows_of}
use Rattle.fr_base.specs.declared.limits.TheConstants.{MAX_IMPORT_BYTES}
use Rattle.fr_base.specs.declared.answer.Answer.TheVariants as answer
use Rattle.fr_base.specs.declared.answer.FateRow.{FateRow}
use Rattle.fr_base.specs.declared.answer.ReportRows.TheVariants as shows
use Rattle.fr_base.specs.declared.import.Header.{Header}
use Rattle.fr_base.specs.declared.import.Row.{Row}
use Rattle.fr_base.specs.declared.import.RowRead.{RowRead}
use Rattle.fr_base.specs.declared.name.Name.{Name}
use Rattle.fr_base.specs.declared.refusal.Refusal.{Refusal}
use Rattle.fr_base.specs.declared.refusal.Refusal.TheVariants.{NoVariant, Released, Limit}
use Rattle.fr_base.specs.declared.delivery.Manner.{Manner}
use Rattle.fr_base.specs.declared.delivery.Manner.TheVariants as manner
use Rattle.fr_base.specs.declared.delivery.Delivery.{Delivery}
use Rattle.fr_base.proofs.ImportForms.{IsFormedRow, IsFormedRead, all_rows-form}
use Rattle.fr_base.proofs.SoundImports.{row-sound}
use Rattle.fr_base.proofs.SoundReplacements.{with_freed-sound, replace_row-sound}
use Rattle.fr_base.proofs.AloneRefusing.{map_ok, alike_or, alike_when}
use Rattle.fr_base.proofs.AloneRows.{rows_of-variant}
use Rattle.fr_base.proofs.AloneImports.{Like, row-own}
use Rattle.fr_base.proofs.AloneReplacements.{with_freed-own, replace_row-own}
use Rattle.fr_base.proofs.AloneOutcomes.{seen}

-- ---- what becomes of a row

module _ (P : Book → Type 0) where
  fate-gives : (b : Book) (line : ℕ) (r : Result Book Refusal) → P b → IfOk r P → P (fate_of b line r).0
  unfolding fate_of
  fate-gives b line (Ok d) old new = new
  fate-gives b line (Err e) old new = old

module _ (c : Cluster) (s v : Name) where
  fate_book-own : (b : Book) (line : ℕ) (r : Result Book Refusal) → rows_of s (fate_of b line r).0 ≡ (fate_of (rows_of s b) line (map_ok (rows_of s) r)).0
  unfolding fate_of
  fate_book-own b line (Ok d) = refl
  fate_book-own b line (Err e) = refl

  fate_row-own : (b : Book) (line : ℕ) (r : Result Book Refusal) → (fate_of b line r).1 ≡ (fate_of (rows_of s b) line (map_ok (rows_of s) r)).1
  unfolding fate_of
  fate_row-own b line (Ok d) = refl
  fate_row-own b line (Err e) = refl

  try_row-sound : (how : Manner) (b : Book) → IsSound c b → (r : Row) → IsFormedRow c.params r → IfOk (try_row c.params how b s v r) (IsSound c)
  try_row-sound (manner.Replace whole) b sound r form = replace_row-sound c s v b sound r form
  try_row-sound manner.Import b sound r form = row-sound c s v b sound r form

  try_row-own : (how : Manner) (b : Book) → IsSound c b → (r : Row) → IsFormedRow c.params r → Like c s v (try_row c.params how b s v r) (try_row c.params how (rows_of s b) s v r)
  try_row-own (manner.Replace whole) b sound r form = replace_row-own c s v b sound r form
  try_row-own manner.Import b sound r form = row-own c s v b sound r form

  try_read-sound : (how : Manner) (b : Book) → IsSound c b → (r : Result Row Refusal) → IfOk r (IsFormedRow c.params) → IfOk (r >>= try_row c.params how b s v) (IsSound c)
  unfolding ◌>>=◌
  try_read-sound how b sound (Ok r) form = try_row-sound how b sound r form
  try_read-sound how b sound (Err e) form = tt

  try_read-own : (how : Manner) (b : Book) → IsSound c b → (r : Result Row Refusal) → IfOk r (IsFormedRow c.params) →
      Like c s v (r >>= try_row c.params how b s v) (r >>= try_row c.params how (rows_of s b) s v)
  unfolding ◌>>=◌
  try_read-own how b sound (Ok r) form = try_row-own how b sound r form
  try_read-own how b sound (Err e) form = refl

  -- in a sound book the rows fare as they do alone
  fates-own : (how : Manner) (reads : List RowRead) (b : Book) → IsSound c b → AllByRecursion (IsFormedRead c.params) reads →
      fates_of c.params how b s v reads ≡ fates_of c.params how (rows_of s b) s v reads
  unfolding fates_of
  fates-own how [] b sound forms = refl
  fates-own how (read ∷ rest) b sound forms =
      let here : Result Book Refusal = read.row >>= try_row c.params how b s v in
      let after : Book = (fate_of b read.line here).0 in
      let like = ap (fate_of (rows_of s b) read.line) (try_read-own how b sound read.row forms.0) in
      let next = fates-own how rest after (fate-gives (IsSound c) b read.line here sound (try_read-sound how b sound read.row forms.0)) forms.1 in
      ap (λ l. (fate_of b read.line here).1 ∷ l) next
      ∙ ap (λ f. f ∷ fates_of c.params how (rows_of s after) s v rest) (fate_row-own b read.line here ∙ ap (λ f. f.1) like)
      ∙ ap (λ d. (fate_of (rows_of s b) read.line (read.row >>= try_row c.params how (rows_of s b) s v)).1 ∷ fates_of c.params how d s v rest) (fate_book-own b read.line here ∙ ap (λ f. f.0) like)

  -- ---- what the first row acts on

  tried-sound : (how : Manner) (b : Book) → IsSound c b → (x : Variant) → get b.variants v ≡ Some x → (header : Option Header) (reads : List RowRead) → IsSound c (tried how b s v x header reads)
  tried-sound (manner.Replace whole) b sound x found header reads = with_freed-sound c b sound s v x found (whole_of whole header) reads
  tried-sound manner.Import b sound x found header reads = sound

  tried-own : (how : Manner) (b : Book) (x : Variant) (header : Option Header) (reads : List RowRead) → rows_of s (tried how b s v x header reads) ≡ tried how (rows_of s b) s v (own_variant s x) header reads
  tried-own (manner.Replace whole) b x header reads = with_freed-own s b v x (whole_of whole header) reads
  tried-own manner.Import b x header reads = refl

-- ---- the trial

module _ (t : Delivery) (how : Manner) where
  abbrev told : Book → List FateRow → Outcome
  told b rows = record { book = b; answer = answer.Report false (shows.Fates rows) }

  abbrev LikeOutcome : Result Outcome Refusal → Result Outcome Refusal → Type 0
  LikeOutcome u w = map_ok (seen t.supplier) u ≡ w

  -- in a sound book it is answered as alone
  pub try-own : (c : Cluster) (b : Book) → IsSound c b → LikeOutcome (try c.params b t how) (try c.params (rows_of t.supplier b) t how)
  unfolding try seen own_variant
  try-own c b sound =
      let s : Name = t.supplier in
      let reads : List RowRead = rows_of_body c.params t.body in
      let header : Option Header = header_of_body t.body in
      let all : List RowRead = all_rows_of_body c.params t.body in
      alike_or LikeOutcome (λ e. refl) (own_variant s) (get b.variants t.variant) _ (rows_of-variant s b t.variant) NoVariant _ _ (λ x found.
      alike_when LikeOutcome (λ e. refl) Released x.released _ refl _ _ (λ _.
      alike_when LikeOutcome (λ e. refl) Limit (nat_lt MAX_IMPORT_BYTES (length t.body)) _ refl _ _ (λ _.
      ap (λ rows. Ok (told (rows_of s b) rows)) (
      fates-own c s t.variant how all (tried how b s t.variant x header reads) (tried-sound c s t.variant how b sound x found header reads) (all_rows-form c.params t.body)
      ∙ ap (λ d. fates_of c.params how d s t.variant all) (tried-own c s t.variant how b x header reads)))))
