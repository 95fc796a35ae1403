-- Files that are imported one after another: where each file's rows are carried out, each is answered Imported.
use Rattle.std.proofs.Common.{◌≡◌, ◌≢◌, ℕ, suc, ◌+◌, ◌≤◌, true, false, cond, nat_lt, nat_le, List, [], ◌∷◌, ◌++◌, map, length, Some, None, Ok, IsTrue, All, refl, sym, ap, subst, ◌∙◌, inl, inr, arith}
use Rattle.std.specs.Ordering.{eq_by_cmp}
use Rattle.std.proofs.lemmas.Bool.{cases_Bool}
use Rattle.std.proofs.lemmas.Bool.Decides.{nat_tests}
use Rattle.std.proofs.lemmas.List.Elements.{All-head, All-tail}
use Rattle.fr_base.specs.Refusing.{◌>>=◌, ◌>>◌, refuse◌when◌}
use Rattle.fr_base.specs.Tables.{Table, get, contains, len, insert}
use Rattle.fr_base.specs.Keys.{owned}
use Rattle.fr_base.specs.Alone.{answers_to, book_after}
use Rattle.fr_base.specs.Cluster.{Cluster}
use Rattle.fr_base.specs.Checks.{asking, name, purpose, check}
use Rattle.fr_base.specs.Names.{is_name}
use Rattle.fr_base.specs.Book.{Frame, Variant, Kept, Book, is_of, own}
use Rattle.fr_base.specs.ExportedLaws.{ReadsAs, File, import_of, MayBeKept}
use Rattle.fr_base.specs.ImportRows.{rows_of_body}
use Rattle.fr_base.specs.Step.{Outcome, with_import, act_rows, imported, import, act, deliver, outcome, step}
use Rattle.fr_base.specs.declared.limits.TheConstants.{MAX_IMPORTS, MAX_IMPORT_BYTES}
use Rattle.fr_base.specs.declared.actor.Actor.TheVariants.{Supplier}
use Rattle.fr_base.specs.declared.answer.Answer.TheVariants as answer
use Rattle.fr_base.specs.declared.import.Row.{Row}
use Rattle.fr_base.specs.declared.import.RowRead.{RowRead}
use Rattle.fr_base.specs.declared.name.Name.{Name}
use Rattle.fr_base.specs.declared.params.Params.{Params}
use Rattle.fr_base.specs.declared.request.Ask.{Ask}
use Rattle.fr_base.specs.declared.delivery.Delivery.{Delivery}
use Rattle.fr_base.specs.declared.request.Request.TheVariants as request
use Rattle.fr_base.specs.declared.delivery.Purpose.TheVariants as purpose
use Rattle.fr_base.proofs.TableLaws.{equal, get-insert, insert-same}
use Rattle.fr_base.proofs.SoundTables.{len-within, only-insert}
use Rattle.fr_base.proofs.AloneCells.{same_text-itself}
use Rattle.fr_base.proofs.LayoutLaws.{AllPairs-head, AllPairs-tail}
use Rattle.fr_base.proofs.FrameRuns.{past_or, past_when, at, lifted, variant_at, run_in, act_rows-lift}

-- ---- rows of files

module _ (p : Params) where
  -- the rows of the files, one file's after another's, and then more
  abbrev pub AreRows : List File → List Row → List Row → Type 0
  AreRows [] rows more = rows ≡ more
  AreRows (file ∷ files) rows more = (first : List Row) × ((rest : List Row) × (rows ≡ first ++ rest) × ReadsAs p file.body first × AreRows files rest more)

  pub rows-append : (files later : List File) (rows mid more : List Row) → AreRows files rows mid → AreRows later mid more → AreRows (files ++ later) rows more
  rows-append [] later rows mid more are others = subst (λ l. AreRows later l more) (sym are) others
  rows-append (file ∷ files) later rows mid more are others = (are.0, (are.1.0, are.1.1, are.1.2, rows-append files later are.1.0 mid more are.1.3 others))

-- ---- the step of an import

step-import : (c : Cluster) (d : Book) (s : Name) (variant label body : List ℕ) → contains d.suppliers s ≡ true → is_name variant ≡ true → is_name label ≡ true →
    step c d (Supplier s) (request.Deliver variant (purpose.Import label) body) ≡ outcome d (import c.params d (record { supplier = s; variant = variant; how = purpose.Import label; body = body }) label (get d.imports (s, label)))
unfolding step act deliver check purpose asking name ◌>>=◌ ◌>>◌ refuse◌when◌
step-import c d s variant label body known named labelled = rw (known, named, labelled) refl

short_enough : (n : ℕ) → n ≤ MAX_IMPORT_BYTES → nat_lt MAX_IMPORT_BYTES n ≡ false
short_enough n h = grind (arith, nat_tests)

one_more : (m n : ℕ) → m + suc n ≤ MAX_IMPORTS → nat_le MAX_IMPORTS m ≡ false
one_more m n h = grind (arith, nat_tests)

both_all : {X : Type 0} (P Q R : X → Type 0) (xs : List X) → All P xs → All Q xs → ((x : X) → P x → Q x → R x) → All R xs
both_all P Q R xs all some make k d within = make _ (all k d within) (some k d within)

module _ (c : Cluster) (b : Book) (s v : Name) (y : Variant) (open_now : y.released ≡ false) (named : is_name v ≡ true) where
  -- the variant with these frames
  abbrev pub with_frames : Table owned Frame → Variant
  with_frames t = record y { frames = t }

  -- the book now: the nodes are as they were, the supplier is known, and the variant has these frames
  pub record Now (d : Book) (t : Table owned Frame) : Type 0 where
    pub nodes : d.nodes ≡ b.nodes
    pub there : get d.variants v ≡ Some (with_frames t)
    pub known : contains d.suppliers s ≡ true

  abbrev it : File → Delivery
  it file = record { supplier = s; variant = v; how = purpose.Import file.label; body = file.body }

  abbrev count : File → ℕ
  count file = length (rows_of_body c.params file.body)

  -- the book after an import
  abbrev after : Book → Table owned Frame → Table owned Frame → File → Book
  after d t u file = with_import (at c.params d s v (with_frames t) u) (it file) file.label (count file)

  pub import-passes : (d : Book) (t u : Table owned Frame) (file : File) (files : List File) → Now d t → MayBeKept d s (file ∷ files) →
      run_in c.params d s v (with_frames t) false t (rows_of_body c.params file.body) ≡ Ok u →
      step c d (Supplier s) (request.Deliver v (purpose.Import file.label) file.body) ≡ record { book = after d t u file; answer = answer.Imported (count file) }
  unfolding import imported outcome lifted
  import-passes d t u file files now may run =
      step-import c d s v file.label file.body now.known named (All-head (λ f. IsTrue (is_name f.label)) file files may.names)
      ∙ ap (λ o. outcome d (import c.params d (it file) file.label o)) (All-head (λ f. get d.imports (s, f.label) ≡ None) file files may.free)
      ∙ ap (outcome d) (
      past_or _ _ (with_frames t) _ now.there
      ∙ past_when _ y.released _ open_now
      ∙ past_when _ (nat_lt MAX_IMPORT_BYTES (length file.body)) _ (short_enough (length file.body) (All-head (λ f. length f.body ≤ MAX_IMPORT_BYTES) file files may.bytes))
      ∙ past_when _ (nat_le MAX_IMPORTS (len (own s d.imports))) _ (one_more (len (own s d.imports)) (length files) may.room)
      ∙ ap (λ r. Ok (imported d (it file) file.label (count file) r)) (
      ap (λ vs. act_rows c.params (record d { variants = vs }) s v (rows_of_body c.params file.body)) (sym (insert-same d.variants v (with_frames t) now.there))
      ∙ act_rows-lift c.params d s v (with_frames t) open_now now.known (rows_of_body c.params file.body) t
      ∙ ap (lifted c.params d s v (with_frames t)) run))

  now-after : (d : Book) (t u : Table owned Frame) (file : File) → Now d t → Now (after d t u file) u
  now-after d t u file now = record {
    nodes = now.nodes;
    there = variant_at c.params d s v (with_frames t) u;
    known = now.known;
  }

  still_free : (d : Book) (kept : Kept) (l m : Name) → l ≢ m → get d.imports (s, m) ≡ None → get (insert d.imports (s, l) kept) (s, m) ≡ None
  still_free d kept l m apart free =
      get-insert d.imports (s, l) kept (s, m) ∙ elim (cases_Bool (eq_by_cmp owned.compare (s, m) (s, l))) [
        | inl tie ↦ absurd (apart (sym (ap (λ (k : Name × Name). k.1) (owned.exact (s, m) (s, l) (equal _ tie)))))
        | inr other ↦ ap (λ t. cond t (Some kept) (get d.imports (s, m))) other ∙ free
      ]

  fewer_left : (m n l : ℕ) → m + suc n ≤ MAX_IMPORTS → l ≤ m + 1 → l + n ≤ MAX_IMPORTS
  fewer_left m n l h k = omega (arith, h, k)

  kept-after : (d : Book) (t u : Table owned Frame) (file : File) (files : List File) → MayBeKept d s (file ∷ files) → MayBeKept (after d t u file) s files
  kept-after d t u file files may =
      let one : Kept = record { variant = v; body = file.body; rows = count file } in
      let more : len (own s (insert d.imports (s, file.label) one)) ≤ len (own s d.imports) + 1 =
      subst (λ t. len t ≤ len (own s d.imports) + 1) (sym (only-insert owned (is_of s) d.imports (s, file.label) one (same_text-itself s)))
      (len-within (own s d.imports) (s, file.label) one (len (own s d.imports) + 1) (omega arith) (inr (omega arith))) in
      record {
        bytes = All-tail (λ f. length f.body ≤ MAX_IMPORT_BYTES) file files may.bytes;
        names = All-tail (λ f. IsTrue (is_name f.label)) file files may.names;
        free = both_all _ _ _ files (All-tail (λ f. get d.imports (s, f.label) ≡ None) file files may.free) (AllPairs-head (λ (f g : File). f.label ≢ g.label) file files may.apart)
            (λ f free apart. still_free d one file.label f.label apart free);
        apart = AllPairs-tail (λ (f g : File). f.label ≢ g.label) file files may.apart;
        room = fewer_left (len (own s d.imports)) (length files) _ may.room more;
      }

  -- ---- files in turn

  -- what holds of frames to which rows are still to come, where each file's rows are carried out
  module _ (Holds : List Row → Table owned Frame → Type 0)
      (runs : (d : Book) (t : Table owned Frame) → Now d t → (reads : List RowRead) (rows more : List Row) → map (λ read. read.row) reads ≡ map Ok rows → Holds (rows ++ more) t →
      (u : Table owned Frame) × (run_in c.params d s v (with_frames t) false t reads ≡ Ok u) × Holds more u) where
    abbrev asks : List File → List Ask
    asks files = map (import_of s v) files

    -- the files were imported, and more may be
    pub record AreImported (files later : List File) (more : List Row) (d : Book) : Type 0 where
      pub answers : answers_to c d (asks files) ≡ map (λ file. answer.Imported (count file)) files
      pub frames : Table owned Frame
      pub now : Now (book_after c d (asks files)) frames
      pub may : MayBeKept (book_after c d (asks files)) s later
      pub holds : Holds more frames

    pub files-run : (files later : List File) (rows more : List Row) (d : Book) (t : Table owned Frame) → Now d t → MayBeKept d s (files ++ later) → AreRows c.params files rows more → Holds rows t → AreImported files later more d
    files-run [] later rows more d t now may are holds = record { answers = refl; frames = t; now = now; may = may; holds = subst (λ l. Holds l t) are holds }
    files-run (file ∷ files) later rows more d t now may are holds =
        let first = are.0 in
        let rest = are.1.0 in
        let one = runs d t now (rows_of_body c.params file.body) first rest are.1.2 (subst (λ l. Holds l t) are.1.1 holds) in
        let done = import-passes d t one.0 file (files ++ later) now may one.1 in
        let others = files-run files later rest more (after d t one.0 file) one.0 (now-after d t one.0 file now) (kept-after d t one.0 file (files ++ later) may) are.1.3 one.2 in
        let book : book_after c d (asks (file ∷ files)) ≡ book_after c (after d t one.0 file) (asks files) = ap (λ (o : Outcome). book_after c o.book (asks files)) done in
        record {
          answers = ap (λ (o : Outcome). o.answer ∷ answers_to c o.book (asks files)) done ∙ ap (λ l. answer.Imported (count file) ∷ l) others.answers;
          frames = others.frames;
          now = subst (λ z. Now z others.frames) (sym book) others.now;
          may = subst (λ z. MayBeKept z s later) (sym book) others.may;
          holds = others.holds;
        }

-- ---- one lot of files and then another

module _ (c : Cluster) (s v : Name) where
  pub answers-append : (files later : List File) (d : Book) →
      answers_to c d (map (import_of s v) (files ++ later)) ≡ answers_to c d (map (import_of s v) files) ++ answers_to c (book_after c d (map (import_of s v) files)) (map (import_of s v) later)
  answers-append [] later d = refl
  answers-append (file ∷ files) later d =
      ap (λ l. (step c d (Supplier s) (request.Deliver v (purpose.Import file.label) file.body)).answer ∷ l) (answers-append files later (step c d (Supplier s) (request.Deliver v (purpose.Import file.label) file.body)).book)

  pub book-append : (files later : List File) (d : Book) → book_after c d (map (import_of s v) (files ++ later)) ≡ book_after c (book_after c d (map (import_of s v) files)) (map (import_of s v) later)
  book-append [] later d = refl
  book-append (file ∷ files) later d = book-append files later (step c d (Supplier s) (request.Deliver v (purpose.Import file.label) file.body)).book
