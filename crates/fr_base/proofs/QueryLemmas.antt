-- What a proof about the names of a query opens, and what comes of a query whose names are read, or not.
use Rattle.std.proofs.Common.{◌≡◌, ◌∙◌, ◌⊎◌, inl, inr, ℕ, Option, Some, None, Result, Ok, Err, IfOk, refl, sym, ap}
use Rattle.std.specs.Prelude.{⊤, MatchResult, option_map}
use Rattle.fr_base.specs.Refusing.{◌>>=◌}
use Rattle.fr_base.specs.QueryNames.{IsReportRead, IsQueryRead, report_by, report_in, report_with, query_by, query_in, query_with}
use Rattle.fr_base.specs.declared.query.Query.{Query}
use Rattle.fr_base.specs.declared.query.Query.TheVariants.{Register, Variant, Difference}
use Rattle.fr_base.specs.declared.import.Header.{Header}
use Rattle.fr_base.specs.declared.report.Report.{Report}
use Rattle.fr_base.specs.declared.report.Report.TheVariants.{Grants, Frames, Schedule, Gaps, Layout, Load, Rows, Room, Export}

unfoldable pub names_open : ⊤
unfolding ◌>>=◌ IsReportRead IsQueryRead
names_open = tt

module _ {N M A E : Type 0} (reads : N → Result A E → Type 0) (counts : M → Result ℕ E → Type 0) where
  pub layout_read : (frame : N) (f : A) → reads frame (Ok f) → IsReportRead reads counts (Layout frame) (Ok (Layout f))
  unfolding names_open
  layout_read frame f read = (Ok f, read, refl)

  pub layout_unread : (frame : N) (e : E) → reads frame (Err e) → IsReportRead {A = A} reads counts (Layout frame) (Err e)
  unfolding names_open
  layout_unread frame e unread = (Err e, unread, refl)

  pub room_read : (frame : N) (f : A) (repetition : M) (r : ℕ) → reads frame (Ok f) → counts repetition (Ok r) → IsReportRead reads counts (Room frame repetition) (Ok (Room f r))
  unfolding names_open
  room_read frame f repetition r read counted = (Ok f, read, (Ok r, counted, refl))

  pub room_unread : (frame : N) (repetition : M) (e : E) → reads frame (Err e) → IsReportRead {A = A} reads counts (Room frame repetition) (Err e)
  unfolding names_open
  room_unread frame repetition e unread = (Err e, unread, refl)

  pub room_uncounted : (frame : N) (f : A) (repetition : M) (e : E) → reads frame (Ok f) → counts repetition (Err e) → IsReportRead {A = A} reads counts (Room frame repetition) (Err e)
  unfolding names_open
  room_uncounted frame f repetition e read uncounted = (Ok f, read, (Err e, uncounted, refl))

  pub export_read : (header : Header) (part : M) (k : ℕ) → counts part (Ok k) → IsReportRead {A = A} reads counts (Export header part) (Ok (Export header k))
  unfolding names_open
  export_read header part k counted = (Ok k, counted, refl)

  pub export_unread : (header : Header) (part : M) (e : E) → counts part (Err e) → IsReportRead {A = A} reads counts (Export header part) (Err e)
  unfolding names_open
  export_unread header part e uncounted = (Err e, uncounted, refl)

  pub query_read : (variant : N) (v : A) (report : Report N M) (r : Report A ℕ) → reads variant (Ok v) → IsReportRead reads counts report (Ok r) →
      IsQueryRead reads counts (Variant variant report) (Ok (Variant v r))
  unfolding names_open
  query_read variant v report r read asked = (Ok v, read, (Ok r, asked, refl))

  pub variant_unread : (variant : N) (report : Report N M) (e : E) → reads variant (Err e) → IsQueryRead {A = A} reads counts (Variant variant report) (Err e)
  unfolding names_open
  variant_unread variant report e unread = (Err e, unread, refl)

  pub report_unread : (variant : N) (v : A) (report : Report N M) (e : E) → reads variant (Ok v) → IsReportRead {A = A} reads counts report (Err e) →
      IsQueryRead {A = A} reads counts (Variant variant report) (Err e)
  unfolding names_open
  report_unread variant v report e read unread = (Ok v, read, (Err e, unread, refl))

  pub difference_read : (variant : N) (v : A) (from : N) (f : A) → reads variant (Ok v) → reads from (Ok f) → IsQueryRead reads counts (Difference variant from) (Ok (Difference v f))
  unfolding names_open
  difference_read variant v from f read other = (Ok v, read, (Ok f, other, refl))

  pub newer_unread : (variant from : N) (e : E) → reads variant (Err e) → IsQueryRead {A = A} reads counts (Difference variant from) (Err e)
  unfolding names_open
  newer_unread variant from e unread = (Err e, unread, refl)

  pub older_unread : (variant : N) (v : A) (from : N) (e : E) → reads variant (Ok v) → reads from (Err e) → IsQueryRead {A = A} reads counts (Difference variant from) (Err e)
  unfolding names_open
  older_unread variant v from e read unread = (Ok v, read, (Err e, unread, refl))

-- where a name is what the first function makes of it, and a number what the second does, so is the query
module _ {N M A E : Type 0} (f : N → Result A E) (g : M → Result ℕ E) where
  report_alike : (report : Report N M) (result : Result (Report A ℕ) E) → IsReportRead (λ word read. read ≡ f word) (λ word read. read ≡ g word) report result → result ≡ report_in f g report
  unfolding names_open
  report_alike Grants result is = is
  report_alike Frames result is = is
  report_alike Schedule result is = is
  report_alike Gaps result is = is
  report_alike (Layout frame) result (read, is_name, is) = rw is (rw is_name refl)
  report_alike Load result is = is
  report_alike Rows result is = is
  report_alike (Room frame repetition) result (Ok n, is_name, (number, is_number, is)) = rw is (rw is_number (rw (sym is_name) refl))
  report_alike (Room frame repetition) result (Err e, is_name, is) = rw is (rw (sym is_name) refl)
  report_alike (Export header part) result (number, is_number, is) = rw is (rw is_number refl)

  pub query_alike : (query : Query N M) (result : Result (Query A ℕ) E) → IsQueryRead (λ word read. read ≡ f word) (λ word read. read ≡ g word) query result → result ≡ query_in f g query
  unfolding names_open
  query_alike (Register inventory) result is = is
  query_alike (Variant variant report) result (Ok v, is_name, (r, read, is)) =
      is ∙ ap (λ u. u >>= (λ r. Ok (Variant v r))) (report_alike report r read) ∙ ap (λ n. n >>= (λ v. report_in f g report >>= (λ r. Ok (Variant v r)))) is_name
  query_alike (Variant variant report) result (Err e, is_name, is) = is ∙ ap (λ n. n >>= (λ v. report_in f g report >>= (λ r. Ok (Variant v r)))) is_name
  query_alike (Difference variant from) result (Ok v, is_name, (other, is_other, is)) =
      is ∙ ap (λ u. u >>= (λ o. Ok (Difference v o))) is_other ∙ ap (λ n. n >>= (λ v. f from >>= (λ o. Ok (Difference v o)))) is_name
  query_alike (Difference variant from) result (Err e, is_name, is) = is ∙ ap (λ n. n >>= (λ v. f from >>= (λ o. Ok (Difference v o)))) is_name

-- where a reader makes this of each name that it reads, and that of each number, so do the names and numbers of the query become
module _ {N M A E : Type 0} (f : N → A) (g : M → ℕ) where
  abbrev Makes : {X Y : Type 0} → (X → Y) → X → Result Y E → Type 0
  Makes h word result = IfOk result (λ made. made ≡ h word)

  report_made : (report : Report N M) (result : Result (Report A ℕ) E) → IsReportRead (Makes f) (Makes g) report result → IfOk result (λ made. made ≡ report_with f g report)
  unfolding names_open
  report_made Grants result is = rw is refl
  report_made Frames result is = rw is refl
  report_made Schedule result is = rw is refl
  report_made Gaps result is = rw is refl
  report_made (Layout frame) result (Ok name, made, is) = rw is (ap Layout made)
  report_made (Layout frame) result (Err e, made, is) = rw is tt
  report_made Load result is = rw is refl
  report_made Rows result is = rw is refl
  report_made (Room frame repetition) result (Ok name, made, (Ok number, counted, is)) = rw is (ap (λ n. Room n number) made ∙ ap (Room (f frame)) counted)
  report_made (Room frame repetition) result (Ok name, made, (Err e, counted, is)) = rw is tt
  report_made (Room frame repetition) result (Err e, made, is) = rw is tt
  report_made (Export header part) result (Ok number, counted, is) = rw is (ap (Export header) counted)
  report_made (Export header part) result (Err e, counted, is) = rw is tt

  pub query_made : (query : Query N M) (result : Result (Query A ℕ) E) → IsQueryRead (Makes f) (Makes g) query result → IfOk result (λ made. made ≡ query_with f g query)
  unfolding names_open
  query_made (Register inventory) result is = rw is refl
  query_made (Variant variant report) result (Ok v, made, (Ok r, read, is)) = rw is (ap (λ n. Variant n r) made ∙ ap (Variant (f variant)) (report_made report (Ok r) read))
  query_made (Variant variant report) result (Ok v, made, (Err e, read, is)) = rw is tt
  query_made (Variant variant report) result (Err e, made, is) = rw is tt
  query_made (Difference variant from) result (Ok v, made, (Ok o, other, is)) = rw is (ap (λ n. Difference n o) made ∙ ap (Difference (f variant)) other)
  query_made (Difference variant from) result (Ok v, made, (Err e, other, is)) = rw is tt
  query_made (Difference variant from) result (Err e, made, is) = rw is tt

-- Where names are read alike and each number is read, or found to be none, so is the query. `Lacks` says why a name is not read, `Refuses` why a
-- number is not.
module _ {N M A E : Type 0} (f : N → A) (g : M → Option ℕ) (Lacks Refuses : E → Type 0) where
  -- The name is read alike; or for such a cause it is not.
  abbrev pub IsNamed : N → Result A E → Type 0
  IsNamed word result = MatchResult result (λ made. made ≡ f word) Lacks

  -- The number is read; or there is none, and for such a cause it is refused.
  abbrev pub IsCounted : M → Result ℕ E → Type 0
  IsCounted word result = MatchResult result (λ number. g word ≡ Some number) (λ e. Refuses e × (g word ≡ None))

  -- What was to be read is this; or for such a cause it is not.
  abbrev IsTaken : {X : Type 0} → Option X → Result X E → Type 0
  IsTaken said result = MatchResult result (λ made. said ≡ Some made) (λ e. Lacks e ⊎ (Refuses e × (said ≡ None)))

  report_taken : (report : Report N M) (result : Result (Report A ℕ) E) → IsReportRead IsNamed IsCounted report result → IsTaken (report_by f g report) result
  unfolding names_open
  report_taken Grants result is = rw is refl
  report_taken Frames result is = rw is refl
  report_taken Schedule result is = rw is refl
  report_taken Gaps result is = rw is refl
  report_taken (Layout frame) result (Ok name, made, is) = rw (is, made) refl
  report_taken (Layout frame) result (Err e, lacks, is) = rw is (inl lacks)
  report_taken Load result is = rw is refl
  report_taken Rows result is = rw is refl
  report_taken (Room frame repetition) result (Ok name, made, (Ok number, counted, is)) = rw (is, made, counted) refl
  report_taken (Room frame repetition) result (Ok name, made, (Err e, (refuses, none), is)) = rw is (inr (refuses, ap (option_map (Room (f frame))) none))
  report_taken (Room frame repetition) result (Err e, lacks, is) = rw is (inl lacks)
  report_taken (Export header part) result (Ok number, counted, is) = rw (is, counted) refl
  report_taken (Export header part) result (Err e, (refuses, none), is) = rw is (inr (refuses, ap (option_map (Export header)) none))

  more_taken : {X Y : Type 0} (h : X → Y) (said : Option X) (e : E) → Lacks e ⊎ (Refuses e × (said ≡ None)) → Lacks e ⊎ (Refuses e × (option_map h said ≡ None))
  more_taken h said e (inl lacks) = inl lacks
  more_taken h said e (inr (refuses, none)) = inr (refuses, ap (option_map h) none)

  pub query_taken : (query : Query N M) (result : Result (Query A ℕ) E) → IsQueryRead IsNamed IsCounted query result → IsTaken (query_by f g query) result
  unfolding names_open
  query_taken (Register inventory) result is = rw is refl
  query_taken (Variant variant report) result (Ok v, made, (Ok r, read, is)) = rw (is, made) (ap (option_map (Variant (f variant))) (report_taken report (Ok r) read))
  query_taken (Variant variant report) result (Ok v, made, (Err e, read, is)) = rw is (more_taken (Variant (f variant)) (report_by f g report) e (report_taken report (Err e) read))
  query_taken (Variant variant report) result (Err e, lacks, is) = rw is (inl lacks)
  query_taken (Difference variant from) result (Ok v, made, (Ok o, other, is)) = rw (is, made, other) refl
  query_taken (Difference variant from) result (Ok v, made, (Err e, lacks, is)) = rw is (inl lacks)
  query_taken (Difference variant from) result (Err e, lacks, is) = rw is (inl lacks)

-- Where a name that is not read has no other reading, and a number neither, a query that is not read has none.
module _ {N M A E : Type 0} (reads : N → Result A E → Type 0) (counts : M → Result ℕ E → Type 0)
    (once : (word : N) (e : E) (made : A) → reads word (Err e) → reads word (Ok made) → ⊥)
    (counted_once : (word : M) (e : E) (number : ℕ) → counts word (Err e) → counts word (Ok number) → ⊥) where
  report_once : (report : Report N M) (e : E) (r : Report A ℕ) → IsReportRead reads counts report (Err e) → IsReportRead reads counts report (Ok r) → ⊥
  unfolding names_open
  report_once Grants e r none is = cc
  report_once Frames e r none is = cc
  report_once Schedule e r none is = cc
  report_once Gaps e r none is = cc
  report_once Load e r none is = cc
  report_once Rows e r none is = cc
  report_once (Layout frame) e r (Ok f, has, lost) is = cc
  report_once (Layout frame) e r (Err e', none, lost) (Ok f, has, is) = once frame e' f none has
  report_once (Layout frame) e r (Err _, none, lost) (Err _, other, is) = cc
  report_once (Room frame repetition) e r (Ok f, has, (Ok n, counted, lost)) is = cc
  report_once (Room frame repetition) e r (Ok f, has, (Err e', none, lost)) (Ok _, _, (Ok n, counted, is)) = counted_once repetition e' n none counted
  report_once (Room frame repetition) e r (Ok f, has, (Err _, none, lost)) (Ok _, _, (Err _, other, is)) = cc
  report_once (Room frame repetition) e r (Ok f, has, (Err _, none, lost)) (Err _, other, is) = cc
  report_once (Room frame repetition) e r (Err e', none, lost) (Ok f, has, is) = once frame e' f none has
  report_once (Room frame repetition) e r (Err _, none, lost) (Err _, other, is) = cc
  report_once (Export header part) e r (Ok n, counted, lost) is = cc
  report_once (Export header part) e r (Err e', none, lost) (Ok n, counted, is) = counted_once part e' n none counted
  report_once (Export header part) e r (Err _, none, lost) (Err _, other, is) = cc

  pub query_once : (query : Query N M) (e : E) (q : Query A ℕ) → IsQueryRead reads counts query (Err e) → IsQueryRead reads counts query (Ok q) → ⊥
  unfolding names_open
  query_once (Register inventory) e q none is = cc
  query_once (Variant variant report) e q (Ok v, has, (Ok r, read, lost)) is = cc
  query_once (Variant variant report) e q (Ok v, has, (Err e', none, lost)) (Ok _, _, (Ok r, read, is)) = report_once report e' r none read
  query_once (Variant variant report) e q (Ok v, has, (Err e', none, lost)) (Ok _, _, (Err _, other, is)) = cc
  query_once (Variant variant report) e q (Ok v, has, (Err e', none, lost)) (Err _, other, is) = cc
  query_once (Variant variant report) e q (Err e', none, lost) (Ok v, has, is) = once variant e' v none has
  query_once (Variant variant report) e q (Err _, none, lost) (Err _, other, is) = cc
  query_once (Difference variant from) e q (Ok v, has, (Ok f, other, lost)) is = cc
  query_once (Difference variant from) e q (Ok v, has, (Err e', none, lost)) (Ok _, _, (Ok f, other, is)) = once from e' f none other
  query_once (Difference variant from) e q (Ok v, has, (Err _, none, lost)) (Ok _, _, (Err _, other, is)) = cc
  query_once (Difference variant from) e q (Ok v, has, (Err _, none, lost)) (Err _, other, is) = cc
  query_once (Difference variant from) e q (Err e', none, lost) (Ok v, has, is) = once variant e' v none has
  query_once (Difference variant from) e q (Err _, none, lost) (Err _, other, is) = cc

-- Each name and number of a query is such a one.
module _ {N M : Type 0} (Named : N → Type 0) (Counted : M → Type 0) where
  abbrev EachOfReport : Report N M → Type 0
  EachOfReport (Layout frame) = Named frame
  EachOfReport (Room frame repetition) = Named frame × Counted repetition
  EachOfReport (Export header part) = Counted part
  EachOfReport _ = ⊤

  abbrev pub EachOf : Query N M → Type 0
  EachOf (Register inventory) = ⊤
  EachOf (Variant variant report) = Named variant × EachOfReport report
  EachOf (Difference variant from) = Named variant × Named from

-- Where each is one that can be read, the query is read.
module _ {N M A E : Type 0} (reads : N → Result A E → Type 0) (counts : M → Result ℕ E → Type 0) (Named : N → Type 0) (Counted : M → Type 0)
    (name_at : (word : N) → Named word → (made : A) × reads word (Ok made)) (number_at : (word : M) → Counted word → (number : ℕ) × counts word (Ok number)) where
  report_filled : (report : Report N M) → EachOfReport Named Counted report → (r : Report A ℕ) × IsReportRead reads counts report (Ok r)
  unfolding names_open
  report_filled Grants has = (Grants, refl)
  report_filled Frames has = (Frames, refl)
  report_filled Schedule has = (Schedule, refl)
  report_filled Gaps has = (Gaps, refl)
  report_filled Load has = (Load, refl)
  report_filled Rows has = (Rows, refl)
  report_filled (Layout frame) has = let of = name_at frame has in (Layout of.0, (Ok of.0, of.1, refl))
  report_filled (Room frame repetition) has =
      let of = name_at frame has.0 in
      let every = number_at repetition has.1 in
      (Room of.0 every.0, (Ok of.0, of.1, (Ok every.0, every.1, refl)))
  report_filled (Export header part) has = let of = number_at part has in (Export header of.0, (Ok of.0, of.1, refl))

  pub query_filled : (query : Query N M) → EachOf Named Counted query → (q : Query A ℕ) × IsQueryRead reads counts query (Ok q)
  unfolding names_open
  query_filled (Register inventory) has = (Register inventory, refl)
  query_filled (Variant variant report) has =
      let of = name_at variant has.0 in
      let asked = report_filled report has.1 in
      (Variant of.0 asked.0, (Ok of.0, of.1, (Ok asked.0, asked.1, refl)))
  query_filled (Difference variant from) has =
      let of = name_at variant has.0 in
      let other = name_at from has.1 in
      (Difference of.0 other.0, (Ok of.0, of.1, (Ok other.0, other.1, refl)))
