-- Frames that a whole file left are freed by the same file as if they had been cleared before: to clear them again changes nothing.
use Rattle.std.proofs.Common.{◌≡◌, Bool, true, false, ◌||◌, ◌&&◌, cond, List, [], ◌∷◌, ◌++◌, Option, Some, None, Result, Ok, Err, refl, sym, ap, subst, ◌∙◌, inl, inr}
use Rattle.std.specs.List.{list_any}
use Rattle.std.proofs.lemmas.Bool.{cases_Bool}
use Rattle.fr_base.specs.Tables.{Table, left_by, empty, get}
use Rattle.fr_base.specs.Keys.{owned}
use Rattle.fr_base.specs.Names.{same_text}
use Rattle.fr_base.specs.Signals.{SignalData}
use Rattle.fr_base.specs.Book.{Frame, Variant, Book, is_of}
use Rattle.fr_base.specs.Brought.{node_for, nodes_for, placements_for, signals_for, node_or, had_placements, had_signals, put_in}
use Rattle.fr_base.specs.ReplacingLaws.{is_named}
use Rattle.fr_base.specs.Step.{freed, free_rows, names_with, cleared, clear_all}
use Rattle.fr_base.specs.declared.import.Header.{Header}
use Rattle.fr_base.specs.declared.import.Header.TheVariants.{Frames, Placements, Signals}
use Rattle.fr_base.specs.declared.import.Row.{Row}
use Rattle.fr_base.specs.declared.import.Row.TheVariants as row
use Rattle.fr_base.specs.declared.import.RowRead.{RowRead}
use Rattle.fr_base.specs.declared.name.Name.{Name}
use Rattle.fr_base.specs.declared.params.Params.{Params}
use Rattle.fr_base.specs.declared.placement.Placement.{Placement}
use Rattle.fr_base.specs.declared.refusal.Refusal.{Refusal}
use Rattle.fr_base.proofs.TableLaws.{same_table}
use Rattle.fr_base.proofs.SoundTables.{same_some}
use Rattle.fr_base.proofs.SoundRows.{same_text-is}
use Rattle.fr_base.proofs.AloneCells.{same_text-itself}
use Rattle.fr_base.proofs.ClearedFrames.{begins-mine, begins-others, free-others, StayOthers}
use Rattle.fr_base.proofs.BroughtLemmas.{Frees, Makes, RowsMake, free_rows-free, insert_all, node_of, unless_brought}

-- ---- a frame that rows name with its node

-- one of the names is this one
abbrev has_node : Name → List Name → Bool
has_node n names = list_any (λ m. same_text m n) names

-- one of the rows names the frame with this node
abbrev pub named_with : Name → Name → List RowRead → Bool
named_with f n reads = list_any (λ read. names_with f n read.row) reads

one_more : (n : Name) (a : Bool) (m : Name) (more : List Name) (rest : Bool) → has_node n (cond a (m ∷ []) [] ++ more) ≡ true → (has_node n more ≡ true → rest ≡ true) → ((a && same_text m n) || rest) ≡ true
one_more n true m more rest h next = elim (cases_Bool (same_text m n)) [
  | inl same ↦ rw same refl
  | inr other ↦ rw other (next (rw other at h))
]
one_more n false m more rest h next = next h

pub is_named_with : (f n : Name) (reads : List RowRead) → has_node n (nodes_for f reads) ≡ true → named_with f n reads ≡ true
is_named_with f n [] h = cc
is_named_with f n (read ∷ rest) h = one read.row h (is_named_with f n rest)
  where
    one : (r : Result Row Refusal) → has_node n (node_for f r ++ nodes_for f rest) ≡ true → (has_node n (nodes_for f rest) ≡ true → named_with f n rest ≡ true) → (names_with f n r || named_with f n rest) ≡ true
    one (Ok (row.AddFrame g m)) h next = one_more n (same_text g f) m (nodes_for f rest) (named_with f n rest) h next
    one (Ok (row.Place g m q)) h next = one_more n (same_text g f) m (nodes_for f rest) (named_with f n rest) h next
    one (Ok (row.AddSignal g x)) h next = next h
    one (Err e) h next = next h

-- ---- what a frame has that was cleared again

-- what is left of a frame that was cleared
abbrev left : Header → List RowRead → Name → Option Frame → Option Frame
left kind reads f o = left_by (cleared kind reads f o)

-- below the header of frames, a frame that the rows left is one that they name with its node
left_named : (reads : List RowRead) (f : Name) (ns : List Name) (o z u : Option Frame) → ns ≡ nodes_for f reads → node_of z ≡ node_of (left Frames reads f o) → node_or ns z ≡ node_of u →
    (w : Frame) → u ≡ Some w → named_with f w.node reads ≡ true
unfolding cleared
left_named reads f ns None (Some y) u is first made w at = let no : ◌≡◌ {A = Option Name} (Some y.node) None = first in cc
left_named reads f [] o None u is first made w at = let no : ◌≡◌ {A = Option Name} None (Some w.node) = made ∙ ap node_of at in cc
left_named reads f (n ∷ ns) o None u is first made w at =
    let same : n ≡ w.node = same_some _ _ (made ∙ ap node_of at) in
    is_named_with f w.node reads (ap (has_node w.node) (sym is) ∙ ap (λ m. same_text m w.node || has_node w.node ns) same ∙ ap (λ t. t || has_node w.node ns) (same_text-itself w.node))
left_named reads f ns (Some x) (Some y) u is first made w at = elim (cases_Bool (named_with f x.node reads)) [
  | inl stays ↦
      let same : x.node ≡ w.node = same_some _ _ (sym (rw stays at first) ∙ made ∙ ap node_of at) in
      ap (λ n. named_with f n reads) (sym same) ∙ stays
  | inr goes ↦ let no : ◌≡◌ {A = Option Name} (Some y.node) None = rw goes at first in cc
]

-- so to clear it again leaves it
pub left_stays : (reads : List RowRead) (f : Name) (u : Option Frame) → ((w : Frame) → u ≡ Some w → named_with f w.node reads ≡ true) → left Frames reads f u ≡ u
unfolding cleared
left_stays reads f None named = refl
left_stays reads f (Some w) named = rw (named w refl) refl

-- frames of one node are freed alike where rows bring placements, or both have the same; and so of signals
freed_alike : (qs : List Placement) (xs : List SignalData) (o₁ o₂ z₁ z₂ : Option Frame) → Frees qs xs o₁ z₁ → Frees qs xs o₂ z₂ → node_of o₁ ≡ node_of o₂ →
    unless_brought qs empty (had_placements o₁) ≡ unless_brought qs empty (had_placements o₂) → unless_brought xs [] (had_signals o₁) ≡ unless_brought xs [] (had_signals o₂) → z₁ ≡ z₂
freed_alike qs xs o₁ o₂ None None one two nodes places signs = refl
freed_alike qs xs o₁ o₂ (Some a) None one two nodes places signs = let no : ◌≡◌ {A = Option Name} (Some a.node) None = one.node ∙ nodes ∙ sym two.node in cc
freed_alike qs xs o₁ o₂ None (Some c) one two nodes places signs = let no : ◌≡◌ {A = Option Name} None (Some c.node) = one.node ∙ nodes ∙ sym two.node in cc
freed_alike qs xs o₁ o₂ (Some a) (Some c) one two nodes places signs =
    let node : a.node ≡ c.node = same_some _ _ (one.node ∙ nodes ∙ sym two.node) in
    let placements : a.placements ≡ c.placements = one.placements ∙ places ∙ sym two.placements in
    let signals : a.signals ≡ c.signals = one.signals ∙ signs ∙ sym two.signals in
    λ i. Some (record { node = node i; placements = placements i; signals = signals i })

-- what a frame has that was cleared below the headers of placements and signals
module _ (reads : List RowRead) (f : Name) where
  pub bare_node : (o : Option Frame) → node_of (left Placements reads f o) ≡ node_of o
  unfolding cleared freed
  bare_node None = refl
  bare_node (Some w) = refl

  pub bare_placements : (o : Option Frame) → had_placements (left Placements reads f o) ≡ empty
  unfolding cleared freed
  bare_placements None = refl
  bare_placements (Some w) = refl

  pub bare_signals : (o : Option Frame) → had_signals (left Placements reads f o) ≡ had_signals o
  unfolding cleared freed
  bare_signals None = refl
  bare_signals (Some w) = refl

  pub unsigned_node : (o : Option Frame) → node_of (left Signals reads f o) ≡ node_of o
  unfolding cleared freed
  unsigned_node None = refl
  unsigned_node (Some w) = refl

  pub unsigned_placements : (o : Option Frame) → had_placements (left Signals reads f o) ≡ had_placements o
  unfolding cleared freed
  unsigned_placements None = refl
  unsigned_placements (Some w) = refl

  pub unsigned_signals : (o : Option Frame) → had_signals (left Signals reads f o) ≡ []
  unfolding cleared freed
  unsigned_signals None = refl
  unsigned_signals (Some w) = refl

-- where nothing is brought, nothing was there
none_brought : {A B : Type 0} (put : List A → B → B) (xs : List A) (none z u : B) → ((b : B) → put [] b ≡ b) → z ≡ unless_brought xs none none → u ≡ put xs z → unless_brought xs none none ≡ unless_brought xs none u
none_brought put [] none z u nothing freed made = sym (made ∙ nothing z ∙ freed)
none_brought put (x ∷ xs) none z u nothing freed made = refl

module _ (p : Params) (b : Book) (s v : Name) (y : Variant) (reads : List RowRead) where
  -- one frame: what it was, what it was freed to, what the rows made of it
  module _ (f : Name) (o z u : Option Frame) where
    abbrev qs : List Placement
    qs = placements_for f reads

    abbrev xs : List SignalData
    xs = signals_for f reads

    alike_frame : (kind : Header) → Frees qs xs (left kind reads f o) z → Makes (is_named f reads) (nodes_for f reads) qs xs z u → (z₁ z₂ : Option Frame) → Frees qs xs (left kind reads f u) z₁ → Frees qs xs u z₂ → z₁ ≡ z₂
    alike_frame Frames frees makes z₁ z₂ one two =
        let same : left Frames reads f u ≡ u = left_stays reads f u (left_named reads f (nodes_for f reads) o z u refl frees.node makes.node) in
        freed_alike qs xs _ _ z₁ z₂ one two (ap node_of same) (ap (λ o. unless_brought qs empty (had_placements o)) same) (ap (λ o. unless_brought xs [] (had_signals o)) same)
    alike_frame Placements frees makes z₁ z₂ one two =
        freed_alike qs xs _ _ z₁ z₂ one two (bare_node reads f u)
        (ap (unless_brought qs empty) (bare_placements reads f u)
        ∙ none_brought insert_all qs empty (had_placements z) (had_placements u) (λ t. refl) (frees.placements ∙ ap (unless_brought qs empty) (bare_placements reads f o)) makes.placements)
        (ap (unless_brought xs []) (bare_signals reads f u))
    alike_frame Signals frees makes z₁ z₂ one two =
        freed_alike qs xs _ _ z₁ z₂ one two (unsigned_node reads f u)
        (ap (unless_brought qs empty) (unsigned_placements reads f u))
        (ap (unless_brought xs []) (unsigned_signals reads f u)
        ∙ none_brought (λ ys had. put_in had ys) xs [] (had_signals z) (had_signals u) (λ l. refl) (frees.signals ∙ ap (unless_brought xs []) (unsigned_signals reads f o)) makes.signals)

  -- where the rows made the last of the frames that were cleared and freed, to clear the last before they are freed changes nothing
  pub alike_freed : (whole : Option Header) (t last : Table owned Frame) → ((f : Name) → RowsMake p b s v y f reads (free_rows s reads (clear_all s whole reads t)) last) →
      free_rows s reads (clear_all s whole reads last) ≡ free_rows s reads last
  unfolding clear_all StayOthers
  alike_freed None t last makes = refl
  alike_freed (Some kind) t last makes = same_table _ _ (λ k. elim (cases_Bool (is_of s k)) [
    | inl mine ↦
        let key : k ≡ (s, k.1) = λ i. (same_text-is k.0 s mine i, k.1) in
        let f : Name = k.1 in
        subst (λ j. get (free_rows s reads (clear_all s (Some kind) reads last)) j ≡ get (free_rows s reads last) j) (sym key)
        (alike_frame f (get t (s, f)) _ (get last (s, f)) kind (begun f t) (makes f) _ _ (begun f last) (free_rows-free s f reads last))
    | inr other ↦ free-others s reads (clear_all s (Some kind) reads last) k other ∙ begins-others s (Some kind) reads last k other ∙ sym (free-others s reads last k other)
  ])
    where
      begun : (f : Name) (u : Table owned Frame) → Frees (placements_for f reads) (signals_for f reads) (left kind reads f (get u (s, f))) (get (free_rows s reads (clear_all s (Some kind) reads u)) (s, f))
      begun f u = subst (λ o. Frees (placements_for f reads) (signals_for f reads) o (get (free_rows s reads (clear_all s (Some kind) reads u)) (s, f))) (begins-mine s (Some kind) reads u f) (free_rows-free s f reads (clear_all s (Some kind) reads u))
