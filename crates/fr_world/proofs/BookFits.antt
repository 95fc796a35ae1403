-- What is decided on a page, of a node or of all variants fits the register's rows.
use Rattle.std.proofs.Common.{◌≡◌, ◌≤◌, ℕ, suc, false, not, List, [], ◌∷◌, ◌++◌, Option, Some, None, is_some, Ok, IfOk, IsTrue, refl, sym, ap, subst, ◌∙◌, arith, append-nil, leb-false}
use Rattle.std.specs.Prelude.{IsFalse, ◌||◌, nat_le}
use Rattle.std.specs.List.{AllByRecursion}
use Rattle.std.specs.Option.{option_map}
use Rattle.fr_base.specs.Refusing.{◌>>=◌, ◌>>◌, ◌or◌, refuse◌when◌}
use Rattle.fr_base.specs.Tables.{get, contains}
use Rattle.fr_base.specs.Keys.{owned}
use Rattle.fr_base.specs.Cluster.{Cluster}
use Rattle.fr_base.specs.Book.{Frame, Variant, Book, is_of, own}
use Rattle.fr_base.specs.Sound.{IsOpenedFrom, IsSound}
use Rattle.fr_base.specs.Step.{OwnRows, own_rows, changed}
use Rattle.fr_base.specs.Changes.{in_rows}
use Rattle.fr_base.specs.declared.limits.TheConstants.{MAX_DEPTH}
use Rattle.fr_base.specs.declared.import.Header.{Header}
use Rattle.fr_base.specs.declared.import.RowRead.{RowRead}
use Rattle.fr_base.specs.declared.name.Name.{Name}
use Rattle.fr_base.specs.declared.params.Params.{Params}
use Rattle.fr_base.specs.declared.refusal.Refusal.TheVariants.{NoVariant, Released, NotReleased, TooDeep}
use Rattle.fr_base.specs.declared.request.Change.{Change}
use Rattle.fr_base.specs.declared.request.Change.TheVariants.{Grant, Revoke, Frame as OfFrame}
use Rattle.fr_base.specs.declared.beginning.Beginning.{Beginning}
use Rattle.fr_base.specs.declared.beginning.Beginning.TheVariants.{Empty, From, Flat}
use Rattle.fr_base.specs.declared.request.CommonCommand.{CommonCommand}
use Rattle.fr_base.specs.declared.request.CommonCommand.TheVariants.{OpenVariant, Release}
use Rattle.fr_base.specs.declared.request.FrameChange.{FrameChange}
use Rattle.fr_base.specs.declared.request.FrameChange.TheVariants.{Add, Drop, Place, Unplace, AddSignal, DropSignal}
use Rattle.fr_base.proofs.ParametersLaws.{few_words}
use Rattle.fr_base.proofs.SoundRefusing.{gives_bind, gives_next, gives_unless, gives_unless_last, gives_when}
use Rattle.fr_base.proofs.SoundRows.{own-held}
use Rattle.fr_base.proofs.SoundImports.{Keeps, keeps_all, keeps_on}
use Rattle.fr_base.proofs.SoundTables.{some_there, value_of, contains-more}
use Rattle.fr_base.proofs.AloneCells.{same_text-itself}
use Rattle.fr_base.proofs.AloneTables.{get-own}
use Rattle.fr_world.specs.BookEdits.{applied, changed_at, variants_in}
use Rattle.fr_world.specs.Common.{allows_flat, common_edit, depth_after, opening}
use Rattle.fr_world.specs.Decisions.{IsChecked, admits_alone, decision}
use Rattle.fr_world.specs.Edits.{FitsFrame, FitsPage, FitsRows, IsOf, Leads, edited, releases}
use Rattle.fr_world.specs.Fits.{AllFit, Fits, FitsVariant, HasKnownSuppliers, IsCopiable, IsUnheld, KnowsSuppliers}
use Rattle.fr_world.specs.Nodes.{new_node}
use Rattle.fr_world.specs.Pages.{own_rows_of, nodes_in, page_in}
use Rattle.fr_world.specs.ReplacementDecisions.{replacement_decision}
use Rattle.fr_world.specs.RowDecisions.{AreChecked, rows_decision}
use Rattle.fr_world.specs.declared.edit.Edit.{Edit}
use Rattle.fr_world.specs.declared.edit.Edit.TheVariants.{NewVariant, NewFlat, SetReleased, NewSupplier, SetKey, NewNode, Rows, KeepImport}
use Rattle.fr_world.proofs.AgreeLaws.{edits-agree}
use Rattle.fr_world.proofs.FitsLaws.{none_there}
use Rattle.fr_world.proofs.IntegratorLaws.{node-listed, row, row-of, row-there}
use Rattle.fr_world.proofs.LeadsLaws.{rows-leave}
use Rattle.fr_world.proofs.PageLaws.{rows-kept, rows-registers}
use Rattle.fr_world.proofs.ReplacementsLead.{replacement-leads}
use Rattle.fr_world.proofs.RowsLead.{IsFrameChange, IsOfFrame, frames-lead, is_counted}

-- ---- what fits a supplier's own rows fits those of all

module _ (c : Cluster) (b : Book) (s : Name) (x : Variant) where
  abbrev page : OwnRows
  page = own_rows c.params b s x

  -- the frame's change
  frame-fits : (there : Option Frame) (what : FrameChange) → FitsFrame (own s b.nodes) s there what → FitsFrame b.nodes s there what
  frame-fits there (Add node) fits = (sym (ap is_some (get-own owned (is_of s) b.nodes (s, node) (same_text-itself s))) ∙ fits.0, fits.1)
  frame-fits there Drop fits = fits
  frame-fits (Some frame) (Place q) fits = fits
  frame-fits (Some frame) (Unplace q) fits = fits
  frame-fits (Some frame) (AddSignal signal) fits = fits
  frame-fits (Some frame) (DropSignal name) fits = fits
  frame-fits None (Place q) fits = fits
  frame-fits None (Unplace q) fits = fits
  frame-fits None (AddSignal signal) fits = fits
  frame-fits None (DropSignal name) fits = fits

  -- the change
  change-fits : (what : Change) → IsUnheld x what → FitsRows page what → FitsVariant b.nodes s x what
  unfolding own_rows
  change-fits (Grant slot channel node) unheld fits = (sym (ap is_some (get-own owned (is_of s) b.nodes (s, node) (same_text-itself s))) ∙ fits.0, unheld)
  change-fits (Revoke slot channel) unheld fits = own-held x.grants s (slot, channel) fits
  change-fits (OfFrame f what) unheld fits =
      frame-fits (get x.frames (s, f)) what (subst (λ o. FitsFrame (own s b.nodes) s o what) (get-own owned (is_of s) x.frames (s, f) (same_text-itself s)) fits)

-- ---- what is decided on a page

module _ (c : Cluster) (b : Book) (s v : Name) (x : Variant) (sound : IsSound c b) (there : get b.variants v ≡ Some x) (what : Change) (checked : IsChecked c.params what) (unheld : IsUnheld x what) where
  decided : IfOk (decision (page_in c.params b s v x) what) (AllFit c.params b)
  unfolding decision
  decided =
      let mine : OwnRows = own_rows_of (page_in c.params b s v x) in
      gives_when _ _ x.released _ (λ unreleased.
      gives_next _ _ (admits_alone mine what) _
      (rows-leave mine (rows-kept c b s v x sound there).page (few_words c.params sound.cluster.params) what checked)
      (λ _ leaves.
      let fits : FitsRows (own_rows c.params b s x) what = subst (λ rows. FitsRows rows what) (rows-registers c b s v x) leaves.0 in
      ((x, record { there = there; unreleased = unreleased }, change-fits c b s x what unheld fits, is_counted c.params what checked), tt)))

pub decision-fits : (c : Cluster) (b : Book) (s v : Name) (x : Variant) (what : Change) (edits : List Edit) → IsSound c b → get b.variants v ≡ Some x → IsChecked c.params what → IsUnheld x what →
    decision (page_in c.params b s v x) what ≡ Ok edits → AllFit c.params b edits
decision-fits c b s v x what edits sound there checked unheld e = subst (λ r. IfOk r (AllFit c.params b)) e (decided c b s v x sound there what checked unheld)

-- ---- what the rows of an import are decided to

module _ (c : Cluster) (s v : Name) where
  -- a frame's change that fits the page fits the book
  frame_change-fits : (b : Book) (x : Variant) → get b.variants v ≡ Some x → IsFalse x.released → (t w : Name) (what : Change) → IsFrameChange c.params what → (t ≡ s) × (w ≡ v) → FitsRows (own_rows c.params b s x) what →
      Fits c.params b (Rows (in_rows t w what))
  unfolding own_rows
  frame_change-fits b x there unreleased t w (OfFrame f what) of own fits = (
    x,
    record { there = ap (get b.variants) own.1 ∙ there; unreleased = unreleased },
    subst (λ u. FitsFrame b.nodes u (get x.frames (u, f)) what) (sym own.0) (change-fits c b s x (OfFrame f what) tt fits),
    of,
  )
  frame_change-fits b x there unreleased t w (Grant slot channel node) of own fits = absurd of
  frame_change-fits b x there unreleased t w (Revoke slot channel) of own fits = absurd of

  -- so does an edit that is one
  one-fits : (b : Book) (x : Variant) → get b.variants v ≡ Some x → IsFalse x.released → (edit : Edit) → IsOfFrame c.params edit → IsOf s v edit → FitsPage (own_rows c.params b s x) edit → Fits c.params b edit
  one-fits b x there unreleased (Rows rows) of own fits = frame_change-fits b x there unreleased rows.supplier rows.variant rows.change of own fits
  one-fits b x there unreleased (NewVariant w parent depth) of own fits = absurd of
  one-fits b x there unreleased (NewFlat w from) of own fits = absurd of
  one-fits b x there unreleased (SetReleased w) of own fits = absurd of
  one-fits b x there unreleased (NewNode t n) of own fits = absurd of
  one-fits b x there unreleased (NewSupplier t key) of own fits = absurd of
  one-fits b x there unreleased (SetKey t key) of own fits = absurd of
  one-fits b x there unreleased (KeepImport t label w body rows) of own fits = absurd of

  -- and leaves the variant open
  still_open : (edit : Edit) → IsOfFrame c.params edit → releases edit ≡ false
  still_open (Rows rows) of = refl
  still_open (NewVariant w parent depth) of = absurd of
  still_open (NewFlat w from) of = absurd of
  still_open (SetReleased w) of = absurd of
  still_open (NewNode t n) of = absurd of
  still_open (NewSupplier t key) of = absurd of
  still_open (SetKey t key) of = absurd of
  still_open (KeepImport t label w body rows) of = absurd of

  changed-keeps : (b : Book) (w : Name) (change : Variant → Variant) (o : Option Variant) → Keeps b (changed_at b w change o)
  changed-keeps b w change None = keeps_all b
  changed-keeps b w change (Some x) = record { suppliers = refl; nodes = refl; imports = refl; variants = λ u there. contains-more b.variants w (change x) u there }

  -- it leaves the suppliers and the imports, and each variant is there still
  one-keeps : (b : Book) (edit : Edit) → IsOfFrame c.params edit → Keeps b (applied b edit)
  unfolding applied
  one-keeps b (Rows rows) of = changed-keeps b rows.variant (changed rows.supplier rows.change) (get b.variants rows.variant)
  one-keeps b (NewVariant w parent depth) of = absurd of
  one-keeps b (NewFlat w from) of = absurd of
  one-keeps b (SetReleased w) of = absurd of
  one-keeps b (NewNode t n) of = absurd of
  one-keeps b (NewSupplier t key) of = absurd of
  one-keeps b (SetKey t key) of = absurd of
  one-keeps b (KeepImport t label w body rows) of = absurd of

  -- the edits fit, and then more that fit a book in which these stay
  all-fit : (edits more : List Edit) (b : Book) (x : Variant) (mine last : OwnRows) → get b.variants v ≡ Some x → IsFalse x.released → mine ≡ own_rows c.params b s x → AllByRecursion (IsOfFrame c.params) edits → Leads v mine edits last →
      ((d : Book) → Keeps b d → AllFit c.params d more) → AllFit c.params b (edits ++ more)
  unfolding own_rows
  all-fit [] more b x mine last there unreleased is of led then = then b (keeps_all b)
  all-fit (edit ∷ edits) more b x mine last there unreleased is of led then =
      let same : mine.supplier ≡ s = ap (λ (r : OwnRows). r.supplier) is in
      let own : IsOf s v edit = subst (λ t. IsOf t v edit) same led.0.own in
      let next = edits-agree c b s v x edit there own in (
        one-fits b x there unreleased edit of.0 own (subst (λ r. FitsPage r edit) is led.1),
        all-fit edits more (applied b edit) next.0 (edited mine edit) last next.1
            (next.3 ∙ ap (λ t. t || x.released) (still_open edit of.0) ∙ unreleased)
            (ap (λ r. edited r edit) is ∙ sym next.2) of.1 led.2
            (λ d keeps. then d (keeps_on b (applied b edit) d (one-keeps b edit of.0) keeps)),
      )

module _ (c : Cluster) (b : Book) (s v : Name) (x : Variant) (reads : List RowRead) (edits : List Edit) (sound : IsSound c b) (there : get b.variants v ≡ Some x) (unreleased : IsFalse x.released) (checked : AreChecked c.params reads)
    (decided : rows_decision (page_in c.params b s v x) reads ≡ Ok edits) where
  -- what the rows are decided to fits, and then more
  rows-more : (more : List Edit) → ((d : Book) → Keeps b d → AllFit c.params d more) → AllFit c.params b (edits ++ more)
  rows-more more then =
      let led = frames-lead (page_in c.params b s v x) sound.cluster.params (rows-kept c b s v x sound there) reads checked edits decided in
      all-fit c s v edits more b x _ _ there unreleased (rows-registers c b s v x) led.1 led.0 then

pub rows-fit : (c : Cluster) (b : Book) (s v : Name) (x : Variant) (reads : List RowRead) (edits : List Edit) → IsSound c b → get b.variants v ≡ Some x → IsFalse x.released → AreChecked c.params reads →
    rows_decision (page_in c.params b s v x) reads ≡ Ok edits → AllFit c.params b edits
rows-fit c b s v x reads edits sound there unreleased checked e = subst (AllFit c.params b) (append-nil edits) (rows-more c b s v x reads edits sound there unreleased checked e [] (λ d keeps. tt))

pub import-fits : (c : Cluster) (b : Book) (s v label : Name) (x : Variant) (body : List ℕ) (reads : List RowRead) (edits : List Edit) (count : ℕ) → IsSound c b → get b.variants v ≡ Some x → IsFalse x.released → IsTrue (contains b.suppliers s) →
    get b.imports (s, label) ≡ None → AreChecked c.params reads → rows_decision (page_in c.params b s v x) reads ≡ Ok edits → AllFit c.params b (edits ++ KeepImport s label v body count ∷ [])
import-fits c b s v label x body reads edits count sound there unreleased known free checked e =
    rows-more c b s v x reads edits sound there unreleased checked e (KeepImport s label v body count ∷ []) (λ d keeps.
    ((ap (λ t. contains t s) keeps.suppliers ∙ known, keeps.variants v (some_there (get b.variants v) x there), ap (λ t. get t (s, label)) keeps.imports ∙ free), tt))

-- ---- what a replacement is decided to

pub replacement-fits : (c : Cluster) (b : Book) (s v : Name) (x : Variant) (whole : Option Header) (reads : List RowRead) (edits : List Edit) → IsSound c b → get b.variants v ≡ Some x → IsFalse x.released → AreChecked c.params reads →
    replacement_decision (page_in c.params b s v x) whole reads ≡ Ok edits → AllFit c.params b edits
replacement-fits c b s v x whole reads edits sound there unreleased checked decided =
    let led = replacement-leads (page_in c.params b s v x) sound.cluster.params (rows-kept c b s v x sound there) whole reads checked edits decided in
    subst (AllFit c.params b) (append-nil edits) (all-fit c s v edits [] b x _ _ there unreleased (rows-registers c b s v x) led.1 led.0 (λ d keeps. tt))

-- ---- what is decided of a node, and of all variants

module _ (p : Params) (b : Book) (s n : Name) (known : IsTrue (contains b.suppliers s)) where
  node-made : IfOk (new_node s (nodes_in b s) n) (Fits p b)
  unfolding new_node
  node-made =
      gives_when _ _ _ _ (λ new.
      gives_when _ _ _ _ (λ _.
      (known, none_there (get b.nodes (s, n)) (node-listed b s n ∙ new))))

pub node-fits : (p : Params) (b : Book) (s n : Name) (edit : Edit) → IsTrue (contains b.suppliers s) → new_node s (nodes_in b s) n ≡ Ok edit → Fits p b edit
node-fits p b s n edit known e = subst (λ r. IfOk r (Fits p b)) e (node-made p b s n known)

-- in a sound book the suppliers of a variant's frames are there
pub sound-knows : (c : Cluster) (b : Book) → IsSound c b → (command : CommonCommand) → KnowsSuppliers b command
sound-knows c b sound (OpenVariant v Empty) = tt
sound-knows c b sound (OpenVariant v (From parent)) = tt
sound-knows c b sound (OpenVariant v (Flat from)) = λ x there k has.
    let f = value_of (get x.frames k) has in
    (sound.nodes k.0 f.0.node ((sound.variants from x there).1.frames k f.0 f.1).node).1
sound-knows c b sound (Release v) = tt

module _ (params : Params) (b : Book) where
  abbrev Begins : Option Name → ℕ → Type 0
  Begins parent depth = IsOpenedFrom b.variants parent depth × (depth ≤ MAX_DEPTH)

  parent-found : (p : Name) (o : Option Variant) → get b.variants p ≡ o →
      IfOk ((option_map (row p) o or NoVariant) >>= λ r. (refuse NotReleased when not r.released) >> ((refuse TooDeep when nat_le MAX_DEPTH r.depth) >> Ok (suc r.depth))) (Begins (Some p))
  unfolding ◌or◌ ◌>>=◌
  parent-found p None e = tt
  parent-found p (Some y) e = gives_unless _ _ _ _ (λ released. gives_when _ _ _ _ (λ shallow. ((y, e, released, refl), omega (arith, leb-false MAX_DEPTH y.depth shallow))))

  depth-begins : (parent : Option Name) → IfOk (depth_after (variants_in b) parent) (Begins parent)
  unfolding depth_after
  depth-begins None = (refl, omega arith)
  depth-begins (Some p) =
      subst (λ o. IfOk ((o or NoVariant) >>= λ r. (refuse NotReleased when not r.released) >> ((refuse TooDeep when nat_le MAX_DEPTH r.depth) >> Ok (suc r.depth))) (Begins (Some p)))
      (sym (row-of b p)) (parent-found p (get b.variants p) refl)

  release-found : (v : Name) (o : Option Variant) → get b.variants v ≡ o →
      IfOk ((option_map (row v) o or NoVariant) >>= λ r. (refuse Released when r.released) >> Ok (SetReleased v)) (Fits params b)
  unfolding ◌or◌ ◌>>=◌
  release-found v None e = tt
  release-found v (Some y) e = gives_when _ _ _ _ (λ unreleased. (y, record { there = e; unreleased = unreleased }))

  abbrev Knows : Name → Type 0
  Knows from = (x : Variant) → get b.variants from ≡ Some x → HasKnownSuppliers b x

  flat-found : (from : Name) → Knows from → (o : Option Variant) → get b.variants from ≡ o →
      IfOk ((option_map (row from) o or NoVariant) >>= λ r. refuse NotReleased when not r.released) (λ _. IsCopiable b from)
  unfolding ◌or◌ ◌>>=◌
  flat-found from known None e = tt
  flat-found from known (Some y) e = gives_unless_last _ _ _ (λ released. (y, e, released, known y e))

  flat-allowed : (from : Name) → Knows from → IfOk (allows_flat (variants_in b) from) (λ _. IsCopiable b from)
  unfolding allows_flat
  flat-allowed from known =
      subst (λ o. IfOk ((o or NoVariant) >>= λ r. refuse NotReleased when not r.released) (λ _. IsCopiable b from))
      (sym (row-of b from)) (flat-found from known (get b.variants from) refl)

  -- what opens a variant fits where the variant is not there yet
  abbrev FitsNew : Name → Edit → Type 0
  FitsNew v edit = get b.variants v ≡ None → Fits params b edit

  opening-made : (v : Name) (beginning : Beginning Name) → KnowsSuppliers b (OpenVariant v beginning) → IfOk (opening (variants_in b) v beginning) (FitsNew v)
  unfolding opening
  opening-made v Empty known = λ none. (none, refl, omega arith)
  opening-made v (From parent) known = gives_bind _ (Begins (Some parent)) (depth_after (variants_in b) (Some parent)) _ (depth-begins (Some parent)) (λ depth begins none. (none, begins.0, begins.1))
  opening-made v (Flat from) known = gives_next _ (λ _. IsCopiable b from) (allows_flat (variants_in b) from) _ (flat-allowed from known) (λ _ copiable none. (none, copiable))

  common-made : (command : CommonCommand) → KnowsSuppliers b command → IfOk (common_edit (variants_in b) command) (Fits params b)
  unfolding common_edit
  common-made (OpenVariant v beginning) known =
      gives_bind _ (FitsNew v) (opening (variants_in b) v beginning) _ (opening-made v beginning known) (λ edit fits.
      gives_when _ _ _ _ (λ new.
      gives_when _ _ _ _ (λ _.
      fits (none_there (get b.variants v) (row-there b v ∙ new)))))
  common-made (Release v) known =
      subst (λ o. IfOk ((o or NoVariant) >>= λ r. (refuse Released when r.released) >> Ok (SetReleased v)) (Fits params b))
      (sym (row-of b v)) (release-found v (get b.variants v) refl)

pub common-fits : (p : Params) (b : Book) (command : CommonCommand) (edit : Edit) → KnowsSuppliers b command → common_edit (variants_in b) command ≡ Ok edit → Fits p b edit
common-fits p b command edit known e = subst (λ r. IfOk r (Fits p b)) e (common-made p b command known)
