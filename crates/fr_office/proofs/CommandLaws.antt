-- What records that were read and changed come to, by what was decided.
use Rattle.std.proofs.Common.{◌≡◌, Bool, true, false, List, [], ◌∷◌, Result, Ok, Err, sym, ap, ◌∙◌, inl, inr, refl}
use Rattle.std.specs.Prelude.{⊤}
use Rattle.std.specs.List.{list_any}
use Rattle.fr_base.specs.Refusing.{◌>>=◌, ◌>>◌, refuse◌when◌}
use Rattle.fr_base.specs.Book.{Book, file_of}
use Rattle.fr_base.specs.Cluster.{Cluster, ClusterFile}
use Rattle.fr_base.specs.Names.{same_text}
use Rattle.fr_base.specs.Sound.{IsSound}
use Rattle.fr_base.specs.Step.{add_node, add_supplier, set_key, common, done}
use Rattle.fr_base.specs.Tables.{contains}
use Rattle.fr_base.specs.declared.answer.Answer.TheVariants.{Done}
use Rattle.fr_base.specs.declared.key.Key.{Key}
use Rattle.fr_base.specs.declared.name.Name.{Name}
use Rattle.fr_base.specs.declared.refusal.Refusal.{Refusal}
use Rattle.fr_base.specs.declared.refusal.Refusal.TheVariants.{NoSupplier}
use Rattle.fr_base.specs.declared.request.CommonCommand.{CommonCommand}
use Rattle.fr_base.proofs.SuppliersLaws.{contains-listed}
use Rattle.fr_world.specs.BookEdits.{applied, all_applied, variants_in}
use Rattle.fr_world.specs.Common.{common_edit}
use Rattle.fr_world.specs.Fits.{AllFit, Fits}
use Rattle.fr_world.specs.Nodes.{new_node}
use Rattle.fr_world.specs.Pages.{nodes_in}
use Rattle.fr_world.specs.Suppliers.{new_key, new_supplier}
use Rattle.fr_world.specs.declared.edit.Edit.{Edit}
use Rattle.fr_base.specs.declared.answer.VariantRow.{VariantRow}
use Rattle.fr_world.proofs.BookFits.{common-fits, node-fits, sound-knows}
use Rattle.fr_world.proofs.IntegratorLaws.{common-decides, node-decides}
use Rattle.fr_world.proofs.JoiningLaws.{joining-decides, joining-fits, key-decides, key-fits}
use Rattle.fr_office.specs.Carried.{Does, Performs}
use Rattle.fr_world.specs.Held.{Applies, Standing, Tells}

-- What is known of a sound book for which records stood and still stand.
abbrev pub Known : Standing → Standing → (Cluster → Book → Type 0) → Type 0
Known old now says = (c : Cluster) (b : Book) → old c b → IsSound c b → now c b × says c b

-- the definition refuses
pub refused : (old mid : Standing) (does : Cluster → Book → Result Book Refusal) (r : Result ⊤ Refusal) (e : Refusal) → r ≡ Err e → Known old mid (λ c b. does c b ≡ Err e) → Does old mid r does
refused old mid does (Ok x) e is known c b stood sound = cc
refused old mid does (Err f) e is known c b stood sound =
    let k = known c b stood sound in
    let same : e ≡ f = cc in
    (k.0, inr (k.1 ∙ ap Err same))

-- what decides it was not read
pub unread : {A : Type 0} (old mid : Standing) (does : Cluster → Book → Result Book Refusal) (asked : Result A Refusal) (says : Cluster → Book → A → Type 0) (r : Result ⊤ Refusal) (e : Refusal) → r ≡ Err e → asked ≡ Err e
    → Tells old mid asked says → Does old mid r does
unread old mid does asked says (Ok x) e is lacks tells c b stood sound = cc
unread old mid does (Ok t) says (Err f) e is lacks tells c b stood sound = cc
unread old mid does (Err h) says (Err f) e is lacks tells c b stood sound =
    let t = tells c b stood in
    let same : f ≡ h = cc in
    (t.0, inl (same ∙ t.1))

module _ (old mid new : Standing) (does : Cluster → Book → Result Book Refusal) where
  -- the edits are made, or it is Unavailable
  pub carried : (edits : List Edit) (r : Result ⊤ Refusal) → Known old mid (λ c b. AllFit c.params b edits × (does c b ≡ Ok (all_applied b edits))) → Applies mid new r edits → Does old new r does
  carried edits (Ok x) known made c b stood sound =
      let k = known c b stood sound in
      (all_applied b edits, k.1.1, made c b k.0 k.1.0)
  carried edits (Err e) known made c b stood sound =
      let k = known c b stood sound in
      let m = made c b k.0 k.1.0 in
      (m.1, inl m.0)

-- what was read decides one edit
module _ (old mid new : Standing) (does : Cluster → Book → Result Book Refusal) (decided : Result Edit Refusal)
    (is : Known old mid (λ c b. does c b ≡ (decided >>= λ edit. Ok (applied b edit)))) where
  edit_refused : (r : Result ⊤ Refusal) (e : Refusal) → r ≡ Err e → decided ≡ Err e → Does old mid r does
  unfolding ◌>>=◌
  edit_refused r e said stops = refused old mid does r e said (λ c b stood sound.
      let k = is c b stood sound in
      (k.0, k.1 ∙ ap (λ d. d >>= λ edit. Ok (applied b edit)) stops))

  edit_carried : (edit : Edit) (r : Result ⊤ Refusal) → decided ≡ Ok edit → Known old mid (λ c b. Fits c.params b edit) → Applies mid new r (edit ∷ []) → Does old new r does
  unfolding ◌>>=◌
  edit_carried edit r allowed fits = carried old mid new does (edit ∷ []) r (λ c b stood sound.
      let k = is c b stood sound in
      (k.0, (((fits c b stood sound).1, tt), k.1 ∙ ap (λ d. d >>= λ edit. Ok (applied b edit)) allowed)))

-- what is done to the rows is the command's outcome
pub performed : (old new : Standing) (r : Result ⊤ Refusal) (does : Cluster → Book → Result Book Refusal) → Does old new r does → Performs old new r (λ c b. done (does c b))
unfolding done ◌>>=◌
performed old new (Ok x) does did c b stood sound =
    let d = did c b stood sound in
    (d.0, ap (λ r. r >>= λ after. Ok (record { book = after; answer = Done })) d.1, d.2)
performed old new (Err e) does did c b stood sound =
    let d = did c b stood sound in (
      d.0,
      elim d.1 [
        | inl lacked ↦ inl lacked
        | inr refused ↦ inr (ap (λ r. r >>= λ after. Ok (record { book = after; answer = Done })) refused)
      ],
    )

-- ---- a supplier, by those that are there

module _ (old new : Standing) (file : ClusterFile) (same : (c : Cluster) (b : Book) → old c b → file ≡ file_of c b) (s : Name) (key : Key) where
  joining_told : Known old old (λ c b. add_supplier c b s key ≡ (new_supplier file s key >>= λ edit. Ok (applied b edit)))
  joining_told c b stood sound =
      (stood, joining-decides c b s key ∙ ap (λ f. new_supplier f s key >>= λ edit. Ok (applied b edit)) (sym (same c b stood)))

  joining_fits : (edit : Edit) → new_supplier file s key ≡ Ok edit → Known old old (λ c b. Fits c.params b edit)
  joining_fits edit allowed c b stood sound = (stood, joining-fits c b s key edit (ap (λ f. new_supplier f s key) (sym (same c b stood)) ∙ allowed))

  pub joining_refused : (r : Result ⊤ Refusal) (e : Refusal) → r ≡ Err e → new_supplier file s key ≡ Err e → Does old old r (λ c b. add_supplier c b s key)
  joining_refused = edit_refused old old new (λ c b. add_supplier c b s key) (new_supplier file s key) joining_told

  pub joining_carried : (edit : Edit) (r : Result ⊤ Refusal) → new_supplier file s key ≡ Ok edit → Applies old new r (edit ∷ []) → Does old new r (λ c b. add_supplier c b s key)
  joining_carried edit r allowed = edit_carried old old new (λ c b. add_supplier c b s key) (new_supplier file s key) joining_told edit r allowed (joining_fits edit allowed)

  key_told : Known old old (λ c b. set_key c b s key ≡ (new_key file s key >>= λ edit. Ok (applied b edit)))
  key_told c b stood sound =
      (stood, key-decides c b s key ∙ ap (λ f. new_key f s key >>= λ edit. Ok (applied b edit)) (sym (same c b stood)))

  key_fits : (edit : Edit) → new_key file s key ≡ Ok edit → Known old old (λ c b. Fits c.params b edit)
  key_fits edit allowed c b stood sound = (stood, key-fits c b s key edit (ap (λ f. new_key f s key) (sym (same c b stood)) ∙ allowed))

  pub key_refused : (r : Result ⊤ Refusal) (e : Refusal) → r ≡ Err e → new_key file s key ≡ Err e → Does old old r (λ c b. set_key c b s key)
  key_refused = edit_refused old old new (λ c b. set_key c b s key) (new_key file s key) key_told

  pub key_carried : (edit : Edit) (r : Result ⊤ Refusal) → new_key file s key ≡ Ok edit → Applies old new r (edit ∷ []) → Does old new r (λ c b. set_key c b s key)
  key_carried edit r allowed = edit_carried old old new (λ c b. set_key c b s key) (new_key file s key) key_told edit r allowed (key_fits edit allowed)

-- ---- a node, by the supplier's nodes

-- the supplier is there, or is not, as the list of suppliers has it
pub named-there : (old : Standing) (file : ClusterFile) (s : Name) (has t : Bool) → ((c : Cluster) (b : Book) → old c b → file ≡ file_of c b) →
    has ≡ list_any (λ x. same_text s x.name) file.suppliers → has ≡ t → (c : Cluster) (b : Book) → old c b → contains b.suppliers s ≡ t
named-there old file s has t same is so c b stood =
    sym (contains-listed b s) ∙ ap (λ (f : ClusterFile). list_any (λ x. same_text s x.name) f.suppliers) (sym (same c b stood)) ∙ sym is ∙ so

module _ (old mid new : Standing) (s n : Name) where
  -- there is no such supplier
  pub node_unnamed : ((c : Cluster) (b : Book) → old c b → contains b.suppliers s ≡ false) → Does old old (Err NoSupplier) (λ c b. add_node b s n)
  unfolding add_node ◌>>◌ refuse◌when◌
  node_unnamed unknown c b stood sound = (stood, inr (rw (unknown c b stood) refl))

  module _ (nodes : List Name) (known : (c : Cluster) (b : Book) → old c b → contains b.suppliers s ≡ true)
      (read : (c : Cluster) (b : Book) → old c b → mid c b × (nodes ≡ nodes_in b s)) where
    node_told : Known old mid (λ c b. add_node b s n ≡ (new_node s nodes n >>= λ edit. Ok (applied b edit)))
    node_told c b stood sound =
        let r = read c b stood in
        (r.0, node-decides b s n (known c b stood) ∙ ap (λ ns. new_node s ns n >>= λ edit. Ok (applied b edit)) (sym r.1))

    node_fits : (edit : Edit) → new_node s nodes n ≡ Ok edit → Known old mid (λ c b. Fits c.params b edit)
    node_fits edit allowed c b stood sound =
        let r = read c b stood in
        (r.0, node-fits c.params b s n edit (known c b stood) (ap (λ ns. new_node s ns n) (sym r.1) ∙ allowed))

    pub node_refused : (r : Result ⊤ Refusal) (e : Refusal) → r ≡ Err e → new_node s nodes n ≡ Err e → Does old mid r (λ c b. add_node b s n)
    node_refused = edit_refused old mid new (λ c b. add_node b s n) (new_node s nodes n) node_told

    pub node_carried : (edit : Edit) (r : Result ⊤ Refusal) → new_node s nodes n ≡ Ok edit → Applies mid new r (edit ∷ []) → Does old new r (λ c b. add_node b s n)
    node_carried edit r allowed = edit_carried old mid new (λ c b. add_node b s n) (new_node s nodes n) node_told edit r allowed (node_fits edit allowed)

-- ---- what is common, by the variants

module _ (old mid new : Standing) (command : CommonCommand) (variants : List VariantRow) (read : (c : Cluster) (b : Book) → old c b → mid c b × (variants ≡ variants_in b)) where
  common_told : Known old mid (λ c b. common b command ≡ (common_edit variants command >>= λ edit. Ok (applied b edit)))
  common_told c b stood sound =
      let r = read c b stood in
      (r.0, common-decides b command ∙ ap (λ vs. common_edit vs command >>= λ edit. Ok (applied b edit)) (sym r.1))

  common_fits : (edit : Edit) → common_edit variants command ≡ Ok edit → Known old mid (λ c b. Fits c.params b edit)
  common_fits edit allowed c b stood sound =
      let r = read c b stood in
      (r.0, common-fits c.params b command edit (sound-knows c b sound command) (ap (λ vs. common_edit vs command) (sym r.1) ∙ allowed))

  pub common_refused : (r : Result ⊤ Refusal) (e : Refusal) → r ≡ Err e → common_edit variants command ≡ Err e → Does old mid r (λ c b. common b command)
  common_refused = edit_refused old mid new (λ c b. common b command) (common_edit variants command) common_told

  pub common_carried : (edit : Edit) (r : Result ⊤ Refusal) → common_edit variants command ≡ Ok edit → Applies mid new r (edit ∷ []) → Does old new r (λ c b. common b command)
  common_carried edit r allowed = edit_carried old mid new (λ c b. common b command) (common_edit variants command) common_told edit r allowed (common_fits edit allowed)
