-- The file that a config says goes with the book.
use Rattle.std.proofs.Common.{◌≡◌, ◌∙◌, ℕ, suc, ◌+◌, ◌<◌, ◌++◌, List, [], ◌∷◌, take, length, get_or, arith, Option, Some, None, refl, ap, Bor, unwrap_or}
use Rattle.std.specs.Option.{option_copied}
use Rattle.std.proofs.Math.Seq.{take-suc}
use Rattle.fr_base.specs.Tables.{get}
use Rattle.fr_base.specs.Cluster.{Cluster, ClusterFile}
use Rattle.fr_base.specs.Book.{Book, Variant, file_of}
use Rattle.fr_base.specs.declared.name.Name.{Name}
use Rattle.fr_world.specs.BookEdits.{applied, all_applied, changed_at}
use Rattle.fr_world.specs.Fits.{Fits, AllFit}
use Rattle.fr_world.specs.declared.edit.Edit.{Edit}
use Rattle.fr_world.specs.declared.edit.Edit.TheVariants.{NewVariant, NewFlat, SetReleased, NewSupplier, SetKey, NewNode, Rows, KeepImport}
use Rattle.fr_world.proofs.JoiningLaws.{joining-is_listed, key-is_listed}
use Rattle.fr_store.specs.Joined.{after_edit, after_edits}

changed-file : (c : Cluster) (b : Book) (v : Name) (change : Variant → Variant) (o : Option Variant) → file_of c (changed_at b v change o) ≡ file_of c b
changed-file c b v change None = refl
changed-file c b v change (Some x) = refl

follows-one : (c : Cluster) (b : Book) (edit : Edit) → Fits c.params b edit → file_of c (applied b edit) ≡ after_edit (file_of c b) edit
unfolding applied
follows-one c b (NewVariant v parent depth) fits = refl
follows-one c b (NewFlat v from) fits = refl
follows-one c b (SetReleased v) fits = changed-file c b v _ (get b.variants v)
follows-one c b (NewSupplier s key) fits = joining-is_listed c b s key fits
follows-one c b (SetKey s key) fits = key-is_listed c b s key fits
follows-one c b (NewNode s n) fits = refl
follows-one c b (Rows rows) fits = changed-file c b rows.variant _ (get b.variants rows.variant)
follows-one c b (KeepImport s label v body rows) fits = refl

pub follows : (c : Cluster) (b : Book) (edits : List Edit) → AllFit c.params b edits → file_of c (all_applied b edits) ≡ after_edits (file_of c b) edits
follows c b [] fit = refl
follows c b (edit ∷ edits) fit = follows c (applied b edit) edits fit.1 ∙ ap (λ f. after_edits f edits) (follows-one c b edit fit.0)

-- the parameters and the integrator's key stay
cluster_after-one : (f : ClusterFile) (edit : Edit) → (after_edit f edit).cluster ≡ f.cluster
cluster_after-one f (NewVariant v parent depth) = refl
cluster_after-one f (NewFlat v from) = refl
cluster_after-one f (SetReleased v) = refl
cluster_after-one f (NewSupplier s key) = refl
cluster_after-one f (SetKey s key) = refl
cluster_after-one f (NewNode s n) = refl
cluster_after-one f (Rows rows) = refl
cluster_after-one f (KeepImport s label v body rows) = refl

pub cluster_after : (f : ClusterFile) (edits : List Edit) → (after_edits f edits).cluster ≡ f.cluster
cluster_after f [] = refl
cluster_after f (edit ∷ edits) = cluster_after (after_edit f edit) edits ∙ cluster_after-one f edit

after_more : (f : ClusterFile) (edits : List Edit) (edit : Edit) → after_edits f (edits ++ edit ∷ []) ≡ after_edit (after_edits f edits) edit
after_more f [] edit = refl
after_more f (e ∷ edits) edit = after_more (after_edit f e) edits edit

-- one edit more
pub after_next : (f : ClusterFile) (edits : List Edit) (at : ℕ) (edit : Edit) → at < length edits → get_or edits at edit ≡ edit → after_edits f (take (at + 1) edits) ≡ after_edit (after_edits f (take at edits)) edit
after_next f edits at edit low is =
    let next : at + 1 ≡ suc at = omega arith in
    ap (λ n. after_edits f (take n edits)) next ∙ ap (after_edits f) (take-suc edits at edit low ∙ ap (λ x. take at edits ++ x ∷ []) is) ∙ after_more f (take at edits) edit

-- where there is no other file, the file stays
pub no_other : (o : Option ClusterFile) (f : ClusterFile) → ((g : ClusterFile) → o ≡ Some g → ⊥) → unwrap_or o f ≡ f
no_other None f none = refl
no_other (Some g) f none = absurd (none g refl)

-- what is lent of the one file, if it is there, or else the other
pub lent_now : (lent : Option (Bor ClusterFile)) (other : Bor ClusterFile) (o : Option ClusterFile) (r : Bor ClusterFile) → r ≡ unwrap_or lent other → option_copied lent ≡ o → r.now ≡ unwrap_or o other.now
lent_now None other o r is h = ap (λ (r : Bor ClusterFile). r.now) is ∙ ap (λ o. unwrap_or o other.now) h
lent_now (Some file) other o r is h = ap (λ (r : Bor ClusterFile). r.now) is ∙ ap (λ o. unwrap_or o other.now) h
