-- A supplier that joins, or has another key, by the list of those that are there.
use Rattle.std.proofs.Common.{◌≡◌, false, Option, None, is_some, subst, Result, Ok, Err, refl, ap, ◌∙◌}
use Rattle.std.specs.Prelude.{⊤}
use Rattle.fr_base.specs.Refusing.{◌>>=◌, ◌>>◌}
use Rattle.fr_base.specs.Tables.{get, insert}
use Rattle.fr_base.specs.Cluster.{Cluster}
use Rattle.fr_base.specs.Joining.{joined, admits_supplier}
use Rattle.fr_base.specs.KeyChanges.{with_key, admits_key}
use Rattle.fr_base.specs.Book.{Book, file_of}
use Rattle.fr_base.specs.Step.{add_supplier, set_key}
use Rattle.fr_base.specs.declared.key.Key.{Key}
use Rattle.fr_base.specs.declared.name.Name.{Name}
use Rattle.fr_base.specs.declared.refusal.Refusal.{Refusal}
use Rattle.fr_base.proofs.SuppliersLaws.{add_supplier-listed, file_of-joined, listed_is_free}
use Rattle.fr_base.proofs.KeyLaws.{set_key-listed, file_of-keyed, listed_is_there}
use Rattle.fr_world.specs.BookEdits.{applied}
use Rattle.fr_world.specs.Fits.{Fits}
use Rattle.fr_world.specs.Suppliers.{new_key, new_supplier}
use Rattle.fr_world.specs.declared.edit.Edit.{Edit}
use Rattle.fr_world.specs.declared.edit.Edit.TheVariants.{NewSupplier, SetKey}

pub joining-decides : (c : Cluster) (b : Book) (s : Name) (key : Key) → add_supplier c b s key ≡ (new_supplier (file_of c b) s key >>= λ edit. Ok (applied b edit))
unfolding new_supplier ◌>>◌ ◌>>=◌ applied
joining-decides c b s key = add_supplier-listed c b s key ∙ alike (admits_supplier (file_of c b) s key)
  where
    alike : (r : Result ⊤ Refusal) → (r >> Ok (record b { suppliers = insert b.suppliers s key })) ≡ ((r >> Ok (NewSupplier s key)) >>= λ edit. Ok (applied b edit))
    alike (Ok x) = refl
    alike (Err e) = refl

same_edit : (one two : Edit) → ◌≡◌ {A = Result Edit Refusal} (Ok one) (Ok two) → one ≡ two
same_edit one two e = cc

pub joining-fits : (c : Cluster) (b : Book) (s : Name) (key : Key) (edit : Edit) → new_supplier (file_of c b) s key ≡ Ok edit → Fits c.params b edit
unfolding new_supplier ◌>>◌
joining-fits c b s key edit made = fits (admits_supplier (file_of c b) s key) refl made
  where
    fits : (r : Result ⊤ Refusal) → admits_supplier (file_of c b) s key ≡ r → (r >> Ok (NewSupplier s key)) ≡ Ok edit → Fits c.params b edit
    fits (Ok x) admitted is = subst (Fits c.params b) (same_edit (NewSupplier s key) edit is) (listed_is_free c b s key admitted)
    fits (Err e) admitted is = cc

free_of : {A : Type 0} (o : Option A) → o ≡ None → is_some o ≡ false
free_of o e = ap is_some e

pub joining-is_listed : (c : Cluster) (b : Book) (s : Name) (key : Key) → Fits c.params b (NewSupplier s key) → file_of c (applied b (NewSupplier s key)) ≡ joined (file_of c b) s key
unfolding applied
joining-is_listed c b s key free = file_of-joined c b s key (free_of (get b.suppliers s) free)

-- ---- another key

pub key-decides : (c : Cluster) (b : Book) (s : Name) (key : Key) → set_key c b s key ≡ (new_key (file_of c b) s key >>= λ edit. Ok (applied b edit))
unfolding new_key ◌>>◌ ◌>>=◌ applied
key-decides c b s key = set_key-listed c b s key ∙ alike (admits_key (file_of c b) s key)
  where
    alike : (r : Result ⊤ Refusal) → (r >> Ok (record b { suppliers = insert b.suppliers s key })) ≡ ((r >> Ok (SetKey s key)) >>= λ edit. Ok (applied b edit))
    alike (Ok x) = refl
    alike (Err e) = refl

pub key-fits : (c : Cluster) (b : Book) (s : Name) (key : Key) (edit : Edit) → new_key (file_of c b) s key ≡ Ok edit → Fits c.params b edit
unfolding new_key ◌>>◌
key-fits c b s key edit made = fits (admits_key (file_of c b) s key) refl made
  where
    fits : (r : Result ⊤ Refusal) → admits_key (file_of c b) s key ≡ r → (r >> Ok (SetKey s key)) ≡ Ok edit → Fits c.params b edit
    fits (Ok x) admitted is = subst (Fits c.params b) (same_edit (SetKey s key) edit is) (listed_is_there c b s key admitted)
    fits (Err e) admitted is = cc

pub key-is_listed : (c : Cluster) (b : Book) (s : Name) (key : Key) → Fits c.params b (SetKey s key) → file_of c (applied b (SetKey s key)) ≡ with_key (file_of c b) s key
unfolding applied
key-is_listed c b s key there = file_of-keyed c b s key there
