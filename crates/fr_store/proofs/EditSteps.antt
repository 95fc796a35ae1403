-- Edits that are carried out one after the other.
use Rattle.std.proofs.Common.{◌≡◌, ℕ, suc, false, ◌+◌, ◌<◌, ◌≤◌, List, [], ◌∷◌, ◌++◌, take, drop, length, get_or, refl, sym, ap, ◌∙◌, subst, arith}
use Rattle.std.proofs.lemmas.List.{take_all}
use Rattle.std.proofs.lemmas.List.Elements.{All-get_or}
use Rattle.std.proofs.Math.Seq.{take-suc, drop-cons}
use Rattle.sqlite.specs.State.{State, KeepsCommit}
use Rattle.fr_base.specs.Cluster.{Cluster}
use Rattle.fr_base.specs.Book.{Book}
use Rattle.fr_world.specs.BookEdits.{applied, all_applied}
use Rattle.fr_world.specs.Fits.{Fits, AllFit}
use Rattle.fr_world.specs.declared.edit.Edit.{Edit}
use Rattle.fr_store.specs.Applying.{GoesOn}
use Rattle.fr_store.specs.Reading.{Stands}
use Rattle.fr_store.specs.Sparing.{ChangeNoFrame, HasSameFrames, changes_frame}
use Rattle.fr_tables.specs.Changes.{tables_of}
use Rattle.fr_store.proofs.SparingLemmas.{same_frames_then}
use Rattle.fr_store.proofs.InsideLemmas.{keeps_then}

-- the first edits are carried out, and the others fit what they left
pub record HasCarriedOut (edits : List Edit) (at : ℕ) (old now : State) (c : Cluster) (b : Book) : Type 0 where
  pub stands : Stands now c (all_applied b (take at edits))
  pub fit : AllFit c.params (all_applied b (take at edits)) (drop at edits)

-- the first edits are carried out, and nothing is committed
pub record HasCome (edits : List Edit) (at : ℕ) (old now : State) : Type 0 where
  pub keeps : KeepsCommit old now
  pub goes : GoesOn now
  pub carried : (c : Cluster) (b : Book) → Stands old c b → AllFit c.params b edits → HasCarriedOut edits at old now c b
  pub spared : ChangeNoFrame edits → HasSameFrames (tables_of old) (tables_of now)

-- one edit more
applied_more : (b : Book) (edits : List Edit) (edit : Edit) → all_applied b (edits ++ edit ∷ []) ≡ applied (all_applied b edits) edit
applied_more b [] edit = refl
applied_more b (e ∷ edits) edit = applied_more (applied b e) edits edit

module _ (edits : List Edit) (at : ℕ) (edit : Edit) (within : at < length edits) (is : get_or edits at edit ≡ edit) where
  next : at + 1 ≡ suc at
  next = omega arith

  taken : take (at + 1) edits ≡ take at edits ++ edit ∷ []
  taken = ap (λ n. take n edits) next ∙ take-suc edits at edit within ∙ ap (λ e. take at edits ++ e ∷ []) is

  left : drop at edits ≡ edit ∷ drop (at + 1) edits
  left = drop-cons edits at edit within ∙ ap (λ e. e ∷ drop (suc at) edits) is ∙ ap (λ n. edit ∷ drop n edits) (sym next)

  pub one_more : (old before new : State) → HasCome edits at old before → KeepsCommit before new → GoesOn new
      → ((c : Cluster) (b : Book) → Stands before c b → Fits c.params b edit → Stands new c (applied b edit))
      → (changes_frame edit ≡ false → HasSameFrames (tables_of before) (tables_of new)) → HasCome edits (at + 1) old new
  one_more old before new come keeps goes carries spares = record {
    keeps = keeps_then old before new come.keeps keeps;
    goes = goes;
    spared = λ none.
        let this = subst (λ e. changes_frame e ≡ false) is (All-get_or (λ e. changes_frame e ≡ false) edits at edit within none) in
        same_frames_then (tables_of old) (tables_of before) (tables_of new) (come.spared none) (spares this);
    carried = λ c b stands fit.
        let come_so_far = come.carried c b stands fit in
        let b' = all_applied b (take at edits) in
        let fits = subst (AllFit c.params b') left come_so_far.fit in
        let after : all_applied b (take (at + 1) edits) ≡ applied b' edit = ap (all_applied b) taken ∙ applied_more b (take at edits) edit in
        record {
          stands = subst (Stands new c) (sym after) (carries c b' come_so_far.stands fits.0);
          fit = subst (λ e. AllFit c.params e (drop (at + 1) edits)) (sym after) fits.1;
        };
  }

-- all edits
pub all_come : (edits : List Edit) (at : ℕ) (old now : State) → length edits ≤ at → HasCome edits at old now → (c : Cluster) (b : Book) → Stands old c b → AllFit c.params b edits → Stands now c (all_applied b edits)
all_come edits at old now end come c b stands fit = subst (λ es. Stands now c (all_applied b es)) (take_all at edits end) (come.carried c b stands fit).stands
