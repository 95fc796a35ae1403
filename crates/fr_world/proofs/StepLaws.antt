-- What is decided on a supplier's page is the register's change of the supplier's rows.
use Rattle.std.proofs.Common.{◌≡◌, ℕ, not, [], ◌∷◌, Some, Result, Ok, Err, IsTrue, refl, sym, ap, ◌∙◌}
use Rattle.std.specs.Prelude.{⊤}
use Rattle.fr_base.specs.Refusing.{◌>>=◌, ◌>>◌, ◌or◌, refuse◌when◌}
use Rattle.fr_base.specs.Tables.{get, contains}
use Rattle.fr_base.specs.Cluster.{Cluster}
use Rattle.fr_base.specs.Book.{Variant, Book}
use Rattle.fr_base.specs.Sound.{IsSound}
use Rattle.fr_base.specs.Step.{OwnRows, own_rows, shared_by, admits, with_variant, changed, change_rows}
use Rattle.fr_base.specs.Changes.{in_rows}
use Rattle.fr_base.specs.declared.channel.Channel.{Channel}
use Rattle.fr_base.specs.declared.name.Name.{Name}
use Rattle.fr_base.specs.declared.refusal.Refusal.{Refusal}
use Rattle.fr_base.specs.declared.refusal.Refusal.TheVariants.{NoVariant, NoSupplier, Released, Taken}
use Rattle.fr_base.specs.declared.request.Change.{Change}
use Rattle.fr_base.specs.declared.request.Change.TheVariants.{Grant, Revoke, Frame}
use Rattle.fr_base.specs.declared.request.FrameChange.{FrameChange}
use Rattle.fr_base.proofs.AloneChanges.{admits-own, grant-own}
use Rattle.fr_world.specs.BookEdits.{applied, all_applied, changed_at}
use Rattle.fr_world.specs.Decisions.{admits_alone, decision}
use Rattle.fr_world.specs.Pages.{page_in}
use Rattle.fr_world.specs.declared.edit.Edit.TheVariants.{Rows}
use Rattle.fr_world.proofs.PageLaws.{rows-registers}

module _ (c : Cluster) (b : Book) (s v : Name) (x : Variant) (there : get b.variants v ≡ Some x) (known : IsTrue (contains b.suppliers s)) (what : Change) where
  abbrev page : OwnRows
  page = own_rows c.params b s x

  -- the book after the change
  abbrev after : Book
  after = with_variant b v (changed s what x)

  -- the variant and the supplier are there
  found : change_rows c.params b s v what ≡ ((refuse Released when x.released) >> (admits page (shared_by x.grants x.frames) what >> Ok after))
  unfolding change_rows ◌or◌ ◌>>=◌ ◌>>◌ refuse◌when◌
  found =
      ap (λ o. (o or NoVariant) >>= λ y. (refuse Released when y.released) >> ((refuse NoSupplier when not (contains b.suppliers s)) >> (admits (own_rows c.params b s y) (shared_by y.grants y.frames) what >> Ok (with_variant b v (changed s what y))))) there
      ∙ ap (λ t. (refuse Released when x.released) >> ((refuse NoSupplier when not t) >> (admits page (shared_by x.grants x.frames) what >> Ok after))) known

  -- what the page decides
  told : decision (page_in c.params b s v x) what ≡ ((refuse Released when x.released) >> (admits_alone page what >> Ok (Rows (in_rows s v what) ∷ [])))
  unfolding decision
  told = ap (λ rows. (refuse Released when x.released) >> (admits_alone rows what >> Ok (Rows (in_rows s v what) ∷ []))) (rows-registers c b s v x)

  made : after ≡ all_applied b (Rows (in_rows s v what) ∷ [])
  unfolding applied
  made = ap (changed_at b v (changed s what)) (sym there)

  alike : (mine last : Result ⊤ Refusal) → ((refuse Released when x.released) >> ((mine >> last) >> Ok after)) ≡ (((refuse Released when x.released) >> (mine >> Ok (Rows (in_rows s v what) ∷ []))) >>= λ edits. last >> Ok (all_applied b edits))
  unfolding ◌>>=◌ ◌>>◌
  alike mine last = by_lines (refuse Released when x.released) mine
    where
      by_lines : (first mine : Result ⊤ Refusal) → (first >> ((mine >> last) >> Ok after)) ≡ ((first >> (mine >> Ok (Rows (in_rows s v what) ∷ []))) >>= λ edits. last >> Ok (all_applied b edits))
      by_lines (Err e) mine = refl
      by_lines (Ok t) (Err e) = refl
      by_lines (Ok t) (Ok u) = ap (λ d. last >> Ok d) made

  -- what is refused on the page, and then by this
  decides : (last : Result ⊤ Refusal) → admits page (shared_by x.grants x.frames) what ≡ (admits_alone page what >> last) →
      change_rows c.params b s v what ≡ (decision (page_in c.params b s v x) what >>= λ edits. last >> Ok (all_applied b edits))
  decides last same =
      found ∙ ap (λ r. (refuse Released when x.released) >> (r >> Ok after)) same ∙ alike (admits_alone page what) last
      ∙ ap (λ r. r >>= λ edits. last >> Ok (all_applied b edits)) (sym told)

  then-nothing : (r : Result ⊤ Refusal) → r ≡ (r >> Ok tt)
  unfolding ◌>>◌
  then-nothing (Ok t) = refl
  then-nothing (Err e) = refl

  decides-alone : admits page (shared_by x.grants x.frames) what ≡ admits_alone page what → change_rows c.params b s v what ≡ (decision (page_in c.params b s v x) what >>= λ edits. Ok (all_applied b edits))
  unfolding ◌>>◌
  decides-alone same = decides (Ok tt) (same ∙ then-nothing (admits_alone page what))

pub supplier-decides : (c : Cluster) (b : Book) (s v : Name) (x : Variant) (f : Name) (what : FrameChange) → IsSound c b → get b.variants v ≡ Some x → IsTrue (contains b.suppliers s) →
    change_rows c.params b s v (Frame f what) ≡ (decision (page_in c.params b s v x) (Frame f what) >>= λ edits. Ok (all_applied b edits))
unfolding own_rows
supplier-decides c b s v x f what sound there known = decides-alone c b s v x there known (Frame f what) (admits-own c b sound s v x there f what)

pub grant-decides : (c : Cluster) (b : Book) (s v n : Name) (x : Variant) (k : ℕ) (channel : Channel) → get b.variants v ≡ Some x → IsTrue (contains b.suppliers s) →
    change_rows c.params b s v (Grant k channel n)
    ≡ (decision (page_in c.params b s v x) (Grant k channel n) >>= λ edits. (refuse Taken when contains x.grants (k, channel)) >> Ok (all_applied b edits))
unfolding own_rows
grant-decides c b s v n x k channel there known = decides c b s v x there known (Grant k channel n) (refuse Taken when contains x.grants (k, channel)) (grant-own c.params b s x k channel n)

pub revoke-decides : (c : Cluster) (b : Book) (s v : Name) (x : Variant) (k : ℕ) (channel : Channel) → get b.variants v ≡ Some x → IsTrue (contains b.suppliers s) →
    change_rows c.params b s v (Revoke k channel) ≡ (decision (page_in c.params b s v x) (Revoke k channel) >>= λ edits. Ok (all_applied b edits))
unfolding admits
revoke-decides c b s v x k channel there known = decides-alone c b s v x there known (Revoke k channel) refl
