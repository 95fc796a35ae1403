-- Decided: the page on which a supplier's rows change, where its variant is open. Which kind of
-- change it is; a supplier that changes a frame asks for itself. Which edits a page takes.
use Rattle.std.specs.Prelude.{◌≡◌, ◌⊎◌, ℕ, false, List, [], ◌∷◌, Option, Result, Ok, Err, IfSome, MatchResult, ⊤}
use Rattle.std.specs.List.{list_any}
use Rattle.fr_base.specs.Refusing.{◌>>=◌, ◌>>◌, ◌or◌, refuse◌when◌}
use Rattle.fr_base.specs.Book.{Book}
use Rattle.fr_base.specs.Cluster.{Cluster}
use Rattle.fr_base.specs.Sound.{IsSound}
use Rattle.fr_base.specs.Step.{OwnRows}
use Rattle.fr_base.specs.declared.actor.Actor.{Actor}
use Rattle.fr_base.specs.declared.actor.Actor.TheVariants.{Supplier}
use Rattle.fr_base.specs.declared.channel.Channel.{Channel}
use Rattle.fr_base.specs.declared.name.Name.{Name}
use Rattle.fr_base.specs.declared.params.Params.{Params}
use Rattle.fr_base.specs.declared.refusal.Refusal.{Refusal}
use Rattle.fr_base.specs.declared.refusal.Refusal.TheVariants.{NoVariant, Released, Unavailable}
use Rattle.fr_base.specs.declared.request.Command.{Command}
use Rattle.fr_base.specs.declared.request.Command.TheVariants.{Rows}
use Rattle.fr_base.specs.declared.request.Change.{Change}
use Rattle.fr_base.specs.declared.request.Change.TheVariants.{Grant, Revoke, Frame}
use Rattle.fr_base.specs.declared.request.FrameChange.{FrameChange}
use Rattle.fr_world.specs.Held.{Standing, page_of}
use Rattle.fr_world.specs.Decisions.{IsChecked}
use Rattle.fr_world.specs.Edits.{Takes, all_edited, edited, releases}
use Rattle.fr_world.specs.Pages.{PageData, own_rows_of}
use Rattle.fr_world.specs.declared.edit.Edit.{Edit}
use Rattle.fr_world.specs.declared.edit.Edit.TheVariants.{KeepImport}

-- the supplier's page of the variant, where the variant is open
unfoldable pub open_page : Params → Book → Name → Name → Result PageData Refusal
open_page p b s v = do
  page ← page_of p b s v or NoVariant
  refuse Released when page.released
  Ok page

-- The supplier's page of the variant is the one that is lent, and the variant is open; else the
-- refusal is the definition's, or Unavailable. The records stand for the same book as before.
abbrev pub Opens : Option PageData → Name → Name → Standing → Standing → Result ⊤ Refusal → Type 0
Opens lent s v old new r = (c : Cluster) (b : Book) → old c b → IsSound c b → new c b × MatchResult r
    (λ _. IfSome lent (λ page. open_page c.params b s v ≡ Ok page))
    (λ e. (e ≡ Unavailable) ⊎ (open_page c.params b s v ≡ Err e))

-- The page takes the edit, or the edit keeps an import.
abbrev pub MayTake : Name → OwnRows → Edit → Type 0
MayTake v rows (KeepImport s label w body count) = ⊤
MayTake v rows edit = Takes v rows edit

-- The page takes the edits, one after another, except those that keep an import.
abbrev pub TakesEach : Name → OwnRows → List Edit → Type 0
TakesEach v rows [] = ⊤
TakesEach v rows (edit ∷ edits) = MayTake v rows edit × TakesEach v (edited rows edit) edits

abbrev pub TakesAll : PageData → List Edit → Type 0
TakesAll page edits = TakesEach page.variant (own_rows_of page) edits

-- The page takes the edits, and is the new one after them. None of them releases the variant.
pub record LeadsTo (page : PageData) (edits : List Edit) (new : PageData) : Type 0 where
  pub takes : TakesAll page edits
  pub still : list_any releases edits ≡ false
  pub rows : own_rows_of new ≡ all_edited (own_rows_of page) edits
  pub supplier : new.supplier ≡ page.supplier
  pub variant : new.variant ≡ page.variant
  pub released : new.released ≡ page.released

-- The change grants the slot on the channel.
abbrev pub IsGrant : ℕ → Channel → Change → Type 0
IsGrant slot channel change = (node : Name) × (change ≡ Grant slot channel node)

-- The change takes a grant back.
abbrev pub IsRevoke : Change → Type 0
IsRevoke change = (slot : ℕ) × (channel : Channel) × (change ≡ Revoke slot channel)

-- The change is of a frame.
abbrev pub IsOfFrame : Change → Type 0
IsOfFrame change = (f : Name) × (of_frame : FrameChange) × (change ≡ Frame f of_frame)

-- The supplier that changes a frame is the sender.
abbrev pub IsOwnChange : Actor → Name → Change → Type 0
IsOwnChange actor s (Frame f change) = actor ≡ Supplier s
IsOwnChange actor s _ = ⊤

abbrev pub IsOwnCommand : Actor → Command → Type 0
IsOwnCommand actor (Rows rows) = IsOwnChange actor rows.supplier rows.change
IsOwnCommand actor _ = ⊤

-- A change in the command has a placement that fits the cluster, or a signal that has a length.
abbrev pub IsCheckedCommand : Params → Command → Type 0
IsCheckedCommand p (Rows rows) = IsChecked p rows.change
IsCheckedCommand p _ = ⊤
