use Rattle.std.proofs.Common.{rules, ◌≡◌, false, inl, subst, sym, Option, Some, None}
use Rattle.std.specs.Prelude.{IfSome, is_err}
use Rattle.fr_world.specs.Edits.{Takes}
use Rattle.fr_world.specs.Pages.{PageData, own_rows_of}
use Rattle.fr_office.specs.KeptPages.{Amends, IsAmended}
use Rattle.fr_office.proofs.FreshLaws.{on_ok}
use Rattle.fr_office.proofs.KeptLaws.{own-touched}
use Rattle.fr_office.proofs.pages.page_after.Goals as goal

pub returns : goal.returns
returns c =
    let page = c.in_ok-page.page in
    let new = c.amend.new.self in
    let done : is_err c.amend.result ≡ false = search rules in
    let takes = subst (λ (o : Option PageData). IfSome o (λ page. Takes page.variant (own_rows_of page) c.args.edit.now)) c.in_ok-page.was c.requires.takes in
    let rest = on_ok c.amend.result done c.amend.ensures.rest in
    let made : IsAmended page c.args.edit.now new = record {
      own = takes.own;
      rows = on_ok c.amend.result done c.amend.ensures.page;
      supplier = rest.0;
      variant = rest.1;
      released = rest.2;
      kept = c.frames-frames.ensures.kept;
    } in
    subst (λ (o : Option PageData). Amends c.args.edit.now o (Some new)) (sym c.in_ok-page.was) (inl made)

pub returns-then-is_err : goal.returns-then-is_err
returns-then-is_err c =
    let takes = subst (λ (o : Option PageData). IfSome o (λ page. Takes page.variant (own_rows_of page) c.args.edit.now)) c.in_ok-page.was c.requires.takes in
    subst (λ (o : Option PageData). Amends c.args.edit.now o None) (sym c.in_ok-page.was) (own-touched c.in_ok-page.page c.args.edit.now takes.own)
