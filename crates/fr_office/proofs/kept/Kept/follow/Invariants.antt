use Rattle.std.proofs.Common.{◌≡◌, drop}
use Rattle.std.specs.Prelude.{IfSome, Option}
use Rattle.fr_base.specs.Book.{Book}
use Rattle.fr_base.specs.Cluster.{Cluster}
use Rattle.fr_base.specs.declared.params.Params.{Params}
use Rattle.fr_world.specs.BookEdits.{all_applied}
use Rattle.fr_world.specs.Fits.{AllFit}
use Rattle.fr_world.specs.Pages.{PageData}
use Rattle.fr_office.specs.Decided.{TakesAll}
use Rattle.fr_office.specs.ImportCounts.{AreCounted}
use Rattle.fr_office.specs.KeptPages.{AreFresh, AreOf, FollowsAll, none_lent, untouched_by}
use Rattle.fr_office.proofs.kept.Kept.follow.Given as goal

-- The page that is lent takes the edits that are left. What is lent after these is what is lent after all. What the edits so far leave, without what those that follow touch, is what is left
-- by all of them. Pages and counts are those of the book that the edits so far make, which those that follow fit.
abbrev pub invariant-loop-edit : goal.invariant-loop-edit
invariant-loop-edit l =
    let left = drop l.edit-index l.edits in
    record {
      takes : IfSome l.self.pages.lent (λ page. TakesAll page left);
      lent : (last : Option PageData) → FollowsAll left l.self.pages.lent last → FollowsAll l.edits l.fn.self.pages.lent last;
      others : untouched_by left (none_lent l.self.pages) ≡ untouched_by l.edits (none_lent l.fn.self.pages);
      params : (p : Params) → AreOf p l.fn.self.pages → AreOf p l.self.pages;
      fresh : (c : Cluster) (b : Book) → AllFit c.params b l.edits → AreFresh c.params b l.fn.self.pages →
          (d : Book) × AllFit c.params d left × AreFresh c.params d l.self.pages × (all_applied d left ≡ all_applied b l.edits);
      counted : (p : Params) (b : Book) → AllFit p b l.edits → AreCounted b l.fn.self.counts →
          (d : Book) × AllFit p d left × AreCounted d l.self.counts × (all_applied d left ≡ all_applied b l.edits);
    }
