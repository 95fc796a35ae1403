use Rattle.fr_store.proofs.page.view.+view_of.Given as goal

abbrev pub decreases-view_of : goal.decreases-view_of
decreases-view_of g l = l.levels
