use Rattle.fr_store.proofs.applying.shown.+shown_names.Given as goal

abbrev pub decreases-shown_names : goal.decreases-shown_names
decreases-shown_names g l = l.levels
