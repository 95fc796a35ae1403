use Rattle.fr_text.proofs.words.+push_right.Given as goal

abbrev pub decreases-push_right : goal.decreases-push_right
decreases-push_right l = l.number
