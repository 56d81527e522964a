use Rattle.h5_btree.proofs.descent.+descend.Given as goal

abbrev pub decreases-descend : goal.decreases-descend
decreases-descend g l = l.level
