use Rattle.h5_btree.proofs.way.+way_from.Given as goal

abbrev pub decreases-way_from : goal.decreases-way_from
decreases-way_from g l = l.level
