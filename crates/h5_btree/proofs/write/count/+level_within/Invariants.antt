use Rattle.h5_btree.proofs.write.count.+level_within.Given as goal

abbrev pub decreases-level_within : goal.decreases-level_within
decreases-level_within l = l.levels
