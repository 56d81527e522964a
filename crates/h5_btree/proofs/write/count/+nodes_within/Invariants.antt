use Rattle.h5_btree.proofs.write.count.+nodes_within.Given as goal

abbrev pub decreases-nodes_within : goal.decreases-nodes_within
decreases-nodes_within l = l.levels
