use Rattle.h5_chunks.proofs.search.+end_below.Given as goal

abbrev pub decreases-end_below : goal.decreases-end_below
decreases-end_below l = l.level
