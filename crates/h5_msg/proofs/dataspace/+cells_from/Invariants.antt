use Rattle.h5_msg.proofs.dataspace.+cells_from.Given as goal

abbrev pub decreases-cells_from : goal.decreases-cells_from
decreases-cells_from l = l.count
