use Rattle.h5_msg.proofs.layout.+has_zero.Given as goal

abbrev pub decreases-has_zero : goal.decreases-has_zero
decreases-has_zero l = l.count
