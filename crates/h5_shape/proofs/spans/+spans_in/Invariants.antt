use Rattle.std.proofs.Common.{length, ◌-◌}
use Rattle.h5_shape.proofs.spans.+spans_in.Given as goal

abbrev pub decreases-spans_in : goal.decreases-spans_in
decreases-spans_in l = length l.axes.now - l.k
