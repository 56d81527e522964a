use Rattle.h5_open.proofs.CountsLowered.{AreLoweredTo}
use Rattle.h5_open.proofs.opened.unlinked.lower_counts.Given as goal

-- the headers so far count what is left
abbrev pub invariant-loop-number : goal.invariant-loop-number
invariant-loop-number l = AreLoweredTo l.fn.image l.image l.objects l.less l.number-index
