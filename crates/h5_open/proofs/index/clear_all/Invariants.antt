use Rattle.h5_open.proofs.SlotsCleared.{AreClearedTo}
use Rattle.h5_open.proofs.index.clear_all.Given as goal

-- the slots so far are empty
abbrev pub invariant-loop-number : goal.invariant-loop-number
invariant-loop-number l = AreClearedTo l.fn.index.objects.items l.index.objects.items l.index.numbers l.gone l.number-index
