use Rattle.std.proofs.Common.{◌≡◌, List, ◌++◌, length}
use Rattle.h5_bytes.specs.declared.Block.{Block}
use Rattle.h5_heap.specs.Around.{IsAround, not_ending}
use Rattle.h5_heap.specs.Chain.{HasChain, free_from, last_place}
use Rattle.h5_heap.proofs.around.look_around.Given as goal

abbrev pub invariant-loop-next : goal.invariant-loop-next
invariant-loop-next l = HasChain l.segment l.next
    × ((front : List Block) × (free_from l.segment l.first ≡ front ++ free_from l.segment l.next) × IsAround front l.at l.end l.around
    × (last_place (not_ending l.at front) ≡ l.place))

abbrev pub decreases-loop-next : goal.decreases-loop-next
decreases-loop-next l = length (free_from l.segment l.next)
