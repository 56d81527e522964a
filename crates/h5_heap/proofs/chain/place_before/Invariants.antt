use Rattle.std.proofs.Common.{◌≡◌, ◌≢◌, List, ◌++◌, length}
use Rattle.h5_bytes.specs.Bytes.{number_at}
use Rattle.h5_bytes.specs.declared.Block.{Block}
use Rattle.h5_heap.specs.Chain.{HasChain, Stands, free_from}
use Rattle.h5_heap.proofs.chain.place_before.Given as goal

abbrev pub invariant-loop-next : goal.invariant-loop-next
invariant-loop-next l = HasChain l.segment l.place × (l.place ≢ 1) × (l.next ≡ number_at l.segment l.place 8)
    × Stands l.at (free_from l.segment l.next) × ((front : List Block) × (free_from l.segment l.first ≡ front ++ free_from l.segment l.place))

abbrev pub decreases-loop-next : goal.decreases-loop-next
decreases-loop-next l = length (free_from l.segment l.next)
