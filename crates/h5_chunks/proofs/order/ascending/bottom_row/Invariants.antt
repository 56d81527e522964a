use Rattle.std.proofs.Common.{◌≢◌, ℕ, ◌<◌, get_or}
use Rattle.h5_btree.specs.Walk.Below.{reading_in}
use Rattle.h5_btree.specs.Walk.Forms.{OfChunks}
use Rattle.h5_chunks.proofs.order.ascending.bottom_row.Given as goal

-- the nodes so far are above level 0
abbrev pub invariant-loop-k : goal.invariant-loop-k
invariant-loop-k l = (j : ℕ) → j < l.k → (reading_in l.image.bytes (OfChunks l.shape) (get_or l.all j 0)).level ≢ 0
