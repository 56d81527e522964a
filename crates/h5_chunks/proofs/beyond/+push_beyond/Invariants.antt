use Rattle.std.proofs.Common.{◌≡◌, ◌-◌, length}
use Rattle.h5_btree.specs.Walk.Below.{reading_in}
use Rattle.h5_btree.specs.Walk.Forms.{OfChunks}
use Rattle.h5_chunks.specs.Lists.{offsets_of_edge, offsets_of_outer, with_more}
use Rattle.h5_chunks.proofs.BeyondLaws.{below_first}
use Rattle.h5_chunks.proofs.beyond.+push_beyond.Given as goal

abbrev pub decreases-push_beyond : goal.decreases-push_beyond
decreases-push_beyond l = l.level

-- those below the children so far
abbrev pub invariant-loop-i : goal.invariant-loop-i
invariant-loop-i l = record {
  outside : l.beyond.outside ≡ with_more l.fn.beyond.outside
      (offsets_of_outer l.sizes (below_first (reading_in l.image.bytes (OfChunks l.shape)) (length l.shape.sizes) (l.level - 1) l.node l.i));
  across : l.beyond.across ≡ with_more l.fn.beyond.across
      (offsets_of_edge l.sizes l.shape.sizes (below_first (reading_in l.image.bytes (OfChunks l.shape)) (length l.shape.sizes) (l.level - 1) l.node l.i));
}
