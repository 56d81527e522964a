use Rattle.std.proofs.Common.{◌≡◌, length, take}
use Rattle.h5_model.specs.Format.Chunks.{chunks_in}
use Rattle.h5_chunks.specs.Lists.{offsets_of_edge, offsets_of_outer, with_more}
use Rattle.h5_chunks.proofs.beyond.push_chunks.Given as goal

-- those of the chunks so far
abbrev pub invariant-loop-i : goal.invariant-loop-i
invariant-loop-i l = record {
  outside : l.beyond.outside ≡ with_more l.fn.beyond.outside (offsets_of_outer l.sizes (take l.i (chunks_in (length l.shape.sizes) l.node)));
  across : l.beyond.across ≡ with_more l.fn.beyond.across (offsets_of_edge l.sizes l.shape.sizes (take l.i (chunks_in (length l.shape.sizes) l.node)));
}
