use Rattle.std.proofs.Common.{◌≡◌, ◌+◌, ◌*◌, ◌++◌, drop, map}
use Rattle.h5_chunks.specs.Keys.{chunk_key}
use Rattle.h5_repack.specs.Blocks.StoredChunks.{key_bytes, with_key_bytes, part_length}
use Rattle.h5_repack.specs.Blocks.Written.{part_offsets}
use Rattle.h5_repack.specs.Bodies.Chunks.{chunk_children}
use Rattle.h5_repack.proofs.blocks.chunks.children_of.Given as goal

-- the children so far, with those that are left
abbrev pub invariant-loop-k : goal.invariant-loop-k
invariant-loop-k l = record {
  place : l.place ≡ l.at + l.k * part_length l.held;
  children : map (with_key_bytes key_bytes) l.children.items
      ++ map (with_key_bytes chunk_key) (chunk_children (part_length l.held) l.held.chunk l.place (drop l.k (part_offsets l.held)))
      ≡ map (with_key_bytes chunk_key) (chunk_children (part_length l.held) l.held.chunk l.at (part_offsets l.held));
}
