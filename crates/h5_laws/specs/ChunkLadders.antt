-- The ladders of chunks: between two keys, which have offsets, stand the chunks below a child (File Format Specification 3.0, section
-- III.A.1, node type 1).
use Rattle.std.specs.Prelude.{List, ℕ, [], ◌∷◌, ◌++◌, map, ⊤}
use Rattle.h5_model.specs.Format.Chunks.{all_offsets_in, chunks_in}
use Rattle.h5_model.specs.Format.Links.{Before, NotAfter}
use Rattle.h5_laws.specs.Ladders.{Bottom, Sides}

-- a chunk, whose offset for the element is 0, is at or above the key to its left and below the one to its right; of keys nothing is said
abbrev pub chunk_sides : ℕ → Sides (List ℕ) (List ℕ × ℕ)
chunk_sides rank = record {
  Right = λ key chunk. NotAfter (all_offsets_in rank key) (chunk.0 ++ 0 ∷ []);
  Left = λ chunk key. Before (chunk.0 ++ 0 ∷ []) (all_offsets_in rank key);
  Rise = λ key next. ⊤;
}

-- no key is above the next
abbrev pub rising_chunk_sides : ℕ → Sides (List ℕ) (List ℕ × ℕ)
rising_chunk_sides rank = record (chunk_sides rank) { Rise = λ key next. NotAfter (all_offsets_in rank key) (all_offsets_in rank next) }

-- the chunk at each child of a node of level 0
abbrev pub chunk_lists : ℕ → Bottom (List ℕ × ℕ)
chunk_lists rank node = map (λ chunk. chunk ∷ []) (chunks_in rank node)
