-- Stored chunks that stand beside one another, along the last dimension, and were found (File Format Specification 3.0, section III.A.1).
use Rattle.std.specs.Prelude.{◌≡◌, ℕ, ◌+◌, ◌-◌, ◌*◌, ◌<◌, ◌==◌, if◌then◌else◌, IfSome, Option, None, Some, List, length, get_or, replicate, set}
use Rattle.std.specs.FinMap.{get}
use Rattle.std.specs.Option.{option_and_then}
use Rattle.h5_model.specs.Format.Chunks.{Chunks}
use Rattle.h5_model.specs.Tree.Places.{cells, index_of}
use Rattle.h5_shape.specs.InBox.{IsCorner}
use Rattle.h5_layout.specs.declared.beside.ChunkCorner.{ChunkCorner}
use Rattle.h5_layout.specs.declared.beside.FoundChunks.{FoundChunks}

-- the address that is kept so, if one is: no chunk stands at 0, where the superblock is
abbrev pub address_kept : ℕ → Option ℕ
address_kept at = if at == 0 then None else Some at

-- a chunk begins there in an array of these sizes: its first index has this place, and this last number
pub record IsFirstCell (sizes chunk : List ℕ) (corner : ChunkCorner) : Type 0 where
  pub inside : 0 < cells sizes → corner.place < cells sizes
  pub is : IsCorner chunk (index_of sizes corner.place)
  pub column : corner.column ≡ get_or (index_of sizes corner.place) (length sizes - 1) 0

-- the first index of the chunk that stands so many chunks behind the one with this first index
abbrev pub corner_beside : List ℕ → List ℕ → ℕ → List ℕ
corner_beside chunk corner k =
    let last = length corner - 1 in set corner last (get_or corner last 0 + k * get_or chunk last 0)

-- so many chunks behind the one with this first index stands the one with that, if the number is known
abbrev pub IsNumberBeside : List ℕ → List ℕ → List ℕ → Option ℕ → Type 0
IsNumberBeside chunk first corner number = IfSome number (λ k. corner ≡ corner_beside chunk first k)

-- these are stored at these addresses, among the chunks of an array of these sizes, in chunks of those
pub record AreChunksBeside (chunks : Chunks) (sizes chunk : List ℕ) (found : FoundChunks) : Type 0 where
  pub first : IsFirstCell sizes chunk found.first
  pub at : (k : ℕ) → IfSome (address_kept (get_or found.at k 0)) (λ at. get chunks (corner_beside chunk (index_of sizes found.first.place) k) ≡ Some at)

-- the address of the chunk with this number, where it was found
abbrev pub address_found : FoundChunks → Option ℕ → Option ℕ
address_found found number = option_and_then (λ k. address_kept (get_or found.at k 0)) number

-- one chunk alone
abbrev pub only_chunk : ChunkCorner → ℕ → FoundChunks
only_chunk corner kept = record { first = corner; at = set (replicate 64 0) 0 kept }
