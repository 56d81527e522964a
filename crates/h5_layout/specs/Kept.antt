-- The cells that stay of chunks whose array is made smaller or larger, where the chunks stand (File Format Specification 3.0, sections
-- III.A.1 and IV.A.2.i).
use Rattle.std.specs.Prelude.{◌≡◌, ℕ, ◌-◌, ◌*◌, ◌^◌, ◌<◌, ◌≤◌, true, min, if◌then◌else◌, ℤ, Option, None, Some, List, [], ◌∷◌, length, map, take}
use Rattle.std.specs.FinMap.{empty}
use Rattle.std.specs.List.{AllByRecursion}
use Rattle.h5_model.specs.Format.Limits.{most_chunk_bytes}
use Rattle.h5_bytes.specs.Bytes.{part}
use Rattle.h5_bytes.specs.Tables.{table}
use Rattle.h5_model.specs.Format.Cells.{value_in}
use Rattle.h5_model.specs.Format.Chunks.{Chunks, offsets_in}
use Rattle.h5_model.specs.Format.Fixed.{Fixed, IsFixed, fits}
use Rattle.h5_model.specs.Format.Reached.{Shape}
use Rattle.h5_model.specs.Format.Described.{Described}
use Rattle.h5_model.specs.Tree.Places.{cells, index_of, is_inside}
use Rattle.h5_chunks.specs.Held.{IsChunkPlace}
use Rattle.h5_chunks.specs.Shapes.{AreChunkSizes}
use Rattle.h5_chunks.specs.Told.{chunks_told}
use Rattle.h5_chunks.specs.declared.held.ChunkPlace.{ChunkPlace}
use Rattle.h5_layout.specs.ArrayChunks.{ArrayChunks}
use Rattle.h5_layout.specs.Data.{chunk_shape}
use Rattle.h5_layout.specs.HeldChunks.{HeldCells}

-- chunks of these sizes in an image; a cell whose index is below the kept sizes has its value, and another the fill
pub record KeptChunks : Type 0 where
  pub image : List ℕ
  pub fixed : Fixed
  pub fill : ℤ
  pub chunk : List ℕ
  pub kept : List ℕ

-- those of an array; the kept sizes stand in front
abbrev pub array_kept : List ℕ → ArrayChunks → List ℕ → KeptChunks
array_kept image k kept = record { image = image; fixed = k.fixed; fill = k.fill; chunk = k.chunk; kept = take (length k.chunk) kept }

-- in each dimension the smaller of two sizes
abbrev pub smaller_sizes : List ℕ → List ℕ → List ℕ
smaller_sizes [] new = []
smaller_sizes (d ∷ ds) [] = []
smaller_sizes (d ∷ ds) (n ∷ ns) = min d n ∷ smaller_sizes ds ns

-- how many slices of the chunk at these offsets are below the kept sizes, in each dimension
abbrev pub slices_kept : List ℕ → List ℕ → List ℕ → List ℕ
slices_kept [] chunk offsets = []
slices_kept (k ∷ ks) [] offsets = []
slices_kept (k ∷ ks) (c ∷ cs) [] = []
slices_kept (k ∷ ks) (c ∷ cs) (o ∷ os) = min c (k - o) ∷ slices_kept ks cs os

-- the cell at a place of a chunk: in the first so many slices of each dimension as it stands in these bytes, else the fill
abbrev pub corner_value : Fixed → ℤ → List ℕ → List ℕ → List ℕ → ℕ → ℤ
corner_value t fill chunk slices bytes place = if is_inside slices (index_of chunk place) then value_in t bytes place else fill

-- all of them, in row-major order
abbrev pub corner_values : Fixed → ℤ → List ℕ → List ℕ → List ℕ → List ℤ
corner_values t fill chunk slices bytes = table (corner_value t fill chunk slices bytes) (cells chunk)

-- the cells of the chunk with this key at this address
abbrev pub kept_values : KeptChunks → ChunkPlace → List ℤ
kept_values k place =
    corner_values k.fixed k.fill k.chunk (slices_kept k.kept k.chunk (offsets_in (length k.chunk) place.key.now))
    (part place.at (cells k.chunk * (k.fixed).size) k.image)

-- the chunks at these places
abbrev pub kept_cells : KeptChunks → List ChunkPlace → HeldCells
kept_cells k places = record {
  fixed = k.fixed;
  chunk = k.chunk;
  parts = map (λ (place : ChunkPlace). (offsets_in (length k.chunk) place.key.now, kept_values k place)) places;
}

-- those of the array, of which the cells are kept that are inside an extent of these sizes as well
abbrev pub chunks_kept : List ℕ → Described → List ℕ → List ℕ → KeptChunks
chunks_kept image a chunk sizes = record { image = image; fixed = a.fixed; fill = a.fill; chunk = chunk; kept = smaller_sizes a.sizes sizes }

-- the chunks in the tree at a root, where there is one
abbrev pub chunks_below_root : List ℕ → Shape → Option ℕ → Chunks
chunks_below_root image shape None = empty
chunks_below_root image shape (Some root) = chunks_told image shape root

-- The chunks at these places are whole ones of the image, none of which has more than 2^30 bytes.
pub record AreKept (k : KeptChunks) (places : List ChunkPlace) : Type 0 where
  pub sizes : AreChunkSizes k.chunk
  pub rank : length k.kept ≡ length k.chunk
  pub short : AllByRecursion (λ size. size < 2 ^ 32) k.chunk
  pub small : cells k.chunk * (k.fixed).size ≤ most_chunk_bytes
  pub sound : IsFixed k.fixed
  pub of_type : fits k.fixed k.fill ≡ true
  pub there : AllByRecursion (IsChunkPlace k.image (chunk_shape k.fixed k.chunk)) places
