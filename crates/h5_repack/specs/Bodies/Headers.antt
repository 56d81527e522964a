-- The header of a group in the plain layout, and what stands behind the header of an array (File Format Specification 3.0, sections
-- IV.A.1.a, IV.A.2.i and IV.A.2.r).
use Rattle.std.specs.Prelude.{ℕ, ◌≤◌, Bool, true, false, if◌then◌else◌, List, [], ◌∷◌}
use Rattle.h5_model.specs.Format.Limits.{highest_level}
use Rattle.h5_model.specs.Format.Bodies.{pair_bytes}
use Rattle.h5_model.specs.Format.MessageTypes.{symbol_table_kind}
use Rattle.h5_model.specs.Format.Plain.{header_bytes, cells_bytes}
use Rattle.h5_model.specs.Tree.Objects.{Dataset, Storage, Compact, Contiguous, Chunked}
use Rattle.h5_btree.specs.Writing.Written.{root_level}
use Rattle.h5_layout.specs.HeldChunks.{AreStoredChunks}
use Rattle.h5_repack.specs.Bodies.Chunks.{chunked_data}

-- ---- the stored chunks of an array, by their offsets: no other array has any

-- these are the stored chunks, where the cells are in chunks
abbrev pub AreStoredFor : List (List ℕ) → Dataset → Type 0
AreStoredFor stored d = by_storage d.storage where
  by_storage : Storage → Type 0
  by_storage Compact = Unit {0}
  by_storage (Contiguous held) = Unit {0}
  by_storage (Chunked chunk) = AreStoredChunks d chunk stored

-- the tree of so many stored chunks, of nodes of this K, has at most 16 levels
abbrev pub IsLowStorage : ℕ → ℕ → Storage → Type 0
IsLowStorage chunk_k count Compact = Unit {0}
IsLowStorage chunk_k count (Contiguous held) = Unit {0}
IsLowStorage chunk_k count (Chunked chunk) = root_level chunk_k count ≤ highest_level

-- whether cells, or a tree of chunks, stand behind the header
abbrev pub is_stored : List (List ℕ) → Storage → Bool
is_stored stored Compact = false
is_stored stored (Contiguous held) = held
is_stored [] (Chunked chunk) = false
is_stored (first ∷ others) (Chunked chunk) = true

-- the cells in one block, or the tree of chunks, of nodes of this K, with these chunks, at this place
abbrev pub data_of : ℕ → List (List ℕ) → Dataset → ℕ → List ℕ
data_of chunk_k stored d place = of_storage d.storage where
  of_storage : Storage → List ℕ
  of_storage Compact = []
  of_storage (Contiguous held) = if held then cells_bytes d.fixed d.cells else []
  of_storage (Chunked chunk) = chunked_data chunk_k d chunk stored place

-- ---- groups

-- a header of one block, with one link to it
abbrev pub group_header : ℕ → ℕ → List (ℕ × List ℕ) → List ℕ
group_header tree heap others = header_bytes 1 ((symbol_table_kind, pair_bytes tree heap) ∷ others)
