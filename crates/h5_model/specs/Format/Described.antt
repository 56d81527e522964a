-- An array as the messages of its object header describe it (File Format Specification 3.0, section IV.A.2).
use Rattle.std.specs.Prelude.{◌≡◌, ℕ, ◌*◌, ◌≤◌, ◌&&◌, nat_lt, is_some, IsSome, ℤ, Option, Some, None, List, option_and_then}
use Rattle.h5_model.specs.Format.Limits.{most_cells, most_chunk_bytes}
use Rattle.h5_model.specs.Format.MessageTypes.{dataspace_kind, datatype_kind, old_fill_value_kind, fill_value_kind, data_layout_kind}
use Rattle.h5_model.specs.Format.Messages.{Message, count_of, first_body}
use Rattle.h5_model.specs.Format.Fixed.{Fixed}
use Rattle.h5_model.specs.Tree.Places.{cells, extent_cells}
use Rattle.h5_model.specs.Format.Extent.{extent_of}
use Rattle.h5_model.specs.Format.Datatype.{fixed_of}
use Rattle.h5_model.specs.Format.Fill.{fill_value, old_fill_value, chosen_fill}
use Rattle.h5_model.specs.Format.Layout.{Layout, InMessage, InBlock, InChunks, layout_of}
use Rattle.h5_model.specs.Format.Chunks.{Chunks}
use Rattle.h5_model.specs.Format.Cells.{cells_of}
use Rattle.h5_model.specs.Tree.Objects.{Dataset, Storage, Compact, Contiguous, Chunked}

-- an array without its stored chunks and its cells; a maximum of None is unlimited
pub record Described : Type 0 where
  pub fixed : Fixed
  pub sizes : List ℕ
  pub maxima : List (Option ℕ)
  pub fill : ℤ
  pub layout : Layout

-- the array of this type, sizes, maxima, fill value and layout
abbrev pub array_of : Fixed → List ℕ → List (Option ℕ) → ℤ → Layout → Described
array_of t sizes maxima fill layout = record {
  fixed = t;
  sizes = sizes;
  maxima = maxima;
  fill = fill;
  layout = layout;
}

-- the value of a fill message that there need not be
abbrev pub IsFill : (List ℕ → Option ℤ) → Option (List ℕ) → Option ℤ → Type 0
IsFill value None fill = fill ≡ None
IsFill value (Some body) fill = (value body ≡ fill) × IsSome fill

-- The fill value of a dataset of this type by its messages.
pub record HasFill (messages : List Message) (t : Fixed) (fill : ℤ) : Type 0 where
  pub old_fill : Option ℤ
  pub new_fill : Option ℤ
  pub old_filled : IsFill (old_fill_value t) (first_body old_fill_value_kind messages) old_fill
  pub new_filled : IsFill (fill_value t) (first_body fill_value_kind messages) new_fill
  pub filled : fill ≡ chosen_fill new_fill old_fill

-- a chunk has at most 2^30 bytes
abbrev pub IsChunkSmall : Fixed → Layout → Type 0
IsChunkSmall t (InChunks chunk_sizes root) = cells chunk_sizes * t.size ≤ most_chunk_bytes
IsChunkSmall t _ = Unit {0}

-- The messages of a header describe this array.
pub record HasArray (messages : List Message) (a : Described) : Type 0 where
  pub one_space : count_of dataspace_kind messages ≡ 1
  pub one_type : count_of datatype_kind messages ≡ 1
  pub one_layout : count_of data_layout_kind messages ≡ 1
  pub old_fills : count_of old_fill_value_kind messages ≤ 1
  pub fills : count_of fill_value_kind messages ≤ 1
  pub space : option_and_then extent_of (first_body dataspace_kind messages) ≡ Some (record { sizes = a.sizes; maxima = a.maxima })
  pub type : option_and_then fixed_of (first_body datatype_kind messages) ≡ Some a.fixed
  pub filled : HasFill messages a.fixed a.fill
  pub laid_out : option_and_then (layout_of a.sizes a.fixed.size) (first_body data_layout_kind messages) ≡ Some a.layout
  pub small : extent_cells a.sizes ≤ most_cells
  pub chunk_small : IsChunkSmall a.fixed a.layout

-- how the cells are stored, as the tree shows it
abbrev pub storage_of : List ℕ → Layout → Storage
storage_of sizes (InMessage data_bytes) = Compact
storage_of sizes (InBlock b) = Contiguous (is_some b && nat_lt 0 (cells sizes))
storage_of sizes (InChunks chunk_sizes root) = Chunked chunk_sizes

-- the dataset with this description and these stored chunks
abbrev pub described_dataset : List ℕ → Described → Chunks → Dataset
described_dataset image a chunks = record {
  fixed = a.fixed;
  sizes = a.sizes;
  maxima = a.maxima;
  storage = storage_of a.sizes a.layout;
  fill = a.fill;
  cells = cells_of image a.fixed a.fill a.sizes a.layout chunks;
}
