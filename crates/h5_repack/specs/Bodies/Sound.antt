-- Which objects the plain layout can hold: those that an image reads as, or that an accepted edit makes of them.
use Rattle.std.specs.Prelude.{◌≡◌, ℕ, ◌+◌, ◌*◌, ◌%◌, ◌<◌, ◌≤◌, ◌==◌, ◌||◌, true, false, IsTrue, IfSome, pos, Option, Some, None, List, length, replicate}
use Rattle.std.specs.List.{AllByRecursion, AllZip, list_any}
use Rattle.std.specs.FinMap.{entries}
use Rattle.h5_bytes.specs.Bytes.{undefined_address}
use Rattle.h5_model.specs.Format.Layout.{most_compact_bytes}
use Rattle.h5_model.specs.Format.Limits.{most_cells, most_chunk_bytes, most_dimensions}
use Rattle.h5_model.specs.Format.Messages.{most_messages, most_body_bytes}
use Rattle.h5_model.specs.Format.AttributeBody.{attribute_of}
use Rattle.h5_model.specs.Format.Fixed.{Fixed, IsFixed}
use Rattle.h5_model.specs.Tree.Places.{cells, extent_cells}
use Rattle.h5_model.specs.Edits.Refusal.{has_zero}
use Rattle.h5_model.specs.Format.MessageTypes.{comment_kind, old_modification_time_kind, modification_time_kind}
use Rattle.h5_model.specs.Format.Sizes.{attribute_size}
use Rattle.h5_model.specs.Tree.Sound.{AreOf, IsDataset}
use Rattle.h5_model.specs.Tree.Objects.{Object, Dataset, Storage, Compact, Contiguous, Chunked, Attribute, Kept}

-- a comment or a modification time, with a body that a message may have
pub record IsPlainKept (k : Kept) : Type 0 where
  pub kind : IsTrue ((k.kind == comment_kind || k.kind == old_modification_time_kind) || k.kind == modification_time_kind)
  pub padded : length k.body % 8 ≡ 0
  pub low : length k.body < 65536

-- the body that is kept says the attribute, and a message may have it; a body of version 1 fits in one
abbrev pub IsPlainBody : List ℕ → Attribute → Option (List ℕ) → Type 0
IsPlainBody name a None = attribute_size (length name) a.sizes (a.fixed).size ≤ most_body_bytes
IsPlainBody name a (Some body) = (attribute_of body ≡ Some (name, a)) × (length body % 8 ≡ 0) × (length body < 65536)

-- a name and values that fit in one message
pub record IsPlainAttribute (e : List ℕ × Attribute) : Type 0 where
  pub named : 1 ≤ length e.0
  pub text : has_zero e.0 ≡ false
  pub fixed : IsFixed (e.1).fixed
  pub ranked : length (e.1).sizes ≤ most_dimensions
  pub counted : length (e.1).values ≡ cells (e.1).sizes
  pub of_type : AreOf (e.1).fixed (e.1).values
  pub few : extent_cells (e.1).sizes ≤ most_cells
  pub body : IsPlainBody e.0 e.1 (e.1).body

pub record IsPlainObject (o : Object) : Type 0 where
  pub kept : AllByRecursion IsPlainKept o.kept
  pub attributes : AllByRecursion IsPlainAttribute (entries o.attributes)

-- a maximum is not below the size, and can be told from none
abbrev pub IsBound : ℕ → Option ℕ → Type 0
IsBound size maximum = IfSome maximum (λ m. (size ≤ m) × (m < undefined_address))

-- no cell is stored: each reads the fill
abbrev pub IsUnset : Dataset → Type 0
IsUnset d = d.cells ≡ replicate (cells d.sizes) d.fill

-- chunks of at least one dimension, of which no size is 0, and of at most 2^30 bytes
pub record ArePlainChunks (t : Fixed) (chunk : List ℕ) : Type 0 where
  pub ranked : 1 ≤ length chunk
  pub some : list_any (λ n. n == 0) chunk ≡ false
  pub small : cells chunk * t.size ≤ most_chunk_bytes

-- compact cells fit in a message; there are contiguous cells where they are stored; chunks fit in their bounds
abbrev pub IsPlainStorage : Dataset → Storage → Type 0
IsPlainStorage d Compact = cells d.sizes * (d.fixed).size ≤ most_compact_bytes
IsPlainStorage d (Contiguous true) = 1 ≤ cells d.sizes
IsPlainStorage d (Contiguous false) = IsUnset d
IsPlainStorage d (Chunked chunk) = ArePlainChunks d.fixed chunk

-- an array in this layout; a fill that is not written, beside so many other messages, is 0
pub record IsPlainArray (d : Dataset) (others : ℕ) : Type 0 where
  pub ranked : length d.sizes ≤ most_dimensions
  pub bounded : AllZip IsBound d.sizes d.maxima
  pub few : extent_cells d.sizes ≤ most_cells
  pub fixed : IsFixed d.fixed
  pub sound : IsDataset d
  pub stored : IsPlainStorage d d.storage
  pub unwritten : most_messages < 4 + others → d.fill ≡ pos 0
