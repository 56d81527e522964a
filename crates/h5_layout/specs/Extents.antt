-- Other sizes in the header of an array in chunks (File Format Specification 3.0, section IV.A.2.b).
use Rattle.std.specs.Prelude.{◌≡◌, ℕ, ◌+◌, ◌*◌, ◌<◌, ◌≤◌, Bool, true, false, not, if◌then◌else◌, List, length}
use Rattle.std.specs.Option.{option_map_or}
use Rattle.h5_model.specs.Format.Limits.{most_cells}
use Rattle.h5_model.specs.Edits.Refusal.{is_chunked, some_above}
use Rattle.h5_model.specs.Format.Extent.{has_maxima}
use Rattle.h5_model.specs.Format.MessageTypes.{dataspace_kind}
use Rattle.h5_model.specs.Format.Messages.{Message, first_body}
use Rattle.h5_model.specs.Format.Described.{storage_of, Described}
use Rattle.h5_model.specs.Tree.Places.{extent_cells}
use Rattle.h5_space.specs.Space.{Space}
use Rattle.h5_header.specs.Listed.{Listed, messages_in}
use Rattle.h5_layout.specs.ArrayEdits.{IsArrayMoved, described_in}
use Rattle.h5_layout.specs.Data.{stored_chunks}
use Rattle.h5_layout.specs.Trimmed.{grid_cell}

-- the messages have a Dataspace message, which has no maxima: other sizes need another one
abbrev pub lacks_maxima : List Message → Bool
lacks_maxima messages = option_map_or (λ body. not (has_maxima body)) (first_body dataspace_kind messages) false

-- these sizes can be given to an array: it is in chunks, has as many sizes, none of which is above its maximum, and no more cells then than
-- an array may have
pub record CanHaveSizes (a : Described) (sizes : List ℕ) : Type 0 where
  pub chunked : is_chunked (storage_of a.sizes a.layout) ≡ true
  pub ranked : length sizes ≡ length a.sizes
  pub below : some_above sizes a.maxima ≡ false
  pub few : extent_cells sizes ≤ most_cells

-- how many bytes a Dataspace message with maxima may take that is new: its body in a block with 32 bytes more
abbrev pub extent_room : List Message → List ℕ → ℕ
extent_room messages sizes = if lacks_maxima messages then 40 + 16 * length sizes else 0

-- there is room for such a message, where it is needed
pub record HasExtentRoom (s : Space) (m : Listed) (sizes : List ℕ) : Type 0 where
  pub messages : 1 ≤ m.room
  pub total : length m.list < 65534
  pub bytes : 40 + 16 * length sizes ≤ s.room_bytes
  pub calls : 1 ≤ s.room_blocks

abbrev pub MayHaveSizes : Space → Listed → List ℕ → Type 0
MayHaveSizes s m sizes = lacks_maxima (messages_in s.bytes m.list) ≡ true → HasExtentRoom s m sizes

-- The header says these sizes now, and all else of the array is as before: its chunks, and the cell at each index of their grid.
pub record HasSizesNow (old new : Space) (m m' : Listed) (sizes : List ℕ) : Type 0 where
  pub moved : IsArrayMoved old new m m'
  pub told : described_in new.bytes m' ≡ record (described_in old.bytes m) { sizes = sizes }
  pub chunks : stored_chunks new.bytes (described_in new.bytes m').fixed (described_in new.bytes m').layout
      ≡ stored_chunks old.bytes (described_in old.bytes m).fixed (described_in old.bytes m).layout
  pub cells : (index : List ℕ) → grid_cell new.bytes (described_in new.bytes m') index ≡ grid_cell old.bytes (described_in old.bytes m) index
