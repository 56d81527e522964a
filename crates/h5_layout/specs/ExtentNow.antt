-- A header whose Dataspace message says another extent (File Format Specification 3.0, section IV.A.2.b).
use Rattle.std.specs.Prelude.{◌≡◌, ℕ, Bool, false, Some, List, [], ◌∷◌, option_and_then}
use Rattle.std.specs.List.{AllByRecursion, filter}
use Rattle.h5_model.specs.Format.Datatype.{fixed_of}
use Rattle.h5_model.specs.Format.Extent.{Extent, extent_of}
use Rattle.h5_model.specs.Format.MessageTypes.{nil_kind, dataspace_kind, datatype_kind, continuation_kind, symbol_table_kind}
use Rattle.h5_model.specs.Format.Messages.{Message, count_of, first_body, prefix_at, reference_count}
use Rattle.h5_space.specs.Moves.{Moves}
use Rattle.h5_space.specs.Space.{Space}
use Rattle.h5_header.specs.Listed.{Listed, messages_in}
use Rattle.h5_header.specs.Standing.{IsStanding}

-- The second messages say this extent, and else what the first say. A Datatype may have moved.
pub record SaysExtent (ms ms' : List Message) (extent : Extent) : Type 0 where
  pub once : count_of dataspace_kind ms' ≡ 1
  pub space : option_and_then extent_of (first_body dataspace_kind ms') ≡ Some extent
  pub types : count_of datatype_kind ms' ≡ count_of datatype_kind ms
  pub datatype : option_and_then fixed_of (first_body datatype_kind ms') ≡ option_and_then fixed_of (first_body datatype_kind ms)
  pub tables : count_of symbol_table_kind ms' ≡ count_of symbol_table_kind ms
  -- messages of other types are the same, in their order
  pub others : (p : ℕ → Bool) → AllByRecursion (λ kind. p kind ≡ false) (nil_kind ∷ dataspace_kind ∷ datatype_kind ∷ continuation_kind ∷ symbol_table_kind ∷ [])
      → filter (λ m. p m.kind) ms' ≡ filter (λ m. p m.kind) ms

-- The header stands in the image still, and says this extent now. Its blocks were moved, and no others.
pub record HasExtentNow (old new : Space) (m m' : Listed) (extent : Extent) : Type 0 where
  pub standing : IsStanding new.bytes m'
  pub said : SaysExtent (messages_in old.bytes m.list) (messages_in new.bytes m'.list) extent
  pub header : m'.header ≡ m.header
  pub count : reference_count (prefix_at new.bytes m.header) ≡ reference_count (prefix_at old.bytes m.header)
  pub moves : Moves old new m.blocks m'.blocks
