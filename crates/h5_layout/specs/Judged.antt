-- The rules on the messages of a dataset, in the order in which they are judged (File Format Specification 3.0, section
-- IV.A.2).
use Rattle.std.specs.Prelude.{ℕ, ◌*◌, ◌||◌, Bool, false, nat_lt, is_none, if◌then◌else◌, ℤ, Option, Some, None, List}
use Rattle.std.specs.Option.{option_map_or, option_or}
use Rattle.h5_model.specs.Format.Limits.{most_cells, most_chunk_bytes}
use Rattle.h5_model.specs.Format.MessageTypes.{old_fill_value_kind, fill_value_kind}
use Rattle.h5_model.specs.Format.Messages.{Message, first_body}
use Rattle.h5_model.specs.Format.Fixed.{Fixed}
use Rattle.h5_model.specs.Tree.Places.{cells, extent_cells}
use Rattle.h5_model.specs.Format.Extent.{Extent}
use Rattle.h5_model.specs.Format.Fill.{fill_value, old_fill_value}
use Rattle.h5_model.specs.Format.Layout.{Layout, InMessage, InBlock, InChunks}
use Rattle.h5_model.specs.Format.Reached.{extent_among, type_among, layout_among}
use Rattle.h5_model.specs.declared.open_fault.Cause.{Cause}
use Rattle.h5_model.specs.declared.open_fault.Cause.TheVariants.{DataspaceForm, DatatypeForm, FillForm, LayoutForm, TooLarge}

-- the sizes are not told, or are those of too many cells
abbrev pub space_breach : Option Extent → Option Cause
space_breach None = Some DataspaceForm
space_breach (Some e) = if nat_lt most_cells (extent_cells e.sizes) then Some TooLarge else None

abbrev pub type_breach : Option Fixed → Option Cause
type_breach None = Some DatatypeForm
type_breach (Some t) = None

-- there is such a message, and it is malformed
abbrev pub is_bad : (List ℕ → Option ℤ) → Option (List ℕ) → Bool
is_bad value body = option_map_or (λ bytes. is_none (value bytes)) body false

-- the old fill value or the new is not one of the type
abbrev pub fill_breach : List Message → Option Fixed → Option Cause
fill_breach ms None = None
fill_breach ms (Some t) =
    if is_bad (old_fill_value t) (first_body old_fill_value_kind ms) || is_bad (fill_value t) (first_body fill_value_kind ms)
    then Some FillForm else None

-- a chunk has more than 2^30 bytes
abbrev pub is_chunk_large : Fixed → Layout → Bool
is_chunk_large t (InMessage bytes) = false
is_chunk_large t (InBlock b) = false
is_chunk_large t (InChunks sizes root) = nat_lt most_chunk_bytes (cells sizes * t.size)

-- the layout is not told, or is one of too large chunks
abbrev pub layout_breach : Option Fixed → Option Layout → Option Cause
layout_breach None layout = None
layout_breach (Some t) None = Some LayoutForm
layout_breach (Some t) (Some layout) = if is_chunk_large t layout then Some TooLarge else None

-- the first rule that the messages break, if they break one: of the sizes, the type, the fill values, the layout
abbrev pub breach_in : List Message → Option Cause
breach_in ms =
    option_or (space_breach (extent_among ms)) (option_or (type_breach (type_among ms))
    (option_or (fill_breach ms (type_among ms)) (layout_breach (type_among ms) (layout_among ms))))
