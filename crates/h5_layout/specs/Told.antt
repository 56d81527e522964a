-- The array that the messages of a dataset's header tell (File Format Specification 3.0, section IV.A.2).
use Rattle.std.specs.Prelude.{ℤ, None, List, [], false, unwrap_or, option_and_then}
use Rattle.h5_model.specs.Format.MessageTypes.{old_fill_value_kind, fill_value_kind}
use Rattle.h5_model.specs.Format.Messages.{Message, first_body}
use Rattle.h5_model.specs.Format.Fixed.{Fixed}
use Rattle.h5_model.specs.Format.Extent.{Extent}
use Rattle.h5_model.specs.Format.Fill.{fill_value, old_fill_value, chosen_fill}
use Rattle.h5_model.specs.Format.Layout.{Layout, InBlock}
use Rattle.h5_model.specs.Format.Reached.{extent_among, type_among, layout_among}
use Rattle.h5_model.specs.Format.Described.{Described, array_of}

-- what a message that is missing or malformed would tell is that of one cell of one byte, which is stored nowhere
abbrev pub extent_told : List Message → Extent
extent_told ms = unwrap_or (extent_among ms) (record { sizes = []; maxima = [] })

abbrev pub type_told : List Message → Fixed
type_told ms = unwrap_or (type_among ms) (record { size = 1; signed = false; big = false })

-- the new Fill Value message decides, else the old one; with neither it is 0
abbrev pub fill_told : List Message → Fixed → ℤ
fill_told ms t = chosen_fill (option_and_then (fill_value t) (first_body fill_value_kind ms)) (option_and_then (old_fill_value t) (first_body old_fill_value_kind ms))

abbrev pub layout_told : List Message → Layout
layout_told ms = unwrap_or (layout_among ms) (InBlock None)

abbrev pub array_told : List Message → Described
array_told ms = array_of (type_told ms) (extent_told ms).sizes (extent_told ms).maxima (fill_told ms (type_told ms)) (layout_told ms)
