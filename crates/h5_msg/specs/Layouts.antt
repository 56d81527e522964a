-- What a layout says (File Format Specification 3.0, section IV.A.2.i).
use Rattle.h5_model.specs.Format.Layout as model
use Rattle.h5_msg.specs.declared.layout.Layout.{Layout}
use Rattle.h5_msg.specs.declared.layout.Layout.TheVariants.{Compact, Contiguous, Chunked}

-- the data, the block or the chunks that a layout names
abbrev pub layout_in : Layout → model.Layout
layout_in (Compact bytes) = model.InMessage bytes.now
layout_in (Contiguous b) = model.InBlock b
layout_in (Chunked sizes tree) = model.InChunks sizes tree
