-- Chunk sizes where they stand (File Format Specification 3.0, section IV.A.2.i).
use Rattle.std.specs.Prelude.{ℕ, ◌+◌, ◌*◌, ◌≤◌, List, length}
use Rattle.h5_model.specs.Format.Layout.{short_numbers_at}
use Rattle.h5_msg.specs.declared.layout.SizesIn.{SizesIn}
use Rattle.h5_msg.specs.declared.layout.SizesIn.TheVariants.{Body, Row}

-- those of a message's body, or in a row
abbrev pub sizes_at : SizesIn → List ℕ
sizes_at (Body body rank) = short_numbers_at body.now 11 rank
sizes_at (Row sizes) = sizes.now

-- the body has as many
abbrev pub AreSizesThere : SizesIn → Type 0
AreSizesThere (Body body rank) = 11 + 4 * rank ≤ length body.now
AreSizesThere (Row sizes) = Unit {0}
