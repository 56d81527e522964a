use Rattle.std.proofs.Common.{◌≡◌, [], None, length, sym, ap, ◌∙◌}
use Rattle.h5_model.specs.Format.Reached.{Shape}
use Rattle.h5_model.specs.Format.Described.{Described}
use Rattle.h5_layout.specs.ArrayChunks.{ArrayChunks}
use Rattle.h5_layout.specs.ArrayEdits.{described_in}
use Rattle.h5_chunks.specs.Lists.{ChunkOffsets}
use Rattle.h5_layout.proofs.OutsideChunks.{chunked_is, none_across, none_lost}
use Rattle.h5_layout.proofs.trimmed.outside_of.Goals as goal

pub new-array-requires-clause-chunked : goal.new-array-requires-clause-chunked
new-array-requires-clause-chunked c =
    let a : Described = described_in c.args.image.now.bytes c.args.messages.now in
    chunked_is a.sizes a.layout c.requires.chunked

-- no chunk of a shape
abbrev no_chunk : Shape → ChunkOffsets
no_chunk s = record { rank = length s.sizes; bytes = s.bytes; offsets = [] }

pub returns-in-None-clause-lost : goal.returns-in-None-clause-lost
returns-in-None-clause-lost c chunk root laid =
    let k : ArrayChunks = c.new-array.result in
    let rootless : k.root ≡ None = sym c.root.ensures ∙ c.in-None.is in
    none_lost (described_in c.args.image.now.bytes c.args.messages.now) k c.new-array.ensures.chunks c.args.image.now.bytes c.args.sizes.now chunk root laid rootless
    c.new.result (c.new.ensures ∙ ap no_chunk c.shape-shape.ensures)

pub returns-in-None-clause-edge : goal.returns-in-None-clause-edge
returns-in-None-clause-edge c chunk root laid =
    let k : ArrayChunks = c.new-array.result in
    let rootless : k.root ≡ None = sym c.root.ensures ∙ c.in-None.is in
    none_across (described_in c.args.image.now.bytes c.args.messages.now) k c.new-array.ensures.chunks c.args.image.now.bytes c.args.sizes.now chunk root laid rootless
    c.new-in-None.result (c.new-in-None.ensures ∙ ap no_chunk c.shape-shape.ensures)
