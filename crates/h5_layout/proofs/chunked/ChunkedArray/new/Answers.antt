use Rattle.std.proofs.Common.{sym, subst}
use Rattle.h5_layout.specs.ArrayChunks.{IsChunked, IsInChunksOf}
use Rattle.h5_model.specs.Format.Described.{Described}
use Rattle.h5_layout.specs.ArrayEdits.{described_in}
use Rattle.h5_layout.proofs.chunked.ChunkedArray.new.Goals as goal

pub known_array-array-requires-clause-array : goal.known_array-array-requires-clause-array
known_array-array-requires-clause-array c = rw c.new.ensures (described_in c.args.image.now.bytes c.args.messages.now, c.requires.array.array)

pub of-requires : goal.of-requires
of-requires c = subst (λ (a : Described). IsChunked a.layout) (sym (rw c.new.ensures at c.known_array-array.ensures)) c.requires.chunked

pub returns-clause-chunks : goal.returns-clause-chunks
returns-clause-chunks c = subst (λ (a : Described). IsInChunksOf a c.of.result) (rw c.new.ensures at c.known_array-array.ensures) c.of.ensures.chunks
