use Rattle.h5_layout.proofs.GridLaws.{found_inside}
use Rattle.h5_layout.proofs.NoChunks.{none_stored}
use Rattle.h5_layout.proofs.new_chunks.stored_at.Goals as goal

pub chunk_at-requires-clause-chunks : goal.chunk_at-requires-clause-chunks
chunk_at-requires-clause-chunks c = c.requires.chunks c.in-Some.root c.in-Some.is

pub returns-in-Some-clause-inside : goal.returns-in-Some-clause-inside
returns-in-Some-clause-inside c =
    found_inside c.args.image.now.bytes c.args.shape.now c.in-Some.root (c.requires.chunks c.in-Some.root c.in-Some.is) c.args.offsets.now c.chunk_at.result c.chunk_at.ensures

pub returns-in-None-clause-at : goal.returns-in-None-clause-at
returns-in-None-clause-at c = none_stored c.args.image.now.bytes c.args.shape.now c.args.root c.args.offsets.now c.in-None.is
