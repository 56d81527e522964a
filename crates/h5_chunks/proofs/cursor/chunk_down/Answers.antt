use Rattle.std.proofs.Common.{sym, subst}
use Rattle.h5_model.specs.Format.Rows.{Node}
use Rattle.h5_chunks.specs.Way.{EndsForChunk}
use Rattle.h5_chunks.proofs.ChunkThere.{end_told, row_keys, row_stands}
use Rattle.h5_chunks.proofs.cursor.chunk_down.Goals as goal

pub tree_node-requires-clause-there : goal.tree_node-requires-clause-there
tree_node-requires-clause-there c =
    row_stands c.args.image.now.bytes c.args.shape.now c.args.root c.requires.chunks c.in-Some.step.node c.in-Some.ensures.bottom

pub chunk_here-requires-clause-keys : goal.chunk_here-requires-clause-keys
chunk_here-requires-clause-keys c =
    row_keys c.args.image.now.bytes c.args.shape.now c.args.root c.requires.chunks c.in-Some.step.node c.in-Some.ensures.bottom _ c.requires.rank
    c.tree_node.result c.tree_node.ensures

pub chunk_here-requires-clause-few : goal.chunk_here-requires-clause-few
chunk_here-requires-clause-few c = c.in-Some.ensures.few

pub returns-clause-found : goal.returns-clause-found
returns-clause-found c =
    let step = c.in-Some.step in
    let ends = subst (λ (n : Node). EndsForChunk c.args.image.now.bytes c.args.shape.now c.args.root c.args.offsets.now n step.place) (sym c.tree_node.ensures) c.in-Some.ensures.ends in
    end_told c.args.image.now.bytes c.args.shape.now c.args.root c.requires.chunks c.args.offsets.now c.requires.rank
    c.tree_node.result step.place ends c.chunk_here.result c.chunk_here.ensures.there c.chunk_here.ensures.none
