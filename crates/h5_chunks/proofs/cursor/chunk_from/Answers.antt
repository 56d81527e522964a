use Rattle.std.proofs.Common.{ℕ, sym, ◌∙◌, subst}
use Rattle.std.specs.List.{Contains}
use Rattle.h5_model.specs.Format.Rows.{Node}
use Rattle.h5_btree.specs.Walk.Forms.{OfChunks}
use Rattle.h5_btree.specs.Walk.Stands.{bottom_at}
use Rattle.h5_chunks.specs.Cursor.{IsCursor}
use Rattle.h5_chunks.specs.Way.{IsChunkThere}
use Rattle.h5_chunks.proofs.ChunkThere.{row_keys, row_stands, there_found}
use Rattle.h5_chunks.proofs.cursor.chunk_from.Goals as goal
use Rattle.h5_chunks.proofs.cursor.chunk_from.Goals.{In-Some}

-- the cursor is at a node of level 0
in_row : (c : In-Some) → Contains (bottom_at c.args.image.now.bytes (OfChunks c.args.shape.now) c.args.root) c.in-Some.last.node
in_row c = subst (IsCursor c.args.image.now.bytes c.args.shape.now c.args.root) (sym c.cursor.view_is ∙ c.in-Some.is) c.requires.cursor

pub tree_node-node-requires-clause-there : goal.tree_node-node-requires-clause-there
tree_node-node-requires-clause-there c =
    row_stands c.args.image.now.bytes c.args.shape.now c.args.root c.requires.chunks c.in-Some.last.node (in_row (goal.at.tree_node-node-requires-clause-there c).In-Some)

pub chunk_near-requires-clause-keys : goal.chunk_near-requires-clause-keys
chunk_near-requires-clause-keys c =
    row_keys c.args.image.now.bytes c.args.shape.now c.args.root c.requires.chunks c.in-Some.last.node (in_row (goal.at.chunk_near-requires-clause-keys c).In-Some) _
    c.requires.rank c.tree_node-node.result c.tree_node-node.ensures

pub returns-in-Some-chunk_near-clause-found : goal.returns-in-Some-chunk_near-clause-found
returns-in-Some-chunk_near-clause-found c =
    let at : ℕ = c.in-Some-chunk_near.at in
    let place : ℕ = c.chunk_near.new.place in
    sym (there_found c.args.image.now.bytes c.args.shape.now c.args.root c.requires.chunks c.args.offsets.now c.requires.rank
    c.in-Some.last.node (in_row (goal.at.returns-in-Some-chunk_near-clause-found c).In-Some) place at
    (subst (λ (n : Node). IsChunkThere c.args.offsets.now n place at) c.tree_node-node.ensures c.in-Some-chunk_near.ensures))
