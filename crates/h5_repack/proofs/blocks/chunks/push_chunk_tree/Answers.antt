use Rattle.std.proofs.Common.{◌≡◌, ◌+◌, ◌*◌, ◌++◌, ◌∷◌, ℕ, List, ◌∙◌, ap, arith, length, map, refl}
use Rattle.std.proofs.lemmas.Result.{IfOk-weaker}
use Rattle.h5_model.specs.Format.Nodes.{node_length}
use Rattle.h5_model.specs.Format.PlainLength.{nodes_over}
use Rattle.h5_chunks.specs.Keys.{chunk_key}
use Rattle.h5_chunks.specs.declared.write.ChunkKey.{ChunkKey}
use Rattle.h5_repack.specs.Bodies.Chunks.{chunk_children, chunk_nodes}
use Rattle.h5_repack.specs.Blocks.StoredChunks.{key_bytes, with_key_bytes, part_length}
use Rattle.h5_repack.specs.Blocks.Written.{part_offsets}
use Rattle.h5_repack.proofs.BlockLaws.StoredChunks.{all_fit, as_many_children, chunks_many, first_fits, level_low, tree_is, tree_long}
use Rattle.h5_repack.proofs.blocks.chunks.push_chunk_tree.Goals as goal

-- each chunk has a byte
pub nodes_length-requires-clause-few : goal.nodes_length-requires-clause-few
nodes_length-requires-clause-few c =
    let h = c.args.held.now in
    let many = chunks_many h c.requires.whole c.kind_of-kind.ensures.ranked c.args.chunk_k c.requires.low_k (length h.parts) c.chunk_length-size.result refl c.requires.some c.chunk_length-size.ensures.exact
    c.chunk_length-size.ensures.some c.args.place in
    omega (arith, many, c.requires.few, c.len.ensures)

pub children_of-requires-clause-few : goal.children_of-requires-clause-few
children_of-requires-clause-few c =
    let h = c.args.held.now in
    let many = chunks_many h c.requires.whole c.kind_of-kind.ensures.ranked c.args.chunk_k c.requires.low_k (length h.parts) c.chunk_length-size.result refl c.requires.some c.chunk_length-size.ensures.exact
    c.chunk_length-size.ensures.some c.args.place in
    omega (arith, many, c.requires.few)

pub children_of-requires-clause-last : goal.children_of-requires-clause-last
children_of-requires-clause-last c part here =
    c.deref.ensures.value ∙ (rw c.new-last.ensures.items at (c.in_ok-push_last_key.ensures part here))

pub push_tree-requires-clause-few : goal.push_tree-requires-clause-few
push_tree-requires-clause-few c =
    let h = c.args.held.now in
    let first : ChunkKey = record { bytes = c.key.result.bytes } in
    let begin : ℕ = c.args.place + c.nodes_length.result in
    let are : map (with_key_bytes key_bytes) c.deref-2.result.now ≡ map (with_key_bytes chunk_key) (chunk_children (part_length h) h.chunk begin (part_offsets h))
    = ap (map (with_key_bytes key_bytes)) c.deref-2.ensures.value ∙ c.in_ok-children.ensures in
    let many = as_many_children c.args.chunk_k c.requires.low_k h c.kind_of-kind.ensures.ranked c.requires.some c.kind_of-kind.result c.kind_of-kind.ensures.kind first c.key.ensures begin c.deref-2.result.now are in
    let room = chunks_many h c.requires.whole c.kind_of-kind.ensures.ranked c.args.chunk_k c.requires.low_k (length h.parts) c.chunk_length-size.result refl c.requires.some c.chunk_length-size.ensures.exact
    c.chunk_length-size.ensures.some c.args.place in
    omega (arith, many, room, c.requires.few)

pub push_tree-requires-clause-level : goal.push_tree-requires-clause-level
push_tree-requires-clause-level c =
    let h = c.args.held.now in
    let first : ChunkKey = record { bytes = c.key.result.bytes } in
    let begin : ℕ = c.args.place + c.nodes_length.result in
    let are : map (with_key_bytes key_bytes) c.deref-2.result.now ≡ map (with_key_bytes chunk_key) (chunk_children (part_length h) h.chunk begin (part_offsets h))
    = ap (map (with_key_bytes key_bytes)) c.deref-2.ensures.value ∙ c.in_ok-children.ensures in
    level_low c.args.chunk_k c.requires.low_k h c.kind_of-kind.ensures.ranked c.requires.some c.kind_of-kind.result c.kind_of-kind.ensures.kind first c.key.ensures begin c.deref-2.result.now are c.requires.level

pub push_tree-requires-clause-first : goal.push_tree-requires-clause-first
push_tree-requires-clause-first c =
    first_fits c.args.chunk_k c.requires.low_k c.args.held.now c.kind_of-kind.ensures.ranked c.requires.some c.kind_of-kind.result c.kind_of-kind.ensures.kind (record { bytes = c.key.result.bytes }) c.key.ensures

pub push_tree-requires-clause-keys : goal.push_tree-requires-clause-keys
push_tree-requires-clause-keys c =
    let h = c.args.held.now in
    let first : ChunkKey = record { bytes = c.key.result.bytes } in
    let begin : ℕ = c.args.place + c.nodes_length.result in
    let are : map (with_key_bytes key_bytes) c.deref-2.result.now ≡ map (with_key_bytes chunk_key) (chunk_children (part_length h) h.chunk begin (part_offsets h))
    = ap (map (with_key_bytes key_bytes)) c.deref-2.ensures.value ∙ c.in_ok-children.ensures in
    all_fit c.args.chunk_k c.requires.low_k h c.kind_of-kind.ensures.ranked c.requires.some c.kind_of-kind.result c.kind_of-kind.ensures.kind first c.key.ensures begin c.deref-2.result.now are

pub push_tree-requires-clause-room : goal.push_tree-requires-clause-room
push_tree-requires-clause-room c =
    let h = c.args.held.now in
    let kind = c.kind_of-kind.result in
    let first : ChunkKey = record { bytes = c.key.result.bytes } in
    let begin : ℕ = c.args.place + c.nodes_length.result in
    let are : map (with_key_bytes key_bytes) c.deref-2.result.now ≡ map (with_key_bytes chunk_key) (chunk_children (part_length h) h.chunk begin (part_offsets h))
    = ap (map (with_key_bytes key_bytes)) c.deref-2.ensures.value ∙ c.in_ok-children.ensures in
    let long = tree_long c.args.chunk_k c.requires.low_k h c.kind_of-kind.ensures.ranked c.requires.some kind c.kind_of-kind.ensures.kind first c.key.ensures begin c.deref-2.result.now are c.args.place c.nodes_length.result
    (c.nodes_length.ensures.exact ∙ ap (λ n. nodes_over 64 (2 * kind.k) n * node_length kind) c.len.ensures) in
    omega (arith, long, c.nodes_length.ensures.few, c.requires.low)

pub returns : goal.returns
returns c =
    let h = c.args.held.now in
    let kind = c.kind_of-kind.result in
    let first : ChunkKey = record { bytes = c.key.result.bytes } in
    let begin : ℕ = c.args.place + c.nodes_length.result in
    let are : map (with_key_bytes key_bytes) c.deref-2.result.now ≡ map (with_key_bytes chunk_key) (chunk_children (part_length h) h.chunk begin (part_offsets h))
    = ap (map (with_key_bytes key_bytes)) c.deref-2.ensures.value ∙ c.in_ok-children.ensures in
    IfOk-weaker c.push_tree.result _
    (λ _. (head : List ℕ) (others : List (List ℕ)) → part_offsets h ≡ head ∷ others
    → c.push_tree.new.out.items ≡ c.args.out.now.items ++ chunk_nodes c.args.chunk_k (part_length h) h.chunk head (head ∷ others) c.args.place)
    (λ _ pushed head others e. pushed ∙ ap (λ (bytes : List ℕ). c.args.out.now.items ++ bytes)
    (tree_is c.args.chunk_k c.requires.low_k h c.kind_of-kind.ensures.ranked c.requires.some kind c.kind_of-kind.ensures.kind first c.key.ensures begin c.deref-2.result.now are c.args.place c.nodes_length.result
    (c.nodes_length.ensures.exact ∙ ap (λ n. nodes_over 64 (2 * kind.k) n * node_length kind) c.len.ensures) refl head others e))
    c.push_tree.ensures
