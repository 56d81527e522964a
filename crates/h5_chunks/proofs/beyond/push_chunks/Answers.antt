use Rattle.std.proofs.Common.{◌≡◌, ◌+◌, ◌<◌, ◌≤◌, ◌∷◌, [], ℕ, List, length, not, take, get_or, sym, ap, ◌∙◌, subst, arith}
use Rattle.std.proofs.lemmas.List.{take_all}
use Rattle.std.proofs.lemmas.Option.{get_or_from_slice_get}
use Rattle.std.specs.Prelude.{slice_index_or}
use Rattle.std.specs.List.{filter}
use Rattle.h5_model.specs.Format.Chunks.{IsChunkKey, chunks_in, offsets_in}
use Rattle.h5_model.specs.Format.Reached.{Shape}
use Rattle.h5_model.specs.Format.Rows.{Node}
use Rattle.h5_model.specs.Tree.Places.{is_inside}
use Rattle.h5_btree.specs.Walk.Forms.{IsKeyed, OfChunks}
use Rattle.h5_chunks.specs.Lists.{ChunkOffsets, IsKeyOf, offsets_of_edge, offsets_of_outer, reaches_beyond, with_more}
use Rattle.h5_chunks.proofs.BeyondLaws.{edge_more, then_more}
use Rattle.h5_chunks.proofs.ChunkNodes.{chunk_is, length-chunks}
use Rattle.h5_chunks.proofs.NodeKeys.{key_long, one_more_key}
use Rattle.h5_chunks.proofs.OutsideLaws.{outer_more}
use Rattle.h5_chunks.proofs.beyond.push_chunks.Goals as goal
use Rattle.h5_chunks.proofs.beyond.push_chunks.Goals.{After-key}

module _ (c : After-key) where
  abbrev image : List ℕ
  image = c.args.image.now.bytes

  abbrev shape : Shape
  shape = c.args.shape.now

  abbrev rank : ℕ
  rank = length shape.sizes

  abbrev node : Node
  node = c.tree_node-node.result

  abbrev key : List ℕ
  key = c.key.result.now

  long : length node.keys ≡ length node.children + 1
  long = one_more_key image shape c.args.at node c.tree_node-node.ensures

  low : c.loop-i.i < length node.children
  low = omega (arith, c.len-i-end.ensures.children)

  key_is : slice_index_or node.keys c.loop-i.i [] ≡ key
  key_is = get_or_from_slice_get node.keys c.loop-i.i key [] c.key.ensures

  key_of : IsKeyOf rank shape.bytes key
  key_of =
      let keyed : IsKeyed (OfChunks shape) node = subst (IsKeyed (OfChunks shape)) (sym c.tree_node-node.ensures) (c.requires.node).keyed in
      let is : IsChunkKey shape.sizes shape.bytes key = subst (IsChunkKey shape.sizes shape.bytes) key_is (keyed c.loop-i.i low) in
      record {
        long = key_long image shape c.args.at node c.tree_node-node.ensures (c.requires.node).there c.loop-i.i key (omega (arith, low, long)) c.key.ensures;
        stored = is.stored;
        unfiltered = is.unfiltered;
        element = is.element;
      }

  -- so it is of a list of chunks of this shape
  key_for : (list : ChunkOffsets) → list.rank ≡ rank → list.bytes ≡ shape.bytes → IsKeyOf list.rank list.bytes key
  key_for list rank_is bytes_is =
      subst (λ (n : ℕ). IsKeyOf n list.bytes key) (sym rank_is) (subst (λ (n : ℕ). IsKeyOf rank n key) (sym bytes_is) key_of)

  sizes_are : c.shape.inside.sizes.now ≡ shape.sizes
  sizes_are = ap (λ (s : Shape). s.sizes) c.shape.view_is

  -- the chunks of the node, and this one
  abbrev chunks : List (List ℕ × ℕ)
  chunks = chunks_in rank node

  abbrev address : ℕ
  address = slice_index_or node.children c.loop-i.i 0

  under : c.loop-i.i < length chunks
  under = omega (arith, low, length-chunks rank node long)

  here : get_or chunks c.loop-i.i ([], 0) ≡ (offsets_in rank key, address)
  here = chunk_is rank node long c.loop-i.i low ([], 0) ∙ ap (λ (k : List ℕ). (offsets_in rank k, address)) key_is

pub push_chunk-requires-clause-outside : goal.push_chunk-requires-clause-outside
push_chunk-requires-clause-outside c =
    key_for c c.loop-i.beyond.outside
    (ap (λ (v : ChunkOffsets). v.rank) c.loop-i.invariant.outside ∙ c.requires.outside.rank)
    (ap (λ (v : ChunkOffsets). v.bytes) c.loop-i.invariant.outside ∙ c.requires.outside.bytes)

pub push_chunk-requires-clause-across : goal.push_chunk-requires-clause-across
push_chunk-requires-clause-across c =
    key_for c c.loop-i.beyond.across
    (ap (λ (v : ChunkOffsets). v.rank) c.loop-i.invariant.across ∙ c.requires.across.rank)
    (ap (λ (v : ChunkOffsets). v.bytes) c.loop-i.invariant.across ∙ c.requires.across.bytes)

pub loop-i-preserved : goal.loop-i-preserved
loop-i-preserved c =
    let a = (goal.at.loop-i-preserved c).After-key in
    let sizes : List ℕ = c.args.sizes.now in
    let chunk : List ℕ = c.args.shape.now.sizes in
    let i : ℕ = c.loop-i.i in
    let offsets : List ℕ = offsets_in (rank a) (key a) in
    let outer : List ℕ → List (List ℕ) = λ s. filter (λ (o : List ℕ). not (is_inside sizes o)) (offsets_in (length s) (key a) ∷ []) in
    let edge : List ℕ → List (List ℕ) = λ s. filter (reaches_beyond sizes s) (filter (is_inside sizes) (offsets_in (length s) (key a) ∷ [])) in
    record {
      outside = then_more c.args.beyond.now.outside c.loop-i.beyond.outside c.push_chunk.new.beyond.outside (offsets_of_outer sizes (take i (chunks a))) (outer chunk)
          c.loop-i.invariant.outside
          (subst (λ (s : List ℕ). c.push_chunk.new.beyond.outside ≡ with_more c.loop-i.beyond.outside (outer s)) (sizes_are a) c.in_ok-push_chunk.ensures.outside)
          ∙ ap (with_more c.args.beyond.now.outside) (sym (outer_more sizes (chunks a) i offsets (address a) (under a) (here a)));
      across = then_more c.args.beyond.now.across c.loop-i.beyond.across c.push_chunk.new.beyond.across (offsets_of_edge sizes chunk (take i (chunks a))) (edge chunk)
          c.loop-i.invariant.across
          (subst (λ (s : List ℕ). c.push_chunk.new.beyond.across ≡ with_more c.loop-i.beyond.across (edge s)) (sizes_are a) c.in_ok-push_chunk.ensures.across)
          ∙ ap (with_more c.args.beyond.now.across) (sym (edge_more sizes chunk (chunks a) i offsets (address a) (under a) (here a)));
    }

pub returns-clause-outside : goal.returns-clause-outside
returns-clause-outside c =
    let rank : ℕ = length c.args.shape.now.sizes in
    let node : Node = c.tree_node-node.result in
    let i : ℕ = c.loop-i.i in
    let long : length node.keys ≡ length node.children + 1 = one_more_key c.args.image.now.bytes c.args.shape.now c.args.at node c.tree_node-node.ensures in
    let end : length (chunks_in rank node) ≤ i = omega (arith, c.len-i-end.ensures.children, length-chunks rank node long) in
    c.loop-i.invariant.outside
    ∙ ap (λ (es : List (List ℕ × ℕ)). with_more c.args.beyond.now.outside (offsets_of_outer c.args.sizes.now es)) (take_all i (chunks_in rank node) end)
    ∙ ap (λ (n : Node). with_more c.args.beyond.now.outside (offsets_of_outer c.args.sizes.now (chunks_in rank n))) c.tree_node-node.ensures

pub returns-clause-across : goal.returns-clause-across
returns-clause-across c =
    let chunk : List ℕ = c.args.shape.now.sizes in
    let rank : ℕ = length chunk in
    let node : Node = c.tree_node-node.result in
    let i : ℕ = c.loop-i.i in
    let long : length node.keys ≡ length node.children + 1 = one_more_key c.args.image.now.bytes c.args.shape.now c.args.at node c.tree_node-node.ensures in
    let end : length (chunks_in rank node) ≤ i = omega (arith, c.len-i-end.ensures.children, length-chunks rank node long) in
    c.loop-i.invariant.across
    ∙ ap (λ (es : List (List ℕ × ℕ)). with_more c.args.beyond.now.across (offsets_of_edge c.args.sizes.now chunk es)) (take_all i (chunks_in rank node) end)
    ∙ ap (λ (n : Node). with_more c.args.beyond.now.across (offsets_of_edge c.args.sizes.now chunk (chunks_in rank n))) c.tree_node-node.ensures
