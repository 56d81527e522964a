use Rattle.std.proofs.Common.{◌≡◌, ◌+◌, ◌<◌, ◌≤◌, ℕ, [], List, Some, length, refl, sym, ap, ◌∙◌, subst, arith, false, true}
use Rattle.std.specs.Prelude.{Option, slice_index_or}
use Rattle.std.proofs.lemmas.List.{take_all}
use Rattle.std.proofs.lemmas.Option.{get_or_from_slice_get}
use Rattle.h5_model.specs.Format.Rows.{Node}
use Rattle.h5_model.specs.Format.Reached.{Shape}
use Rattle.h5_model.specs.Format.Chunks.{chunks_in, offsets_in}
use Rattle.h5_model.specs.Format.Links.{Before}
use Rattle.h5_btree.specs.Rising.{FallFrom, IsAbove, RiseFrom, last_value}
use Rattle.h5_btree.proofs.RisingLaws.{last_more, rise_more}
use Rattle.h5_chunks.specs.Between.{offsets_of}
use Rattle.h5_chunks.proofs.Ascending.{not_above}
use Rattle.h5_chunks.proofs.ChunkNodes.{chunk_here, chunk_itself, chunk_low, length-chunks, offsets_are}
use Rattle.h5_chunks.proofs.NodeKeys.{key_long, one_more_key}
use Rattle.h5_chunks.proofs.order.ascending.check_node.Goals as goal

pub of_key-chunk-requires-clause-long : goal.of_key-chunk-requires-clause-long
of_key-chunk-requires-clause-long c =
    let ranks : length c.shape.inside.sizes.now ≡ length c.args.shape.now.sizes = ap (λ (s : Shape). length s.sizes) c.shape.view_is in
    let node : Node = c.tree_node-node.result in
    let low : c.loop-i.i < length node.keys = omega (arith, c.len-i-end.ensures.keys) in
    let long = key_long c.args.image.now.bytes c.args.shape.now c.args.at node c.tree_node-node.ensures c.requires.node c.loop-i.i c.key.result.now low c.key.ensures in
    omega (arith, long, ranks)

pub loop-i-init : goal.loop-i-init
loop-i-init c = (tt, refl)

pub returns-then-not-is_above-clause-falls : goal.returns-then-not-is_above-clause-falls
returns-then-not-is_above-clause-falls c =
    let image : List ℕ = c.args.image.now.bytes in
    let shape : Shape = c.args.shape.now in
    let rank : ℕ = length shape.sizes in
    let node : Node = c.tree_node-node.result in
    let long : length node.keys ≡ length node.children + 1 = one_more_key image shape c.args.at node c.tree_node-node.ensures in
    let i : ℕ = c.loop-i.i in
    let ranks : length c.shape.inside.sizes.now ≡ rank = ap (λ (s : Shape). length s.sizes) c.shape.view_is in
    let low : i < length node.children = omega (arith, c.len-i-end.ensures.children) in
    let key : List ℕ = c.key.result.now in
    let key_is : slice_index_or node.keys i [] ≡ key = get_or_from_slice_get node.keys i key [] c.key.ensures in
    let here : List ℕ × ℕ = chunk_here rank node long i low key key_is in
    let under : i < length (chunks_in rank node) = chunk_low rank node long i low key key_is in
    let itself = chunk_itself rank node long i low key key_is in
    let is : here.0 ≡ c.of_key-chunk.result
    = offsets_are rank node long i low key key_is ∙ sym (c.of_key-chunk.ensures.offsets ∙ ap (λ (n : ℕ). offsets_in n key) ranks) in
    let falls = not_above offsets_of Before c.args.before c.loop-i.last (chunks_in rank node) i here under itself c.loop-i.invariant.1
    (λ above. let never : false ≡ true = c.if-not-is_above.ensures.1 (subst (λ (offsets : List ℕ). IsAbove Before c.loop-i.last offsets) is above) in absurd (cc)) in
    subst (λ (n : Node). FallFrom offsets_of Before c.args.before (chunks_in rank n)) c.tree_node-node.ensures falls

pub loop-i-preserved : goal.loop-i-preserved
loop-i-preserved c =
    let image : List ℕ = c.args.image.now.bytes in
    let shape : Shape = c.args.shape.now in
    let rank : ℕ = length shape.sizes in
    let node : Node = c.tree_node-node.result in
    let long : length node.keys ≡ length node.children + 1 = one_more_key image shape c.args.at node c.tree_node-node.ensures in
    let i : ℕ = c.loop-i.i in
    let ranks : length c.shape.inside.sizes.now ≡ rank = ap (λ (s : Shape). length s.sizes) c.shape.view_is in
    let low : i < length node.children = omega (arith, c.len-i-end.ensures.children) in
    let key : List ℕ = c.key.result.now in
    let key_is : slice_index_or node.keys i [] ≡ key = get_or_from_slice_get node.keys i key [] c.key.ensures in
    let here : List ℕ × ℕ = chunk_here rank node long i low key key_is in
    let under : i < length (chunks_in rank node) = chunk_low rank node long i low key key_is in
    let itself = chunk_itself rank node long i low key key_is in
    let is : here.0 ≡ c.of_key-chunk.result
    = offsets_are rank node long i low key key_is ∙ sym (c.of_key-chunk.ensures.offsets ∙ ap (λ (n : ℕ). offsets_in n key) ranks) in
    let above = c.if-not-is_above.ensures.0 refl in
    let rises = subst (λ (o : Option (List ℕ)). IsAbove Before o here.0) c.loop-i.invariant.1
    (subst (λ (offsets : List ℕ). IsAbove Before c.loop-i.last offsets) (sym is) above) in (
      rise_more offsets_of Before c.args.before (chunks_in rank node) i here under itself c.loop-i.invariant.0 rises,
      sym (last_more offsets_of Before c.args.before (chunks_in rank node) i here under itself ∙ ap (λ (offsets : List ℕ). Some offsets) is),
    )

pub returns-clause-rise : goal.returns-clause-rise
returns-clause-rise c =
    let image : List ℕ = c.args.image.now.bytes in
    let shape : Shape = c.args.shape.now in
    let rank : ℕ = length shape.sizes in
    let node : Node = c.tree_node-node.result in
    let long : length node.keys ≡ length node.children + 1 = one_more_key image shape c.args.at node c.tree_node-node.ensures in
    let i : ℕ = c.loop-i.i in
    let end : length (chunks_in rank node) ≤ i = omega (arith, c.len-i-end.ensures.children, length-chunks rank node long) in
    let all = subst (RiseFrom offsets_of Before c.args.before) (take_all i (chunks_in rank node) end) c.loop-i.invariant.0 in
    subst (λ (n : Node). RiseFrom offsets_of Before c.args.before (chunks_in rank n)) c.tree_node-node.ensures all

pub returns-clause-last : goal.returns-clause-last
returns-clause-last c =
    let image : List ℕ = c.args.image.now.bytes in
    let shape : Shape = c.args.shape.now in
    let rank : ℕ = length shape.sizes in
    let node : Node = c.tree_node-node.result in
    let long : length node.keys ≡ length node.children + 1 = one_more_key image shape c.args.at node c.tree_node-node.ensures in
    let i : ℕ = c.loop-i.i in
    let end : length (chunks_in rank node) ≤ i = omega (arith, c.len-i-end.ensures.children, length-chunks rank node long) in
    c.loop-i.invariant.1 ∙ ap (last_value offsets_of c.args.before) (take_all i (chunks_in rank node) end)
    ∙ ap (λ (n : Node). last_value offsets_of c.args.before (chunks_in rank n)) c.tree_node-node.ensures
