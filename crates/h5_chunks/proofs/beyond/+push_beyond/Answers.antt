use Rattle.std.proofs.Common.{◌≡◌, ◌-◌, ◌+◌, ◌*◌, ◌<◌, ◌≤◌, ◌++◌, ℕ, suc, List, length, get_or, false, refl, sym, ap, ◌∙◌, subst, arith}
use Rattle.std.proofs.lemmas.Option.{get_or_from_slice_get}
use Rattle.std.specs.Prelude.{OnOk}
use Rattle.std.specs.List.{AllByRecursion}
use Rattle.h5_model.specs.Format.Chunks.{chunks_in}
use Rattle.h5_model.specs.Format.Reached.{Shape}
use Rattle.h5_model.specs.Format.Rows.{Node, Reading}
use Rattle.h5_laws.proofs.Lists.{in_all, in_at}
use Rattle.h5_btree.specs.Walk.Below.{reading_in}
use Rattle.h5_btree.specs.Walk.Forms.{OfChunks}
use Rattle.h5_chunks.specs.Between.{IsChunkHeld}
use Rattle.h5_chunks.specs.Beyond.{IsChunkNode, IsChunkTree, IsListOf, chunks_from}
use Rattle.h5_chunks.specs.declared.beyond.Beyond.{Beyond}
use Rattle.h5_chunks.specs.Lists.{ChunkOffsets, offsets_of_edge, offsets_of_outer, reaches_beyond, with_more}
use Rattle.h5_chunks.proofs.BeyondLaws.{AreNone, all_children, below_first, child_between, chunks_long, edge_append, node_stands, none_between, none_more, one_child_more, then_more}
use Rattle.h5_chunks.proofs.ChunkNodes.{chunks_all}
use Rattle.h5_chunks.proofs.NodeKeys.{key_long}
use Rattle.h5_chunks.proofs.OutsideLaws.{outer_append}
use Rattle.h5_chunks.proofs.beyond.+push_beyond.Goals as goal
use Rattle.h5_chunks.proofs.beyond.+push_beyond.Goals.{then-may_reach+in_ok-push_beyond, else-may_reach}

-- ---- at level 0

bottom_is : (image : List ℕ) (shape : Shape) (level at : ℕ) → level ≡ 0
    → chunks_in (length shape.sizes) (reading_in image (OfChunks shape) at) ≡ chunks_from image shape level at
bottom_is image shape level at none =
    sym (chunks_all (length shape.sizes) (reading_in image (OfChunks shape) at)) ∙ ap (λ (l : ℕ). chunks_from image shape l at) (sym none)

pub returns-then-level-eq0-clause-outside : goal.returns-then-level-eq0-clause-outside
returns-then-level-eq0-clause-outside t c =
    subst (λ (es : List (List ℕ × ℕ)). OnOk c.push_chunks.result
    (c.push_chunks.new.beyond.outside ≡ with_more c.args.beyond.now.outside (offsets_of_outer c.args.sizes.now es)))
    (bottom_is c.args.image.now.bytes c.args.shape.now c.args.level c.args.at c.if-level-eq0.true) c.push_chunks.ensures.outside

pub returns-then-level-eq0-clause-across : goal.returns-then-level-eq0-clause-across
returns-then-level-eq0-clause-across t c =
    subst (λ (es : List (List ℕ × ℕ)). OnOk c.push_chunks.result
    (c.push_chunks.new.beyond.across ≡ with_more c.args.beyond.now.across (offsets_of_edge c.args.sizes.now c.args.shape.now.sizes es)))
    (bottom_is c.args.image.now.bytes c.args.shape.now c.args.level c.args.at c.if-level-eq0.true) c.push_chunks.ensures.across

-- ---- above

up : (level : ℕ) → (level ≡ 0 → ⊥) → level ≡ suc (level - 1)
up level some = omega (arith, some)

node_of_tree : (image : List ℕ) (shape : Shape) (level at : ℕ) → (level ≡ 0 → ⊥) → IsChunkTree image shape level at → IsChunkNode image shape (suc (level - 1)) at
node_of_tree image shape level at some tree = (subst (λ (l : ℕ). IsChunkTree image shape l at) (up level some) tree).0

-- a list that has more is one of chunks of the same shape
list_of : (shape : Shape) (first last : ChunkOffsets) → last.rank ≡ first.rank → last.bytes ≡ first.bytes → IsListOf shape first → IsListOf shape last
list_of shape first last rank bytes is = record { rank = rank ∙ is.rank; bytes = bytes ∙ is.bytes }

pub tree_node-node-requires-clause-there : goal.tree_node-node-requires-clause-there
tree_node-node-requires-clause-there t c =
    node_stands c.args.image.now.bytes c.args.shape.now (c.args.level - 1) c.args.at
    (node_of_tree c.args.image.now.bytes c.args.shape.now c.args.level c.args.at c.if-level-eq0.false c.requires.tree)

pub may_reach-requires-clause-low : goal.may_reach-requires-clause-low
may_reach-requires-clause-low t c =
    let image : List ℕ = c.args.image.now.bytes in
    let shape : Shape = c.args.shape.now in
    let node : Node = c.tree_node-node.result in
    let stands = node_stands image shape (c.args.level - 1) c.args.at (node_of_tree image shape c.args.level c.args.at c.if-level-eq0.false c.requires.tree) in
    key_long image shape c.args.at node c.tree_node-node.ensures stands c.loop-i.i c.key.result.now (omega (arith, c.len-i-end.ensures.keys)) c.key.ensures
    ∙ ap (λ (s : Shape). 8 + 8 * (length s.sizes + 1)) (sym c.shape.view_is)

pub may_reach-requires-clause-high : goal.may_reach-requires-clause-high
may_reach-requires-clause-high t c =
    let image : List ℕ = c.args.image.now.bytes in
    let shape : Shape = c.args.shape.now in
    let node : Node = c.tree_node-node.result in
    let stands = node_stands image shape (c.args.level - 1) c.args.at (node_of_tree image shape c.args.level c.args.at c.if-level-eq0.false c.requires.tree) in
    key_long image shape c.args.at node c.tree_node-node.ensures stands (c.loop-i.i + 1) c.key-in-loop-i.result.now
    (omega (arith, c.len-i-end.ensures.keys)) c.key-in-loop-i.ensures
    ∙ ap (λ (s : Shape). 8 + 8 * (length s.sizes + 1)) (sym c.shape.view_is)

pub push_beyond-requires : goal.push_beyond-requires
push_beyond-requires t c =
    let image : List ℕ = c.args.image.now.bytes in
    let shape : Shape = c.args.shape.now in
    let all : AllByRecursion (IsChunkTree image shape (c.args.level - 1)) (reading_in image (OfChunks shape) c.args.at).children
    = (subst (λ (l : ℕ). IsChunkTree image shape l c.args.at) (up c.args.level c.if-level-eq0.false) c.requires.tree).1 in
    let own : AllByRecursion (IsChunkTree image shape (c.args.level - 1)) c.tree_node-node.result.children
    = subst (λ (n : Node). AllByRecursion (IsChunkTree image shape (c.args.level - 1)) n.children) (sym c.tree_node-node.ensures) all in (
      omega (arith, c.if-level-eq0.false, c.decreases),
      (
        c.requires.long,
        (
          c.requires.few,
          (
            in_all (IsChunkTree image shape (c.args.level - 1)) c.child.result c.tree_node-node.result.children own
                (in_at c.tree_node-node.result.children c.loop-i.i c.child.result c.child.ensures),
            (
              c.requires.rank,
              (
                list_of shape c.args.beyond.now.outside c.loop-i.beyond.outside (ap (λ (v : ChunkOffsets). v.rank) c.loop-i.invariant.outside)
                    (ap (λ (v : ChunkOffsets). v.bytes) c.loop-i.invariant.outside) c.requires.outside,
                list_of shape c.args.beyond.now.across c.loop-i.beyond.across (ap (λ (v : ChunkOffsets). v.rank) c.loop-i.invariant.across)
                    (ap (λ (v : ChunkOffsets). v.bytes) c.loop-i.invariant.across) c.requires.across,
              ),
            ),
          ),
        ),
      ),
    )

pub loop-i-preserved : goal.loop-i-preserved
loop-i-preserved t c =
    let image : List ℕ = c.args.image.now.bytes in
    let shape : Shape = c.args.shape.now in
    let sizes : List ℕ = c.args.sizes.now in
    let chunk : List ℕ = shape.sizes in
    let rank : ℕ = length chunk in
    let V : Reading = reading_in image (OfChunks shape) in
    let l : ℕ = c.args.level - 1 in
    let node : Node = c.tree_node-node.result in
    let i : ℕ = c.loop-i.i in
    let under : i < length node.children = omega (arith, c.len-i-end.ensures.children) in
    let before : List (List ℕ × ℕ) = below_first V rank l node i in
    let old : Beyond = c.args.beyond.now in
    let last : Beyond = c.loop-i.beyond in
    let now : Beyond = c.if-may_reach.beyond in
    elim c.if-may_reach.branch [
      | then-may_reach+in_ok-push_beyond w ↦
          let child : ℕ = w.child.result in
          let here : List (List ℕ × ℕ) = chunks_from image shape l child in
          let more : before ++ here ≡ below_first V rank l node (i + 1)
          = sym (one_child_more V rank l node i child under (get_or_from_slice_get node.children i child 0 w.child.ensures)) in
          record {
            outside = then_more old.outside last.outside now.outside (offsets_of_outer sizes before) (offsets_of_outer sizes here) c.loop-i.invariant.outside
                (ap (λ (b : Beyond). b.outside) w.beyond-is ∙ w.in_ok-push_beyond.ensures.outside)
                ∙ ap (with_more old.outside) (sym (outer_append sizes before here) ∙ ap (offsets_of_outer sizes) more);
            across = then_more old.across last.across now.across (offsets_of_edge sizes chunk before) (offsets_of_edge sizes chunk here) c.loop-i.invariant.across
                (ap (λ (b : Beyond). b.across) w.beyond-is ∙ w.in_ok-push_beyond.ensures.across)
                ∙ ap (with_more old.across) (sym (edge_append sizes chunk before here) ∙ ap (offsets_of_edge sizes chunk) more);
          }
      | else-may_reach w ↦
          let child : ℕ = get_or node.children i 0 in
          let here : List (List ℕ × ℕ) = chunks_from image shape l child in
          let more : before ++ here ≡ below_first V rank l node (i + 1) = sym (one_child_more V rank l node i child under refl) in
          let low : List ℕ = c.key.result.now in
          let high : List ℕ = c.key-in-loop-i.result.now in
          let sizes_are : c.shape.inside.sizes.now ≡ chunk = ap (λ (s : Shape). s.sizes) c.shape.view_is in
          let wholly : (offsets : List ℕ) → length offsets ≡ rank → IsChunkHeld rank low high offsets → reaches_beyond sizes chunk offsets ≡ false
          = subst (λ (s : List ℕ). (offsets : List ℕ) → length offsets ≡ length s → IsChunkHeld (length s) low high offsets → reaches_beyond sizes s offsets ≡ false)
          sizes_are (c.may_reach.ensures w.if-may_reach.false) in
          let some : (d : ℕ) → d < rank → 1 ≤ get_or chunk d 0
          = subst (λ (s : List ℕ). (d : ℕ) → d < length s → 1 ≤ get_or s d 0) sizes_are c.shape.invariant.some in
          let none : AreNone sizes chunk here
          = none_between sizes chunk low high c.requires.rank some wholly here (chunks_long V rank l child)
          (child_between image shape l c.args.at (node_of_tree image shape c.args.level c.args.at c.if-level-eq0.false c.requires.tree) node
          c.tree_node-node.ensures i under low high c.key.ensures c.key-in-loop-i.ensures) in
          record {
            outside = then_more old.outside last.outside now.outside (offsets_of_outer sizes before) (offsets_of_outer sizes here) c.loop-i.invariant.outside
                (ap (λ (b : Beyond). b.outside) w.beyond-is ∙ none_more last.outside ∙ ap (with_more last.outside) (sym none.outside))
                ∙ ap (with_more old.outside) (sym (outer_append sizes before here) ∙ ap (offsets_of_outer sizes) more);
            across = then_more old.across last.across now.across (offsets_of_edge sizes chunk before) (offsets_of_edge sizes chunk here) c.loop-i.invariant.across
                (ap (λ (b : Beyond). b.across) w.beyond-is ∙ none_more last.across ∙ ap (with_more last.across) (sym none.across))
                ∙ ap (with_more old.across) (sym (edge_append sizes chunk before here) ∙ ap (offsets_of_edge sizes chunk) more);
          }
    ]

pub returns-clause-outside : goal.returns-clause-outside
returns-clause-outside t c =
    let image : List ℕ = c.args.image.now.bytes in
    let shape : Shape = c.args.shape.now in
    let node : Node = c.tree_node-node.result in
    let end : length node.children ≤ c.loop-i.i = omega (arith, c.len-i-end.ensures.children) in
    c.loop-i.invariant.outside
    ∙ ap (λ (es : List (List ℕ × ℕ)). with_more c.args.beyond.now.outside (offsets_of_outer c.args.sizes.now es))
    (all_children (reading_in image (OfChunks shape)) (length shape.sizes) (c.args.level - 1) c.args.at node c.tree_node-node.ensures c.loop-i.i end
    ∙ ap (λ (l : ℕ). chunks_from image shape l c.args.at) (sym (up c.args.level c.if-level-eq0.false)))

pub returns-clause-across : goal.returns-clause-across
returns-clause-across t c =
    let image : List ℕ = c.args.image.now.bytes in
    let shape : Shape = c.args.shape.now in
    let node : Node = c.tree_node-node.result in
    let end : length node.children ≤ c.loop-i.i = omega (arith, c.len-i-end.ensures.children) in
    c.loop-i.invariant.across
    ∙ ap (λ (es : List (List ℕ × ℕ)). with_more c.args.beyond.now.across (offsets_of_edge c.args.sizes.now shape.sizes es))
    (all_children (reading_in image (OfChunks shape)) (length shape.sizes) (c.args.level - 1) c.args.at node c.tree_node-node.ensures c.loop-i.i end
    ∙ ap (λ (l : ℕ). chunks_from image shape l c.args.at) (sym (up c.args.level c.if-level-eq0.false)))
