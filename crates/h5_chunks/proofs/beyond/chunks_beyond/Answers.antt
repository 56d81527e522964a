use Rattle.std.proofs.Common.{◌≡◌, [], ℕ, List, length, sym, ap, ◌∙◌, subst}
use Rattle.h5_model.specs.Format.Reached.{Shape, level_at, shape_kind}
use Rattle.h5_model.specs.Format.Rows.{Node}
use Rattle.h5_btree.specs.Walk.Forms.{OfChunks}
use Rattle.h5_btree.proofs.WalkLaws.Descended.{root_there}
use Rattle.h5_chunks.specs.Beyond.{IsChunkTree, chunks_from}
use Rattle.h5_chunks.specs.Lists.{ChunkOffsets, offsets_of_edge, offsets_of_outer, with_more}
use Rattle.h5_chunks.proofs.BeyondLaws.{across_from, outside_from, whole_tree}
use Rattle.h5_chunks.proofs.HeldLaws.{image_long, tree_there}
use Rattle.h5_chunks.proofs.beyond.chunks_beyond.Goals as goal
use Rattle.h5_chunks.proofs.beyond.chunks_beyond.Goals.{After-level-level}

module _ (c : After-level-level) where
  abbrev image : List ℕ
  image = c.args.image.now.bytes

  abbrev shape : Shape
  shape = c.args.shape.now

  level_is : c.level-level.result ≡ level_at image (shape_kind image shape) c.args.root
  level_is = c.level-level.ensures ∙ ap (λ (n : Node). n.level) c.tree_node.ensures

  -- these behind no others
  abbrev list_of : List (List ℕ) → ChunkOffsets
  list_of offsets = record { rank = length shape.sizes; bytes = shape.bytes; offsets = offsets }

  told : (first last : ChunkOffsets) (some : List (List ℕ × ℕ) → List (List ℕ)) (all : List (List ℕ)) → first ≡ list_of []
      → last ≡ with_more first (some (chunks_from image shape c.level-level.result c.args.root))
      → all ≡ some (chunks_from image shape (level_at image (shape_kind image shape) c.args.root) c.args.root) → last ≡ list_of all
  told first last some all none is all_is =
      is ∙ ap (λ (v : ChunkOffsets). with_more v (some (chunks_from image shape c.level-level.result c.args.root))) none
      ∙ ap (λ (l : ℕ). list_of (some (chunks_from image shape l c.args.root))) level_is ∙ ap list_of (sym all_is)

pub tree_node-requires-clause-there : goal.tree_node-requires-clause-there
tree_node-requires-clause-there c =
    root_there c.args.image.now.bytes (OfChunks c.args.shape.now) c.args.root (tree_there c.args.image.now.bytes c.args.shape.now c.args.root c.requires.chunks)

pub push_beyond-requires-clause-long : goal.push_beyond-requires-clause-long
push_beyond-requires-clause-long c = image_long c.args.image.now.bytes c.args.shape.now c.args.root c.requires.chunks

pub push_beyond-requires-clause-tree : goal.push_beyond-requires-clause-tree
push_beyond-requires-clause-tree c =
    let a = (goal.at.push_beyond-requires-clause-tree c).After-level-level in
    subst (λ (l : ℕ). IsChunkTree c.args.image.now.bytes c.args.shape.now l c.args.root) (sym (level_is a))
    (whole_tree c.args.image.now.bytes c.args.shape.now c.args.root c.requires.chunks)

pub returns-clause-outside : goal.returns-clause-outside
returns-clause-outside c =
    let a = (goal.at.returns-clause-outside c).After-level-level in
    told a c.new.result c.push_beyond.new.beyond.outside (offsets_of_outer c.args.sizes.now) _ c.new.ensures c.in_ok-push_beyond.ensures.outside
    (outside_from c.args.image.now.bytes c.args.shape.now c.args.root c.requires.chunks c.args.sizes.now)

pub returns-clause-across : goal.returns-clause-across
returns-clause-across c =
    let a = (goal.at.returns-clause-across c).After-level-level in
    told a c.new-2.result c.push_beyond.new.beyond.across (offsets_of_edge c.args.sizes.now c.args.shape.now.sizes) _ c.new-2.ensures c.in_ok-push_beyond.ensures.across
    (across_from c.args.image.now.bytes c.args.shape.now c.args.root c.requires.chunks c.args.sizes.now)
