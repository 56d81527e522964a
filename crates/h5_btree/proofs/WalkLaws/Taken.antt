-- A row is read and claimed child by child.
use Rattle.std.proofs.Common.{◌≡◌, ℕ, zero, suc, ◌+◌, List, [], ◌∷◌, ◌++◌, refl, sym, ap, ◌∙◌, subst, arith}
use Rattle.std.specs.Prelude.{map}
use Rattle.std.proofs.lemmas.List.{append-nil}
use Rattle.h5_bytes.specs.Blocks.{holds, cover, Separate}
use Rattle.h5_bytes.specs.declared.Block.{Block}
use Rattle.h5_bytes.proofs.BlockLaws.{cover-append}
use Rattle.h5_model.specs.Format.Rows.{leaves, nodes, next_row}
use Rattle.h5_model.specs.Format.Nodes.{node_block, node_length, tree_blocks}
use Rattle.h5_btree.specs.Walk.Forms.{TreeForm, kind_of, leaf_length, leaf_block}
use Rattle.h5_btree.specs.Walk.Trees.{nodes_blocks}
use Rattle.h5_btree.specs.Walk.Below.{reading_in, IsBottom, IsInner, IsTakenBelow, AreBelow, nodes_below, leaves_below}
use Rattle.h5_btree.proofs.WalkLaws.RowJoin.{cover-map, cover-below, leaves_below-append, leaves_below-nil, nodes_below-nil, below-nil, below-append}

-- the blocks of all that stands from a row down
abbrev pub blocks_below : List ℕ → TreeForm → ℕ → List ℕ → List Block
blocks_below image form level row = nodes_blocks image form (nodes_below image form level row) (leaves_below image form level row)

module _ (image : List ℕ) (form : TreeForm) where
  pub cover-blocks : (p : ℕ) (ns ss : List ℕ) → cover p (nodes_blocks image form ns ss) ≡ cover p (tree_blocks (kind_of image form) ns) + cover p (map (leaf_block image form) ss)
  cover-blocks p ns ss = cover-append p (tree_blocks (kind_of image form) ns) (map (leaf_block image form) ss)

  pub blocks-append : (p level : ℕ) (xs ys : List ℕ) → cover p (blocks_below image form level (xs ++ ys)) ≡ cover p (blocks_below image form level xs) + cover p (blocks_below image form level ys)
  blocks-append p level xs ys =
      let symbols : cover p (map (leaf_block image form) (leaves_below image form level (xs ++ ys)))
      ≡ cover p (map (leaf_block image form) (leaves_below image form level xs)) + cover p (map (leaf_block image form) (leaves_below image form level ys))
      = ap (λ (ss : List ℕ). cover p (map (leaf_block image form) ss)) (leaves_below-append image form level xs ys)
      ∙ cover-map (leaf_block image form) p (leaves_below image form level xs) (leaves_below image form level ys) in
      omega (
        arith,
        symbols,
        cover-below image form (node_block (kind_of image form)) p level xs ys,
        cover-blocks p (nodes_below image form level (xs ++ ys)) (leaves_below image form level (xs ++ ys)),
        cover-blocks p (nodes_below image form level xs) (leaves_below image form level xs),
        cover-blocks p (nodes_below image form level ys) (leaves_below image form level ys),
      )

  pub blocks-nil : (p level : ℕ) → cover p (blocks_below image form level []) ≡ 0
  blocks-nil p level = rw (nodes_below-nil image form level, leaves_below-nil image form level) refl

  -- what one child, and what stands below it, makes
  pub blocks_bottom : (p at : ℕ) → cover p (blocks_below image form 0 (at ∷ [])) ≡ holds p at (leaf_length image form)
  blocks_bottom p at = omega arith

  pub next_one : (at : ℕ) → next_row (reading_in image form) (at ∷ []) ≡ (reading_in image form at).children
  next_one at = append-nil (reading_in image form at).children

  pub leaves_inner : (level at : ℕ) → leaves_below image form (suc level) (at ∷ []) ≡ leaves_below image form level (reading_in image form at).children
  leaves_inner zero at = next_one at
  leaves_inner (suc level) at = ap (leaves (reading_in image form) level) (next_one at)

  pub nodes_inner : (level at : ℕ) → nodes_below image form (suc level) (at ∷ []) ≡ at ∷ nodes_below image form level (reading_in image form at).children
  nodes_inner zero at = refl
  nodes_inner (suc level) at = ap (λ (row : List ℕ). at ∷ nodes (reading_in image form) level row) (next_one at)

  pub blocks_inner : (p level at : ℕ) → cover p (blocks_below image form (suc level) (at ∷ []))
      ≡ holds p at (node_length (kind_of image form)) + cover p (blocks_below image form level (reading_in image form at).children)
  blocks_inner p level at =
      ap (λ (ss : List ℕ). cover p (nodes_blocks image form (nodes_below image form (suc level) (at ∷ [])) ss)) (leaves_inner level at)
      ∙ ap (λ (ns : List ℕ). cover p (nodes_blocks image form ns (leaves_below image form level (reading_in image form at).children))) (nodes_inner level at)

  below_inner : (level at : ℕ) → IsInner image form level at → AreBelow image form level (reading_in image form at).children → AreBelow image form (suc level) (at ∷ [])
  below_inner level at inner below = ((inner, tt), subst (AreBelow image form level) (sym (next_one at)) below)

  -- nothing yet
  pub taken_none : (level : ℕ) (old : List Block) → Separate old → IsTakenBelow image form level [] old old
  taken_none level old separate = record {
    below = below-nil image form level;
    claimed = λ p. omega (arith, blocks-nil p level);
    separate = separate;
  }

  -- one symbol node more
  pub taken_bottom : (row : List ℕ) (at : ℕ) (old mid now : List Block) → IsTakenBelow image form 0 row old mid → IsBottom image form at
      → ((p : ℕ) → cover p now ≡ cover p mid + holds p at (leaf_length image form)) → Separate now → IsTakenBelow image form 0 (row ++ at ∷ []) old now
  taken_bottom row at old mid now taken bottom claimed separate = record {
    below = below-append image form 0 row (at ∷ []) taken.below (bottom, tt);
    claimed = λ p. omega (arith, taken.claimed p, claimed p, blocks-append p 0 row (at ∷ []), blocks_bottom p at);
    separate = separate;
  }

  -- one node more, and what stands below it
  pub taken_inner : (level : ℕ) (row : List ℕ) (at : ℕ) (old mid here now : List Block) → IsTakenBelow image form (suc level) row old mid → IsInner image form level at
      → ((p : ℕ) → cover p here ≡ cover p mid + holds p at (node_length (kind_of image form))) → IsTakenBelow image form level (reading_in image form at).children here now
      → IsTakenBelow image form (suc level) (row ++ at ∷ []) old now
  taken_inner level row at old mid here now taken inner claimed under = record {
    below = below-append image form (suc level) row (at ∷ []) taken.below (below_inner level at inner under.below);
    claimed = λ p. omega (arith, taken.claimed p, claimed p, under.claimed p, blocks-append p (suc level) row (at ∷ []), blocks_inner p level at);
    separate = under.separate;
  }
