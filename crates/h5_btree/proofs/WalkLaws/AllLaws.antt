-- What holds of all nodes and symbol nodes of a tree.
use Rattle.std.proofs.Common.{◌≡◌, ℕ, zero, suc, ◌+◌, ◌≤◌, List, [], ◌∷◌, length, refl, sym, ◌∙◌, subst, arith}
use Rattle.std.specs.Prelude.{map}
use Rattle.std.specs.List.{AllByRecursion}
use Rattle.std.proofs.lemmas.List.Elements.{recursion_from_All, All-from_get_or}
use Rattle.h5_bytes.specs.Blocks.{Inside}
use Rattle.h5_bytes.specs.declared.Block.{Block}
use Rattle.h5_bytes.proofs.BlockLaws.{all_append}
use Rattle.h5_model.specs.Format.Limits.{highest_level}
use Rattle.h5_model.specs.Format.Rows.{Node, blank, next_row, leaves, nodes}
use Rattle.h5_model.specs.Format.Nodes.{IsNode, node_block, node_bytes, node_length, entries_in, child_in, reading_of, tree_blocks}
use Rattle.h5_model.specs.Format.Reached.{Role, naming_of, Reached}
use Rattle.h5_model.proofs.RowLaws.{Agree, only_here, AreRows-same, nodes-same, leaves-same}
use Rattle.h5_btree.proofs.NodeLaws.{child_is}
use Rattle.h5_btree.specs.Walk.Forms.{TreeForm, kind_of, node_role, leaf_length, leaf_block, IsFormed, child_role}
use Rattle.h5_btree.specs.Walk.Trees.{nodes_blocks, IsTree}
use Rattle.h5_btree.specs.Walk.Followed.{IsNodeReached, AreLeavesReached}
use Rattle.h5_btree.specs.Walk.Below.{reading_in, IsStanding, IsInner, IsBottom}
use Rattle.h5_btree.specs.Walk.Keyed.{AreKeyedBelow}
use Rattle.h5_btree.specs.Walk.Rows.{IsLevel, AreAllRows}
use Rattle.h5_btree.proofs.WalkLaws.Prefix.{got_is}
use Rattle.h5_btree.proofs.WalkLaws.KeyLaws.{keyed_row}
use Rattle.h5_btree.proofs.WalkLaws.Steps.{child_reached}
use Rattle.h5_btree.proofs.WalkLaws.RowSteps.{stand_all}

all_weaker : (P Q : ℕ → Type 0) (xs : List ℕ) → ((x : ℕ) → P x → Q x) → AllByRecursion P xs → AllByRecursion Q xs
all_weaker P Q [] f all = tt
all_weaker P Q (x ∷ xs) f all = (f x all.0, all_weaker P Q xs f all.1)

-- the next row
level_below : (image : List ℕ) (form : TreeForm) (level : ℕ) (row : List ℕ) → IsLevel image form (suc level) row → IsLevel image form level (next_row (reading_in image form) row)
level_below image form level row read = record { here = stand_all image form level (next_row (reading_in image form) row) read.below.0; below = read.below.1 }

-- what holds of a row, and of each node below it
pub each_node : (image : List ℕ) (form : TreeForm) (P : ℕ → Type 0) → ((level at : ℕ) → IsInner image form level at → P at) → (level : ℕ) (row : List ℕ) → IsLevel image form level row
    → AllByRecursion P row → AllByRecursion P (nodes (reading_in image form) level row)
each_node image form P f zero row read all = all
each_node image form P f (suc level) row read all =
    let next = next_row (reading_in image form) row in
    all_append P row (nodes (reading_in image form) level next) all
    (each_node image form P f level next (level_below image form level row read) (all_weaker (IsInner image form level) P next (f level) read.below.0))

-- what holds of each symbol node
pub each_leaf : (image : List ℕ) (form : TreeForm) (P : ℕ → Type 0) → ((at : ℕ) → IsBottom image form at → P at) → (level : ℕ) (row : List ℕ) → IsLevel image form level row
    → AllByRecursion P (leaves (reading_in image form) level row)
each_leaf image form P f zero row read = all_weaker (IsBottom image form) P (next_row (reading_in image form) row) f read.below
each_leaf image form P f (suc level) row read = each_leaf image form P f level (next_row (reading_in image form) row) (level_below image form level row read)

-- ---- what is reached

module _ (image : List ℕ) (form : TreeForm) (root heap depth : ℕ) where
  abbrev IsReachedAs : Role → ℕ → Type 0
  IsReachedAs role at = (field : ℕ) × Reached image (naming_of field role at depth)

  children_reached : (level at : ℕ) → level ≤ highest_level → IsStanding image form level at → IsReachedAs (node_role form root heap level) at
      → AllByRecursion (IsReachedAs (child_role form root heap level)) (reading_in image form at).children
  children_reached level at high stands (field, reached) =
      let cs = (reading_in image form at).children in
      recursion_from_All (IsReachedAs (child_role form root heap level)) cs (All-from_get_or (IsReachedAs (child_role form root heap level)) cs 0 (λ j low.
      let is = got_is cs j (child_in (kind_of image form) (node_bytes image (kind_of image form) at) j) 0 low
      (child_is (kind_of image form) (node_bytes image (kind_of image form) at) (reading_in image form at) refl j low) in
      subst (IsReachedAs (child_role form root heap level)) (sym is) (_, child_reached image form root heap depth level at field stands high reached j low)))

  next_reached : (level : ℕ) (row : List ℕ) → level ≤ highest_level → AllByRecursion (IsStanding image form level) row → AllByRecursion (IsReachedAs (node_role form root heap level)) row
      → AllByRecursion (IsReachedAs (child_role form root heap level)) (next_row (reading_in image form) row)
  next_reached level [] high stands reached = tt
  next_reached level (x ∷ xs) high stands reached =
      all_append (IsReachedAs (child_role form root heap level)) (reading_in image form x).children (next_row (reading_in image form) xs)
      (children_reached level x high stands.0 reached.0) (next_reached level xs high stands.1 reached.1)

  pub nodes_reached : (level : ℕ) (row : List ℕ) → level ≤ highest_level → IsLevel image form level row → AllByRecursion (IsReachedAs (node_role form root heap level)) row
      → AllByRecursion (IsNodeReached image form root heap depth) (nodes (reading_in image form) level row)
  nodes_reached zero row high read reached =
      all_weaker (IsReachedAs (node_role form root heap 0)) (IsNodeReached image form root heap depth) row (λ at r. (r.0, 0, r.1)) reached
  nodes_reached (suc level) row high read reached =
      all_append (IsNodeReached image form root heap depth) row (nodes (reading_in image form) level (next_row (reading_in image form) row))
      (all_weaker (IsReachedAs (node_role form root heap (suc level))) (IsNodeReached image form root heap depth) row (λ at r. (r.0, suc level, r.1)) reached)
      (nodes_reached level (next_row (reading_in image form) row) (omega (arith, high)) (level_below image form level row read) (next_reached (suc level) row high read.here reached))

  pub leaves_reached : (level : ℕ) (row : List ℕ) → level ≤ highest_level → IsLevel image form level row → AllByRecursion (IsReachedAs (node_role form root heap level)) row
      → AllByRecursion (AreLeavesReached image form root heap depth) (leaves (reading_in image form) level row)
  leaves_reached zero row high read reached = next_reached 0 row high read.here reached
  leaves_reached (suc level) row high read reached =
      leaves_reached level (next_row (reading_in image form) row) (omega (arith, high)) (level_below image form level row read) (next_reached (suc level) row high read.here reached)

-- ---- the tree

inside_map : (f : ℕ → Block) (end : ℕ) (xs : List ℕ) → AllByRecursion (λ at. (f at).at + (f at).len ≤ end) xs → Inside end (map f xs)
inside_map f end [] all = tt
inside_map f end (x ∷ xs) all = (all.0, inside_map f end xs all.1)

module _ (image : List ℕ) (form : TreeForm) (root level : ℕ) (low : level ≤ highest_level) (read : IsLevel image form level (root ∷ []))
    (filled : 1 ≤ level → 1 ≤ entries_in (node_bytes image (kind_of image form) root)) (all symbols : List ℕ)
    (keyed : AreKeyedBelow image form level (reading_in image form root)) (rows : AreAllRows image form root level all symbols) where
  abbrev V : ℕ → Node
  V = reading_in image form

  abbrev W : ℕ → Node
  W = reading_of image (kind_of image form) all

  agree : Agree V W (nodes V level (root ∷ []))
  agree = subst (Agree V W) rows.owns (all_weaker (λ at. V at ≡ W at) (λ at. W at ≡ V at) all (λ at e. sym e) (only_here blank V all))

  -- what holds of the root and of each node below it holds of all
  of_all : (P : ℕ → Type 0) → ((l at : ℕ) → IsInner image form l at → P at) → P root → AllByRecursion P all
  of_all P f first = subst (AllByRecursion P) (sym rows.owns) (each_node image form P f level (root ∷ []) read (first, tt))

  of_leaves : (P : ℕ → Type 0) → ((at : ℕ) → IsBottom image form at → P at) → AllByRecursion P symbols
  of_leaves P f = subst (AllByRecursion P) (sym rows.leads) (each_leaf image form P f level (root ∷ []) read)

  pub is_tree : IsTree image form root all symbols
  is_tree = record {
    level = level;
    tree = record {
      low = low;
      formed = of_all (λ at. IsNode (kind_of image form) (node_bytes image (kind_of image form) at)) (λ l at inner. inner.stands.formed) read.here.0.formed;
      filled = λ high. of_all (λ at. 1 ≤ entries_in (node_bytes image (kind_of image form) at)) (λ l at inner. inner.some) (filled high);
      rows = AreRows-same V W level (root ∷ []) agree rows.rows;
      owns = rows.owns ∙ sym (nodes-same V W level (root ∷ []) agree);
      all = rows.leads ∙ sym (leaves-same V W level (root ∷ []) agree);
    };
    formed = of_leaves (IsFormed image form) (λ at bottom. bottom.formed);
    keyed = keyed_row image form level (root ∷ []) (keyed, tt);
  }

  pub tree_inside : Inside (length image) (nodes_blocks image form all symbols)
  tree_inside =
      all_append (λ (b : Block). b.at + b.len ≤ length image) (tree_blocks (kind_of image form) all) (map (leaf_block image form) symbols)
      (inside_map (node_block (kind_of image form)) (length image) all
      (of_all (λ at. at + node_length (kind_of image form) ≤ length image) (λ l at inner. inner.stands.there) read.here.0.there))
      (inside_map (leaf_block image form) (length image) symbols (of_leaves (λ at. at + leaf_length image form ≤ length image) (λ at bottom. bottom.there)))
