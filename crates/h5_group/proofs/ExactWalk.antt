-- The symbol nodes of a group, each of which has an entry: by the walk down its tree, and as the image tells them.
use Rattle.std.proofs.Common.{◌≡◌, ◌↔◌, ℕ, zero, suc, ◌+◌, List, [], ◌∷◌, take, Some, sym, subst, add-one}
use Rattle.std.specs.List.{AllByRecursion, slice_get}
use Rattle.h5_bytes.proofs.BlockLaws.{all_append, all_left, all_right}
use Rattle.h5_model.specs.Format.Addresses.{SymbolTable}
use Rattle.h5_model.specs.Format.Nodes.{node_at}
use Rattle.h5_model.specs.Format.Reached.{level_at}
use Rattle.h5_model.specs.Format.Rows.{Reading, leaves, next_row}
use Rattle.h5_model.specs.Format.Superblock.{leaf_k}
use Rattle.h5_laws.proofs.Lists.{In, all_in, contains_in}
use Rattle.h5_space.specs.Space.{Space}
use Rattle.h5_btree.specs.Retired.{StandsUnder}
use Rattle.h5_btree.proofs.ExactLaws.{tree_stands}
use Rattle.h5_group.specs.Exact.{AreFilledUnder, AreSymbolsFilled}
use Rattle.h5_group.specs.Links.{IsGroupRead}
use Rattle.h5_group.specs.Nodes.Trees.{kind_in}
use Rattle.h5_group.specs.Retired.{StandsAt}
use Rattle.h5_group.specs.Told.{symbol_nodes_told}
use Rattle.h5_group.proofs.Standing.{node_formed, node_there, nodes_there, symbols_are}

-- ---- row by row

module _ (image : List ℕ) where
  abbrev V : Reading
  V = node_at image (kind_in image)

  abbrev Filled : ℕ → ℕ → Type 0
  Filled = AreFilledUnder image

  next_filled : (height : ℕ) (row : List ℕ) → AllByRecursion (Filled (suc height)) row → AllByRecursion (Filled height) (next_row V row)
  next_filled height [] all = tt
  next_filled height (n ∷ row) all = all_append (Filled height) (V n).children (next_row V row) all.0 (next_filled height row all.1)

  row_filled : (height : ℕ) (row : List ℕ) → AllByRecursion (Filled height) (next_row V row) → AllByRecursion (Filled (suc height)) row
  row_filled height [] all = tt
  row_filled height (n ∷ row) all = (all_left (Filled height) (V n).children (next_row V row) all, row_filled height row (all_right (Filled height) (V n).children (next_row V row) all))

  down : (level : ℕ) (row : List ℕ) → AllByRecursion (Filled (suc level)) row → AllByRecursion (Filled 0) (leaves V level row)
  down zero row all = next_filled 0 row all
  down (suc level) row all = down level (next_row V row) (next_filled (suc level) row all)

  up : (level : ℕ) (row : List ℕ) → AllByRecursion (Filled 0) (leaves V level row) → AllByRecursion (Filled (suc level)) row
  up zero row all = row_filled 0 row all
  up (suc level) row all = row_filled (suc level) row (up level (next_row V row) all)

  -- EACH SYMBOL NODE HAS AN ENTRY, where those below the root do
  pub all_filled : (table : SymbolTable) → AreFilledUnder image (suc (level_at image (kind_in image) table.tree)) table.tree ↔ AreSymbolsFilled image table
  all_filled table = (
    λ is. down (level_at image (kind_in image) table.tree) (table.tree ∷ []) (is, tt),
    λ filled. (up (level_at image (kind_in image) table.tree) (table.tree ∷ []) filled).0,
  )

  -- those below the first children of a node, and below one more
  with_next : (height : ℕ) (children : List ℕ) (i child : ℕ) → slice_get children i ≡ Some child → AllByRecursion (Filled height) (take i children) → Filled height child
      → AllByRecursion (Filled height) (take (suc i) children)
  with_next height [] i child got all here = absurd (let none = got in cc)
  with_next height (c ∷ children) zero child got all here = (let same : c ≡ child = (let is = got in cc) in subst (Filled height) (sym same) here, tt)
  with_next height (c ∷ children) (suc i) child got all here = (all.0, with_next height children i child got all.1 here)

  pub one_more : (height : ℕ) (children : List ℕ) (i child : ℕ) → slice_get children i ≡ Some child → AllByRecursion (Filled height) (take i children) → Filled height child
      → AllByRecursion (Filled height) (take (i + 1) children)
  one_more height children i child got all here = subst (λ (n : ℕ). AllByRecursion (Filled height) (take n children)) (sym (add-one i)) (with_next height children i child got all here)

  -- one of them is not
  pub one_not : (height : ℕ) (children : List ℕ) (i child : ℕ) → slice_get children i ≡ Some child → (Filled height child → ⊥) → AllByRecursion (Filled height) children → ⊥
  one_not height [] i child got never all = let none = got in cc
  one_not height (c ∷ children) zero child got never all = let same : c ≡ child = (let is = got in cc) in never (subst (Filled height) same all.0)
  one_not height (c ∷ children) (suc i) child got never all = one_not height children i child got never all.1

-- ---- a group that was read

-- all of it stands in the image
pub group_stands : (s : Space) (table : SymbolTable) → IsGroupRead s.bytes table
    → StandsUnder (StandsAt (leaf_k s.bytes) s.bytes) s.bytes (kind_in s.bytes) (suc (level_at s.bytes (kind_in s.bytes) table.tree)) table.tree
group_stands s table read =
    let has = read.linked in
    tree_stands (StandsAt (leaf_k s.bytes) s.bytes) s (kind_in s.bytes) table.tree has.level has.owned has.symbol_nodes has.tree (nodes_there s.bytes table read)
    (all_in (StandsAt (leaf_k s.bytes) s.bytes) has.symbol_nodes (λ at there.
    let told = contains_in at (symbol_nodes_told s.bytes table) (subst (In at) (symbols_are s.bytes table read) there) in
    (node_there s.bytes table read at told, node_formed s.bytes table read at told)))
