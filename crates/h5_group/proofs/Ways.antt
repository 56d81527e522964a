-- The way that is found in a group's tree: it ends there, and the symbol node at its end has the name, if the group has it.
use Rattle.std.proofs.Common.{◌≡◌, ℕ, ◌+◌, ◌≤◌, List, [], ◌∷◌, ◌++◌, length, map, refl, sym, ap, subst, arith}
use Rattle.std.specs.Prelude.{Option, Some, None, IfSome}
use Rattle.std.specs.List.{AllByRecursion, Contains}
use Rattle.h5_bytes.specs.Blocks.{cover, Inside}
use Rattle.h5_bytes.specs.declared.Block.{Block}
use Rattle.h5_bytes.proofs.BlockLaws.{all_append, all_left, all_right, cover-append}
use Rattle.h5_model.specs.Format.Addresses.{SymbolTable}
use Rattle.h5_model.specs.Format.Superblock.{leaf_k}
use Rattle.h5_model.specs.Format.Heap.{heap_blocks, segment_of}
use Rattle.h5_model.specs.Format.Links.{names_in}
use Rattle.h5_model.specs.Format.Nodes.{Kind, node_at, node_block, tree_blocks}
use Rattle.h5_model.specs.Format.Rows.{Reading}
use Rattle.h5_model.specs.Format.Symbols.{Target, symbol_block, symbols_at}
use Rattle.h5_model.proofs.OneTree.{level_is}
use Rattle.h5_space.specs.Space.{Space}
use Rattle.h5_space.specs.Whole.{IsApart}
use Rattle.h5_btree.specs.Descent.{IsWayTo}
use Rattle.h5_btree.specs.Removal.{EndsInTree}
use Rattle.h5_btree.specs.declared.way.Step.{Step}
use Rattle.h5_btree.proofs.BlocksInside.{inside_held, made_long}
use Rattle.h5_btree.proofs.WayInTree.{way_in_tree}
use Rattle.h5_btree.proofs.WaysDown.{first_ends}
use Rattle.h5_group.specs.Edited.{IsGroupIn, node_below}
use Rattle.h5_group.specs.Links.{IsGroupRead}
use Rattle.h5_group.specs.Nodes.Trees.{kind_in}
use Rattle.h5_group.specs.Told.{symbol_nodes_told}
use Rattle.h5_group.specs.Ways.{IsWayOf, behind_of}
use Rattle.h5_group.proofs.ToldLaws.{blocks_are_told, told_linked}
use Rattle.h5_group.proofs.Way.{leaf_has}

-- ---- a group between the steps of an edit

module _ (s : Space) (table : SymbolTable) (links : List (List ℕ × Target)) (spare : List ℕ) (blocks : List Block) (group : IsGroupIn s table links spare blocks) where
  abbrev kind : Kind
  kind = kind_in s.bytes

  abbrev V : Reading
  V = node_at s.bytes kind

  abbrev trees : List Block
  trees = tree_blocks kind (group.linked).owned

  abbrev symbols : List Block
  symbols = map (symbol_block (leaf_k s.bytes)) (group.linked).symbol_nodes

  pub cover_parts : (p : ℕ) → cover p blocks ≡ cover p trees + (cover p symbols + cover p (heap_blocks s.bytes table.heap))
  cover_parts p =
      let all = ap (cover p) (group.linked).laid in
      omega (arith, all, cover-append p (trees ++ symbols) (heap_blocks s.bytes table.heap), cover-append p trees symbols)

  pub trees_parted : (p : ℕ) → cover p blocks ≡ cover p (trees ++ (symbols ++ heap_blocks s.bytes table.heap))
  trees_parted p =
      let all = cover_parts p in
      omega (arith, all, cover-append p trees (symbols ++ heap_blocks s.bytes table.heap), cover-append p symbols (heap_blocks s.bytes table.heap))

  pub trees_apart : IsApart trees s.free (length s.bytes)
  trees_apart p = omega (arith, group.apart p, cover_parts p)

  abbrev IsSome : Block → Type 0
  IsSome b = 1 ≤ b.len

  all_some : AllByRecursion IsSome blocks
  all_some =
      let size = (group.linked).listed.heap_form.size in
      subst (AllByRecursion IsSome) (sym (group.linked).laid)
      (all_append IsSome (trees ++ symbols) (heap_blocks s.bytes table.heap)
      (all_append IsSome trees symbols (made_long (node_block kind) (group.linked).owned (λ n. omega arith)) (made_long (symbol_block (leaf_k s.bytes)) (group.linked).symbol_nodes (λ n. omega arith)))
      (omega arith, (omega (arith, size), tt)))

  abbrev IsWithin : Block → Type 0
  IsWithin b = b.at + b.len ≤ length s.bytes

  -- its blocks lie in the image
  pub all_inside : Inside (length s.bytes) blocks
  all_inside = inside_held (length s.bytes) blocks (λ p. omega (arith, group.apart p)) all_some

  parts_inside : Inside (length s.bytes) ((trees ++ symbols) ++ heap_blocks s.bytes table.heap)
  parts_inside = subst (Inside (length s.bytes)) (group.linked).laid all_inside

  pub heap_inside : Inside (length s.bytes) (heap_blocks s.bytes table.heap)
  heap_inside = all_right IsWithin (trees ++ symbols) (heap_blocks s.bytes table.heap) parts_inside

  pub nodes_inside : Inside (length s.bytes) (trees ++ symbols)
  nodes_inside = all_left IsWithin (trees ++ symbols) (heap_blocks s.bytes table.heap) parts_inside

  pub symbols_inside : Inside (length s.bytes) symbols
  symbols_inside = all_right IsWithin trees symbols nodes_inside

  pub trees_inside : Inside (length s.bytes) trees
  trees_inside = all_left IsWithin trees symbols nodes_inside

  -- all but those of its tree
  pub others_inside : Inside (length s.bytes) (symbols ++ heap_blocks s.bytes table.heap)
  others_inside = all_append IsWithin symbols (heap_blocks s.bytes table.heap) symbols_inside heap_inside

  -- it is one that can be read
  pub group_read : IsGroupRead s.bytes table
  group_read = record {
    linked = told_linked s.bytes table links blocks group.linked;
    inside = subst (Inside (length s.bytes)) (blocks_are_told s.bytes table links blocks group.linked) all_inside;
    few = group.few;
  }

  pub level_there : (V table.tree).level ≡ (group.linked).level
  level_there = level_is s.bytes kind table.tree (group.linked).level (group.linked).owned (group.linked).symbol_nodes (group.linked).tree

  -- a way that was found
  module _ (name : List ℕ) (way : List Step) (to : IsWayTo V (behind_of s table name) (V table.tree).level table.tree way) where
    own_level : IsWayTo V (behind_of s table name) (group.linked).level table.tree way
    own_level = subst (λ (l : ℕ). IsWayTo V (behind_of s table name) l table.tree way) level_there to

    pub way_leads : (k : ℕ) × EndsInTree s kind table.tree (group.linked).level way (group.linked).owned (group.linked).symbol_nodes k
    way_leads =
        way_in_tree s kind table.tree (group.linked).level (group.linked).owned (group.linked).symbol_nodes (behind_of s table name) way (group.linked).tree trees_apart
        (let low = group.short in omega (arith, low)) own_level

    pub way_of : IsWayOf s table name way
    way_of = record {
      level = (group.linked).level;
      owned = (group.linked).owned;
      symbol_nodes = (group.linked).symbol_nodes;
      number = way_leads.0;
      ends = way_leads.1;
      sought = own_level;
    }

    pub way_has : (step : Step) (above : List Step) → way ≡ step ∷ above
        → Contains (names_in (symbols_at s.bytes (leaf_k s.bytes)) (segment_of s.bytes table.heap) (symbol_nodes_told s.bytes table)) name
        → Contains (names_in (symbols_at s.bytes (leaf_k s.bytes)) (segment_of s.bytes table.heap) (node_below s table step ∷ [])) name
    way_has step above is =
        let ends = first_ends V (behind_of s table name) (V table.tree).level table.tree step above
        (subst (IsWayTo V (behind_of s table name) (V table.tree).level table.tree) is to) in
        leaf_has s.bytes table group_read name (node_below s table step) (V step.node, step.place, ends, refl)

-- ---- the same of what a search answers

module _ (s : Space) (table : SymbolTable) (name : List ℕ) where
  abbrev pub IsFound : List Step → Type 0
  IsFound = IsWayTo (node_at s.bytes (kind_in s.bytes)) (behind_of s table name) (node_at s.bytes (kind_in s.bytes) table.tree).level table.tree

  pub found_leads : (r : Option (List Step)) → IfSome r IsFound
      → IfSome r (λ way. (links : List (List ℕ × Target)) (spare : List ℕ) (blocks : List Block) → (g : IsGroupIn s table links spare blocks)
      → (k : ℕ) × EndsInTree s (kind_in s.bytes) table.tree (g.linked).level way (g.linked).owned (g.linked).symbol_nodes k)
  found_leads None to = tt
  found_leads (Some way) to = λ links spare blocks g. way_leads s table links spare blocks g name way to

  module _ (links : List (List ℕ × Target)) (spare : List ℕ) (blocks : List Block) (group : IsGroupIn s table links spare blocks) where
    pub found_of : (r : Option (List Step)) → IfSome r IsFound → IfSome r (IsWayOf s table name)
    found_of None to = tt
    found_of (Some way) to = way_of s table links spare blocks group name way to

    pub found_has : (r : Option (List Step)) → IfSome r IsFound
        → IfSome r (λ way. (step : Step) (above : List Step) → way ≡ step ∷ above
        → Contains (names_in (symbols_at s.bytes (leaf_k s.bytes)) (segment_of s.bytes table.heap) (symbol_nodes_told s.bytes table)) name
        → Contains (names_in (symbols_at s.bytes (leaf_k s.bytes)) (segment_of s.bytes table.heap) (node_below s table step ∷ [])) name)
    found_has None to = tt
    found_has (Some way) to = way_has s table links spare blocks group name way to
