-- Ways down a group's tree to one of its symbol nodes: where the symbol node stands among them all, and that ways stay where the nodes do
-- (File Format Specification 3.0, section III.A.1).
use Rattle.std.proofs.Common.{◌≡◌, ℕ, suc, ◌+◌, ◌<◌, List, [], ◌∷◌, ◌++◌, length, get_or, take, drop, sym, ap, ◌∙◌, subst, arith}
use Rattle.std.specs.List.{AllByRecursion}
use Rattle.h5_bytes.specs.Bytes.{undefined_address}
use Rattle.h5_bytes.specs.Blocks.{Keeps}
use Rattle.h5_bytes.specs.declared.Block.{Block}
use Rattle.h5_model.specs.Format.Addresses.{SymbolTable}
use Rattle.h5_model.specs.Format.Nodes.{Kind, node_at, node_length, node_of, reading_of, tree_blocks}
use Rattle.h5_model.specs.Format.Rows.{Node, Reading, IsRow, next_row}
use Rattle.h5_model.specs.Format.Symbols.{Target}
use Rattle.h5_model.proofs.Frames.{reading-same, tree-same, read-same}
use Rattle.h5_model.proofs.OneTree.{one_children, one_level, one_owned}
use Rattle.h5_model.proofs.RowLaws.{at_listed}
use Rattle.h5_space.specs.Space.{Space}
use Rattle.h5_space.specs.Whole.{IsApart}
use Rattle.h5_btree.specs.Climb.{IsWay}
use Rattle.h5_btree.specs.Removal.{EndsInTree}
use Rattle.h5_btree.specs.declared.way.Step.{Step}
use Rattle.h5_btree.proofs.KeyedTrees.{cut_at}
use Rattle.h5_btree.proofs.TreeReadings.{Listed}
use Rattle.h5_btree.proofs.WayEnds.{end_here, end_listed}
use Rattle.h5_btree.proofs.WaySteps.{way_owned}
use Rattle.h5_group.specs.Edited.{IsGroupIn}
use Rattle.h5_group.specs.Nodes.Trees.{kind_in}

-- ---- the child at the end of a way is one of those at the bottom, by its number

module _ (s : Space) (kind : Kind) (root level : ℕ) (way : List Step) (owned list : List ℕ) (k : ℕ) (e : EndsInTree s kind root level way owned list k) where
  abbrev Y : Reading
  Y = reading_of s.bytes kind owned

  abbrev p : ℕ
  p = (e.step).node

  abbrev i : ℕ
  i = (e.step).place

  pub place_low : i < length (node_at s.bytes kind p).children
  place_low = subst (λ (o : Node). i < length o.children) (end_here s kind root level way owned list k e) e.place

  -- those at the bottom are cut there
  pub end_cut : list ≡ take k list ++ get_or (node_at s.bytes kind p).children i 0 ∷ drop (suc k) list
  end_cut =
      let end = end_listed s kind root level way owned list k e in
      cut_at list k 0 end.0 ∙ ap (λ (c : ℕ). take k list ++ c ∷ drop (suc k) list) end.1

  -- the way ends there still, where the nodes keep their bytes, and no block is taken or given
  pub ends_kept : (t : Space) → Keeps s.bytes t.bytes (tree_blocks kind owned) → t.free ≡ s.free → length t.bytes ≡ length s.bytes
      → EndsInTree t kind root level way owned list k
  ends_kept t kept free size =
      let rows : reading_of t.bytes kind owned ≡ Y = reading-same s.bytes t.bytes kind owned kept in
      record {
        tree = tree-same s.bytes t.bytes kind owned kept root level list e.tree;
        apart = subst (λ (n : ℕ). IsApart (tree_blocks kind owned) t.free n) (sym size) (subst (λ (f : List Block). IsApart (tree_blocks kind owned) f (length s.bytes)) (sym free) e.apart);
        short = omega (arith, size, e.short);
        step = e.step;
        above = e.above;
        way_is = e.way_is;
        front = e.front;
        back = e.back;
        leads = subst (λ (v : Reading). IsWay v 0 root e.above p e.front e.back) (sym rows) e.leads;
        row = subst (λ (v : Reading). IsRow v 0 undefined_address (e.front ++ p ∷ e.back)) (sym rows) e.row;
        place = subst (λ (v : Reading). i < length (v p).children) (sym rows) e.place;
        number = subst (λ (v : Reading). k ≡ length (next_row v e.front) + i) (sym rows) e.number;
      }

  -- and the node of level 0 on it has the children that it had
  pub below_kept : (t : Space) → Keeps s.bytes t.bytes (tree_blocks kind owned) → AllByRecursion (λ (step : Step). node_at t.bytes kind step.node ≡ node_at s.bytes kind step.node) way
  below_kept t kept =
      let same = read-same s.bytes t.bytes (node_of kind) (node_length kind) owned kept in
      go way (way_owned s kind root level way owned list k e) same
    where
      go : (steps : List Step) → AllByRecursion (λ (step : Step). Listed owned step.node) steps → AllByRecursion (λ at. node_at t.bytes kind at ≡ node_at s.bytes kind at) owned
          → AllByRecursion (λ (step : Step). node_at t.bytes kind step.node ≡ node_at s.bytes kind step.node) steps
      go [] all same = tt
      go (step ∷ steps) all same = (at_listed (λ at. node_at t.bytes kind at ≡ node_at s.bytes kind at) owned step.node same all.0, go steps all.1 same)

-- ---- a way in a group's tree

module _ (s : Space) (table : SymbolTable) (links : List (List ℕ × Target)) (spare : List ℕ) (blocks : List Block) (group : IsGroupIn s table links spare blocks)
    (level : ℕ) (way : List Step) (owned list : List ℕ) (k : ℕ) (e : EndsInTree s (kind_in s.bytes) table.tree level way owned list k) where
  pub owned_same : owned ≡ (group.linked).owned
  owned_same = one_owned s.bytes (kind_in s.bytes) table.tree level (group.linked).level owned (group.linked).owned list (group.linked).symbol_nodes e.tree (group.linked).tree

  pub list_same : list ≡ (group.linked).symbol_nodes
  list_same = one_children s.bytes (kind_in s.bytes) table.tree level (group.linked).level owned (group.linked).owned list (group.linked).symbol_nodes e.tree (group.linked).tree

  -- it ends in the tree as the group has it
  pub ends_own : EndsInTree s (kind_in s.bytes) table.tree (group.linked).level way (group.linked).owned (group.linked).symbol_nodes k
  ends_own =
      let up = one_level s.bytes (kind_in s.bytes) table.tree level (group.linked).level owned (group.linked).owned list (group.linked).symbol_nodes e.tree (group.linked).tree in
      subst (λ (l : ℕ). EndsInTree s (kind_in s.bytes) table.tree l way (group.linked).owned (group.linked).symbol_nodes k) up
      (subst (λ (ns : List ℕ). EndsInTree s (kind_in s.bytes) table.tree level way ns (group.linked).symbol_nodes k) owned_same
      (subst (λ (ns : List ℕ). EndsInTree s (kind_in s.bytes) table.tree level way owned ns k) list_same e))
