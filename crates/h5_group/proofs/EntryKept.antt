-- A symbol node of a group is written where it stands: the heap, the tree's nodes and the ways down the tree stay (File Format Specification
-- 3.0, sections III.A.1, III.B and III.D).
use Rattle.std.proofs.Common.{◌≡◌, ◌≢◌, ℕ, List, [], ◌∷◌, ◌++◌, refl, sym, ap, ◌∙◌, subst, Some}
use Rattle.std.specs.Prelude.{slice_get, slice_index}
use Rattle.std.specs.List.{AllByRecursion, Contains}
use Rattle.h5_bytes.specs.Blocks.{Keeps}
use Rattle.h5_bytes.specs.Texts.{text_at}
use Rattle.h5_bytes.specs.declared.Block.{Block}
use Rattle.h5_model.specs.Format.Addresses.{SymbolTable}
use Rattle.h5_model.specs.Format.Superblock.{leaf_k}
use Rattle.h5_model.specs.Format.Heap.{segment_of}
use Rattle.h5_model.specs.Format.Nodes.{Kind, group_kind, node_at, tree_blocks}
use Rattle.h5_model.specs.Format.Rows.{Node}
use Rattle.h5_model.specs.Format.Symbols.{Entry, IsSymbolNode, Target, link_of, symbol_bytes, symbols_at, target_of}
use Rattle.h5_model.specs.Faults.TreeFaults.{all_entries}
use Rattle.h5_laws.proofs.Lists.{In, contains_in, from_map, in_all, in_at, in_contains, in_flat, in_map}
use Rattle.h5_laws.proofs.Pigeonhole.{split_in}
use Rattle.h5_space.specs.Space.{Space}
use Rattle.h5_btree.specs.Removal.{EndsInTree}
use Rattle.h5_btree.specs.declared.way.Step.{Step}
use Rattle.h5_snod.specs.Names.{entry_names}
use Rattle.h5_group.specs.Edited.{IsGroupIn, IsNewName, node_below}
use Rattle.h5_group.specs.Links.{HasNone}
use Rattle.h5_group.specs.Nodes.Stands.{IsSymbolsAt}
use Rattle.h5_group.specs.Nodes.Trees.{kind_in}
use Rattle.h5_group.specs.SymbolEdits.{IsSymbolsRewritten}
use Rattle.h5_group.specs.Told.{links_told, symbol_nodes_told}
use Rattle.h5_group.proofs.EntryFrames.{internal_same, leaf_same, node_within, segment_same, trees_kept}
use Rattle.h5_group.proofs.EntryWays.{below_kept, ends_kept, owned_same}
use Rattle.h5_group.proofs.ToldLaws.{links_are_told, symbol_nodes_are_told}

-- ---- one of a group's symbol nodes

module _ (s : Space) (table : SymbolTable) (links : List (List ℕ × Target)) (spare : List ℕ) (blocks : List Block) (group : IsGroupIn s table links spare blocks)
    (node : ℕ) (told : Contains (symbol_nodes_told s.bytes table) node) where
  pub told_listed : In node (group.linked).symbol_nodes
  told_listed = subst (In node) (sym (symbol_nodes_are_told s.bytes table links blocks group.linked)) (in_contains node (symbol_nodes_told s.bytes table) told)

  abbrev pub told_front : List ℕ
  told_front = (split_in node (group.linked).symbol_nodes told_listed).0

  abbrev pub told_back : List ℕ
  told_back = (split_in node (group.linked).symbol_nodes told_listed).1

  pub told_cut : (group.linked).symbol_nodes ≡ told_front ++ node ∷ told_back
  told_cut = (split_in node (group.linked).symbol_nodes told_listed).2

  pub symbols_stand : IsSymbolsAt s.bytes node
  symbols_stand = record {
    formed = in_all (λ at. IsSymbolNode (leaf_k s.bytes) (symbol_bytes s.bytes (leaf_k s.bytes) at)) node (group.linked).symbol_nodes (group.linked).formed told_listed;
    inside = node_within s s table links spare blocks group node told_front told_back told_cut;
  }

  module _ (t : Space) (entries : List Entry) (set : IsSymbolsRewritten s t (leaf_k s.bytes) node entries) where
    pub heap_set : segment_of t.bytes table.heap ≡ segment_of s.bytes table.heap
    heap_set = segment_same s t table links spare blocks group node told_front told_back told_cut set.moves

    pub entries_set : symbols_at t.bytes (leaf_k t.bytes) node ≡ entries
    entries_set = ap (λ (l : ℕ). symbols_at t.bytes l node) (leaf_same s t table links spare blocks group node told_front told_back told_cut set.moves) ∙ set.says

    kind_set : kind_in t.bytes ≡ kind_in s.bytes
    kind_set = ap group_kind (internal_same s t table links spare blocks group node told_front told_back told_cut set.moves)

    module _ (level : ℕ) (way : List Step) (owned list : List ℕ) (k : ℕ) (e : EndsInTree s (kind_in s.bytes) table.tree level way owned list k) where
      nodes_set : Keeps s.bytes t.bytes (tree_blocks (kind_in s.bytes) owned)
      nodes_set = subst (λ (ns : List ℕ). Keeps s.bytes t.bytes (tree_blocks (kind_in s.bytes) ns)) (sym (owned_same s table links spare blocks group level way owned list k e))
          (trees_kept s t table links spare blocks group node told_front told_back told_cut set.moves)

      pub ends_set : EndsInTree t (kind_in t.bytes) table.tree level way owned list k
      ends_set = subst (λ (kind : Kind). EndsInTree t kind table.tree level way owned list k) (sym kind_set)
          (ends_kept s (kind_in s.bytes) table.tree level way owned list k e t nodes_set set.free set.size)

      pub below_set : AllByRecursion (λ (step : Step). node_below t table step ≡ node_below s table step) way
      below_set =
          let same = below_kept s (kind_in s.bytes) table.tree level way owned list k e t nodes_set in
          go way same
        where
          go : (steps : List Step) → AllByRecursion (λ (step : Step). node_at t.bytes (kind_in s.bytes) step.node ≡ node_at s.bytes (kind_in s.bytes) step.node) steps
              → AllByRecursion (λ (step : Step). node_below t table step ≡ node_below s table step) steps
          go [] same = tt
          go (step ∷ steps) same = (
            ap (λ (kind : Kind). slice_index (node_at t.bytes kind step.node).children step.place) kind_set ∙ ap (λ (n : Node). slice_index n.children step.place) same.0,
            go steps same.1,
          )

-- ---- a name that no link has

pub new_name_none : (s : Space) (table : SymbolTable) (links : List (List ℕ × Target)) (spare : List ℕ) (blocks : List Block) → IsGroupIn s table links spare blocks
    → (name : List ℕ) → IsNewName name links → HasNone s.bytes table name
new_name_none s table links spare blocks group name new t has =
    let at : In (name, t) links = subst (In (name, t)) (sym (links_are_told s.bytes table links blocks group.linked)) (in_contains (name, t) (links_told s.bytes table) has) in
    in_all (λ (l : List ℕ × Target). l.0 ≢ name) (name, t) links new at refl

pub none_there : (image : List ℕ) (table : SymbolTable) (at k : ℕ) (name : List ℕ) → Contains (symbol_nodes_told image table) at → HasNone image table name
    → slice_get (entry_names (segment_of image table.heap) (symbols_at image (leaf_k image) at)) k ≡ Some name → ⊥
none_there image table at k name told none got =
    let segment = segment_of image table.heap in
    let S : ℕ → List Entry = symbols_at image (leaf_k image) in
    let here = in_at (entry_names segment (S at)) k name got in
    let by = from_map (λ (e : Entry). text_at segment e.name) name (S at) here in
    let link : In (link_of segment by.0) (links_told image table)
    = in_map (link_of segment) by.0 (all_entries image (symbol_nodes_told image table))
    (in_flat S at by.0 (symbol_nodes_told image table) (in_contains at (symbol_nodes_told image table) told) by.1) in
    none (target_of segment by.0)
    (subst (λ (n : List ℕ). Contains (links_told image table) (n, target_of segment by.0)) by.2 (contains_in (link_of segment by.0) (links_told image table) link))
