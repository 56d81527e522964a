-- The first entry of a group without symbol nodes: in a new symbol node, the root's only child, between the empty name and its own (File
-- Format Specification 3.0, sections III.A.1 and III.B).
use Rattle.std.proofs.Common.{◌≡◌, inl, inr, ℕ, ◌^◌, ◌<◌, ◌≤◌, IsTrue, List, [], ◌∷◌, ◌++◌, map, length, refl, sym, ap, ◌∙◌, subst, arith}
use Rattle.std.specs.Bool.{⊤}
use Rattle.std.specs.List.{AllByRecursion, Contains, flat_map}
use Rattle.h5_bytes.specs.Blocks.{cover, Inside, IsKept, Keeps}
use Rattle.h5_bytes.specs.Numbers.{word}
use Rattle.h5_bytes.specs.Texts.{text_at}
use Rattle.h5_bytes.specs.declared.Block.{Block}
use Rattle.h5_bytes.proofs.BlockLaws.{all_left, cover-append}
use Rattle.h5_model.specs.Format.Addresses.{SymbolTable}
use Rattle.h5_model.specs.Format.Superblock.{leaf_k}
use Rattle.h5_model.specs.Format.Heap.{KeyNames, heap_blocks, segment_of}
use Rattle.h5_model.specs.Format.Links.{Before, IsOrdered, key_offsets, names_in, offset_in}
use Rattle.h5_model.specs.Format.Nodes.{HasTree, Kind, group_kind, node_at, reading_of, tree_blocks}
use Rattle.h5_model.specs.Format.Rows.{Node, blank}
use Rattle.h5_model.specs.Format.Symbols.{Entry, IsEntry, IsSymbolNode, Target, entries_of, link_of, symbol_block, symbol_bytes, symbols_at, symbols_of, texts_of}
use Rattle.h5_model.specs.Tree.Paths.{is_name}
use Rattle.h5_model.proofs.Frames.{tree-same}
use Rattle.h5_model.proofs.KLaws.{same_internal, same_leaf}
use Rattle.h5_model.proofs.OneTree.{level_is}
use Rattle.h5_model.proofs.RowLaws.{only_here}
use Rattle.h5_laws.specs.KeyEdits.{IsPut}
use Rattle.h5_laws.specs.NameLadders.{key_text, name_sides}
use Rattle.h5_laws.proofs.KeyInstances.{name_let_in, name_through}
use Rattle.h5_laws.proofs.Lists.{contains_in}
use Rattle.h5_space.specs.Moves.{Moves}
use Rattle.h5_space.specs.Space.{Space}
use Rattle.h5_space.specs.Whole.{IsApart}
use Rattle.h5_space.proofs.MovesLaws.{moves_beside, moves_kept, moves_same, moves_then}
use Rattle.h5_btree.specs.Insertion.{IsChildPut, IsEmptyTree}
use Rattle.h5_btree.proofs.BlocksInside.{inside_held}
use Rattle.h5_btree.proofs.EmptyTrees.{empty_tree}
use Rattle.h5_btree.proofs.KeyedExactPuts.{first_exact}
use Rattle.h5_btree.proofs.KeyedFills.{first_sorted}
use Rattle.h5_btree.proofs.KeyedForms.{group_ordered, names_at_child}
use Rattle.h5_group.specs.Edited.{HasGroupMoved, IsGroupIn, IsLinkPut, offsets_of, superblock_block}
use Rattle.h5_group.specs.Exact.{HasExactKeys}
use Rattle.h5_group.specs.Nodes.Trees.{group_nodes_blocks, kind_in}
use Rattle.h5_group.specs.Retired.{entry_keys, name_keys}
use Rattle.h5_group.specs.Split.{AreNewSymbols}
use Rattle.h5_group.proofs.EditFrames.{group_apart, rest_kept}
use Rattle.h5_group.proofs.ExactTrees.{keys_so, told_so}
use Rattle.h5_group.proofs.GrownGroup.{entry_grown}
use Rattle.h5_group.proofs.Ways.{all_inside}
use Rattle.h5_group.proofs.MovedNames.{names_of}
use Rattle.h5_group.proofs.NameKeys.{low_empty}
use Rattle.h5_group.proofs.EntryOrder.{above_empty}

-- ---- a group's blocks are there

module _ (s : Space) (table : SymbolTable) (links : List (List ℕ × Target)) (spare : List ℕ) (blocks : List Block) (group : IsGroupIn s table links spare blocks) where
  abbrev trees : List Block
  trees = tree_blocks (kind_in s.bytes) (group.linked).owned

  abbrev symbols : List Block
  symbols = map (symbol_block (leaf_k s.bytes)) (group.linked).symbol_nodes

  -- a new block is taken beside them
  module _ (u : Space) (new : Block) (taken : Moves s u [] (new ∷ [])) where
    pub all_kept : Keeps s.bytes u.bytes blocks
    all_kept = rest_kept s u table links spare blocks group [] (new ∷ []) blocks taken (λ p. refl) (all_inside s table links spare blocks group)

    pub all_apart : IsApart (superblock_block u.bytes ∷ new ∷ blocks) u.free (length u.bytes)
    all_apart = group_apart s u table links spare blocks group [] (new ∷ []) blocks taken (λ p. refl) (all_inside s table links spare blocks group) (new ∷ blocks) (λ p. refl)

    laid_kept : Keeps s.bytes u.bytes ((trees ++ symbols) ++ heap_blocks s.bytes table.heap)
    laid_kept = subst (Keeps s.bytes u.bytes) (group.linked).laid all_kept

    pub trees_kept : Keeps s.bytes u.bytes trees
    trees_kept = all_left (IsKept s.bytes u.bytes) trees symbols (all_left (IsKept s.bytes u.bytes) (trees ++ symbols) (heap_blocks s.bytes table.heap) laid_kept)

    pub trees_apart : IsApart (trees ++ new ∷ []) u.free (length u.bytes)
    trees_apart p =
        let all = all_apart p in
        let laid = ap (cover p) (group.linked).laid in
        omega (arith, all, laid, cover-append p trees (new ∷ []), cover-append p (trees ++ symbols) (heap_blocks s.bytes table.heap), cover-append p trees symbols)

-- ---- the first entry

module _ (s u t : Space) (table : SymbolTable) (links : List (List ℕ × Target)) (e : Entry) (spare : List ℕ) (blocks : List Block)
    (group : IsGroupIn s table links (offsets_of e ++ spare) blocks) (none : (node_at s.bytes (kind_in s.bytes) table.tree).children ≡ [])
    (new : ℕ) (added : AreNewSymbols s u (leaf_k s.bytes) new (e ∷ [])) (short : length u.bytes < 2 ^ 63) where
  abbrev kind : Kind
  kind = kind_in s.bytes

  abbrev leaf : ℕ
  leaf = leaf_k s.bytes

  abbrev root : ℕ
  root = table.tree

  abbrev own : List ℕ
  own = (group.linked).owned

  abbrev listed : List ℕ
  listed = (group.linked).symbol_nodes

  is_empty : ((group.linked).level ≡ 0) × (own ≡ root ∷ []) × (listed ≡ [])
  is_empty = empty_tree s.bytes kind root (group.linked).level own listed (group.linked).tree none

  abbrev HasNone : ℕ → List ℕ → Type 0
  HasNone level list = HasTree u.bytes kind root level own list

  -- the root is one without children still
  pub still_empty : IsEmptyTree u kind root own
  still_empty = record {
    tree = subst (λ (l : ℕ). HasNone l []) is_empty.0 (subst (HasNone (group.linked).level) is_empty.2
        (tree-same s.bytes u.bytes kind own (trees_kept s table links (offsets_of e ++ spare) blocks group u (symbol_block leaf new) added.moves) root (group.linked).level listed (group.linked).tree));
    apart = λ p. omega (arith, trees_apart s table links (offsets_of e ++ spare) blocks group u (symbol_block leaf new) added.moves p, cover-append p (tree_blocks kind own) (symbol_block leaf new ∷ []));
    short = omega (arith, short);
  }

  module _ (all : List ℕ) (put : IsChildPut u t kind root 0 (new ∷ []) own all) (low high : List ℕ) (low_is : offset_in low ≡ 0) (high_is : offset_in high ≡ e.name)
      (keys : (node_at t.bytes kind root).keys ≡ low ∷ high ∷ []) (children : (node_at t.bytes kind root).children ≡ new ∷ []) (grown : length t.bytes ≤ length u.bytes) where
    abbrev N : List Block
    N = symbol_block leaf new ∷ []

    abbrev T : List Block
    T = tree_blocks kind own

    abbrev T' : List Block
    T' = tree_blocks kind all

    abbrev segment : List ℕ
    segment = segment_of s.bytes table.heap

    abbrev x : List ℕ
    x = text_at segment e.name

    apart : IsApart (T ++ N) u.free (length u.bytes)
    apart = trees_apart s table links (offsets_of e ++ spare) blocks group u (symbol_block leaf new) added.moves

    new_inside : Inside (length u.bytes) N
    new_inside = inside_held (length u.bytes) N (λ p. omega (arith, apart p, cover-append p T N)) (omega arith, tt)

    new_kept : symbol_bytes t.bytes leaf new ≡ symbol_bytes u.bytes leaf new
    new_kept = (moves_kept u t T T' N put.moves apart new_inside).0

    formed : AllByRecursion (λ at. IsSymbolNode leaf (symbol_bytes t.bytes leaf at)) (new ∷ [])
    formed = (subst (IsSymbolNode leaf) (sym new_kept) added.form, tt)

    moves : Moves s t (group_nodes_blocks s.bytes own listed) (group_nodes_blocks s.bytes all (new ∷ []))
    moves =
        let first = moves_beside s u [] N T added.moves in
        let second = moves_same u t (T ++ N) (T' ++ N) (N ++ T) (T' ++ N) (λ p. omega (arith, cover-append p N T, cover-append p T N)) (λ p. refl)
        (moves_beside u t T T' N put.moves) in
        let none : (p : ℕ) → cover p (group_nodes_blocks s.bytes own listed) ≡ cover p T
        = λ p. ap (λ (ns : List ℕ). cover p (T ++ map (symbol_block leaf) ns)) is_empty.2 ∙ omega (arith, cover-append p T []) in
        moves_same s t T (T' ++ N) (group_nodes_blocks s.bytes own listed) (T' ++ N) none (λ p. refl) (moves_then s u t T (N ++ T) (T' ++ N) first second)

    abbrev S : ℕ → List Entry
    S = symbols_of t.bytes leaf (new ∷ [])

    entries : S new ≡ e ∷ []
    entries = sym (only_here [] (symbols_at t.bytes leaf) (new ∷ [])).0 ∙ ap entries_of new_kept ∙ added.says

    all_entries : flat_map S (new ∷ []) ≡ e ∷ []
    all_entries = ap (λ (es : List Entry). es ++ []) entries

    names : names_in S segment (new ∷ []) ≡ x ∷ []
    names = ap (map (λ (o : Entry). text_at segment o.name)) all_entries

    old_entries : flat_map (symbols_of s.bytes leaf listed) listed ≡ []
    old_entries = ap (flat_map (symbols_of s.bytes leaf listed)) is_empty.2

    name_put : IsPut Before x (names_in (symbols_of s.bytes leaf listed) segment listed) (names_in S segment (new ∷ []))
    name_put = record {
      front = [];
      back = [];
      before = ap (map (λ (o : Entry). text_at segment o.name)) old_entries;
      after = names;
      above = tt;
      below = tt;
    }

    abbrev new_rows : ℕ → Node
    new_rows = reading_of t.bytes kind all

    high_text : key_text segment high ≡ x
    high_text = ap (text_at segment) high_is

    module _ (named : IsTrue (is_name x)) (known : IsEntry e) where
      ordered : AllByRecursion (λ at. IsOrdered new_rows S segment (new_rows at)) all
      ordered =
          let text : List ℕ → List ℕ = key_text segment in
          let ends = name_let_in text x low high (low_empty s table links (offsets_of e ++ spare) blocks group low low_is) high_text (above_empty x named) in
          group_ordered t.bytes kind root 0 all (new ∷ []) put.tree S segment
          (first_sorted (name_sides text) (λ (b : List (List ℕ)). b) (λ (b : List (List ℕ)). ⊤) x t.bytes kind root (names_at_child S segment) low high new
          keys children tt names ends.right ends.left (name_through text low high x ends.right ends.left)).0

      own_is : all ≡ root ∷ []
      own_is = put.tree.owns

      abbrev old_names : List ℕ
      old_names = names_of (flat_map (symbols_of s.bytes leaf listed) listed) ++ texts_of (flat_map (symbols_of s.bytes leaf listed) listed)

      key_may : AllByRecursion (KeyNames old_names (group.linked).listed.loose) (map offset_in (low ∷ high ∷ []))
      key_may = (inl low_is, (inr (inr (subst (λ (ns : List ℕ). Contains ns (offset_in high)) (sym group.spared) (contains_in (offset_in high) ((offsets_of e ++ spare) ++ group.more) (inl (sym high_is))))), tt))

      keyed : AllByRecursion (KeyNames old_names (group.linked).listed.loose) (key_offsets new_rows all)
      keyed =
          let V = new_rows in
          let row : (own' : List ℕ) → own' ≡ root ∷ [] → V root ≡ node_at t.bytes kind root → key_offsets V own' ≡ map offset_in (low ∷ high ∷ [])
          = λ own' is here. ap (key_offsets V) is ∙ ap (λ (o : Node). map offset_in o.keys ++ []) here ∙ ap (λ (ks : List (List ℕ)). map offset_in ks ++ []) keys in
          let at_root = subst (AllByRecursion (λ at. node_at t.bytes kind at ≡ new_rows at)) own_is (only_here blank (node_at t.bytes kind) all) in
          subst (AllByRecursion (KeyNames old_names (group.linked).listed.loose)) (sym (row all own_is (sym at_root.0))) key_may

      -- THE FIRST ENTRY is put in
      pub first_put : (links' : List (List ℕ × Target)) × IsLinkPut (link_of segment e) links links' × HasGroupMoved s t table blocks links' spare
      first_put = entry_grown s t table links (offsets_of e ++ spare) blocks group all (new ∷ []) moves 0 put.tree formed (omega (arith, short, grown))
          e spare refl [] [] old_entries all_entries known named name_put ordered keyed

      -- THE GROUP HAS EXACT KEYS, where the last key is that of the name
      pub first_exact_keys : high ≡ word e.name → HasExactKeys t.bytes table
      first_exact_keys own =
          let m = first_put.2 in
          let leaf_is = same_leaf t.bytes s.bytes m.k in
          let kind_is : kind_in t.bytes ≡ kind = ap group_kind (same_internal t.bytes s.bytes m.k) in
          let here : symbols_at t.bytes leaf new ≡ e ∷ [] = ap entries_of new_kept ∙ added.says in
          record {
            exact = keys_so (λ key. ⊥) t.bytes table leaf kind 0 leaf_is kind_is (level_is t.bytes kind root 0 all (new ∷ []) put.tree)
                (first_exact (node_at t.bytes kind) (entry_keys leaf t.bytes) root new low (word e.name)
                (keys ∙ ap (λ (k : List ℕ). low ∷ k ∷ []) own) children (ap name_keys here));
            filled = subst (AllByRecursion (λ at. 1 ≤ length (symbols_at t.bytes (leaf_k t.bytes) at))) (sym (told_so t.bytes table kind 0 all (new ∷ []) kind_is put.tree))
                (subst (λ (l : ℕ). 1 ≤ length (symbols_at t.bytes l new)) (sym leaf_is) (subst (λ (es : List Entry). 1 ≤ length es) (sym here) (omega arith)), tt);
          }
