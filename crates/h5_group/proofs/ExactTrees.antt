-- Exact keys of a group, by its tree: they stay where its nodes have their keys and children, and its symbol nodes their entries.
use Rattle.std.proofs.Common.{◌≡◌, ℕ, zero, suc, ◌≤◌, List, [], ◌∷◌, length, map, ◌++◌, ◌+◌, ◌*◌, refl, sym, ap, ◌∙◌, subst, arith, append-nil}
use Rattle.std.specs.List.{AllByRecursion, Contains}
use Rattle.h5_bytes.specs.Blocks.{IsKept, Keeps}
use Rattle.h5_bytes.specs.declared.Block.{Block}
use Rattle.h5_bytes.proofs.BlockLaws.{all_left, all_right, all_so}
use Rattle.h5_model.specs.Format.Addresses.{SymbolTable}
use Rattle.h5_model.specs.Format.Heap.{heap_blocks}
use Rattle.h5_model.specs.Format.Links.{HasLinks, offset_in}
use Rattle.h5_model.specs.Format.Nodes.{HasTree, Kind, group_kind, node_at, node_length, node_of, tree_blocks}
use Rattle.h5_model.specs.Format.Rows.{Node, Reading, leaves, next_row, nodes}
use Rattle.h5_model.specs.Format.Superblock.{internal_k, k_values, leaf_k}
use Rattle.h5_model.specs.Format.Symbols.{Entry, Target, entries_of, symbol_block, symbols_at}
use Rattle.h5_model.proofs.KLaws.{same_internal, same_leaf}
use Rattle.h5_model.proofs.OneTree.{children_are, level_is, owned_is}
use Rattle.h5_model.proofs.RowLaws.{all_listed, at_listed}
use Rattle.h5_model.proofs.Frames.{read-same}
use Rattle.h5_model.proofs.Members.{all_both}
use Rattle.h5_laws.proofs.Lists.{In, all_in, contains_in}
use Rattle.h5_space.specs.Space.{Space}
use Rattle.h5_btree.specs.Exact.{AreKeysExact}
use Rattle.h5_btree.specs.Insertion.{KeepsEntries, Owns}
use Rattle.h5_btree.proofs.KeyedExact.{kept_exact}
use Rattle.h5_btree.proofs.KeyedExactPuts.{bare_exact}
use Rattle.h5_btree.proofs.KeyedOwn.{keys_count}
use Rattle.h5_btree.proofs.KeyedTrees.{next_row-alike}
use Rattle.h5_group.specs.Edited.{IsGroupIn, heap_text}
use Rattle.h5_group.specs.Exact.{AreGroupKeys, AreSymbolsFilled, HasExactKeys}
use Rattle.h5_group.specs.KeptNodes.{AreNodesKept}
use Rattle.h5_group.specs.Nodes.Trees.{kind_in}
use Rattle.h5_group.specs.Retired.{entry_keys, name_keys}
use Rattle.h5_group.specs.Told.{blocks_told, links_told, symbol_nodes_told}
use Rattle.h5_group.proofs.ToldLaws.{symbol_nodes_are_told}

-- ---- rows

-- what stands at the bottom is the same where the children are
module _ (V W : Reading) where
  abbrev HasSame : ℕ → Type 0
  HasSame n = (W n).children ≡ (V n).children

  pub leaves_alike : (level : ℕ) (row : List ℕ) → AllByRecursion HasSame (nodes V level row) → leaves W level row ≡ leaves V level row
  leaves_alike zero row all = next_row-alike V W row all
  leaves_alike (suc level) row all =
      let here = next_row-alike V W row (all_left HasSame row (nodes V level (next_row V row)) all) in
      ap (λ (r : List ℕ). leaves W level r) here ∙ leaves_alike level (next_row V row) (all_right HasSame row (nodes V level (next_row V row)) all)

-- the root is one of the nodes
pub root_of : (P : ℕ → Type 0) (V : Reading) (level root : ℕ) → AllByRecursion P (nodes V level (root ∷ [])) → P root
root_of P V zero root all = all.0
root_of P V (suc level) root all = all.0

-- ---- a group's tree, in an image

-- its keys are exact by the K values and the level that are known
pub keys_so : (spared : List ℕ → Type 0) (image : List ℕ) (table : SymbolTable) (leaf : ℕ) (kind : Kind) (level : ℕ) → leaf_k image ≡ leaf → kind_in image ≡ kind
    → (node_at image kind table.tree).level ≡ level → AreKeysExact spared (entry_keys leaf image) (node_at image kind) level table.tree → AreGroupKeys spared image table
keys_so spared image table leaf kind level leaf_is kind_is level_is exact =
    subst (λ (c : Kind). AreKeysExact spared (entry_keys (leaf_k image) image) (node_at image c) (node_at image c table.tree).level table.tree) (sym kind_is)
    (subst (λ (l : ℕ). AreKeysExact spared (entry_keys l image) (node_at image kind) (node_at image kind table.tree).level table.tree) (sym leaf_is)
    (subst (λ (l : ℕ). AreKeysExact spared (entry_keys leaf image) (node_at image kind) l table.tree) (sym level_is) exact))

-- its symbol nodes are these
pub told_so : (image : List ℕ) (table : SymbolTable) (kind : Kind) (level : ℕ) (owned list : List ℕ) → kind_in image ≡ kind → HasTree image kind table.tree level owned list
    → symbol_nodes_told image table ≡ list
told_so image table kind level owned list kind_is has =
    ap (λ (c : Kind). leaves (node_at image c) (node_at image c table.tree).level (table.tree ∷ [])) kind_is
    ∙ ap (λ (l : ℕ). leaves (node_at image kind) l (table.tree ∷ [])) (level_is image kind table.tree level owned list has)
    ∙ sym (children_are image kind table.tree level owned list has)

-- each has an entry where it had one
pub filled_so : (old new : List ℕ) (table : SymbolTable) (list : List ℕ) → leaf_k new ≡ leaf_k old → symbol_nodes_told old table ≡ list → symbol_nodes_told new table ≡ list
    → AllByRecursion (λ at. symbols_at new (leaf_k old) at ≡ symbols_at old (leaf_k old) at) list → AreSymbolsFilled old table → AreSymbolsFilled new table
filled_so old new table list leaf was is entries filled =
    let Same : ℕ → Type 0 = λ at. symbols_at new (leaf_k old) at ≡ symbols_at old (leaf_k old) at in
    let Some : ℕ → Type 0 = λ at. 1 ≤ length (symbols_at old (leaf_k old) at) in
    let P : ℕ → Type 0 = λ at. 1 ≤ length (symbols_at new (leaf_k new) at) in
    subst (AllByRecursion P) (sym is)
    (all_so (λ at. Same at × Some at) P list
    (λ at both. subst (λ (l : ℕ). 1 ≤ length (symbols_at new l at)) (sym leaf) (subst (λ (es : List Entry). 1 ≤ length es) (sym both.0) both.1))
    (all_both Same Some list entries (subst (AllByRecursion Some) was filled)))

-- ---- nodes whose bytes stay keep their entries

pub keeps_read : (old new : List ℕ) (kind : Kind) (n : ℕ) → node_at new kind n ≡ node_at old kind n → KeepsEntries old new kind n
keeps_read old new kind n same = (ap (λ (o : Node). o.keys) same, ap (λ (o : Node). o.children) same, ap (λ (o : Node). o.level) same)

pub keeps_kept : (old new : List ℕ) (kind : Kind) (owned : List ℕ) → Keeps old new (tree_blocks kind owned) → (n : ℕ) → Owns owned n → KeepsEntries old new kind n
keeps_kept old new kind owned kept n owns =
    keeps_read old new kind n
    (at_listed (λ m. node_at new kind m ≡ node_at old kind m) owned n (read-same old new (node_of kind) (node_length kind) owned kept) owns)

-- ---- a group's tree, in two images

module _ (old new : List ℕ) (table : SymbolTable) (leaf : leaf_k new ≡ leaf_k old) (kind : kind_in new ≡ kind_in old) (level : ℕ) (owned list : List ℕ)
    (has : HasTree old (kind_in old) table.tree level owned list) (keep : (n : ℕ) → Owns owned n → KeepsEntries old new (kind_in old) n) where
  abbrev V : Reading
  V = node_at old (kind_in old)

  abbrev W : Reading
  W = node_at new (kind_in old)

  abbrev KeepsNode : ℕ → Type 0
  KeepsNode n = KeepsEntries old new (kind_in old) n

  all_keep : AllByRecursion KeepsNode (nodes V level (table.tree ∷ []))
  all_keep = subst (AllByRecursion KeepsNode) (owned_is old (kind_in old) table.tree level owned list has) (all_so (Owns owned) KeepsNode owned keep (all_listed owned))

  pub root_level_kept : (W table.tree).level ≡ level
  root_level_kept = (root_of KeepsNode V level table.tree all_keep).2 ∙ level_is old (kind_in old) table.tree level owned list has

  -- its symbol nodes are the same ones
  pub told_kept : symbol_nodes_told new table ≡ symbol_nodes_told old table
  told_kept =
      let was = level_is old (kind_in old) table.tree level owned list has in
      ap (λ (k : Kind). leaves (node_at new k) (node_at new k table.tree).level (table.tree ∷ [])) kind
      ∙ ap (λ (l : ℕ). leaves W l (table.tree ∷ [])) root_level_kept
      ∙ leaves_alike V W level (table.tree ∷ []) (all_so KeepsNode (λ n. (W n).children ≡ (V n).children) (nodes V level (table.tree ∷ [])) (λ n k. k.1) all_keep)
      ∙ ap (λ (l : ℕ). leaves V l (table.tree ∷ [])) (sym was)

  module _ (entries : AllByRecursion (λ at. symbols_at new (leaf_k old) at ≡ symbols_at old (leaf_k old) at) list) where
    -- its keys are as exact as they were
    pub group_keys_kept : (spared : List ℕ → Type 0) → AreGroupKeys spared old table → AreGroupKeys spared new table
    group_keys_kept spared is =
        let was = level_is old (kind_in old) table.tree level owned list has in
        let here : AreKeysExact spared (entry_keys (leaf_k old) old) V level table.tree
        = subst (λ (l : ℕ). AreKeysExact spared (entry_keys (leaf_k old) old) V l table.tree) was is in
        let there : AreKeysExact spared (entry_keys (leaf_k old) new) W level table.tree
        = kept_exact (entry_keys (leaf_k old) old) (entry_keys (leaf_k old) new) spared old new (kind_in old) table.tree level owned list has keep
        (all_so (λ at. symbols_at new (leaf_k old) at ≡ symbols_at old (leaf_k old) at) (λ at. entry_keys (leaf_k old) new at ≡ entry_keys (leaf_k old) old at) list
        (λ at e. ap name_keys e) entries) here in
        keys_so spared new table (leaf_k old) (kind_in old) level leaf kind root_level_kept there

    -- and its symbol nodes as full
    pub filled_kept : AreSymbolsFilled old table → AreSymbolsFilled new table
    filled_kept =
        let was = told_so old table (kind_in old) level owned list refl has in
        filled_so old new table list leaf was (told_kept ∙ was) entries

    -- THE GROUP HAS EXACT KEYS STILL
    pub exact_kept : HasExactKeys old table → HasExactKeys new table
    exact_kept is = record { exact = group_keys_kept (λ key. ⊥) is.exact; filled = filled_kept is.filled }

-- ---- a group whose heap alone was edited

module _ (s t : Space) (table : SymbolTable) (links : List (List ℕ × Target)) (spare : List ℕ) (blocks : List Block) (g : IsGroupIn s table links spare blocks)
    (k_same : k_values t.bytes ≡ k_values s.bytes) (kept : AreNodesKept s t table (g.linked).owned)
    (same : (node : ℕ) → Contains (symbol_nodes_told s.bytes table) node → symbols_at t.bytes (leaf_k t.bytes) node ≡ symbols_at s.bytes (leaf_k s.bytes) node) where
  abbrev kind : Kind
  kind = kind_in s.bytes

  leaf_same : leaf_k t.bytes ≡ leaf_k s.bytes
  leaf_same = same_leaf t.bytes s.bytes k_same

  kind_same : kind_in t.bytes ≡ kind
  kind_same = ap group_kind (same_internal t.bytes s.bytes k_same)

  abbrev IsSame : ℕ → Type 0
  IsSame n = node_at t.bytes kind n ≡ node_at s.bytes kind n

  abbrev IsNodeKept : ℕ → Type 0
  IsNodeKept n = IsSame n × AllByRecursion (λ key. heap_text t table (offset_in key) ≡ heap_text s table (offset_in key)) (node_at s.bytes kind n).keys

  keeps : (n : ℕ) → Owns (g.linked).owned n → KeepsEntries s.bytes t.bytes kind n
  keeps n owns = keeps_read s.bytes t.bytes kind n (at_listed IsNodeKept (g.linked).owned n kept owns).0

  entries : AllByRecursion (λ at. symbols_at t.bytes (leaf_k s.bytes) at ≡ symbols_at s.bytes (leaf_k s.bytes) at) (g.linked).symbol_nodes
  entries = all_in (λ at. symbols_at t.bytes (leaf_k s.bytes) at ≡ symbols_at s.bytes (leaf_k s.bytes) at) (g.linked).symbol_nodes (λ at there.
      ap (λ (l : ℕ). symbols_at t.bytes l at) (sym leaf_same)
      ∙ same at (contains_in at (symbol_nodes_told s.bytes table) (subst (In at) (symbol_nodes_are_told s.bytes table links blocks g.linked) there)))

  pub texts_keys_kept : (spared : List ℕ → Type 0) → AreGroupKeys spared s.bytes table → AreGroupKeys spared t.bytes table
  texts_keys_kept = group_keys_kept s.bytes t.bytes table leaf_same kind_same (g.linked).level (g.linked).owned (g.linked).symbol_nodes (g.linked).tree keeps entries

  pub texts_exact_kept : HasExactKeys s.bytes table → HasExactKeys t.bytes table
  texts_exact_kept = exact_kept s.bytes t.bytes table leaf_same kind_same (g.linked).level (g.linked).owned (g.linked).symbol_nodes (g.linked).tree keeps entries

-- ---- a group whose blocks stay

-- THE GROUP HAS EXACT KEYS STILL where the bytes of its blocks stay, and the K values
module _ (old new : List ℕ) (leaf : leaf_k new ≡ leaf_k old) (internal : internal_k new ≡ internal_k old) (t : SymbolTable)
    (has : HasLinks old (leaf_k old) (internal_k old) t.tree t.heap (links_told old t) (blocks_told old t)) (kept : Keeps old new (blocks_told old t)) where
  abbrev trees : List Block
  trees = tree_blocks (kind_in old) has.owned

  abbrev symbols : List Block
  symbols = map (symbol_block (leaf_k old)) has.symbol_nodes

  laid : Keeps old new ((trees ++ symbols) ++ heap_blocks old t.heap)
  laid = subst (Keeps old new) has.laid kept

  both : Keeps old new (trees ++ symbols)
  both = all_left (IsKept old new) (trees ++ symbols) (heap_blocks old t.heap) laid

  pub exact-same : HasExactKeys old t → HasExactKeys new t
  exact-same = exact_kept old new t leaf (ap group_kind internal) has.level has.owned has.symbol_nodes has.tree
      (keeps_kept old new (kind_in old) has.owned (all_left (IsKept old new) trees symbols both))
      (read-same old new entries_of (8 + 80 * leaf_k old) has.symbol_nodes (all_right (IsKept old new) trees symbols both))

-- ---- a group without symbol nodes

one_key : (keys : List (List ℕ)) → length keys ≡ 1 → (key : List ℕ) × (keys ≡ key ∷ [])
one_key [] long = absurd (omega (arith, long))
one_key (key ∷ []) long = (key, refl)
one_key (key ∷ k ∷ keys) long = absurd (omega (arith, long))

-- IT HAS EXACT KEYS
pub bare_keys : (image : List ℕ) (table : SymbolTable) (owned : List ℕ) → HasTree image (kind_in image) table.tree 0 owned [] → HasExactKeys image table
bare_keys image table owned has =
    let V = node_at image (kind_in image) in
    let none : (V table.tree).children ≡ [] = sym (append-nil (V table.tree).children) ∙ sym (children_are image (kind_in image) table.tree 0 owned [] has) in
    let count = keys_count image (kind_in image) table.tree in
    let one = one_key (V table.tree).keys (count ∙ ap (λ (cs : List ℕ). length cs + 1) none) in
    record {
      exact = keys_so (λ key. ⊥) image table (leaf_k image) (kind_in image) 0 refl refl (level_is image (kind_in image) table.tree 0 owned [] has)
          (bare_exact V (entry_keys (leaf_k image) image) table.tree one.0 one.1 none);
      filled = subst (AllByRecursion (λ at. 1 ≤ length (symbols_at image (leaf_k image) at))) (sym (told_so image table (kind_in image) 0 owned [] refl has)) tt;
    }
