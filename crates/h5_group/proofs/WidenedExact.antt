-- A group with exact keys whose tree lets in a name: its keys are exact but for those that were moved (File Format Specification 3.0, section
-- III.A.1).
use Rattle.std.proofs.Common.{◌≡◌, ◌≢◌, inl, inr, ℕ, suc, ◌≤◌, IsTrue, List, [], ◌∷◌, length, get_or, take, drop, refl, sym, ap, ◌∙◌, subst, arith, None}
use Rattle.std.specs.List.{AllByRecursion, Contains}
use Rattle.h5_bytes.specs.Numbers.{word}
use Rattle.h5_bytes.specs.declared.Block.{Block}
use Rattle.h5_bytes.proofs.BlockLaws.{all_so}
use Rattle.h5_model.specs.Format.Addresses.{SymbolTable}
use Rattle.h5_model.specs.Format.Superblock.{leaf_k}
use Rattle.h5_model.specs.Format.Heap.{segment_of}
use Rattle.h5_model.specs.Format.Links.{Before, offset_in}
use Rattle.h5_model.specs.Format.Nodes.{Kind, node_at}
use Rattle.h5_model.specs.Format.Rows.{Node, Reading}
use Rattle.h5_model.specs.Format.Symbols.{Target, symbols_at}
use Rattle.h5_model.specs.Tree.Paths.{is_name}
use Rattle.h5_model.proofs.OneTree.{level_is}
use Rattle.h5_laws.specs.ExactWays.{IsExactFor}
use Rattle.h5_laws.specs.KeyTrees.{KeyTree}
use Rattle.h5_laws.specs.NameLadders.{key_sides, key_text}
use Rattle.h5_laws.proofs.Lists.{In, in_all, in_right}
use Rattle.h5_laws.proofs.KeyInserts.{all_from_both}
use Rattle.h5_space.specs.Space.{Space}
use Rattle.h5_btree.specs.Exact.{AreKeysExact}
use Rattle.h5_btree.specs.Insertion.{Owns}
use Rattle.h5_btree.specs.Keyed.{keys_from}
use Rattle.h5_btree.specs.Removal.{EndsInTree}
use Rattle.h5_btree.specs.Retired.{lowest_key}
use Rattle.h5_btree.specs.Widened.{IsWidened, ends_along}
use Rattle.h5_btree.specs.declared.way.Step.{Step}
use Rattle.h5_btree.proofs.KeyedExactEases.{IsEasedFor, widened_exact}
use Rattle.h5_btree.proofs.KeyedFills.{kept_trees}
use Rattle.h5_btree.proofs.KeyedOwn.{keys_count}
use Rattle.h5_btree.proofs.WaysDown.{IsChosen}
use Rattle.h5_group.specs.Edited.{IsGroupIn, heap_text}
use Rattle.h5_group.specs.Exact.{HasExactKeys, HasKeysFor}
use Rattle.h5_group.specs.Nodes.Trees.{kind_in}
use Rattle.h5_group.specs.Retired.{entry_keys, name_keys}
use Rattle.h5_group.specs.Ways.{IsWayOf, behind_of}
use Rattle.h5_group.proofs.EntryWays.{end_cut}
use Rattle.h5_group.proofs.ExactTrees.{filled_so, told_so}
use Rattle.h5_group.proofs.NameKeys.{lowest_empty}
use Rattle.h5_group.proofs.NewKeys.{each_keyed}
use Rattle.h5_group.proofs.ToldLaws.{symbol_nodes_are_told}
use Rattle.h5_group.proofs.TreeMoves.{entries_kept}
use Rattle.h5_group.proofs.Ways.{level_there}
use Rattle.h5_group.proofs.WidenedGroup.{IsWide, chosen, e, each, ends_now, keeps, kind_same, leaf_same, moved, own, segment_same}
use Rattle.h5_group.proofs.WidenedKeys.{high_now, keys_now, lets_now, low_now}
use Rattle.h5_group.proofs.EntryOrder.{above_empty}

module _ (s t : Space) (table : SymbolTable) (name : List ℕ) (way : List Step) (w : IsWayOf s table name way) (low high : List ℕ) (named : IsTrue (is_name name))
    (wide : IsWidened s t (kind_in s.bytes) way (ends_along (node_at s.bytes (kind_in s.bytes)) (behind_of s table name) 0 way) low high)
    (tree : (root height k : ℕ) (owned list : List ℕ) → EndsInTree s (kind_in s.bytes) root height way owned list k → EndsInTree t (kind_in s.bytes) root height way owned list k)
    (others : (root height k : ℕ) (owned list : List ℕ) → EndsInTree s (kind_in s.bytes) root height way owned list k → (n : ℕ) → Owns owned n
    → AllByRecursion (λ (step : Step). n ≢ step.node) way → node_at t.bytes (kind_in s.bytes) n ≡ node_at s.bytes (kind_in s.bytes) n)
    (links : List (List ℕ × Target)) (spare : List ℕ) (blocks : List Block) (group : IsGroupIn s table links spare blocks) (offset : ℕ) (spared : Contains spare offset)
    (low_is : offset_in low ≡ 0) (high_is : offset_in high ≡ offset) (text : heap_text s table offset ≡ name)
    (lowest : low ≡ lowest_key) (named_by : high ≡ word offset) where
  abbrev kind : Kind
  kind = kind_in s.bytes

  abbrev leaf : ℕ
  leaf = leaf_k s.bytes

  abbrev V : Reading
  V = node_at s.bytes kind

  abbrev W : Reading
  W = node_at t.bytes kind

  abbrev level : ℕ
  level = (group.linked).level

  abbrev owned : List ℕ
  owned = (group.linked).owned

  abbrev list : List ℕ
  list = (group.linked).symbol_nodes

  abbrev segment : List ℕ
  segment = segment_of s.bytes table.heap

  abbrev texts : List ℕ → List ℕ
  texts = key_text segment

  ends : EndsInTree s kind table.tree level way owned list w.number
  ends = e s t table name way w low high named wide tree others links spare blocks group offset spared low_is high_is text

  empty : texts lowest_key ≡ []
  empty = lowest_empty s table links spare blocks group

  low_text : texts low ≡ []
  low_text = ap texts lowest ∙ empty

  high_text : texts high ≡ name
  high_text = own s t table name way w low high named wide tree others links spare blocks group offset spared low_is high_is text

  above : Before [] (texts high)
  above = subst (Before []) (sym high_text) (above_empty name named)

  -- ---- the keys around each child on the way

  abbrev Eased : Step → Type 0
  Eased = IsEasedFor texts empty high above s t kind table.tree level way owned list w.number ends group.some (keeps s t table name way w low high named wide tree others links spare blocks group offset spared low_is high_is text) (entry_keys leaf s.bytes)

  eases : (step : Step) → IsWide V t.bytes kind (behind_of s table name) low high step → IsChosen V (behind_of s table name) step → Eased step
  eases step is choice =
      let long = keys_count s.bytes kind step.node in
      let lets = lets_now segment name (V step.node) step.place choice long low high low_text high_text named in (
        low_now segment name (V step.node) step.place choice long low high low_text high_text named,
        high_now segment name (V step.node) step.place choice long low high low_text high_text named,
        ap (λ (o : Node). o.keys) is ∙ keys_now segment name (V step.node) step.place choice long low high low_text high_text named,
        ap (λ (o : Node). o.children) is,
        (elim lets.0 [ inl same ↦ inl same | inr gone ↦ inr (gone.0, gone.1 ∙ lowest, gone.2) ], lets.1, lets.2, lets.3),
      )

  eased : AllByRecursion Eased (ends.step ∷ ends.above)
  eased = subst (AllByRecursion Eased) ends.way_is
      (all_from_both (IsWide V t.bytes kind (behind_of s table name) low high) (IsChosen V (behind_of s table name)) Eased way eases (each s t table name way w low high named wide tree others links spare blocks group offset spared low_is high_is text) (chosen s t table name way w low high named wide tree others links spare blocks group offset spared low_is high_is text))

  -- the symbol node at its end has an entry
  end_filled : HasExactKeys s.bytes table → entry_keys leaf s.bytes (get_or (V (ends.step).node).children (ends.step).place 0) ≡ [] → ⊥
  end_filled has none =
      let c = get_or (V (ends.step).node).children (ends.step).place 0 in
      let listed : In c list = subst (In c) (sym (end_cut s kind table.tree level way owned list w.number ends)) (in_right c (take w.number list) (c ∷ drop (suc w.number) list) (inl refl)) in
      let some = in_all (λ n. 1 ≤ length (entry_keys leaf s.bytes n)) c list (each_keyed s table links spare blocks group has.filled) listed in
      let long = ap length none in
      omega (arith, some, long)

  -- ---- the image then

  same : AllByRecursion (λ at. symbols_at t.bytes leaf at ≡ symbols_at s.bytes leaf at) list
  same = entries_kept s t table links spare blocks group (moved s t table name way w low high named wide tree others links spare blocks group offset spared low_is high_is text)

  abbrev Lets : List ℕ → List ℕ → (l : ℕ) → KeyTree (List ℕ) (List (List ℕ)) (suc l) → Type 0
  Lets seg x l = IsExactFor (key_sides (key_text seg)) x (λ (key : List ℕ). key) lowest_key (λ (keys : List (List ℕ)). keys) (suc l) None

  lets_in : HasExactKeys s.bytes table → Lets segment (word offset) level (keys_from W (λ key at. entry_keys leaf t.bytes at) level table.tree)
  lets_in has =
      let before : AreKeysExact (λ key. ⊥) (entry_keys leaf s.bytes) V level table.tree
      = subst (λ (l : ℕ). AreKeysExact (λ key. ⊥) (entry_keys leaf s.bytes) V l table.tree) (level_there s table links spare blocks group) has.exact in
      let now = widened_exact texts empty high above s t kind table.tree level way owned list w.number ends group.some (keeps s t table name way w low high named wide tree others links spare blocks group offset spared low_is high_is text) (entry_keys leaf s.bytes)
      eased.0 eased.1 (end_filled has) before in
      let trees = kept_trees t.bytes t.bytes kind table.tree level owned list (ends_now s t table name way w low high named wide tree others links spare blocks group offset spared low_is high_is text).tree (λ n owns. (refl, refl, refl))
      (λ key at. entry_keys leaf s.bytes at) (λ key at. entry_keys leaf t.bytes at)
      (all_so (λ at. symbols_at t.bytes leaf at ≡ symbols_at s.bytes leaf at) (λ at. (key : List ℕ) → entry_keys leaf t.bytes at ≡ entry_keys leaf s.bytes at) list
      (λ at is key. ap name_keys is) same) in
      subst (λ (x : List ℕ). Lets segment x level (keys_from W (λ key at. entry_keys leaf t.bytes at) level table.tree)) named_by
      (subst (Lets segment high level) (sym trees) now)

  -- THE KEYS ARE EXACT but for those that let the name in
  pub widened_for : HasExactKeys s.bytes table → HasKeysFor offset t.bytes table
  widened_for has =
      let told = symbol_nodes_are_told s.bytes table links blocks group.linked in
      let kind_is = kind_same s t table name way w low high named wide tree others links spare blocks group offset spared low_is high_is text in
      let at_level = level_is t.bytes kind table.tree level owned list (ends_now s t table name way w low high named wide tree others links spare blocks group offset spared low_is high_is text).tree in
      record {
        exact = subst (λ (seg : List ℕ). Lets seg (word offset) (node_at t.bytes (kind_in t.bytes) table.tree).level
            (keys_from (node_at t.bytes (kind_in t.bytes)) (λ key at. entry_keys (leaf_k t.bytes) t.bytes at) (node_at t.bytes (kind_in t.bytes) table.tree).level table.tree))
            (sym (segment_same s t table name way w low high named wide tree others links spare blocks group offset spared low_is high_is text))
            (subst (λ (k : Kind). Lets segment (word offset) (node_at t.bytes k table.tree).level
            (keys_from (node_at t.bytes k) (λ key at. entry_keys (leaf_k t.bytes) t.bytes at) (node_at t.bytes k table.tree).level table.tree)) (sym kind_is)
            (subst (λ (n : ℕ). Lets segment (word offset) (W table.tree).level (keys_from W (λ key at. entry_keys n t.bytes at) (W table.tree).level table.tree)) (sym (leaf_same s t table name way w low high named wide tree others links spare blocks group offset spared low_is high_is text))
            (subst (λ (l : ℕ). Lets segment (word offset) l (keys_from W (λ key at. entry_keys leaf t.bytes at) l table.tree)) (sym at_level) (lets_in has))));
        filled = filled_so s.bytes t.bytes table list (leaf_same s t table name way w low high named wide tree others links spare blocks group offset spared low_is high_is text) (sym told) (told_so t.bytes table kind level owned list kind_is (ends_now s t table name way w low high named wide tree others links spare blocks group offset spared low_is high_is text).tree) same has.filled;
      }
