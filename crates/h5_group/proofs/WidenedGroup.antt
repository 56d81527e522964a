-- A group whose tree lets in a name: end keys of the nodes on a way gave way, and all links stay.
use Rattle.std.proofs.Common.{◌≡◌, ◌≢◌, ℕ, zero, suc, ◌*◌, Bool, true, false, inl, inr, List, [], ◌∷◌, ◌++◌, length, map, slice_index, refl, sym, ap, ◌∙◌, subst, arith}
use Rattle.std.specs.Prelude.{⊤, ◌↔◌, IsTrue, slice_set, if◌then◌else◌}
use Rattle.std.specs.List.{AllByRecursion, Contains, flat_map}
use Rattle.h5_bytes.specs.Blocks.{cover}
use Rattle.h5_bytes.specs.Texts.{text_at}
use Rattle.h5_bytes.specs.declared.Block.{Block}
use Rattle.h5_bytes.proofs.BlockLaws.{all_so}
use Rattle.h5_model.specs.Format.Addresses.{SymbolTable}
use Rattle.h5_model.specs.Format.Superblock.{leaf_k}
use Rattle.h5_model.specs.Format.Heap.{KeyNames, segment_of}
use Rattle.h5_model.specs.Format.Links.{IsBetween, IsOrdered, Symbols, key_offsets, offset_in}
use Rattle.h5_model.specs.Format.Nodes.{Kind, node_at, reading_of, tree_blocks}
use Rattle.h5_model.specs.Format.Rows.{Node, Reading}
use Rattle.h5_model.specs.Format.Symbols.{Entry, Target, symbols_at, symbols_of, texts_of}
use Rattle.h5_model.specs.Tree.Paths.{is_name}
use Rattle.h5_model.proofs.OneTree.{level_is}
use Rattle.h5_model.proofs.RowLaws.{all_listed, at_listed}
use Rattle.h5_laws.specs.NameLadders.{key_text, name_sides}
use Rattle.h5_laws.proofs.Lists.{In, contains_in, in_all, in_contains, in_left}
use Rattle.h5_laws.proofs.NameLadders.{name_order}
use Rattle.h5_laws.proofs.KeyInserts.{all_from_both}
use Rattle.h5_space.specs.Moves.{Moves}
use Rattle.h5_space.specs.Space.{Space}
use Rattle.h5_btree.specs.Descent.{IsWayTo}
use Rattle.h5_btree.specs.Insertion.{IsFullWay, KeepsEntries, Owns}
use Rattle.h5_btree.specs.Removal.{EndsInTree}
use Rattle.h5_btree.specs.Widened.{AreWidened, IsWidened, end_at, ends_along, way_blocks, widened_node}
use Rattle.h5_btree.specs.declared.way.Step.{Step}
use Rattle.h5_btree.specs.declared.widening.End.{End}
use Rattle.h5_btree.proofs.ClimbSteps.{at_or, covers}
use Rattle.h5_btree.proofs.KeyedEases.{IsEased, eased_sorted}
use Rattle.h5_btree.proofs.KeyedForms.{group_in_order, group_ordered, names_at_child}
use Rattle.h5_btree.proofs.KeyedOwn.{keys_count}
use Rattle.h5_btree.proofs.TreeReadings.{Listed}
use Rattle.h5_btree.proofs.WaySteps.{way_owned}
use Rattle.h5_btree.proofs.WaysDown.{IsChosen, first_ends, way_chosen}
use Rattle.h5_btree.proofs.WideningLaws.{moves_wider}
use Rattle.h5_group.specs.Edited.{HasGroupMoved, IsGroupIn, IsWayFor, entries_below, heap_text, node_below}
use Rattle.h5_group.specs.Nodes.Trees.{kind_in}
use Rattle.h5_group.specs.Ways.{IsWayOf, behind_of}
use Rattle.h5_group.proofs.EntryWays.{ends_own}
use Rattle.h5_group.proofs.HeapMoves.{keys_there}
use Rattle.h5_group.proofs.KeyOffsets.{offsets_joined, offsets_parts}
use Rattle.h5_group.proofs.NameKeys.{low_empty}
use Rattle.h5_group.proofs.ToldLaws.{symbol_nodes_are_told}
use Rattle.h5_group.proofs.TreeMoves.{entries_kept, heap_kept, keys_moved, kind_now, leaf_now}
use Rattle.h5_group.proofs.Way.{leaf_listed}
use Rattle.h5_group.proofs.Ways.{group_read}
use Rattle.h5_group.proofs.WidenedKeys.{between_now, gives_way, high_now, keys_now, low_now}

-- ---- lists

all_set : {X : Type 0} (P : X → Type 0) (xs : List X) (i : ℕ) (v : X) → AllByRecursion P xs → P v → AllByRecursion P (slice_set xs i v)
all_set P [] i v all new = tt
all_set P (x ∷ xs) zero v all new = (new, all.1)
all_set P (x ∷ xs) (suc i) v all new = (all.0, all_set P xs i v all.1 new)

all_if : {X : Type 0} (P : X → Type 0) (b : Bool) (xs ys : List X) → AllByRecursion P xs → AllByRecursion P ys → AllByRecursion P (if b then xs else ys)
all_if P true xs ys first second = first
all_if P false xs ys first second = second

-- the keys of a node whose end keys gave way
all_widened : (P : List ℕ → Type 0) (end : End) (low high : List ℕ) (node : Node) → AllByRecursion P node.keys → P low → P high
    → AllByRecursion P (widened_node end low high node).keys
all_widened P end low high node all at_low at_high =
    let first = all_if P end.first (slice_set node.keys 0 low) node.keys (all_set P node.keys 0 low all at_low) all in
    all_if P end.last (slice_set (if end.first then slice_set node.keys 0 low else node.keys) (length node.children) high) (if end.first then slice_set node.keys 0 low else node.keys)
    (all_set P (if end.first then slice_set node.keys 0 low else node.keys) (length node.children) high first at_high) first

-- ---- blocks

way_covered : (kind : Kind) (owned : List ℕ) (way : List Step) → AllByRecursion (λ (step : Step). Listed owned step.node) way
    → (p : ℕ) → cover p (tree_blocks kind owned) ≡ 0 → cover p (way_blocks kind way) ≡ 0
way_covered kind owned [] listed p none = refl
way_covered kind owned (step ∷ way) listed p none =
    let here = covers kind owned step.node p listed.0 in
    let rest = way_covered kind owned way listed.1 p none in
    omega (arith, here, rest, none)

-- ---- the nodes on the way

module _ (V : Reading) (new : List ℕ) (kind : Kind) (behind : List ℕ → Bool) (low high : List ℕ) where
  abbrev pub IsWide : Step → Type 0
  IsWide step = node_at new kind step.node ≡ widened_node (end_at V behind true step) low high (V step.node)

  -- one of them, or another node
  by_way : (R : ℕ → Type 0) (way : List Step) (n : ℕ) → AllByRecursion IsWide way → ((step : Step) → IsWide step → R step.node)
      → (AllByRecursion (λ (step : Step). n ≢ step.node) way → R n) → R n
  by_way R [] n wide here other = other tt
  by_way R (step ∷ way) n wide here other =
      at_or step.node n (λ (same : n ≡ step.node). subst R (sym same) (here step wide.0))
      (λ (apart : n ≢ step.node). by_way R way n wide.1 here (λ all. other (apart, all)))

wide_each : (old new : List ℕ) (kind : Kind) (behind : List ℕ → Bool) (low high : List ℕ) (way : List Step)
    → AreWidened old new kind way (ends_along (node_at old kind) behind 0 way) low high → AllByRecursion (IsWide (node_at old kind) new kind behind low high) way
wide_each old new kind behind low high [] are = tt
wide_each old new kind behind low high (step ∷ way) are = (are.0, wide_each old new kind behind low high way are.1)

-- ---- what is so of the group

-- What is so of a group whose tree lets in a name: all links stay, the name lies between the keys around each child on the way, and the way
-- leads to the same symbol node and is as full as it was.
pub record HasLetIn (s t : Space) (table : SymbolTable) (name : List ℕ) (way : List Step) (links : List (List ℕ × Target)) (spare : List ℕ) (blocks : List Block) : Type 0 where
  pub stayed : HasGroupMoved s t table blocks links spare
  pub between : IsWayFor t table name way
  pub below : (step : Step) (above : List Step) → way ≡ step ∷ above
      → (node_below t table step ≡ node_below s table step) × (entries_below t table step ≡ entries_below s table step)
  pub segment : segment_of t.bytes table.heap ≡ segment_of s.bytes table.heap
  pub full : IsFullWay t.bytes (kind_in t.bytes) way ↔ IsFullWay s.bytes (kind_in s.bytes) way

-- ---- the image, before and afterwards

module _ (s t : Space) (table : SymbolTable) (name : List ℕ) (way : List Step) (w : IsWayOf s table name way) (low high : List ℕ) (named : IsTrue (is_name name))
    (wide : IsWidened s t (kind_in s.bytes) way (ends_along (node_at s.bytes (kind_in s.bytes)) (behind_of s table name) 0 way) low high)
    (tree : (root height k : ℕ) (owned list : List ℕ) → EndsInTree s (kind_in s.bytes) root height way owned list k → EndsInTree t (kind_in s.bytes) root height way owned list k)
    (others : (root height k : ℕ) (owned list : List ℕ) → EndsInTree s (kind_in s.bytes) root height way owned list k → (n : ℕ) → Owns owned n
    → AllByRecursion (λ (step : Step). n ≢ step.node) way → node_at t.bytes (kind_in s.bytes) n ≡ node_at s.bytes (kind_in s.bytes) n)
    (links : List (List ℕ × Target)) (spare : List ℕ) (blocks : List Block) (group : IsGroupIn s table links spare blocks) (offset : ℕ) (spared : Contains spare offset)
    (low_is : offset_in low ≡ 0) (high_is : offset_in high ≡ offset) (text : heap_text s table offset ≡ name) where
  abbrev kind : Kind
  kind = kind_in s.bytes

  abbrev V : Reading
  V = node_at s.bytes kind

  abbrev W : Reading
  W = node_at t.bytes kind

  abbrev level : ℕ
  level = (group.linked).level

  abbrev owned : List ℕ
  owned = (group.linked).owned

  abbrev symbol_nodes : List ℕ
  symbol_nodes = (group.linked).symbol_nodes

  abbrev Z : Reading
  Z = reading_of t.bytes kind owned

  abbrev S : Symbols
  S = symbols_of s.bytes (leaf_k s.bytes) symbol_nodes

  abbrev segment : List ℕ
  segment = segment_of s.bytes table.heap

  abbrev behind : List ℕ → Bool
  behind = behind_of s table name

  -- ---- the way ends in the group's own tree

  pub e : EndsInTree s kind table.tree level way owned symbol_nodes w.number
  e = ends_own s table links spare blocks group w.level way w.owned w.symbol_nodes w.number w.ends

  pub ends_now : EndsInTree t kind table.tree level way owned symbol_nodes w.number
  ends_now = tree table.tree level w.number owned symbol_nodes e

  pub each : AllByRecursion (IsWide V t.bytes kind behind low high) way
  each = wide_each s.bytes t.bytes kind behind low high way wide.keys

  pub chosen : AllByRecursion (IsChosen V behind) way
  chosen = way_chosen V behind w.level table.tree way w.sought

  empty : key_text segment low ≡ []
  empty = low_empty s table links spare blocks group low low_is

  pub own : key_text segment high ≡ name
  own = ap (text_at segment) high_is ∙ text

  -- ---- the keys are in order still

  abbrev Bottoms : Type 0
  Bottoms = List (List ℕ)

  abbrev items : Bottoms → List (List ℕ)
  items b = b

  abbrev Base : Bottoms → Type 0
  Base b = ⊤

  pub keeps : (n : ℕ) → Owns owned n → AllByRecursion (λ (step : Step). n ≢ step.node) way → KeepsEntries s.bytes t.bytes kind n
  keeps n owns apart =
      let same = others table.tree level w.number owned symbol_nodes e n owns apart in
      (ap (λ (o : Node). o.keys) same, ap (λ (o : Node). o.children) same, ap (λ (o : Node). o.level) same)

  abbrev Eased : Step → Type 0
  Eased = IsEased (name_sides (key_text segment)) (name_order (key_text segment)) items Base name s t kind table.tree level way owned symbol_nodes w.number e group.some keeps
      (names_at_child S segment)

  eases : (step : Step) → IsWide V t.bytes kind behind low high step → IsChosen V behind step → Eased step
  eases step is choice =
      let long = keys_count s.bytes kind step.node in (
        low_now segment name (V step.node) step.place choice long low high empty own named,
        high_now segment name (V step.node) step.place choice long low high empty own named,
        ap (λ (o : Node). o.keys) is ∙ keys_now segment name (V step.node) step.place choice long low high empty own named,
        ap (λ (o : Node). o.children) is,
        gives_way segment name (V step.node) step.place choice long low high empty own named items Base,
      )

  eased : AllByRecursion Eased (e.step ∷ e.above)
  eased = subst (AllByRecursion Eased) e.way_is (all_from_both (IsWide V t.bytes kind behind low high) (IsChosen V behind) Eased way eases each chosen)

  ordered_now : AllByRecursion (λ at. IsOrdered Z S segment (Z at)) owned
  ordered_now =
      group_ordered t.bytes kind table.tree level owned symbol_nodes ends_now.tree S segment
      (eased_sorted (name_sides (key_text segment)) (name_order (key_text segment)) items Base name s t kind table.tree level way owned symbol_nodes w.number e group.some keeps
      (names_at_child S segment) eased.0 eased.1 refl
      (group_in_order s.bytes kind table.tree level owned symbol_nodes (group.linked).tree S segment (group.linked).listed.ordered)).0

  -- ---- blocks

  abbrev trees : List Block
  trees = tree_blocks kind owned

  pub moved : Moves s t trees trees
  moved = moves_wider s t (way_blocks kind way) trees (way_covered kind owned way (way_owned s kind table.tree level way owned symbol_nodes w.number e)) wide.moves

  pub leaf_same : leaf_k t.bytes ≡ leaf_k s.bytes
  leaf_same = leaf_now s t table links spare blocks group moved

  pub kind_same : kind_in t.bytes ≡ kind
  kind_same = kind_now s t table links spare blocks group moved

  pub segment_same : segment_of t.bytes table.heap ≡ segment
  segment_same = (heap_kept s t table links spare blocks group moved).1

  -- ---- each key names a text still

  abbrev offsets : List ℕ
  offsets = map (λ (x : Entry). x.name) (flat_map S symbol_nodes) ++ texts_of (flat_map S symbol_nodes)

  abbrev loose : List ℕ
  loose = (group.linked).listed.loose

  abbrev Names : ℕ → Type 0
  Names = KeyNames offsets loose

  abbrev HaveNames : Node → Type 0
  HaveNames node = AllByRecursion (λ k. Names (offset_in k)) node.keys

  loose_has : Contains loose offset
  loose_has = subst (λ (os : List ℕ). Contains os offset) (sym group.spared) (contains_in offset (spare ++ group.more) (in_left offset spare group.more (in_contains offset spare spared)))

  abbrev HaveNamesAt : ℕ → Type 0
  HaveNamesAt n = HaveNames (V n)

  names_old : (n : ℕ) → Listed owned n → HaveNames (V n)
  names_old n listed =
      at_listed HaveNamesAt owned n (offsets_parts V Names owned (subst (AllByRecursion Names) (sym (keys_there s.bytes kind owned)) (group.linked).listed.spans.keyed)) listed

  names_new : (n : ℕ) → Listed owned n → HaveNames (W n)
  names_new n listed = by_way V t.bytes kind behind low high (λ m. Listed owned m → HaveNames (W m)) way n each
      (λ step is there. subst HaveNames (sym is) (all_widened (λ k. Names (offset_in k)) (end_at V behind true step) low high (V step.node) (names_old step.node there)
      (inl low_is) (inr (inr (subst (Contains loose) (sym high_is) loose_has)))))
      (λ apart there. subst HaveNames (sym (others table.tree level w.number owned symbol_nodes e n there apart)) (names_old n there)) listed

  keyed_now : AllByRecursion Names (key_offsets Z owned)
  keyed_now =
      subst (AllByRecursion Names) (keys_there t.bytes kind owned)
      (offsets_joined W Names owned (all_so (Listed owned) (λ n. HaveNames (W n)) owned names_new (all_listed owned)))

  -- ALL LINKS STAY
  group_stayed : HasGroupMoved s t table blocks links spare
  group_stayed =
      (keys_moved s t table links spare blocks group moved ends_now.tree ordered_now keyed_now
      (let short = group.short in let grown = wide.spends.grown in omega (arith, short, grown))).0

  -- ---- the way

  between : (step : Step) → IsWide V t.bytes kind behind low high step → IsChosen V behind step → IsBetween segment (W step.node) step.place name
  between step is choice =
      let long = keys_count s.bytes kind step.node in
      between_now segment name (V step.node) step.place choice long low high empty own named (W step.node)
      (ap (λ (o : Node). o.keys) is ∙ keys_now segment name (V step.node) step.place choice long low high empty own named)

  -- the name lies between the keys around each child on it
  way_now : IsWayFor t table name way
  way_now = record {
    level = level;
    owned = owned;
    symbol_nodes = symbol_nodes;
    number = w.number;
    ends = subst (λ (k : Kind). EndsInTree t k table.tree level way owned symbol_nodes w.number) (sym kind_same) ends_now;
    between = subst (λ (k : Kind). AllByRecursion (λ (step : Step). IsBetween (segment_of t.bytes table.heap) (node_at t.bytes k step.node) step.place name) way) (sym kind_same)
        (subst (λ (g : List ℕ). AllByRecursion (λ (step : Step). IsBetween g (W step.node) step.place name) way) (sym segment_same)
        (all_from_both (IsWide V t.bytes kind behind low high) (IsChosen V behind) (λ (step : Step). IsBetween segment (W step.node) step.place name) way between each chosen));
  }

  -- it leads to the same symbol node
  module _ (step : Step) (above : List Step) (is : way ≡ step ∷ above) where
    below_now : node_below t table step ≡ node_below s table step
    below_now =
        let here = (subst (AllByRecursion (IsWide V t.bytes kind behind low high)) is each).0 in
        ap (λ (k : Kind). slice_index (node_at t.bytes k step.node).children step.place) kind_same ∙ ap (λ (o : Node). slice_index o.children step.place) here

    below_in : In (node_below s table step) symbol_nodes
    below_in =
        let level_is_its = level_is s.bytes kind table.tree w.level w.owned w.symbol_nodes (w.ends).tree in
        let to = subst (λ (l : ℕ). IsWayTo V behind l table.tree way) (sym level_is_its) w.sought in
        let ends = first_ends V behind (V table.tree).level table.tree step above (subst (IsWayTo V behind (V table.tree).level table.tree) is to) in
        subst (In (node_below s table step)) (sym (symbol_nodes_are_told s.bytes table links blocks group.linked))
        (in_contains (node_below s table step) _
        (leaf_listed s.bytes table (group_read s table links spare blocks group) name (node_below s table step) (V step.node, step.place, ends, refl)))

    entries_now : entries_below t table step ≡ entries_below s table step
    entries_now =
        ap (λ (n : ℕ). symbols_at t.bytes (leaf_k t.bytes) n) below_now ∙ ap (λ (leaf : ℕ). symbols_at t.bytes leaf (node_below s table step)) leaf_same
        ∙ in_all (λ at. symbols_at t.bytes (leaf_k s.bytes) at ≡ symbols_at s.bytes (leaf_k s.bytes) at) (node_below s table step) symbol_nodes (entries_kept s t table links spare blocks group moved) below_in

  -- and is as full as it was
  full_now : IsFullWay t.bytes (kind_in t.bytes) way ↔ IsFullWay s.bytes kind way
  full_now = subst (λ (k : Kind). IsFullWay t.bytes k way ↔ IsFullWay s.bytes kind way) (sym kind_same) (
    all_from_both (IsWide V t.bytes kind behind low high) (λ (step : Step). length (W step.node).children ≡ 2 * kind.k) (λ (step : Step). length (V step.node).children ≡ 2 * kind.k) way
        (λ step is full. sym (ap (λ (o : Node). length o.children) is) ∙ full) each,
    all_from_both (IsWide V t.bytes kind behind low high) (λ (step : Step). length (V step.node).children ≡ 2 * kind.k) (λ (step : Step). length (W step.node).children ≡ 2 * kind.k) way
        (λ step is full. ap (λ (o : Node). length o.children) is ∙ full) each,
  )

  pub let_in : HasLetIn s t table name way links spare blocks
  let_in = record {
    stayed = group_stayed;
    between = way_now;
    below = λ step above is. (below_now step above is, entries_now step above is);
    segment = segment_same;
    full = full_now;
  }
