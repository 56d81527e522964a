-- The way to a name in a group's tree: there is one at most, and it stays where its nodes read as before and their keys name the same texts.
use Rattle.std.proofs.Common.{◌≡◌, ℕ, zero, suc, ◌+◌, ◌<◌, Bool, List, [], ◌∷◌, ◌++◌, length, slice_index, slice_index_or, refl, sym, ap, ◌∙◌, subst, arith}
use Rattle.std.specs.Cmp.Lexicographic.{slice_cmp}
use Rattle.std.specs.List.{AllByRecursion, Contains}
use Rattle.std.specs.Ordering.{is_lt, nat_cmp}
use Rattle.h5_bytes.specs.declared.Block.{Block}
use Rattle.h5_bytes.proofs.BlockLaws.{all_left, all_right, all_so}
use Rattle.h5_model.specs.Format.Addresses.{SymbolTable}
use Rattle.h5_model.specs.Format.Superblock.{leaf_k, k_values}
use Rattle.h5_model.specs.Format.Heap.{segment_of}
use Rattle.h5_model.specs.Format.Links.{NotAfter, IsOrdered, key_name, offset_in}
use Rattle.h5_model.specs.Format.Nodes.{Kind, group_kind, node_at, node_bytes}
use Rattle.h5_model.specs.Format.Rows.{Node, Reading}
use Rattle.h5_model.specs.Format.Symbols.{Target, symbols_at}
use Rattle.h5_model.proofs.OneTree.{one_level, one_owned, level_is, owned_is}
use Rattle.h5_model.proofs.RowLaws.{at_listed}
use Rattle.h5_model.proofs.KLaws.{same_internal}
use Rattle.h5_laws.specs.Ladders.{IsOrderly}
use Rattle.h5_laws.specs.NameLadders.{key_text, name_sides}
use Rattle.h5_laws.proofs.NameLadders.{name_order}
use Rattle.h5_space.specs.Space.{Space}
use Rattle.h5_space.proofs.AddressLaws.{all_at}
use Rattle.h5_btree.specs.Descent.{IsChildFor, IsWayTo}
use Rattle.h5_btree.specs.Insertion.{IsFullWay}
use Rattle.h5_btree.specs.declared.way.Step.{Step}
use Rattle.h5_btree.proofs.NameFound.{name_behind}
use Rattle.h5_btree.proofs.NodeLaws.{length-keys, length-children}
use Rattle.h5_btree.proofs.TreeReadings.{Listed}
use Rattle.h5_btree.proofs.WaySteps.{way_owned}
use Rattle.h5_btree.proofs.WaysDown.{FallsAt, one_way}
use Rattle.h5_group.specs.Edited.{IsGroupIn, entries_below, heap_text, node_below}
use Rattle.h5_group.specs.KeptNodes.{AreNodesKept}
use Rattle.h5_group.specs.Nodes.Trees.{kind_in}
use Rattle.h5_group.specs.Told.{symbol_nodes_told}
use Rattle.h5_group.specs.Ways.{IsWayOf, behind_of}
use Rattle.h5_group.specs.Links.{IsGroupRead}
use Rattle.h5_group.proofs.DropCalls.{end_told}
use Rattle.h5_group.proofs.Standing.{nodes_ordered}
use Rattle.h5_group.proofs.Ways.{group_read, way_of}
use Rattle.h5_group.proofs.ExactTrees.{root_of}

-- ---- one way at most

-- no key of the node is above the next
abbrev pub IsRisingNode : List ℕ → Node → Type 0
IsRisingNode segment node = (i : ℕ) → i < length node.children → NotAfter (key_name segment node i) (key_name segment node (i + 1))

module _ (V : Reading) (segment name : List ℕ) where
  abbrev pub IsRisingStep : Step → Type 0
  IsRisingStep step = IsRisingNode segment (V step.node)

  orderly : IsOrderly (name_sides (key_text segment))
  orderly = name_order (key_text segment)

  falls : (step : Step) → IsRisingStep step → FallsAt (name_behind segment name) V step
  falls step rising i low on =
      let key = λ (n : ℕ). slice_index_or (V step.node).keys n [] in
      orderly.right (key i) (key (i + 1)) name (rising i low) on

  pub name_way : (level at : ℕ) (way way' : List Step) → IsWayTo V (name_behind segment name) level at way → IsWayTo V (name_behind segment name) level at way'
      → AllByRecursion IsRisingStep way → way ≡ way'
  name_way level at way way' to to' all =
      one_way (name_behind segment name) V level at way way' to to' (all_so IsRisingStep (FallsAt (name_behind segment name) V) way falls all)

-- ---- a way stays

module _ (V W : Reading) (was now : List ℕ → Bool) where
  -- what is the same at a step: its node, and what is behind its keys
  abbrev pub IsSameStep : Step → Type 0
  IsSameStep step =
      (W step.node ≡ V step.node) × (length (V step.node).keys ≡ length (V step.node).children + 1) × AllByRecursion (λ key. now key ≡ was key) (V step.node).keys

  child_stays : (node : Node) (i : ℕ) → length node.keys ≡ length node.children + 1 → AllByRecursion (λ key. now key ≡ was key) node.keys → IsChildFor was node i → IsChildFor now node i
  child_stays node i long all c =
      let low = c.child in
      record {
        child = c.child;
        low = λ some. all_at (λ key. now key ≡ was key) node.keys i [] all (omega (arith, long, low)) ∙ c.low some;
        high = λ more. all_at (λ key. now key ≡ was key) node.keys (i + 1) [] all (omega (arith, long, low)) ∙ c.high more;
      }

  pub way_kept : (level at : ℕ) (way : List Step) → IsWayTo V was level at way → AllByRecursion IsSameStep way → IsWayTo W now level at way
  way_kept zero at way to all =
      let same = (subst (AllByRecursion IsSameStep) to.2 all).0 in
      (to.0, subst (λ (n : Node). IsChildFor now n to.0) (sym same.0) (child_stays (V at) to.0 same.1 same.2 to.1), to.2)
  way_kept (suc level) at way to all =
      let last : List Step = record { node = at; place = to.0 } ∷ [] in
      let parts : AllByRecursion IsSameStep (to.1 ++ last) = subst (AllByRecursion IsSameStep) to.4 all in
      let same = (all_right IsSameStep to.1 last parts).0 in
      let there = way_kept level (slice_index (V at).children to.0) to.1 to.3 (all_left IsSameStep to.1 last parts) in (
        to.0,
        to.1,
        subst (λ (n : Node). IsChildFor now n to.0) (sym same.0) (child_stays (V at) to.0 same.1 same.2 to.2),
        subst (λ (n : Node). IsWayTo W now level (slice_index n.children to.0) to.1) (sym same.0) there,
        to.4,
      )

-- a way that is full was full, where its nodes read as they did
pub full_kept : (old new : List ℕ) (kind : Kind) (way : List Step) → AllByRecursion (λ (step : Step). node_at new kind step.node ≡ node_at old kind step.node) way
    → IsFullWay new kind way → IsFullWay old kind way
full_kept old new kind [] same full = tt
full_kept old new kind (step ∷ way) same full = (ap (λ (n : Node). length n.children) (sym same.0) ∙ full.0, full_kept old new kind way same.1 full.1)

-- a node reads by the kind of before, where the K values stay
pub same_kind : (old new : List ℕ) → k_values new ≡ k_values old → (n : ℕ) → node_at new (kind_in new) n ≡ node_at new (kind_in old) n
same_kind old new same n = ap (λ (k : ℕ). node_at new (group_kind k) n) (same_internal new old same)

-- ---- a group

module _ (s : Space) (table : SymbolTable) (links : List (List ℕ × Target)) (spare : List ℕ) (blocks : List Block) (g : IsGroupIn s table links spare blocks) (name : List ℕ) where
  abbrev kind : Kind
  kind = kind_in s.bytes

  abbrev V : Reading
  V = node_at s.bytes kind

  abbrev segment : List ℕ
  segment = segment_of s.bytes table.heap

  read : IsGroupRead s.bytes table
  read = group_read s table links spare blocks g

  abbrev Rises : ℕ → Type 0
  Rises n = IsRisingNode segment (V n)

  rising : AllByRecursion Rises (read.linked).owned
  rising = all_so (λ n. IsOrdered V (symbols_at s.bytes (leaf_k s.bytes)) segment (V n)) Rises (read.linked).owned (λ n o. o.rising) (nodes_ordered s.bytes table read)

  -- there is one way to a name
  pub way_unique : (way way' : List Step) → IsWayOf s table name way → IsWayOf s table name way' → way ≡ way'
  way_unique way way' w w' =
      let has = read.linked in
      let owned_same : has.owned ≡ w.owned
      = one_owned s.bytes kind table.tree has.level w.level has.owned w.owned has.symbol_nodes w.symbol_nodes has.tree w.ends.tree in
      let levels : w'.level ≡ w.level
      = one_level s.bytes kind table.tree w'.level w.level w'.owned w.owned w'.symbol_nodes w.symbol_nodes w'.ends.tree w.ends.tree in
      let steps : AllByRecursion (IsRisingStep V segment name) way
      = all_so (λ (step : Step). Listed w.owned step.node) (IsRisingStep V segment name) way (λ step at. at_listed Rises w.owned step.node (subst (AllByRecursion Rises) owned_same rising) at) (way_owned s kind table.tree w.level way w.owned w.symbol_nodes w.number w.ends) in
      name_way V segment name w.level table.tree way way' w.sought
      (subst (λ (l : ℕ). IsWayTo V (name_behind segment name) l table.tree way') levels w'.sought) steps

  abbrev IsKeptNode : Space → ℕ → Type 0
  IsKeptNode t n = (node_at t.bytes kind n ≡ V n) × AllByRecursion (λ key. heap_text t table (offset_in key) ≡ heap_text s table (offset_in key)) (V n).keys

  -- ---- where its nodes read as before and their keys name the same texts

  module _ (t : Space) (links' : List (List ℕ × Target)) (spare' : List ℕ) (blocks' : List Block) (h : IsGroupIn t table links' spare' blocks')
      (k_same : k_values t.bytes ≡ k_values s.bytes) (kept : AreNodesKept s t table (g.linked).owned) where
    abbrev W : Reading
    W = node_at t.bytes (kind_in t.bytes)

    -- the root reads as before
    pub root_stays : W table.tree ≡ V table.tree
    root_stays =
        let has = g.linked in
        same_kind s.bytes t.bytes k_same table.tree
        ∙ (root_of (IsKeptNode t) V has.level table.tree (subst (AllByRecursion (IsKeptNode t)) (owned_is s.bytes kind table.tree has.level has.owned has.symbol_nodes has.tree) kept)).0

    module _ (way : List Step) (w : IsWayOf s table name way) where
      owned_is_own : (g.linked).owned ≡ w.owned
      owned_is_own =
          let has = g.linked in
          one_owned s.bytes kind table.tree has.level w.level has.owned w.owned has.symbol_nodes w.symbol_nodes has.tree w.ends.tree

      steps_kept : AllByRecursion (λ (step : Step). IsKeptNode t step.node) way
      steps_kept =
          all_so (λ (step : Step). Listed w.owned step.node) (λ (step : Step). IsKeptNode t step.node) way (λ step at. at_listed (IsKeptNode t) w.owned step.node (subst (AllByRecursion (IsKeptNode t)) owned_is_own kept) at) (way_owned s kind table.tree w.level way w.owned w.symbol_nodes w.number w.ends)

      abbrev IsSame : Step → Type 0
      IsSame = IsSameStep V W (behind_of s table name) (behind_of t table name)

      same_step : (step : Step) → IsKeptNode t step.node → IsSame step
      same_step step is =
          let bytes = node_bytes s.bytes kind step.node in
          let keys = length-keys kind bytes (V step.node) refl in
          let children = length-children kind bytes (V step.node) refl in (
            same_kind s.bytes t.bytes k_same step.node ∙ is.0,
            omega (arith, keys, children),
            all_so (λ key. heap_text t table (offset_in key) ≡ heap_text s table (offset_in key)) (λ key. behind_of t table name key ≡ behind_of s table name key) (V step.node).keys
                (λ key same. ap (λ (text : List ℕ). is_lt (slice_cmp nat_cmp text name)) same) is.1,
          )

      -- the way is one still
      pub way_stays : IsWayOf t table name way
      way_stays =
          let all = all_so (λ (step : Step). IsKeptNode t step.node) IsSame way same_step steps_kept in
          let to : IsWayTo W (behind_of t table name) w.level table.tree way
          = way_kept V W (behind_of s table name) (behind_of t table name) w.level table.tree way w.sought all in
          let level : w.level ≡ (W table.tree).level
          = sym (level_is s.bytes kind table.tree w.level w.owned w.symbol_nodes w.ends.tree) ∙ ap (λ (n : Node). n.level) (sym root_stays) in
          way_of t table links' spare' blocks' h name way (subst (λ (l : ℕ). IsWayTo W (behind_of t table name) l table.tree way) level to)

      -- and where it is full, it was
      pub full_before : IsFullWay t.bytes (kind_in t.bytes) way → IsFullWay s.bytes kind way
      full_before full =
          full_kept s.bytes t.bytes kind way
          (all_so (λ (step : Step). IsKeptNode t step.node) (λ (step : Step). node_at t.bytes kind step.node ≡ V step.node) way (λ step is. is.0) steps_kept)
          (subst (λ (k : ℕ). IsFullWay t.bytes (group_kind k) way) (same_internal t.bytes s.bytes k_same) full)

      -- with the symbol node at its end as it was
      module _ (step : Step) (above : List Step) (is : way ≡ step ∷ above) where
        pub below_stays : node_below t table step ≡ node_below s table step
        below_stays =
            let first = (subst (AllByRecursion (λ (st : Step). IsKeptNode t st.node)) is steps_kept).0 in
            ap (λ (n : Node). slice_index n.children step.place) (same_kind s.bytes t.bytes k_same step.node ∙ first.0)

        abbrev IsKeptAt : ℕ → Type 0
        IsKeptAt n = symbols_at t.bytes (leaf_k t.bytes) n ≡ symbols_at s.bytes (leaf_k s.bytes) n

        pub entries_stay : ((n : ℕ) → Contains (symbol_nodes_told s.bytes table) n → IsKeptAt n) → entries_below t table step ≡ entries_below s table step
        entries_stay same =
            ap (symbols_at t.bytes (leaf_k t.bytes)) below_stays
            ∙ same (node_below s table step)
            (end_told s table links spare blocks g w.level way w.owned w.symbol_nodes w.number w.ends (node_below s table step)
            (λ other rest also.
            let both : step ∷ above ≡ other ∷ rest = sym is ∙ also in
            let one : step ≡ other = cc in
            ap (node_below s table) one))
