-- A group whose keys that name one text gave way: where keys of that text alone were spared, its keys are exact then, and all ways stay.
use Rattle.std.proofs.Common.{◌≡◌, ℕ, ◌≤◌, true, List, ◌∷◌, length, slice_index, refl, sym, ap, ◌∙◌, subst, arith}
use Rattle.std.specs.List.{AllByRecursion}
use Rattle.h5_bytes.specs.declared.Block.{Block}
use Rattle.h5_bytes.proofs.BlockLaws.{all_so}
use Rattle.h5_model.specs.Format.Addresses.{SymbolTable}
use Rattle.h5_model.specs.Format.Superblock.{leaf_k}
use Rattle.h5_model.specs.Format.Nodes.{Kind, node_at}
use Rattle.h5_model.specs.Format.Rows.{Node, Reading}
use Rattle.h5_model.specs.Format.Symbols.{Target, symbols_at}
use Rattle.h5_model.proofs.OneTree.{level_is}
use Rattle.h5_model.proofs.RowLaws.{at_listed}
use Rattle.h5_laws.proofs.Lists.{In, in_all, in_contains}
use Rattle.h5_space.specs.Space.{Space}
use Rattle.h5_btree.specs.Exact.{AreKeysExact}
use Rattle.h5_btree.specs.Insertion.{Owns}
use Rattle.h5_btree.specs.Removal.{EndsInTree}
use Rattle.h5_btree.specs.Retired.{IsNodeRetired, IsTreeRetired}
use Rattle.h5_btree.specs.declared.way.Step.{Step}
use Rattle.h5_btree.proofs.KeyedExact.{kept_exact, retired_exact}
use Rattle.h5_btree.proofs.WaySteps.{way_owned}
use Rattle.h5_group.specs.Edited.{IsGroupIn}
use Rattle.h5_group.specs.Exact.{AreExactBut, AreGroupKeys}
use Rattle.h5_group.specs.Nodes.Trees.{kind_in}
use Rattle.h5_group.specs.Retired.{entry_keys, is_of, name_keys}
use Rattle.h5_group.specs.Told.{symbol_nodes_told}
use Rattle.h5_group.specs.Ways.{AreWaysKept}
use Rattle.h5_group.proofs.EntryWays.{ends_own, list_same, owned_same}
use Rattle.h5_group.proofs.ExactTrees.{keys_so, told_so}
use Rattle.h5_group.proofs.KeptWays.{IsKeyed, ends_keyed}
use Rattle.h5_group.proofs.ToldLaws.{symbol_nodes_are_told}
use Rattle.h5_group.proofs.TreeMoves.{entries_kept, kind_now, leaf_now}
use Rattle.h5_group.proofs.Ways.{level_there}

module _ (s t : Space) (table : SymbolTable) (links : List (List ℕ × Target)) (spare : List ℕ) (blocks : List Block) (group : IsGroupIn s table links spare blocks) (offset : ℕ)
    (is : IsTreeRetired (is_of offset) (entry_keys (leaf_k s.bytes)) s t (kind_in s.bytes) table.tree (group.linked).level (group.linked).owned (group.linked).symbol_nodes)
    (short : length t.bytes ≤ length s.bytes) where
  abbrev kind : Kind
  kind = kind_in s.bytes

  abbrev leaf : ℕ
  leaf = leaf_k s.bytes

  abbrev level : ℕ
  level = (group.linked).level

  abbrev owned : List ℕ
  owned = (group.linked).owned

  abbrev list : List ℕ
  list = (group.linked).symbol_nodes

  abbrev V : Reading
  V = node_at s.bytes kind

  abbrev W : Reading
  W = node_at t.bytes kind

  kind_same : kind_in t.bytes ≡ kind
  kind_same = kind_now s t table links spare blocks group is.moves

  leaf_same : leaf_k t.bytes ≡ leaf
  leaf_same = leaf_now s t table links spare blocks group is.moves

  same : AllByRecursion (λ at. symbols_at t.bytes leaf at ≡ symbols_at s.bytes leaf at) list
  same = entries_kept s t table links spare blocks group is.moves

  now_level : (W table.tree).level ≡ level
  now_level = level_is t.bytes kind table.tree level owned list is.tree

  -- ---- the keys are exact

  pub exact_retired : AreExactBut offset s.bytes table → AreGroupKeys (λ key. ⊥) t.bytes table
  exact_retired exact =
      let here : AreKeysExact (λ key. is_of offset key ≡ true) (entry_keys leaf s.bytes) V level table.tree
      = subst (λ (l : ℕ). AreKeysExact (λ key. is_of offset key ≡ true) (entry_keys leaf s.bytes) V l table.tree) (level_there s table links spare blocks group) exact in
      let then : AreKeysExact (λ key. ⊥) (entry_keys leaf s.bytes) W level table.tree
      = retired_exact (is_of offset) (entry_keys leaf) s t kind table.tree level owned list is (λ key. is_of offset key ≡ true) (λ key. ⊥) (λ key hit no. no hit) here in
      let there : AreKeysExact (λ key. ⊥) (entry_keys leaf t.bytes) W level table.tree
      = kept_exact (entry_keys leaf s.bytes) (entry_keys leaf t.bytes) (λ key. ⊥) t.bytes t.bytes kind table.tree level owned list is.tree (λ n owns. (refl, refl, refl))
      (all_so (λ at. symbols_at t.bytes leaf at ≡ symbols_at s.bytes leaf at) (λ at. entry_keys leaf t.bytes at ≡ entry_keys leaf s.bytes at) list (λ at e. ap name_keys e) same) then in
      keys_so (λ key. ⊥) t.bytes table leaf kind level leaf_same kind_same now_level there

  -- ---- ways stay

  keyed : AllByRecursion (IsKeyed s t kind) owned
  keyed = all_so (IsNodeRetired (is_of offset) (entry_keys leaf) s t kind) (IsKeyed s t kind) owned (λ n r. (r.0, r.1)) is.nodes

  module _ (way : List Step) (level' : ℕ) (owned' list' : List ℕ) (number : ℕ) (e : EndsInTree s kind table.tree level' way owned' list' number) where
    own : EndsInTree s kind table.tree level way owned list number
    own = ends_own s table links spare blocks group level' way owned' list' number e

    way_kept : EndsInTree t (kind_in t.bytes) table.tree level' way owned' list' number
    way_kept =
        let low = group.short in
        let now = ends_keyed s t kind table.tree level way owned list number own keyed is.tree is.moves (omega (arith, low, short)) in
        let up : level' ≡ level = sym (level_is s.bytes kind table.tree level' owned' list' e.tree) ∙ level_there s table links spare blocks group in
        subst (λ (k : Kind). EndsInTree t k table.tree level' way owned' list' number) (sym kind_same)
        (subst (λ (l : ℕ). EndsInTree t kind table.tree l way owned' list' number) (sym up)
        (subst (λ (ns : List ℕ). EndsInTree t kind table.tree level way ns list' number) (sym (owned_same s table links spare blocks group level' way owned' list' number e))
        (subst (λ (ns : List ℕ). EndsInTree t kind table.tree level way owned ns number) (sym (list_same s table links spare blocks group level' way owned' list' number e)) now)))

    steps : AllByRecursion (λ (step : Step). Owns owned step.node) way
    steps = way_owned s kind table.tree level way owned list number own

  pub retired_ways : AreWaysKept s t table
  retired_ways = record {
    ways = way_kept;
    below = λ step above level' owned' list' number e.
        let listed = (steps (step ∷ above) level' owned' list' number e).0 in
        ap (λ (k : Kind). slice_index (node_at t.bytes k step.node).children step.place) kind_same
        ∙ ap (λ (o : Node). slice_index o.children step.place) (at_listed (IsKeyed s t kind) owned step.node keyed listed).1;
    told = told_so t.bytes table kind level owned list kind_same is.tree ∙ symbol_nodes_are_told s.bytes table links blocks group.linked;
    entries = λ node there.
        ap (λ (l : ℕ). symbols_at t.bytes l node) leaf_same
        ∙ in_all (λ at. symbols_at t.bytes leaf at ≡ symbols_at s.bytes leaf at) node list same
        (subst (In node) (sym (symbol_nodes_are_told s.bytes table links blocks group.linked)) (in_contains node (symbol_nodes_told s.bytes table) there));
  }
