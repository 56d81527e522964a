use Rattle.std.proofs.Common.{◌≡◌, ◌↔◌, ◌+◌, ◌≤◌, ℕ, suc, Bool, true, false, List, length, sym, ap, ◌∙◌, subst, add-one, arith}
use Rattle.std.specs.Bool.{IsTrue}
use Rattle.h5_model.specs.Format.Addresses.{SymbolTable}
use Rattle.h5_model.specs.Format.Reached.{level_at}
use Rattle.h5_model.specs.Format.Rows.{Node}
use Rattle.h5_model.specs.Format.Nodes.{Kind, node_at}
use Rattle.h5_model.specs.Format.Superblock.{leaf_k}
use Rattle.h5_btree.specs.Exact.{AreKeysExact}
use Rattle.h5_btree.specs.Retired.{StandsUnder}
use Rattle.h5_btree.specs.Walk.Forms.{OfGroup}
use Rattle.h5_btree.specs.Walk.Stands.{IsNodeAt}
use Rattle.h5_group.specs.Exact.{AreFilledUnder, AreGroupKeys, AreSymbolsFilled, HasExactKeys}
use Rattle.h5_group.specs.Nodes.Trees.{kind_in}
use Rattle.h5_group.specs.Retired.{StandsAt, entry_keys}
use Rattle.h5_group.proofs.ExactWalk.{all_filled, group_stands}
use Rattle.h5_group.proofs.Standing.{heap_there}
use Rattle.h5_group.proofs.exact.has_exact_keys.Goals as goal
use Rattle.h5_group.proofs.exact.has_exact_keys.Goals.{After-tree-2}

pub tree_node-requires-clause-there : goal.tree_node-requires-clause-there
tree_node-requires-clause-there c =
    let s = c.args.image.now in
    let there = (group_stands s c.args.table c.requires).0 in
    subst (IsNodeAt s.bytes OfGroup) (sym c.tree.ensures) (record { formed = there.1; inside = there.0 })

pub leaf_k-requires : goal.leaf_k-requires
leaf_k-requires c = subst (λ (b : List ℕ). 18 ≤ length b) (sym c.bytes.ensures) (omega (arith, (heap_there c.args.image.now.bytes c.args.table c.requires).0))

-- how far down the walk goes
height : (c : After-tree-2) → c.from.result + 1 ≡ suc (level_at c.args.image.now.bytes (kind_in c.args.image.now.bytes) c.args.table.tree)
height c =
    let b = c.args.image.now.bytes in
    add-one c.from.result
    ∙ ap suc (c.from.ensures ∙ c.level-level.ensures ∙ ap (λ (n : Node). n.level) (c.tree_node.ensures ∙ ap (node_at b (kind_in b)) c.tree.ensures))

pub are_filled-requires-clause-under : goal.are_filled-requires-clause-under
are_filled-requires-clause-under c =
    let s = c.args.image.now in
    let stands = StandsUnder (StandsAt (leaf_k s.bytes) s.bytes) s.bytes (kind_in s.bytes) in
    subst (stands (c.from.result + 1)) (sym c.tree-2.ensures) (subst (λ (h : ℕ). stands h c.args.table.tree) (sym (height c)) (group_stands s c.args.table c.requires))

-- a tree of this kind, with symbol nodes of this K, at this root
abbrev StandsThere : List ℕ → Kind → ℕ → ℕ → Type 0
StandsThere image kind leaf root = StandsUnder (StandsAt leaf image) image kind (suc (level_at image kind root)) root

abbrev IsExactThere : List ℕ → Kind → ℕ → ℕ → Type 0
IsExactThere image kind leaf root = AreKeysExact (λ key. ⊥) (entry_keys leaf image) (node_at image kind) (level_at image kind root) root

pub are_keys_exact-requires-clause-under : goal.are_keys_exact-requires-clause-under
are_keys_exact-requires-clause-under c =
    let s = c.args.image.now in
    let leaf = c.leaf_k.ensures ∙ ap leaf_k c.bytes.ensures in
    subst (StandsThere s.bytes c.group_kind.result c.leaf_k.result) (sym c.tree-then-are_filled.ensures)
    (subst (λ (k : Kind). StandsThere s.bytes k c.leaf_k.result c.args.table.tree) (sym c.group_kind.ensures)
    (subst (λ (l : ℕ). StandsThere s.bytes (kind_in s.bytes) l c.args.table.tree) (sym leaf) (group_stands s c.args.table c.requires)))

-- each symbol node has an entry, where those below the root do
filled : (image : List ℕ) (table : SymbolTable) (down root : ℕ) (on : Bool) → root ≡ table.tree → down ≡ suc (level_at image (kind_in image) table.tree)
    → IsTrue on ↔ AreFilledUnder image down root → IsTrue on ↔ AreSymbolsFilled image table
filled image table down root on at deep is =
    let all = all_filled image table in
    let top = subst (λ (h : ℕ). IsTrue on ↔ AreFilledUnder image h table.tree) deep (subst (λ (a : ℕ). IsTrue on ↔ AreFilledUnder image down a) at is) in
    (λ so. all.0 (top.0 so), λ has. top.1 (all.1 has))

both : (image : List ℕ) (table : SymbolTable) (on : Bool) → AreSymbolsFilled image table → IsTrue on ↔ AreGroupKeys (λ key. ⊥) image table → IsTrue on ↔ HasExactKeys image table
both image table on filled is = (λ so. record { exact = is.0 so; filled = filled }, λ has. is.1 has.exact)

pub returns-then-are_filled : goal.returns-then-are_filled
returns-then-are_filled c =
    let image = c.args.image.now.bytes in
    let table = c.args.table in
    let leaf = c.leaf_k.ensures ∙ ap leaf_k c.bytes.ensures in
    let all = (filled image table (c.from.result + 1) c.tree-2.result c.are_filled.result c.tree-2.ensures (height ((goal.at.returns-then-are_filled c).After-tree-2)) c.are_filled.ensures).0 c.if-are_filled.true in
    let on = c.are_keys_exact.result in
    both image table on all
    (subst (λ (l : ℕ). IsTrue on ↔ IsExactThere image (kind_in image) l table.tree) leaf
    (subst (λ (k : Kind). IsTrue on ↔ IsExactThere image k c.leaf_k.result table.tree) c.group_kind.ensures
    (subst (λ (root : ℕ). IsTrue on ↔ IsExactThere image c.group_kind.result c.leaf_k.result root) c.tree-then-are_filled.ensures c.are_keys_exact.ensures)))

pub returns-else-are_filled : goal.returns-else-are_filled
returns-else-are_filled c =
    let image = c.args.image.now.bytes in
    let table = c.args.table in
    let is = filled image table (c.from.result + 1) c.tree-2.result c.are_filled.result c.tree-2.ensures (height ((goal.at.returns-else-are_filled c).After-tree-2)) c.are_filled.ensures in (
      λ on. let clash : false ≡ true = sym c.if-are_filled.false ∙ on in cc,
      λ has. is.1 has.filled,
    )
