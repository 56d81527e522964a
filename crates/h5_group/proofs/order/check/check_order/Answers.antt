use Rattle.std.proofs.Common.{◌≡◌, List, ℕ, suc, [], ◌∷◌, map, sym, ap, ◌∙◌, subst}
use Rattle.std.specs.List.{AllByRecursion, Contains}
use Rattle.std.proofs.lemmas.Result.{err_from_is_err_and, on_ok_weaker, IfErr-weaker}
use Rattle.h5_bytes.proofs.BlockLaws.{all_so}
use Rattle.h5_model.specs.Format.Links.{Ascend, Before, IsOrdered}
use Rattle.h5_model.specs.Format.Superblock.{leaf_k}
use Rattle.h5_model.specs.Format.Rows.{Node, Reading, leaves}
use Rattle.h5_model.specs.Format.Symbols.{link_of, symbols_at}
use Rattle.h5_model.specs.Faults.TreeFaults.{all_entries}
use Rattle.h5_model.proofs.OneTree.{children_are, level_is}
use Rattle.h5_group.specs.Nodes.Stands.{IsSymbolsAt}
use Rattle.h5_group.proofs.NodeLaws.StandLaws.{symbols_stand}
use Rattle.h5_laws.specs.NameLadders.{key_text, name_lists, name_sides}
use Rattle.h5_laws.proofs.NameLadders.{names_by}
use Rattle.h5_btree.specs.Order.{HasSubtree, IsKnownFrom, IsOrderedAt, nodes_from}
use Rattle.h5_btree.specs.Walk.Below.{reading_in}
use Rattle.h5_btree.specs.Walk.Forms.{OfGroup, kind_of}
use Rattle.h5_btree.specs.Walk.Trees.{IsTree}
use Rattle.h5_btree.proofs.OrderLaws.RootLaws.{all_owned, root_stands}
use Rattle.h5_btree.specs.Rising.{FallAt}
use Rattle.h5_group.specs.Order.Between.{NamesAscend, name_of_entry}
use Rattle.h5_group.specs.Order.Ordered.{AscendsBefore}
use Rattle.h5_group.proofs.OrderProofs.AscendLaws.{known_from}
use Rattle.h5_group.proofs.OrderProofs.OrderFaults.{key_fault, name_fault}
use Rattle.h5_group.proofs.order.check.check_order.Goals as goal

pub check_name_order-requires-clause-symbols : goal.check_name_order-requires-clause-symbols
check_name_order-requires-clause-symbols c =
    subst (AllByRecursion (IsSymbolsAt c.args.image.now.bytes)) (sym c.deref.ensures.value)
    (symbols_stand c.args.image.now.bytes c.args.table.tree c.args.tree.now.nodes.items c.args.tree.now.leaves.items c.requires.tree c.requires.inside)

pub returns-in_err-check_name_order-clause-refused : goal.returns-in_err-check_name_order-clause-refused
returns-in_err-check_name_order-clause-refused c =
    let p = err_from_is_err_and c.from_residual.result c.from_residual.ensures.1 in
    let falls = subst (λ (ns : List ℕ). FallAt (name_of_entry c.args.segment.now) Before (symbols_at c.args.image.now.bytes (leaf_k c.args.image.now.bytes)) ns c.in_err-check_name_order.field-0.0.address) c.deref.ensures.value c.in_err-check_name_order.ensures.falls in
    rw (p.1, p.2)
    (name_fault c.args.image.now.bytes c.args.segment.now c.args.table c.args.tree.now.nodes.items c.args.tree.now.leaves.items _ _ c.requires.segment
    c.requires.tree c.in_err-check_name_order.ensures.cause falls
    (subst (λ (ns : List ℕ). AscendsBefore c.args.image.now.bytes c.args.segment.now ns c.in_err-check_name_order.field-0.0.address) c.deref.ensures.value c.in_err-check_name_order.ensures.first))

pub check_keys-requires-clause-subtree : goal.check_keys-requires-clause-subtree
check_keys-requires-clause-subtree c =
    let image : List ℕ = c.args.image.now.bytes in
    let stands = root_stands image OfGroup c.args.table.tree c.args.tree.now.nodes.items c.args.tree.now.leaves.items c.requires.tree c.requires.inside in
    let here = subst (λ (at : ℕ). HasSubtree image OfGroup (suc ((reading_in image OfGroup at).level)) at) (sym c.tree-root.ensures) stands in
    subst (λ (l : ℕ). HasSubtree image OfGroup (suc l) c.tree-root.result) (sym (c.level-level.ensures ∙ ap (λ (n : Node). n.level) c.tree_node.ensures)) here

pub check_keys-requires-clause-known : goal.check_keys-requires-clause-known
check_keys-requires-clause-known c =
    let image : List ℕ = c.args.image.now.bytes in
    let segment : List ℕ = c.args.segment.now in
    let root : ℕ = c.args.table.tree in
    let V : Reading = reading_in image OfGroup in
    let owned : List ℕ = c.args.tree.now.nodes.items in
    let symbol_nodes : List ℕ = c.args.tree.now.leaves.items in
    let t : IsTree image OfGroup root owned symbol_nodes = c.requires.tree in
    let all : symbol_nodes ≡ leaves V (V root).level (root ∷ [])
    = children_are image (kind_of image OfGroup) root t.level owned symbol_nodes t.tree
    ∙ ap (λ (l : ℕ). leaves V l (root ∷ [])) (sym (level_is image (kind_of image OfGroup) root t.level owned symbol_nodes t.tree)) in
    let ascend = subst (NamesAscend image segment) (c.deref.ensures.value ∙ all) c.in_ok-check_name_order.ensures.ascending in
    let Known : Node → Type 0 = λ node. NamesAscend image segment node.children in
    let here = subst (λ (at : ℕ). IsKnownFrom Known V (V at).level (V at)) (sym c.tree-root.ensures) (known_from image segment V (V root).level root ascend) in
    subst (λ (l : ℕ). IsKnownFrom Known V l (V c.tree-root.result)) (sym (c.level-level.ensures ∙ ap (λ (n : Node). n.level) c.tree_node.ensures)) here

pub returns-clause-ordered : goal.returns-clause-ordered
returns-clause-ordered c =
    let image : List ℕ = c.args.image.now.bytes in
    let segment : List ℕ = c.args.segment.now in
    let V = reading_in image OfGroup in
    let S = symbols_at image (leaf_k image) in
    let sides = name_sides (key_text segment) in
    let bottom = name_lists S segment in
    let all : nodes_from image OfGroup c.level-level.result c.tree-root.result ≡ c.args.tree.now.nodes.items
    = ap (λ (l : ℕ). nodes_from image OfGroup l c.tree-root.result) (c.level-level.ensures ∙ ap (λ (n : Node). n.level) c.tree_node.ensures)
    ∙ ap (λ (at : ℕ). nodes_from image OfGroup (V at).level at) c.tree-root.ensures
    ∙ all_owned image OfGroup c.args.table.tree c.args.tree.now.nodes.items c.args.tree.now.leaves.items c.requires.tree c.requires.inside in
    on_ok_weaker c.check_keys.result
    (λ ordered. record {
      ascending = subst (λ (ns : List ℕ). Ascend (map (link_of segment) (all_entries image ns))) c.deref.ensures.value c.in_ok-check_name_order.ensures.ascending;
      ordered = all_so (IsOrderedAt sides image OfGroup bottom) (λ (at : ℕ). IsOrdered V S segment (V at)) c.args.tree.now.nodes.items
          (λ at o. names_by V S segment (V at) o) (subst (AllByRecursion (IsOrderedAt sides image OfGroup bottom)) all ordered);
    }) c.check_keys.ensures.ordered

pub returns-clause-refused : goal.returns-clause-refused
returns-clause-refused c =
    let image : List ℕ = c.args.image.now.bytes in
    let V = reading_in image OfGroup in
    let all : nodes_from image OfGroup c.level-level.result c.tree-root.result ≡ c.args.tree.now.nodes.items
    = ap (λ (l : ℕ). nodes_from image OfGroup l c.tree-root.result) (c.level-level.ensures ∙ ap (λ (n : Node). n.level) c.tree_node.ensures)
    ∙ ap (λ (at : ℕ). nodes_from image OfGroup (V at).level at) c.tree-root.ensures
    ∙ all_owned image OfGroup c.args.table.tree c.args.tree.now.nodes.items c.args.tree.now.leaves.items c.requires.tree c.requires.inside in
    IfErr-weaker c.check_keys.result _ _
    (λ fault refused. key_fault image c.args.segment.now c.args.table c.args.tree.now.nodes.items c.args.tree.now.leaves.items fault.address fault.cause
    c.requires.segment refused.0 (subst (λ (ns : List ℕ). Contains ns fault.address) all refused.1)
    (subst (λ (ns : List ℕ). Ascend (map (link_of c.args.segment.now) (all_entries image ns))) c.deref.ensures.value c.in_ok-check_name_order.ensures.ascending)
    refused.2) c.check_keys.ensures.refused
