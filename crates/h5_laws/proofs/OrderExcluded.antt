-- The keys of a group that is read keep their order.
use Rattle.std.proofs.Common.{ℕ, ◌+◌, ◌≡◌, List, [], ◌∷◌}
use Rattle.h5_bytes.specs.declared.Block.{Block}
use Rattle.h5_model.specs.Format.Heap.{segment_of}
use Rattle.h5_model.specs.Format.Rows.{row_below}
use Rattle.h5_model.specs.Format.Nodes.{group_kind, node_at}
use Rattle.h5_model.specs.Format.Symbols.{Target, symbols_at}
use Rattle.h5_model.specs.Format.Links.{HasLinks, IsOrdered}
use Rattle.h5_model.specs.Format.Superblock.{leaf_k, internal_k}
use Rattle.h5_model.specs.Faults.TreeFaults.{KeyBreach}
use Rattle.h5_bytes.proofs.BlockLaws.{all_so}
use Rattle.h5_laws.proofs.Lists.{In, in_all}
use Rattle.h5_laws.proofs.NameLadders.{order_there}
use Rattle.h5_laws.proofs.Trees.{row_owned}

pub key_excluded : (image : List ℕ) (root heap : ℕ) (found : List (List ℕ × Target)) (blocks : List Block)
    (has : HasLinks image (leaf_k image) (internal_k image) root heap found blocks)
    (d l at : ℕ) → d + l ≡ has.level → In at (row_below (node_at image (group_kind (internal_k image))) d (root ∷ [])) → KeyBreach image heap at → ⊥
key_excluded image root heap found blocks has d l at e there wrong =
    let V = node_at image (group_kind (internal_k image)) in
    in_all (λ n. KeyBreach image heap n → ⊥) at has.owned
    (all_so (λ n. IsOrdered V (symbols_at image (leaf_k image)) (segment_of image heap) (V n)) (λ n. KeyBreach image heap n → ⊥) has.owned (λ n ordered breach. breach ordered)
    (order_there image (segment_of image heap) (leaf_k image) (group_kind (internal_k image)) root has.level has.owned has.symbol_nodes has.tree has.listed.ordered))
    (row_owned image (group_kind (internal_k image)) root has.level has.owned has.symbol_nodes has.tree d l at e there) wrong
