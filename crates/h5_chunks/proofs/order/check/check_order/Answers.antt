use Rattle.std.proofs.Common.{◌≡◌, List, ℕ, zero, suc, [], ◌∷◌, length, inl, inr, sym, ap, ◌∙◌, subst}
use Rattle.std.specs.Prelude.{None, T, ⊤}
use Rattle.std.specs.Ordering.{nat_cmp}
use Rattle.std.specs.Cmp.Lexicographic.{slice_cmp}
use Rattle.std.specs.FinMap.{is_sorted}
use Rattle.std.specs.List.{AllByRecursion, Contains}
use Rattle.std.proofs.lemmas.Result.{err_from_is_err_and, on_ok_weaker, IfErr-weaker}
use Rattle.h5_bytes.proofs.BlockLaws.{all_so}
use Rattle.h5_model.specs.Format.Rows.{Node, Reading, row_below}
use Rattle.h5_model.specs.Format.Links.{Before}
use Rattle.h5_model.specs.Format.Chunks.{IsChunkOrdered, chunks_at}
use Rattle.h5_model.specs.Format.Reached.{Shape}
use Rattle.h5_model.specs.declared.open_fault.OpenFault.{OpenFault}
use Rattle.h5_model.specs.declared.open_fault.Cause.TheVariants.{KeyOrder}
use Rattle.h5_laws.specs.ChunkLadders.{chunk_lists, chunk_sides}
use Rattle.h5_laws.proofs.ChunkLadders.{by_chunks, chunks_by}
use Rattle.h5_laws.proofs.Lists.{all_in}
use Rattle.h5_btree.specs.Order.{HasSubtree, IsKnownFrom, IsOrderedAt, nodes_from}
use Rattle.h5_btree.specs.Rising.{RiseFrom}
use Rattle.h5_btree.specs.Walk.Below.{reading_in}
use Rattle.h5_btree.specs.Walk.Forms.{OfChunks}
use Rattle.h5_btree.specs.Walk.Stands.{IsNodeAt}
use Rattle.h5_btree.specs.Walk.Trees.{IsTree}
use Rattle.h5_btree.proofs.OrderLaws.RootLaws.{all_owned, root_stands}
use Rattle.h5_btree.proofs.WalkLaws.StandLaws.{nodes_stand}
use Rattle.h5_chunks.specs.Between.{offsets_of}
use Rattle.h5_chunks.specs.Order.{IsChunkOrderRefused}
use Rattle.h5_chunks.proofs.Ascending.{rise_sorted}
use Rattle.h5_chunks.proofs.OrderFaults.{bottom_stands, fall_descends, listed_is, nodes_listed, order_fault, rows_stand}
use Rattle.h5_chunks.proofs.order.check.check_order.Goals as goal

-- of chunks nothing need be known
nothing_known : (V : Reading) (level : ℕ) (node : Node) → IsKnownFrom (λ _. ⊤) V level node
nothing_known V zero node = tt
nothing_known V (suc level) node = all_in (λ (at : ℕ). IsKnownFrom (λ _. ⊤) V level (V at)) node.children (λ at _. nothing_known V level (V at))

pub bottom_row-row-requires-clause-nodes : goal.bottom_row-row-requires-clause-nodes
bottom_row-row-requires-clause-nodes c =
    subst (AllByRecursion (IsNodeAt c.args.image.now.bytes (OfChunks c.args.shape.now))) (sym c.deref.ensures.value)
    (nodes_stand c.args.image.now.bytes (OfChunks c.args.shape.now) c.args.root c.args.tree.now.nodes.items c.args.tree.now.leaves.items c.requires.tree c.requires.inside)

pub check_ascending-requires-clause-nodes : goal.check_ascending-requires-clause-nodes
check_ascending-requires-clause-nodes c =
    let image : List ℕ = c.args.image.now.bytes in
    let shape : Shape = c.args.shape.now in
    let root : ℕ = c.args.root in
    let owned : List ℕ = c.args.tree.now.nodes.items in
    let addresses : List ℕ = c.args.tree.now.leaves.items in
    let t : IsTree image (OfChunks shape) root owned addresses = c.requires.tree in
    let V : Reading = reading_in image (OfChunks shape) in
    let row_is : c.bottom_row-row.result.now ≡ row_below V t.level (root ∷ [])
    = c.bottom_row-row.ensures t.level root (rows_stand image shape root owned addresses t) (c.deref.ensures.value ∙ nodes_listed image shape root owned addresses t) in
    subst (AllByRecursion (IsNodeAt image (OfChunks shape))) (sym row_is) (bottom_stands image shape root owned addresses t c.requires.inside)

pub returns-in_err-check_ascending-clause-refused : goal.returns-in_err-check_ascending-clause-refused
returns-in_err-check_ascending-clause-refused c =
    let image : List ℕ = c.args.image.now.bytes in
    let shape : Shape = c.args.shape.now in
    let root : ℕ = c.args.root in
    let owned : List ℕ = c.args.tree.now.nodes.items in
    let addresses : List ℕ = c.args.tree.now.leaves.items in
    let t : IsTree image (OfChunks shape) root owned addresses = c.requires.tree in
    let V : Reading = reading_in image (OfChunks shape) in
    let row_is : c.bottom_row-row.result.now ≡ row_below V t.level (root ∷ [])
    = c.bottom_row-row.ensures t.level root (rows_stand image shape root owned addresses t) (c.deref.ensures.value ∙ nodes_listed image shape root owned addresses t) in
    let p = err_from_is_err_and c.from_residual.result c.from_residual.ensures.1 in
    rw (p.1, p.2) (order_fault image shape root owned addresses t _ _ c.in_err-check_ascending.ensures.cause
    (inr (fall_descends image shape root owned addresses t c.bottom_row-row.result.now _ row_is c.in_err-check_ascending.ensures.falls)))

pub tree_node-requires-clause-there : goal.tree_node-requires-clause-there
tree_node-requires-clause-there c =
    let stands = root_stands c.args.image.now.bytes (OfChunks c.args.shape.now) c.args.root c.args.tree.now.nodes.items c.args.tree.now.leaves.items c.requires.tree c.requires.inside in
    record { formed = (stands.0).formed; inside = (stands.0).there }

pub check_keys-requires-clause-subtree : goal.check_keys-requires-clause-subtree
check_keys-requires-clause-subtree c =
    let image : List ℕ = c.args.image.now.bytes in
    let shape : Shape = c.args.shape.now in
    let stands = root_stands image (OfChunks shape) c.args.root c.args.tree.now.nodes.items c.args.tree.now.leaves.items c.requires.tree c.requires.inside in
    subst (λ (l : ℕ). HasSubtree image (OfChunks shape) (suc l) c.args.root) (sym (c.level-level.ensures ∙ ap (λ (n : Node). n.level) c.tree_node.ensures)) stands

pub check_keys-requires-clause-known : goal.check_keys-requires-clause-known
check_keys-requires-clause-known c =
    let V : Reading = reading_in c.args.image.now.bytes (OfChunks c.args.shape.now) in
    nothing_known V c.level-level.result (V c.args.root)

pub returns-clause-ordered : goal.returns-clause-ordered
returns-clause-ordered c =
    let image : List ℕ = c.args.image.now.bytes in
    let shape : Shape = c.args.shape.now in
    let root : ℕ = c.args.root in
    let owned : List ℕ = c.args.tree.now.nodes.items in
    let addresses : List ℕ = c.args.tree.now.leaves.items in
    let t : IsTree image (OfChunks shape) root owned addresses = c.requires.tree in
    let V : Reading = reading_in image (OfChunks shape) in
    let row_is : c.bottom_row-row.result.now ≡ row_below V t.level (root ∷ [])
    = c.bottom_row-row.ensures t.level root (rows_stand image shape root owned addresses t) (c.deref.ensures.value ∙ nodes_listed image shape root owned addresses t) in
    let all : nodes_from image (OfChunks shape) c.level-level.result root ≡ owned
    = ap (λ (l : ℕ). nodes_from image (OfChunks shape) l root) (c.level-level.ensures ∙ ap (λ (n : Node). n.level) c.tree_node.ensures)
    ∙ all_owned image (OfChunks shape) root owned addresses t c.requires.inside in
    let sides = chunk_sides (length shape.sizes) in
    let bottom = chunk_lists (length shape.sizes) in
    let rise = subst (λ (ns : List ℕ). RiseFrom offsets_of Before None (chunks_at V (length shape.sizes) ns)) row_is c.in_ok-check_ascending.ensures.rise in
    on_ok_weaker c.check_keys.result
    (λ ordered. record {
      ascending = subst (λ (es : List (List ℕ × ℕ)). T (is_sorted (slice_cmp nat_cmp) es)) (sym (listed_is image shape root owned addresses t))
          (rise_sorted (chunks_at V (length shape.sizes) (row_below V t.level (root ∷ []))) rise);
      ordered = all_so (IsOrderedAt sides image (OfChunks shape) bottom) (λ (at : ℕ). IsChunkOrdered V (length shape.sizes) (V at)) owned
          (λ at o. chunks_by V (length shape.sizes) (V at) o) (subst (AllByRecursion (IsOrderedAt sides image (OfChunks shape) bottom)) all ordered);
    }) c.check_keys.ensures.ordered

pub returns-clause-refused : goal.returns-clause-refused
returns-clause-refused c =
    let image : List ℕ = c.args.image.now.bytes in
    let shape : Shape = c.args.shape.now in
    let root : ℕ = c.args.root in
    let owned : List ℕ = c.args.tree.now.nodes.items in
    let addresses : List ℕ = c.args.tree.now.leaves.items in
    let t : IsTree image (OfChunks shape) root owned addresses = c.requires.tree in
    let V : Reading = reading_in image (OfChunks shape) in
    let all : nodes_from image (OfChunks shape) c.level-level.result root ≡ owned
    = ap (λ (l : ℕ). nodes_from image (OfChunks shape) l root) (c.level-level.ensures ∙ ap (λ (n : Node). n.level) c.tree_node.ensures)
    ∙ all_owned image (OfChunks shape) root owned addresses t c.requires.inside in
    let sides = chunk_sides (length shape.sizes) in
    let bottom = chunk_lists (length shape.sizes) in
    IfErr-weaker c.check_keys.result
    (λ (fault : OpenFault). (fault.cause ≡ KeyOrder) × Contains (nodes_from image (OfChunks shape) c.level-level.result root) fault.address
    × (IsOrderedAt sides image (OfChunks shape) bottom fault.address → ⊥))
    (λ (fault : OpenFault). IsChunkOrderRefused image shape root owned fault.cause fault.address)
    (λ fault h. order_fault image shape root owned addresses t fault.cause fault.address h.0
    (inl (subst (λ (ns : List ℕ). Contains ns fault.address) all h.1, λ ordered. h.2 (by_chunks V (length shape.sizes) (V fault.address) ordered))))
    c.check_keys.ensures.refused
