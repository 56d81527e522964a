use Rattle.std.proofs.Common.{◌≡◌, ℕ, ◌+◌, inl, length}
use Rattle.std.proofs.lemmas.Result.{err_from_is_err_and}
use Rattle.h5_bytes.specs.Blocks.{cover, Inside}
use Rattle.h5_model.specs.Format.Heap.{heap_header, segment_of, heap_blocks, IsHeap}
use Rattle.h5_btree.specs.Walk.Forms.{OfGroup}
use Rattle.h5_btree.specs.Walk.Trees.{IsTree}
use Rattle.h5_group.specs.Order.Ordered.{AreNamesOrdered}
use Rattle.h5_group.proofs.NodeLaws.GroupLaws.{nodes_formed}
use Rattle.h5_group.proofs.HeapSteps.{heap_refused, at_tree}
use Rattle.h5_group.proofs.Refusals.{texts_refused, order_refused}
use Rattle.h5_group.proofs.Linked.{group_read, both_claimed, leaves_are}
use Rattle.h5_group.proofs.Followed.{group_followed}
use Rattle.h5_group.proofs.FirstFaults.{tree_first, texts_first, order_first}
use Rattle.h5_group.proofs.Readable.{heap_readable, tree_readable, texts_memory, order_memory}
use Rattle.h5_group.proofs.group.read_group.Goals as goal

pub returns-in_err-heap-clause-refused : goal.returns-in_err-heap-clause-refused
returns-in_err-heap-clause-refused c =
    let p = err_from_is_err_and c.from_residual.result c.from_residual.ensures.1 in
    rw (p.1, p.2) (λ followed first second depth met. heap_refused c.args.image.now.bytes c.args.claims.now.held followed first second depth c.args.table met _ _
    (rw c.heap.ensures at c.in_err-heap.ensures.refused))

pub returns-in_err-tree-clause-refused : goal.returns-in_err-tree-clause-refused
returns-in_err-tree-clause-refused c =
    let image = c.args.image.now.bytes in
    let inside : Inside (length image) (heap_blocks image c.args.table.heap) = rw c.heap.ensures at c.in_ok-heap.ensures.inside in
    let claimed : (p : ℕ) → cover p c.read_heap.new.claims.held ≡ cover p c.args.claims.now.held + cover p (heap_blocks image c.args.table.heap)
    = λ q. rw c.heap.ensures at (c.in_ok-heap.ensures.claimed.covered q) in
    let p = err_from_is_err_and c.from_residual-in_err-tree.result c.from_residual-in_err-tree.ensures.1 in
    rw (p.1, p.2) (λ followed first second depth met.
    let here = at_tree image c.args.claims.now.held followed first second depth c.args.table met c.read_heap.new.claims.held inside claimed c.in_ok-heap.ensures.claimed.separate in
    (rw c.tree.ensures at c.in_err-tree.ensures.refused) _ first c.args.table.heap depth here)

pub returns-in_err-check_texts-clause-refused : goal.returns-in_err-check_texts-clause-refused
returns-in_err-check_texts-clause-refused c =
    let image = c.args.image.now.bytes in
    let inside : Inside (length image) (heap_blocks image c.args.table.heap) = rw c.heap.ensures at c.in_ok-heap.ensures.inside in
    let p = err_from_is_err_and c.from_residual-in_err-check_texts.result c.from_residual-in_err-check_texts.ensures.1 in
    rw (p.1, p.2) (λ followed first second depth met. texts_refused image c.args.claims.now.held followed c.args.table second depth met.heap inside _ _
    c.in_err-check_texts.ensures.address c.in_err-check_texts.ensures.refused)

pub returns-in_err-check_order-clause-refused : goal.returns-in_err-check_order-clause-refused
returns-in_err-check_order-clause-refused c =
    let image = c.args.image.now.bytes in
    let inside : Inside (length image) (heap_blocks image c.args.table.heap) = rw c.heap.ensures at c.in_ok-heap.ensures.inside in
    let claimed : (p : ℕ) → cover p c.read_heap.new.claims.held ≡ cover p c.args.claims.now.held + cover p (heap_blocks image c.args.table.heap)
    = λ q. rw c.heap.ensures at (c.in_ok-heap.ensures.claimed.covered q) in
    let p = err_from_is_err_and c.from_residual-in_err-check_order.result c.from_residual-in_err-check_order.ensures.1 in
    rw (p.1, p.2) (λ followed first second depth met.
    let here = at_tree image c.args.claims.now.held followed first second depth c.args.table met c.read_heap.new.claims.held inside claimed c.in_ok-heap.ensures.claimed.separate in
    let tree = (rw c.tree.ensures at c.in_ok-tree.ensures.walked) _ first c.args.table.heap depth here in
    order_refused image c.read_tree.new.claims.held _ c.args.table first depth c.in_ok-tree.tree.nodes.items c.in_ok-tree.tree.leaves.items tree c.in_ok-tree.ensures.inside _ _
    c.in_err-check_order.ensures.refused)

pub returns-clause-group : goal.returns-clause-group
returns-clause-group c =
    let image = c.args.image.now.bytes in
    let table = c.args.table in
    let nodes = c.in_ok-tree.tree.nodes.items in
    let leaves = c.in_ok-tree.tree.leaves.items in
    let inside : Inside (length image) (heap_blocks image table.heap) = rw c.heap.ensures at c.in_ok-heap.ensures.inside in
    let heap : IsHeap (heap_header image table.heap) (segment_of image table.heap) c.in_ok-heap.heap.free = rw c.heap.ensures at c.in_ok-heap.ensures.read in
    let tree : IsTree image OfGroup table.tree nodes leaves = rw c.tree.ensures at c.in_ok-tree.ensures.tree in
    let order : AreNamesOrdered image (segment_of image table.heap) nodes leaves
    = rw (c.segment_at-segment.ensures, c.heap-3.ensures) at c.in_ok-check_order.ensures.ordered in
    group_read image table nodes leaves tree c.in_ok-heap.heap.free c.in_ok-check_texts.ensures.texts order heap c.in_ok-tree.ensures.inside inside (c.requires.superblock).internal_high

pub returns-clause-claimed : goal.returns-clause-claimed
returns-clause-claimed c =
    let image = c.args.image.now.bytes in
    let table = c.args.table in
    let nodes = c.in_ok-tree.tree.nodes.items in
    let leaves = c.in_ok-tree.tree.leaves.items in
    let tree : IsTree image OfGroup table.tree nodes leaves = rw c.tree.ensures at c.in_ok-tree.ensures.tree in
    let before : (p : ℕ) → cover p c.read_heap.new.claims.held ≡ cover p c.args.claims.now.held + cover p (heap_blocks image table.heap)
    = λ p. rw c.heap.ensures at (c.in_ok-heap.ensures.claimed.covered p) in
    record {
      covered = λ p. both_claimed image table nodes leaves tree p c.args.claims.now.held c.read_heap.new.claims.held c.read_tree.new.claims.held (before p)
          (c.in_ok-tree.ensures.claimed.covered p);
      separate = c.in_ok-tree.ensures.claimed.separate;
    }

pub returns-clause-walked : goal.returns-clause-walked
returns-clause-walked c followed first second depth met =
    let image = c.args.image.now.bytes in
    let table = c.args.table in
    let nodes = c.in_ok-tree.tree.nodes.items in
    let leaves = c.in_ok-tree.tree.leaves.items in
    let held = c.args.claims.now.held in
    let h1 = c.read_heap.new.claims.held in
    let h2 = c.read_tree.new.claims.held in
    let inside : Inside (length image) (heap_blocks image table.heap) = rw c.heap.ensures at c.in_ok-heap.ensures.inside in
    let claimed : (p : ℕ) → cover p h1 ≡ cover p held + cover p (heap_blocks image table.heap)
    = λ q. rw c.heap.ensures at (c.in_ok-heap.ensures.claimed.covered q) in
    let here = at_tree image held followed first second depth table met h1 inside claimed c.in_ok-heap.ensures.claimed.separate in
    let stands : IsTree image OfGroup table.tree nodes leaves = rw c.tree.ensures at c.in_ok-tree.ensures.tree in
    group_followed image held followed first second depth table met h1 inside claimed c.in_ok-heap.ensures.claimed.separate
    h2 nodes leaves (leaves_are image table nodes leaves stands) c.in_ok-tree.ensures.inside c.in_ok-tree.ensures.claimed.covered c.in_ok-tree.ensures.claimed.separate
    (nodes_formed image leaves stands.formed) ((rw c.tree.ensures at c.in_ok-tree.ensures.walked) _ first table.heap depth here)

pub returns-in_err-heap-clause-only : goal.returns-in_err-heap-clause-only
returns-in_err-heap-clause-only c = λ readable.
    let p = err_from_is_err_and c.from_residual.result c.from_residual.ensures.1 in
    rw (p.1, p.2) ((rw c.heap.ensures at c.in_err-heap.ensures.only) (heap_readable c.args.image.now.bytes c.args.table c.args.claims.now.held readable))

pub returns-in_err-tree-clause-only : goal.returns-in_err-tree-clause-only
returns-in_err-tree-clause-only c = λ readable.
    let image = c.args.image.now.bytes in
    let claimed : (p : ℕ) → cover p c.read_heap.new.claims.held ≡ cover p c.args.claims.now.held + cover p (heap_blocks image c.args.table.heap)
    = λ q. rw c.heap.ensures at (c.in_ok-heap.ensures.claimed.covered q) in
    let p = err_from_is_err_and c.from_residual-in_err-tree.result c.from_residual-in_err-tree.ensures.1 in
    rw (p.1, p.2) ((rw c.tree.ensures at c.in_err-tree.ensures.only)
    (tree_readable image c.args.table c.args.claims.now.held readable c.read_heap.new.claims.held claimed))

pub returns-in_err-check_texts-clause-only : goal.returns-in_err-check_texts-clause-only
returns-in_err-check_texts-clause-only c = λ readable.
    let p = err_from_is_err_and c.from_residual-in_err-check_texts.result c.from_residual-in_err-check_texts.ensures.1 in
    rw (p.1, p.2) (texts_memory c.args.image.now.bytes c.args.table c.args.claims.now.held readable _ c.in_err-check_texts.ensures.refused)

pub returns-in_err-check_order-clause-only : goal.returns-in_err-check_order-clause-only
returns-in_err-check_order-clause-only c = λ readable.
    let image = c.args.image.now.bytes in
    let tree : IsTree image OfGroup c.args.table.tree c.in_ok-tree.tree.nodes.items c.in_ok-tree.tree.leaves.items = rw c.tree.ensures at c.in_ok-tree.ensures.tree in
    let p = err_from_is_err_and c.from_residual-in_err-check_order.result c.from_residual-in_err-check_order.ensures.1 in
    rw (p.1, p.2) (order_memory image c.args.table c.args.claims.now.held readable c.in_ok-tree.tree.nodes.items c.in_ok-tree.tree.leaves.items tree _ _
    c.in_err-check_order.ensures.refused)

pub returns-in_err-heap-clause-first : goal.returns-in_err-heap-clause-first
returns-in_err-heap-clause-first c =
    let p = err_from_is_err_and c.from_residual.result c.from_residual.ensures.1 in
    rw (p.1, p.2) (inl (rw c.heap.ensures at c.in_err-heap.ensures.refused))

pub returns-in_err-tree-clause-first : goal.returns-in_err-tree-clause-first
returns-in_err-tree-clause-first c =
    let image = c.args.image.now.bytes in
    let form : IsHeap (heap_header image c.args.table.heap) (segment_of image c.args.table.heap) c.in_ok-heap.heap.free = rw c.heap.ensures at c.in_ok-heap.ensures.read in
    let inside : Inside (length image) (heap_blocks image c.args.table.heap) = rw c.heap.ensures at c.in_ok-heap.ensures.inside in
    let claimed : (p : ℕ) → cover p c.read_heap.new.claims.held ≡ cover p c.args.claims.now.held + cover p (heap_blocks image c.args.table.heap)
    = λ q. rw c.heap.ensures at (c.in_ok-heap.ensures.claimed.covered q) in
    let p = err_from_is_err_and c.from_residual-in_err-tree.result c.from_residual-in_err-tree.ensures.1 in
    rw (p.1, p.2) (tree_first image c.args.table c.args.claims.now.held c.read_heap.new.claims.held c.in_ok-heap.heap.free form inside claimed
    c.in_ok-heap.ensures.claimed.separate _ _ (rw c.tree.ensures at c.in_err-tree.ensures.refused) (rw c.tree.ensures at c.in_err-tree.ensures.only))

pub returns-in_err-check_texts-clause-first : goal.returns-in_err-check_texts-clause-first
returns-in_err-check_texts-clause-first c =
    let image = c.args.image.now.bytes in
    let nodes = c.in_ok-tree.tree.nodes.items in
    let leaves = c.in_ok-tree.tree.leaves.items in
    let form : IsHeap (heap_header image c.args.table.heap) (segment_of image c.args.table.heap) c.in_ok-heap.heap.free = rw c.heap.ensures at c.in_ok-heap.ensures.read in
    let inside : Inside (length image) (heap_blocks image c.args.table.heap) = rw c.heap.ensures at c.in_ok-heap.ensures.inside in
    let claimed : (p : ℕ) → cover p c.read_heap.new.claims.held ≡ cover p c.args.claims.now.held + cover p (heap_blocks image c.args.table.heap)
    = λ q. rw c.heap.ensures at (c.in_ok-heap.ensures.claimed.covered q) in
    let tree : IsTree image OfGroup c.args.table.tree nodes leaves = rw c.tree.ensures at c.in_ok-tree.ensures.tree in
    let p = err_from_is_err_and c.from_residual-in_err-check_texts.result c.from_residual-in_err-check_texts.ensures.1 in
    rw (p.1, p.2) (texts_first image c.args.table c.args.claims.now.held c.read_heap.new.claims.held c.in_ok-heap.heap.free form inside claimed
    c.in_ok-heap.ensures.claimed.separate nodes leaves tree c.in_ok-tree.ensures.inside c.read_tree.new.claims.held c.in_ok-tree.ensures.claimed.covered
    c.in_ok-tree.ensures.claimed.separate _ _ c.in_err-check_texts.ensures.address c.in_err-check_texts.ensures.refused
    c.in_err-check_texts.ensures.first)

pub returns-in_err-check_order-clause-first : goal.returns-in_err-check_order-clause-first
returns-in_err-check_order-clause-first c =
    let image = c.args.image.now.bytes in
    let nodes = c.in_ok-tree.tree.nodes.items in
    let leaves = c.in_ok-tree.tree.leaves.items in
    let form : IsHeap (heap_header image c.args.table.heap) (segment_of image c.args.table.heap) c.in_ok-heap.heap.free = rw c.heap.ensures at c.in_ok-heap.ensures.read in
    let inside : Inside (length image) (heap_blocks image c.args.table.heap) = rw c.heap.ensures at c.in_ok-heap.ensures.inside in
    let claimed : (p : ℕ) → cover p c.read_heap.new.claims.held ≡ cover p c.args.claims.now.held + cover p (heap_blocks image c.args.table.heap)
    = λ q. rw c.heap.ensures at (c.in_ok-heap.ensures.claimed.covered q) in
    let tree : IsTree image OfGroup c.args.table.tree nodes leaves = rw c.tree.ensures at c.in_ok-tree.ensures.tree in
    let p = err_from_is_err_and c.from_residual-in_err-check_order.result c.from_residual-in_err-check_order.ensures.1 in
    rw (p.1, p.2) (order_first image c.args.table c.args.claims.now.held c.read_heap.new.claims.held c.in_ok-heap.heap.free form inside claimed
    c.in_ok-heap.ensures.claimed.separate nodes leaves tree c.in_ok-tree.ensures.inside c.read_tree.new.claims.held c.in_ok-tree.ensures.claimed.covered
    c.in_ok-tree.ensures.claimed.separate _ _ c.in_ok-check_texts.ensures.texts c.in_err-check_order.ensures.refused)
