use Rattle.std.proofs.Common.{ℕ, List, subst}
use Rattle.std.proofs.lemmas.Result.{err_from_is_err_and}
use Rattle.h5_bytes.specs.declared.Block.{Block}
use Rattle.h5_space.specs.Claimed.{HasClaimed}
use Rattle.h5_btree.specs.Walk.Followed.{FollowsTree}
use Rattle.h5_btree.specs.Walk.Forms.{OfChunks}
use Rattle.h5_chunks.specs.Told.{chunk_nodes_told}
use Rattle.h5_chunks.proofs.OrderFaults.{order_refused}
use Rattle.h5_chunks.proofs.Readable.{order_memory, tree_readable}
use Rattle.h5_chunks.proofs.Stored.{addresses_are, blocks_are, chunks_read, nodes_are}
use Rattle.h5_chunks.proofs.read.read_chunks.Goals as goal

pub returns-in_err-tree-clause-refused : goal.returns-in_err-tree-clause-refused
returns-in_err-tree-clause-refused c =
    let p = err_from_is_err_and c.from_residual.result c.from_residual.ensures.1 in
    rw (p.1, p.2) c.in_err-tree.ensures.refused

pub returns-in_err-tree-clause-only : goal.returns-in_err-tree-clause-only
returns-in_err-tree-clause-only c = λ readable.
    let p = err_from_is_err_and c.from_residual.result c.from_residual.ensures.1 in
    rw (p.1, p.2) (c.in_err-tree.ensures.only (tree_readable c.args.image.now.bytes c.args.shape.now c.args.root c.args.claims.now.held readable))

pub returns-in_err-check_order-clause-refused : goal.returns-in_err-check_order-clause-refused
returns-in_err-check_order-clause-refused c =
    let image = c.args.image.now.bytes in
    let shape = c.args.shape.now in
    let root = c.args.root in
    let nodes = c.in_ok-tree.tree.nodes.items in
    let leaves = c.in_ok-tree.tree.leaves.items in
    let p = err_from_is_err_and c.from_residual-in_err-check_order.result c.from_residual-in_err-check_order.ensures.1 in
    rw (p.1, p.2) (λ followed field heap depth met.
    order_refused image shape root nodes leaves c.in_ok-tree.ensures.tree c.read_tree.new.claims.held followed field heap depth
    (c.in_ok-tree.ensures.walked followed field heap depth met) c.in_ok-tree.ensures.inside _ _ c.in_err-check_order.ensures.refused)

pub returns-in_err-check_order-clause-only : goal.returns-in_err-check_order-clause-only
returns-in_err-check_order-clause-only c = λ readable.
    let image = c.args.image.now.bytes in
    let shape = c.args.shape.now in
    let root = c.args.root in
    let nodes = c.in_ok-tree.tree.nodes.items in
    let leaves = c.in_ok-tree.tree.leaves.items in
    let p = err_from_is_err_and c.from_residual-in_err-check_order.result c.from_residual-in_err-check_order.ensures.1 in
    rw (p.1, p.2) (order_memory image shape root c.args.claims.now.held readable nodes leaves c.in_ok-tree.ensures.tree _ _ c.in_err-check_order.ensures.refused)

pub returns-clause-stored : goal.returns-clause-stored
returns-clause-stored c =
    let image = c.args.image.now.bytes in
    let shape = c.args.shape.now in
    let root = c.args.root in
    let nodes = c.in_ok-tree.tree.nodes.items in
    let leaves = c.in_ok-tree.tree.leaves.items in
    chunks_read image shape root nodes leaves c.in_ok-tree.ensures.tree c.in_ok-check_order.ensures.ordered (c.requires.superblock).chunk_low
    (c.requires.superblock).chunk_high c.in_ok-tree.ensures.inside

pub returns-clause-claimed : goal.returns-clause-claimed
returns-clause-claimed c =
    let image = c.args.image.now.bytes in
    let shape = c.args.shape.now in
    let root = c.args.root in
    let nodes = c.in_ok-tree.tree.nodes.items in
    let leaves = c.in_ok-tree.tree.leaves.items in
    subst (λ (bs : List Block). HasClaimed c.args.claims.now c.read_tree.new.claims bs) (blocks_are image shape root nodes leaves c.in_ok-tree.ensures.tree) c.in_ok-tree.ensures.claimed

pub returns-clause-walked : goal.returns-clause-walked
returns-clause-walked c =
    let image = c.args.image.now.bytes in
    let shape = c.args.shape.now in
    let root = c.args.root in
    let nodes = c.in_ok-tree.tree.nodes.items in
    let leaves = c.in_ok-tree.tree.leaves.items in
    subst (λ (xs : List ℕ). FollowsTree image (OfChunks shape) c.args.claims.now.held c.read_tree.new.claims.held root (chunk_nodes_told image shape root) xs)
    (addresses_are image shape root nodes leaves c.in_ok-tree.ensures.tree)
    (subst (λ (ns : List ℕ). FollowsTree image (OfChunks shape) c.args.claims.now.held c.read_tree.new.claims.held root ns leaves)
    (nodes_are image shape root nodes leaves c.in_ok-tree.ensures.tree) c.in_ok-tree.ensures.walked)
