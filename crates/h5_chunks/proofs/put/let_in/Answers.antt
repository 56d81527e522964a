use Rattle.std.proofs.Common.{◌≡◌, ℕ, length, ap, subst, arith}
use Rattle.h5_model.specs.Format.Nodes.{chunk_kind, node_at}
use Rattle.h5_model.specs.Format.Reached.{shape_kind}
use Rattle.h5_model.specs.Format.Superblock.{chunk_k}
use Rattle.h5_btree.specs.Widened.{ends_along}
use Rattle.h5_btree.proofs.WideningLaws.{length-ends_along}
use Rattle.h5_chunks.specs.Way.{chunk_behind}
use Rattle.h5_chunks.proofs.SoughtWays.{long_by_way}
use Rattle.h5_chunks.proofs.put.let_in.Goals as goal
use Rattle.h5_chunks.proofs.put.let_in.Goals.{After-ends_to_widen-ends}

ends_are : (c : After-ends_to_widen-ends) → c.ends_to_widen-ends.result
    ≡ ends_along (node_at c.args.image.now.bytes (shape_kind c.args.image.now.bytes c.args.shape.now)) (chunk_behind c.args.offsets.now) 1 c.args.way.now
ends_are c =
    let ends = rw (c.new-sought.ensures.k, c.new-sought.ensures.offsets) at c.ends_to_widen-ends.ensures in
    subst (λ (n : ℕ). c.ends_to_widen-ends.result
    ≡ ends_along (node_at c.args.image.now.bytes (chunk_kind (chunk_k c.args.image.now.bytes) n)) (chunk_behind c.args.offsets.now) 1 c.args.way.now) c.requires.rank ends

pub new-sought-requires-clause-long : goal.new-sought-requires-clause-long
new-sought-requires-clause-long c =
    long_by_way c.args.image.now c.args.shape.now c.args.way.now c.requires.ends

pub kind-requires-clause-long : goal.kind-requires-clause-long
kind-requires-clause-long c =
    long_by_way c.args.image.now c.args.shape.now c.args.way.now c.requires.ends

pub widen-requires-clause-ends : goal.widen-requires-clause-ends
widen-requires-clause-ends c =
    let ends = ap length (ends_are (goal.at.widen-requires-clause-ends c).After-ends_to_widen-ends) in
    let long = length-ends_along (node_at c.args.image.now.bytes (shape_kind c.args.image.now.bytes c.args.shape.now)) (chunk_behind c.args.offsets.now) 1 c.args.way.now in
    omega (arith, ends, long)

pub returns : goal.returns
returns c = record {
  tree = rw c.kind.ensures at c.widen.ensures.tree;
  widened = rw (c.kind.ensures, ends_are (goal.at.returns c).After-ends_to_widen-ends) at c.widen.ensures.widened;
  others = rw c.kind.ensures at c.widen.ensures.others;
}
