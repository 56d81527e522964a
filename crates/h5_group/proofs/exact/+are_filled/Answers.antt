use Rattle.std.proofs.Common.{◌≡◌, ◌-◌, ℕ, suc, true, false, Some, sym, ◌∙◌, subst, arith}
use Rattle.std.specs.List.{slice_get}
use Rattle.h5_model.specs.Format.Rows.{Node}
use Rattle.h5_model.specs.Format.Nodes.{node_at}
use Rattle.h5_model.specs.Format.Superblock.{leaf_k}
use Rattle.h5_btree.proofs.RetiredReads.{under_child}
use Rattle.h5_group.specs.Exact.{AreFilledUnder}
use Rattle.h5_group.specs.Nodes.Trees.{kind_in}
use Rattle.h5_group.specs.Retired.{StandsAt}
use Rattle.h5_group.proofs.ExactWalk.{one_more, one_not}
use Rattle.h5_group.proofs.exact.+are_filled.Goals as goal

pub are_filled-requires : goal.are_filled-requires
are_filled-requires t c =
    let b = c.args.image.now.bytes in
    let more : c.args.height ≡ suc (c.args.height - 1) = omega (arith, c.if-height-eq0.false) in (
      omega (arith, c.decreases, more),
      (
        c.requires.long,
        (
          c.requires.few,
          under_child (StandsAt (leaf_k b) b) b (kind_in b) c.args.height (c.args.height - 1) c.args.at c.loop-i.i c.child.result more c.requires.under
              (subst (λ (n : Node). slice_get n.children c.loop-i.i ≡ Some c.child.result) c.tree_node-node.ensures c.child.ensures),
        ),
      ),
    )

pub returns-then-not-are_filled : goal.returns-then-not-are_filled
returns-then-not-are_filled t c =
    let b = c.args.image.now.bytes in
    let more : c.args.height ≡ suc (c.args.height - 1) = omega (arith, c.if-height-eq0.false) in (
      λ on. let clash : false ≡ true = on in cc,
      λ filled.
          let all = subst (λ (h : ℕ). AreFilledUnder b h c.args.at) more filled in
          absurd (one_not b (c.args.height - 1) (node_at b (kind_in b) c.args.at).children c.loop-i.i c.child.result
          (subst (λ (n : Node). slice_get n.children c.loop-i.i ≡ Some c.child.result) c.tree_node-node.ensures c.child.ensures)
          (λ is. let clash : false ≡ true = sym c.if-not-are_filled.true ∙ c.are_filled.ensures.1 is in cc) all),
    )

pub loop-i-preserved : goal.loop-i-preserved
loop-i-preserved t c = record {
  end = c.loop-i.invariant.end;
  filled = one_more c.args.image.now.bytes (c.args.height - 1) c.tree_node-node.result.children c.loop-i.i c.child.result c.child.ensures c.loop-i.invariant.filled
      (c.are_filled.ensures.0 c.if-not-are_filled.false);
}
