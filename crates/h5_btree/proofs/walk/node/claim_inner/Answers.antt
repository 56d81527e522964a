use Rattle.std.proofs.Common.{◌≡◌, IsOk, length, refl, sym, ap, ◌∙◌, subst, true, false, arith}
use Rattle.std.specs.Prelude.{is_ok, not}
use Rattle.h5_bytes.specs.Blocks.{holds, cover}
use Rattle.h5_bytes.proofs.BlockLaws.{holds_in}
use Rattle.h5_model.specs.Format.Rows.{Node}
use Rattle.h5_model.specs.Format.Nodes.{entries_in, node_bytes, node_length}
use Rattle.h5_btree.specs.Form.{MayStandAt}
use Rattle.h5_btree.proofs.NodeLaws.{length-children}
use Rattle.h5_btree.specs.Walk.Forms.{kind_of}
use Rattle.h5_btree.specs.Walk.Below.{reading_in}
use Rattle.h5_btree.proofs.WalkLaws.NodeFaults.{inner_breach, unclaimed_other}
use Rattle.h5_btree.proofs.walk.node.claim_inner.Goals as goal

pub returns-then-is_err-clause-refused : goal.returns-then-is_err-clause-refused
returns-then-is_err-clause-refused g c =
    let image = c.args.image.now.bytes in
    let form = g.T.Trees.form c.args.over.now in
    let at = c.args.at in
    let here : holds at at (node_length (kind_of image form)) ≡ 1 = holds_in at at (node_length (kind_of image form)) (omega arith) (omega arith) in
    let none : cover at c.args.claims.now.held ≡ 0 = omega (arith, here, c.in_ok-node.ensures.claimed at, c.in_ok-node.ensures.separate at) in
    let never : MayStandAt c.args.level (reading_in image form at) → ⊥ = λ may.
    let fine : IsOk c.check_level.result = c.check_level.ensures.form.1 (subst (λ (n : Node). MayStandAt c.args.level n) (sym c.in_ok-node.ensures.node) may) in
    let wrong : is_ok c.check_level.result ≡ false = c.is_err.ensures.negation ∙ ap not c.if-is_err.true in
    absurd (cc) in
    rw c.fault.ensures (
      c.in_ok-node.ensures.inside,
      λ root some.
          inner_breach image (kind_of image form) root c.args.level at (unclaimed_other root at c.args.claims.now.held none some) never,
    )

pub returns-clause-inner : goal.returns-clause-inner
returns-clause-inner g c =
    let image = c.args.image.now.bytes in
    let form = g.T.Trees.form c.args.over.now in
    let at = c.args.at in
    let fine : is_ok c.check_level.result ≡ true = c.is_err.ensures.negation ∙ ap not c.if-is_err.false in
    let may : MayStandAt c.args.level c.in_ok-node.node = c.check_level.ensures.form.0 fine in
    let stands : MayStandAt c.args.level (reading_in image form at) = subst (λ (n : Node). MayStandAt c.args.level n) c.in_ok-node.ensures.node may in
    let count : entries_in (node_bytes image (kind_of image form) at) ≡ length (reading_in image form at).children = length-children (kind_of image form) (node_bytes image (kind_of image form) at) (reading_in image form at) refl in
    record {
      stands = record { formed = c.in_ok-node.ensures.form; high = stands.0; there = c.in_ok-node.ensures.inside };
      some = omega (arith, count, stands.1);
    }
