use Rattle.std.proofs.Common.{◌≡◌, ◌+◌, ◌<◌, inl, inr, length, get_or, drop, refl, sym, ap, ◌∙◌, arith}
use Rattle.h5_model.specs.Format.Rows.{Node, first_or_undefined}
use Rattle.h5_space.proofs.AddressLaws.{all_at}
use Rattle.h5_btree.specs.Walk.Below.{reading_in, IsStanding}
use Rattle.h5_btree.proofs.WalkLaws.Neighbours.{last_taken, row_step, misnamed_at}
use Rattle.h5_btree.proofs.walk.rows.check_siblings.Goals as goal
use Rattle.h5_btree.proofs.walk.rows.check_siblings.Goals.{then-left-via-then-left, then-left-via-else-left+then-right}

pub returns-then-left-clause-refused : goal.returns-then-left-clause-refused
returns-then-left-clause-refused g c =
    let V = reading_in c.args.image.now.bytes (g.T.Trees.form c.args.over.now) in
    let row = c.args.row.now in
    let k = c.loop-k.k in
    let low : k < length row = omega arith in
    let left : c.left.result ≡ (V (get_or row k 0)).left = c.left.ensures ∙ ap (λ (n : Node). n.left) c.tree_node-node.ensures in
    rw c.fault.ensures (
      refl,
      misnamed_at V row k 0 c.loop-k.left c.right_of-right.result low c.loop-k.invariant.before c.right_of-right.ensures (elim c.then-left.branch [
        | then-left-via-then-left w ↦ inl (λ e. w.if-left.true (left ∙ e))
        | then-left-via-else-left+then-right w ↦ inr (λ e. w.if-right.true (w.right.ensures ∙ ap (λ (n : Node). n.right) c.tree_node-node.ensures ∙ e))
      ]),
    )

pub loop-k-preserved : goal.loop-k-preserved
loop-k-preserved g c =
    let V = reading_in c.args.image.now.bytes (g.T.Trees.form c.args.over.now) in
    let row = c.args.row.now in
    let k = c.loop-k.k in
    let low : k < length row = omega arith in
    let left : (V (get_or row k 0)).left ≡ c.loop-k.left = sym (c.left.ensures ∙ ap (λ (n : Node). n.left) c.tree_node-node.ensures) ∙ c.if-left.false in
    let right : (V (get_or row k 0)).right ≡ first_or_undefined (drop (k + 1) row)
    = sym (c.right.ensures ∙ ap (λ (n : Node). n.right) c.tree_node-node.ensures) ∙ c.if-right.false ∙ c.right_of-right.ensures in
    record {
      before = sym (last_taken row k 0 low);
      rows = λ level stand is. c.loop-k.invariant.rows level stand
          (row_step V level c.loop-k.left row k 0 low (all_at (IsStanding c.args.image.now.bytes (g.T.Trees.form c.args.over.now) level) row k 0 stand low).high left right is);
    }
