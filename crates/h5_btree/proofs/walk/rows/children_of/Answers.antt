use Rattle.std.proofs.Common.{◌≡◌, ℕ, ◌<◌, ◌++◌, List, length, get_or, take, sym, ap, ◌∙◌, arith}
use Rattle.std.proofs.lemmas.List.{take_all}
use Rattle.h5_model.specs.Format.Rows.{Node, next_row}
use Rattle.h5_btree.specs.Walk.Below.{reading_in}
use Rattle.h5_btree.proofs.WalkLaws.Neighbours.{next_taken}
use Rattle.h5_btree.proofs.walk.rows.children_of.Goals as goal

pub loop-at-preserved : goal.loop-at-preserved
loop-at-preserved g c =
    let V = reading_in c.args.image.now.bytes (g.T.Trees.form c.args.over.now) in
    let row = c.args.row.now in
    let k = c.loop-at.at-index in
    let low : k < length row = omega arith in
    let read : c.tree_node.result.children ≡ (V (get_or row k 0)).children = ap (λ (n : Node). n.children) c.tree_node.ensures in
    c.in_ok-push_children.ensures ∙ ap (λ (xs : List ℕ). xs ++ c.tree_node.result.children) c.loop-at.invariant
    ∙ ap (λ (xs : List ℕ). next_row V (take k row) ++ xs) read ∙ sym (next_taken V row k 0 low)

pub returns : goal.returns
returns g c =
    let row = c.args.row.now in
    c.loop-at.invariant ∙ ap (next_row (reading_in c.args.image.now.bytes (g.T.Trees.form c.args.over.now))) (take_all c.loop-at.at-index row (omega arith))
