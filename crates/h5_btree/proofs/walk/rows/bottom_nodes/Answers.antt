use Rattle.std.proofs.Common.{◌≡◌, ℕ, suc, ◌-◌, [], ◌∷◌, sym, ap, ◌∙◌, subst, rules, arith}
use Rattle.std.specs.List.{AllByRecursion}
use Rattle.h5_model.specs.Format.Rows.{Node, next_row}
use Rattle.h5_model.specs.Format.Reached.{level_at}
use Rattle.h5_btree.specs.Walk.Forms.{kind_of}
use Rattle.h5_btree.specs.Walk.Below.{reading_in, IsStanding}
use Rattle.h5_btree.proofs.WalkLaws.Descended.{IsComeTo, root_there, root_come, row_there, next_come}
use Rattle.h5_btree.proofs.walk.rows.bottom_nodes.Goals as goal

pub tree_node-requires-clause-there : goal.tree_node-requires-clause-there
tree_node-requires-clause-there g c = root_there c.args.image.now.bytes (g.T.Trees.form c.args.over.now) c.args.root c.requires.there

pub loop-height-init : goal.loop-height-init
loop-height-init g c =
    let image = c.args.image.now.bytes in
    let form = g.T.Trees.form c.args.over.now in
    let root = c.args.root in
    let high : c.level-height.result ≡ level_at image (kind_of image form) root = c.level-height.ensures ∙ ap (λ (n : Node). n.level) c.tree_node.ensures in
    let one : c.push.new.self.items ≡ root ∷ [] = search rules in
    rw (high, one) (root_come image form root c.requires.there)

pub children_of-requires-clause-stand : goal.children_of-requires-clause-stand
children_of-requires-clause-stand g c =
    let image = c.args.image.now.bytes in
    let form = g.T.Trees.form c.args.over.now in
    let height = c.loop-height.height in
    (height, subst (AllByRecursion (IsStanding image form height)) (sym c.deref.ensures.value) (row_there image form c.args.root height c.loop-height.row.items c.loop-height.invariant))

pub loop-height-preserved : goal.loop-height-preserved
loop-height-preserved g c =
    let image = c.args.image.now.bytes in
    let form = g.T.Trees.form c.args.over.now in
    let row = c.loop-height.row.items in
    let m = c.loop-height.height - 1 in
    let e : c.loop-height.height ≡ suc m = omega (arith, c.loop-height-test.true) in
    let next : c.in_ok-row.row.items ≡ next_row (reading_in image form) row = c.in_ok-row.ensures ∙ ap (next_row (reading_in image form)) c.deref.ensures.value in
    rw next (next_come image form c.args.root m row (subst (λ (h : ℕ). IsComeTo image form c.args.root h row) e c.loop-height.invariant))

pub returns : goal.returns
returns g c =
    let image = c.args.image.now.bytes in
    let form = g.T.Trees.form c.args.over.now in
    let row = c.loop-height.row.items in
    let done : c.loop-height.height ≡ 0 = omega (arith, c.loop-height-test.false) in
    let come : IsComeTo image form c.args.root 0 row = subst (λ (h : ℕ). IsComeTo image form c.args.root h row) done c.loop-height.invariant in
    record { bottom = come.leads; stand = row_there image form c.args.root 0 row come }
