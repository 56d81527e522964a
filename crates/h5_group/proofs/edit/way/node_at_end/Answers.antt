use Rattle.std.proofs.Common.{◌≡◌, List, ◌∷◌, sym, ◌∙◌, subst, slice_index_or, Some}
use Rattle.std.specs.Prelude.{slice_get}
use Rattle.h5_model.specs.Format.Nodes.{node_at}
use Rattle.h5_model.specs.Format.Rows.{Node}
use Rattle.h5_btree.specs.Walk.Forms.{OfGroup}
use Rattle.h5_btree.specs.Walk.Stands.{IsNodeAt}
use Rattle.h5_btree.specs.declared.way.Step.{Step}
use Rattle.h5_group.specs.Edited.{node_below}
use Rattle.h5_group.specs.Nodes.Trees.{kind_in}
use Rattle.h5_group.proofs.DropCalls.{end_stands, end_told, got}
use Rattle.h5_group.proofs.edit.way.node_at_end.Goals as goal
use Rattle.h5_group.proofs.edit.way.node_at_end.Goals.{After-child}

abbrev zero_step : Step
zero_step = record { node = 0; place = 0 }

pub tree_node-requires-clause-there : goal.tree_node-requires-clause-there
tree_node-requires-clause-there c =
    let w = c.requires.way in
    let e = w.4 in
    subst (λ (ws : List Step). IsNodeAt c.args.image.now.bytes OfGroup (slice_index_or ws 0 zero_step).node) (sym (c.steps.ensures.steps ∙ e.way_is))
    (end_stands c.args.image.now c.args.table w.0 c.args.way.now w.1 w.2 w.3 e)

below : (c : After-child) (step : Step) (above : List Step) → c.args.way.now ≡ step ∷ above → c.child.result ≡ node_below c.args.image.now c.args.table step
below c step above is =
    let found = subst (λ (ws : List Step). slice_get c.tree_node.result.children (slice_index_or ws 0 zero_step).place ≡ Some c.child.result) (c.steps.ensures.steps ∙ is) c.child.ensures in
    let node = subst (λ (ws : List Step). c.tree_node.result ≡ node_at c.args.image.now.bytes (kind_in c.args.image.now.bytes) (slice_index_or ws 0 zero_step).node) (c.steps.ensures.steps ∙ is) c.tree_node.ensures in
    sym (got (node_at c.args.image.now.bytes (kind_in c.args.image.now.bytes) step.node).children step.place c.child.result
    (subst (λ (o : Node). slice_get o.children step.place ≡ Some c.child.result) node found))

pub returns-clause-node : goal.returns-clause-node
returns-clause-node c = below c

pub returns-clause-one : goal.returns-clause-one
returns-clause-one c =
    let g = c.requires.group in
    let w = c.requires.way in
    end_told c.args.image.now c.args.table g.1.0 g.0 g.1.1 g.1.2 w.0 c.args.way.now w.1 w.2 w.3 w.4 c.child.result (below c)
