use Rattle.std.proofs.Common.{◌≡◌, ℕ, ◌<◌, List, [], ◌∷◌, length, slice_index_or, sym, ap, ◌∙◌, subst, arith}
use Rattle.std.proofs.lemmas.Option.{get_or_from_slice_get}
use Rattle.h5_model.specs.Format.Nodes.{node_at}
use Rattle.h5_model.specs.Format.Reached.{shape_kind}
use Rattle.h5_model.specs.Format.Rows.{Node}
use Rattle.h5_btree.specs.Walk.Forms.{OfChunks}
use Rattle.h5_btree.specs.Walk.Stands.{IsNodeAt}
use Rattle.h5_btree.specs.declared.way.Step.{Step}
use Rattle.h5_chunks.specs.Way.{chunk_behind}
use Rattle.h5_chunks.proofs.SoughtWays.{first_place, first_stands, long_by_way}
use Rattle.h5_chunks.proofs.NodeKeys.{key_long, one_more_key}
use Rattle.h5_chunks.proofs.put.is_behind_end.Goals as goal
use Rattle.h5_chunks.proofs.put.is_behind_end.Goals.{After-steps}

abbrev none : Step
none = record { node = 0; place = 0 }

-- the first step of the way
first_is : (c : After-steps) (step : Step) (above : List Step) → c.args.way.now ≡ step ∷ above → slice_index_or c.steps.result.now 0 none ≡ step
first_is c step above is = ap (λ (w : List Step). slice_index_or w 0 none) (c.steps.ensures.steps ∙ is)

module _ (c : After-steps) where
  abbrev step : Step
  step = slice_index_or c.steps.result.now 0 none

  stands : IsNodeAt c.args.image.now.bytes (OfChunks c.args.shape.now) step.node
  stands =
      let e = c.requires.ends.5 in
      subst (λ (st : Step). IsNodeAt c.args.image.now.bytes (OfChunks c.args.shape.now) st.node) (sym (first_is c e.step e.above e.way_is))
      (first_stands c.args.image.now c.args.shape.now c.args.way.now c.requires.ends e.step e.above e.way_is)

  place : step.place < length (node_at c.args.image.now.bytes (shape_kind c.args.image.now.bytes c.args.shape.now) step.node).children
  place =
      let e = c.requires.ends.5 in
      subst (λ (st : Step). st.place < length (node_at c.args.image.now.bytes (shape_kind c.args.image.now.bytes c.args.shape.now) st.node).children)
      (sym (first_is c e.step e.above e.way_is)) (first_place c.args.image.now c.args.shape.now c.args.way.now c.requires.ends e.step e.above e.way_is)

pub new-sought-requires-clause-long : goal.new-sought-requires-clause-long
new-sought-requires-clause-long c =
    long_by_way c.args.image.now c.args.shape.now c.args.way.now c.requires.ends

pub tree_node-requires-clause-long : goal.tree_node-requires-clause-long
tree_node-requires-clause-long c =
    long_by_way c.args.image.now c.args.shape.now c.args.way.now c.requires.ends

pub tree_node-requires-clause-there : goal.tree_node-requires-clause-there
tree_node-requires-clause-there c = stands (goal.at.tree_node-requires-clause-there c).After-steps

low : (c : After-steps) (node : Node) → node ≡ node_at c.args.image.now.bytes (shape_kind c.args.image.now.bytes c.args.shape.now) (step c).node → (step c).place < length node.keys
low c node is =
    let long = one_more_key c.args.image.now.bytes c.args.shape.now (step c).node node is in
    let in_it = subst (λ (n : Node). (step c).place < length n.children) (sym is) (place c) in
    omega (arith, long, in_it)

pub key-requires : goal.key-requires
key-requires c = low (goal.at.key-requires c).After-steps c.tree_node.result c.tree_node.ensures

pub is_behind-requires : goal.is_behind-requires
is_behind-requires c =
    let at = (goal.at.is_behind-requires c).After-steps in
    let long = key_long c.args.image.now.bytes c.args.shape.now (step at).node c.tree_node.result c.tree_node.ensures (stands at) (step at).place c.key.result.now
    (low at c.tree_node.result c.tree_node.ensures) c.key.ensures in
    let rank : length c.new-sought.result.offsets ≡ length c.args.shape.now.sizes = ap (λ (xs : List ℕ). length xs) c.new-sought.ensures.offsets ∙ c.requires.rank in
    omega (arith, long, rank)

pub returns : goal.returns
returns c first above is =
    let at = (goal.at.returns c).After-steps in
    let V = node_at c.args.image.now.bytes (shape_kind c.args.image.now.bytes c.args.shape.now) in
    let key : slice_index_or c.tree_node.result.keys (step at).place [] ≡ c.key.result.now
    = get_or_from_slice_get c.tree_node.result.keys (step at).place c.key.result.now [] c.key.ensures in
    let read : slice_index_or (V first.node).keys first.place [] ≡ c.key.result.now
    = ap (λ (st : Step). slice_index_or (V st.node).keys st.place []) (sym (first_is at first above is))
    ∙ ap (λ (n : Node). slice_index_or n.keys (step at).place []) (sym c.tree_node.ensures) ∙ key in
    let answer = rw c.new-sought.ensures.offsets at c.is_behind.ensures in
    answer ∙ ap (chunk_behind c.args.offsets.now) (sym read)
