use Rattle.std.proofs.Common.{◌≡◌, true, false, sym}
use Rattle.std.proofs.lemmas.Option.{get_or_from_slice_get}
use Rattle.h5_model.specs.Format.Nodes.{node_at}
use Rattle.h5_btree.proofs.WayLaws.{ends_low}
use Rattle.h5_btree.proofs.descent.find_leaf.Goals as goal

pub returns-in_err-place-clause-only : goal.returns-in_err-place-clause-only
returns-in_err-place-clause-only g c = λ level owned children tree inside.
    let fine : false ≡ true = c.in_err-place.ensures.only level owned children tree inside in
    absurd (cc)

pub child-requires : goal.child-requires
child-requires g c =
    let V = node_at c.args.image.now (g.S.Sought.tree_kind c.args.sought.now) in
    ends_low V (g.S.Sought.behind c.args.sought.now) (V c.args.root).level c.args.root c.in-Some.place.node c.in-Some.place.child (rw c.in-Some.is at c.in_ok-place.ensures.ends)

pub returns-in-Some-clause-leads : goal.returns-in-Some-clause-leads
returns-in-Some-clause-leads g c = (
  c.in-Some.place.node,
  c.in-Some.place.child,
  rw c.in-Some.is at c.in_ok-place.ensures.ends,
  sym (get_or_from_slice_get c.in-Some.place.node.children c.in-Some.place.child c.child.result 0 c.child.ensures),
)
