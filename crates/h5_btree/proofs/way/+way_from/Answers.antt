use Rattle.std.proofs.Common.{◌≡◌, inl, inr, true, false, sym, subst}
use Rattle.std.proofs.lemmas.Result.{err_from_is_err_and}
use Rattle.h5_model.specs.Format.Rows.{Node}
use Rattle.h5_btree.specs.Form.{MayStandAt}
use Rattle.h5_btree.proofs.DescentLaws.{reads_in_row}
use Rattle.h5_btree.proofs.WayLaws.{stands, way_on, down_row, stops_here, stops_below}
use Rattle.h5_btree.proofs.way.+way_from.Goals as goal

pub returns-in_err-node-clause-only : goal.returns-in_err-node-clause-only
returns-in_err-node-clause-only g t c = λ owned row r.
    let refused = rw c.kind.ensures at c.in_err-node.ensures.refused in
    absurd (reads_in_row c.args.image.now (g.S.Sought.tree_kind c.args.sought.now) owned c.args.level row c.args.at r c.in_err-node.field-0.0 refused)

pub returns-in_err-check_level-clause-only : goal.returns-in_err-check_level-clause-only
returns-in_err-check_level-clause-only g t c = λ owned row r.
    let is = rw c.kind.ensures at c.in_ok-node.ensures.node in
    let may = stands c.args.image.now (g.S.Sought.tree_kind c.args.sought.now) c.args.at c.in_ok-node.node is owned c.args.level row r in
    let fine : false ≡ true = c.in_err-check_level.ensures.form.1 may in
    absurd (cc)

pub child_for-place-requires-clause-keys : goal.child_for-place-requires-clause-keys
child_for-place-requires-clause-keys g t c = rw c.kind.ensures at c.in_ok-node.ensures.keys

pub returns-in_err-node-clause-refused : goal.returns-in_err-node-clause-refused
returns-in_err-node-clause-refused g t c =
    let p = err_from_is_err_and c.from_residual.result c.from_residual.ensures.1 in
    let refused = rw c.kind.ensures at c.in_err-node.ensures.refused in
    rw (p.1, p.2)
    (stops_here c.args.image.now (g.S.Sought.tree_kind c.args.sought.now) (g.S.Sought.behind c.args.sought.now) c.args.level c.args.at _ (inl refused))

pub returns-in_err-check_level-clause-refused : goal.returns-in_err-check_level-clause-refused
returns-in_err-check_level-clause-refused g t c =
    let p = err_from_is_err_and c.from_residual-in_err-check_level.result c.from_residual-in_err-check_level.ensures.1 in
    let kind = g.S.Sought.tree_kind c.args.sought.now in
    let is = rw c.kind.ensures at c.in_ok-node.ensures.node in
    rw (p.1, p.2)
    (stops_here c.args.image.now kind (g.S.Sought.behind c.args.sought.now) c.args.level c.args.at _
    (inr (
      c.in_err-check_level.ensures.fault,
      λ may.
          let fine : false ≡ true = c.in_err-check_level.ensures.form.1 (subst (λ (n : Node). MayStandAt c.args.level n) (sym is) may) in absurd (cc),
    )))

pub returns-in_err-way-clause-only : goal.returns-in_err-way-clause-only
returns-in_err-way-clause-only g t c = λ owned row r.
    let is = rw c.kind.ensures at c.in_ok-node.ensures.node in
    let fine : false ≡ true = c.in_err-way.ensures.only owned _
    (down_row c.args.image.now (g.S.Sought.tree_kind c.args.sought.now) (g.S.Sought.behind c.args.sought.now) c.args.at c.in_ok-node.node c.child_for-place.result c.child.result
    is c.child_for-place.ensures c.child.ensures owned c.args.level row c.if-level-eq0.false r) in
    absurd (cc)

pub returns-in_err-way-clause-refused : goal.returns-in_err-way-clause-refused
returns-in_err-way-clause-refused g t c =
    let p = err_from_is_err_and c.from_residual-in_err-way.result c.from_residual-in_err-way.ensures.1 in
    let is = rw c.kind.ensures at c.in_ok-node.ensures.node in
    let kind = g.S.Sought.tree_kind c.args.sought.now in
    let behind = g.S.Sought.behind c.args.sought.now in
    rw (p.1, p.2)
    (stops_below c.args.image.now kind behind c.args.at c.in_ok-node.node c.child_for-place.result c.child.result is c.child_for-place.ensures c.child.ensures
    c.args.level _ c.if-level-eq0.false c.in_err-way.ensures.refused)

pub returns-clause-leads : goal.returns-clause-leads
returns-clause-leads g t c =
    let is = rw c.kind.ensures at c.in_ok-node.ensures.node in
    way_on c.args.image.now (g.S.Sought.tree_kind c.args.sought.now) (g.S.Sought.behind c.args.sought.now) c.args.at c.in_ok-node.node c.child_for-place.result c.child.result
    is c.child_for-place.ensures c.child.ensures c.args.level c.in_ok-way.way _ c.if-level-eq0.false c.in_ok-way.ensures.leads c.push.ensures
