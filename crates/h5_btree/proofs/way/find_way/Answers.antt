use Rattle.std.proofs.Common.{◌≡◌, ◌≤◌, ◌∙◌, ℕ, [], ◌∷◌, true, false, length, arith, ap, sym, subst}
use Rattle.std.specs.Prelude.{◌==◌}
use Rattle.std.proofs.lemmas.Bool.Decides.{nat_tests}
use Rattle.h5_model.specs.Format.Rows.{Node}
use Rattle.h5_model.specs.Format.Nodes.{node_at}
use Rattle.h5_btree.specs.Form.{MayBeRoot}
use Rattle.h5_btree.specs.Descent.{IsInRow}
use Rattle.h5_btree.proofs.DescentLaws.{root_may, root_in_row}
use Rattle.h5_btree.proofs.way.find_way.Goals as goal

pub returns-in_err-check_root-clause-only : goal.returns-in_err-check_root-clause-only
returns-in_err-check_root-clause-only g c = λ level owned children tree inside.
    let is = rw c.kind.ensures at c.in_ok-node.ensures.node in
    let may = root_may c.args.image.now (g.S.Sought.tree_kind c.args.sought.now) c.args.root level owned children tree inside in
    let fine : false ≡ true = c.in_err-check_root.ensures.form.1 (subst (λ (n : Node). MayBeRoot n) (sym is) may) in
    absurd (cc)

pub returns-in_err-way-clause-only : goal.returns-in_err-way-clause-only
returns-in_err-way-clause-only g c = λ level owned children tree inside.
    let kind = g.S.Sought.tree_kind c.args.sought.now in
    let is = rw c.kind.ensures at c.in_ok-node.ensures.node in
    let test : (length c.in_ok-node.node.children == 0) ≡ false = sym c.is_empty.ensures ∙ c.if-is_empty.false in
    let count : length c.in_ok-node.node.children ≡ length (node_at c.args.image.now kind c.args.root).children = ap (λ (n : Node). length n.children) is in
    let some : 1 ≤ length (node_at c.args.image.now kind c.args.root).children = grind (arith, nat_tests) in
    let high : c.level.result ≡ (node_at c.args.image.now kind c.args.root).level = c.level.ensures ∙ ap (λ (n : Node). n.level) is in
    let first = root_in_row c.args.image.now kind c.args.root level owned children tree inside some in
    let fine : false ≡ true = c.in_err-way.ensures.only owned (c.args.root ∷ [])
    (subst (λ (l : ℕ). IsInRow c.args.image.now kind owned l (c.args.root ∷ []) c.args.root) (sym high) first) in
    absurd (cc)
