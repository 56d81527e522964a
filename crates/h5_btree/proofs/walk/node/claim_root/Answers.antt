use Rattle.std.proofs.Common.{◌≡◌, ◌≤◌, IsOk, length, refl, sym, ap, ◌∙◌, subst, true, false, arith}
use Rattle.std.specs.Prelude.{is_ok, not}
use Rattle.h5_model.specs.Format.Rows.{Node}
use Rattle.h5_model.specs.Format.Nodes.{entries_in, node_bytes}
use Rattle.h5_btree.specs.Form.{MayBeRoot}
use Rattle.h5_btree.proofs.NodeLaws.{length-children}
use Rattle.h5_btree.specs.Walk.Forms.{kind_of}
use Rattle.h5_btree.specs.Walk.Below.{reading_in}
use Rattle.h5_btree.proofs.WalkLaws.NodeFaults.{root_breach}
use Rattle.h5_btree.proofs.walk.node.claim_root.Goals as goal

pub returns-then-is_err-clause-refused : goal.returns-then-is_err-clause-refused
returns-then-is_err-clause-refused g c =
    let image = c.args.image.now.bytes in
    let form = g.T.Trees.form c.args.over.now in
    let at = c.args.at in
    let never : MayBeRoot (reading_in image form at) → ⊥ = λ may.
    let fine : IsOk c.check_root.result = c.check_root.ensures.form.1 (subst MayBeRoot (sym c.in_ok-node.ensures.node) may) in
    let wrong : is_ok c.check_root.result ≡ false = c.is_err.ensures.negation ∙ ap not c.if-is_err.true in
    absurd (cc) in
    rw c.fault.ensures (c.in_ok-node.ensures.inside, root_breach image (kind_of image form) at never)

pub returns-clause-filled : goal.returns-clause-filled
returns-clause-filled g c = λ high.
    let image = c.args.image.now.bytes in
    let form = g.T.Trees.form c.args.over.now in
    let at = c.args.at in
    let fine : is_ok c.check_root.result ≡ true = c.is_err.ensures.negation ∙ ap not c.if-is_err.false in
    let may : MayBeRoot c.in_ok-node.node = c.check_root.ensures.form.0 fine in
    let some : 1 ≤ length c.in_ok-node.node.children = may.1 high in
    let same : length c.in_ok-node.node.children ≡ length (reading_in image form at).children = ap (λ (n : Node). length n.children) c.in_ok-node.ensures.node in
    let count : entries_in (node_bytes image (kind_of image form) at) ≡ length (reading_in image form at).children = length-children (kind_of image form) (node_bytes image (kind_of image form) at) (reading_in image form at) refl in
    omega (arith, count, some, same)
